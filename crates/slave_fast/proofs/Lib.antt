-- From a burst to the slave.
pub mod Coming
