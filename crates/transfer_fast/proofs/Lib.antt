-- From a burst to the transfer.
pub mod Coming
