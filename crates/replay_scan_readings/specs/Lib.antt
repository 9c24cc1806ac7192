-- What a run of readings leads to.
pub mod Inner
