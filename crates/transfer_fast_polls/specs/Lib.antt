-- Polls of a transfer that find nothing. Only contracts of inner functions cite this.
pub mod Inner
