-- Polls that find nothing to do. Only contracts of inner functions cite this.
pub mod Inner
