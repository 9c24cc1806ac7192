-- The running packet error code as the caller of the steps holds it. Only contracts cite this.
pub mod Inner
