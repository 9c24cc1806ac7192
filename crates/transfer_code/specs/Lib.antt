-- The packet error code as the code computes it and uses it. Only contracts of inner functions cite
-- this: what a transfer with a code leaves is said by the crate `master`.
pub mod Inner
