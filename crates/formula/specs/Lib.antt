-- What the contracts of this crate cite besides the definitions of `rules` and `clauses`.
-- Rests on those.
pub mod Leaves
pub mod Picking
pub mod Sweeps
