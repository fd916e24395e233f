-- What the contracts of this crate cite besides the definitions of `rules`, `records` and `pick`.
-- Rests on those.
pub mod Decided
pub mod Ran
pub mod Tasks
