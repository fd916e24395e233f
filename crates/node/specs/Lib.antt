-- The ways of a record as the code has them; else the contracts of this crate cite the definitions of the crates below.
-- Rests on `records`, Records, Growing and Safe, and on `clauses` and `formula`, Leaves.
pub mod Told
