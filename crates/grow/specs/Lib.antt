-- What the contracts of this crate cite besides the definitions of `records`.
-- Rests on those, and on those of `clauses`.
pub mod Branched
