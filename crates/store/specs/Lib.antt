-- What stores change in a lent tree, and which trees differ in the records in use alone.
-- Rests on the definitions of `records`.
pub mod Lent
