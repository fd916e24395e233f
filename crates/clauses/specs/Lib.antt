-- What the ways of a leaf are, and what becomes of them.
-- Rests on the definitions of `rules`, `records` and `checks`.
pub mod Numbers
pub mod Leaves
