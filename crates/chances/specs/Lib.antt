-- Which bits of a word are set.
-- Rests on the definitions of `rules`.
pub mod Bits
