-- How an accepted table stands for one of the rules.
-- Rests on the definitions of `rules`.
pub mod Tables
