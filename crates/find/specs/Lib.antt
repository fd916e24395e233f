-- The leaf that bytes name, and its refusals, told from records, as the contracts cite them.
-- Rests on the definitions of `records`, `rules` and `formula`.
pub mod Finds
