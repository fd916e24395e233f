-- The page's search on lists of records, as the contracts cite it, and what it finds.
-- Rests on the definitions of `records`.
pub mod Widest
