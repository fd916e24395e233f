-- What the contracts of this crate cite besides the definitions of `csv_text`.
-- Rests on those.
pub mod Parts
