-- What the contracts of this crate cite besides the definitions of `csv_text` and `csv_rows`.
-- Rests on those.
pub mod Gather
