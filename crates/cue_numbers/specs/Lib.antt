-- What the contracts of this crate cite beside the definitions of `rules`: the numbers of each answer.
-- Rests on those, and on the answers of `page`, `sheet`, `csv_text` and `captures`.
pub mod Numbers
