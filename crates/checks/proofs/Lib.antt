-- Laws on plain lists and numbers that the functions' proofs rest on.
-- Above.antt: some number of a list is above a limit. Rising.antt: each number is above the one before it.
-- Rows.antt: a test of all rows of two lists.
pub mod Above
pub mod Rising
pub mod Rows
