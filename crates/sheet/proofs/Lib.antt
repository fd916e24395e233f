-- Tables.antt is where to look first: the table of the i-th entry of accepted bytes is that of the i-th cue of the decoded sheet, and accepted.
-- Listed.antt: the entries that the contents of accepted bytes state are those of its cues.
-- Kept.antt: arrays of which the first numbers are meant, as a table has them.
-- Summed.antt: sums over a list, each element measured by a closure.
-- The others are laws on plain lists and numbers that the functions' proofs rest on.
mod Numbers
mod Readings
pub mod Sized
pub mod Kept
pub mod Summed
pub mod Stated
pub mod Entries
pub mod Few
pub mod Listed
pub mod Tables
