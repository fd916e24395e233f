-- Laws on plain lists and numbers that the functions' proofs rest on.
-- Numerals.antt: which fields are numbers, digit by digit. Finding.antt: the digits of a number, from the last one on.
pub mod Numerals
pub mod Finding
