-- Whole.antt is where to look first: the bytes appended for a sheet are its whole text. Printed.antt: the lines of entries are the ones that the rules define.
-- Appending.antt: bytes appended to a text.
mod Printed
mod Whole
pub mod Appending
