-- What the contracts of this crate cite beside the definitions of `rules`.
-- Reported.antt is where to look first: the report for any list of bytes. Lines.antt: the text of a cue's line, and of all lines.
-- Appended.antt: bytes appended to a text.
pub mod Appended
pub mod Lines
pub mod Reported
