-- Sheets as comma separated text (RULES 13), to be read in this order: how a text is cut, what its records say, the text of a sheet, the two calls.
-- Rests on `rules`, Sheet, Refusals and Text, and on `decimal`.
pub mod Cut
pub mod Shapes
pub mod Texts
pub mod Calls
pub mod Promises
