-- What the functions' proofs rest on; each function's own proof stands in its own directory.
-- Telling.antt is where to look first: a promise told in numbers, and the number of a call on a sheet. Handing.antt: a cue's table.
-- Reporting.antt: a text put into a lent space.
mod Telling
mod Handing
mod Reporting
