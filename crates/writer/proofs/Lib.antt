-- Laws on plain lists and numbers that the functions' proofs rest on.
-- Accepted.antt: what lists that are not refused say. Little.antt: a number's bytes. Sums.antt: what the cues count together.
-- Over.antt: pieces written one behind the other, and what a loop has left to write. Calls.antt: any call that writes bytes or nothing.
-- Writing.antt: what a call of the writer promises.
pub mod Accepted
mod Little
mod Sums
pub mod Over
mod Around
pub mod Calls
mod Writing
