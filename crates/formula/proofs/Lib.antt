-- Laws on plain lists and numbers that the functions' proofs rest on.
-- Each function's proof stands in its own directory.
mod Counted
mod Meeting
mod Picking
mod Sweeping
