-- The proofs of what test programs read.
mod Whole
