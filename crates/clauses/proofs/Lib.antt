-- Laws on the ways of a leaf that the functions' proofs rest on.
-- Those marked pub are for the proofs of callers too.
mod Covered
pub mod Held
pub mod Kept
pub mod Leaf
mod Leaving
pub mod Narrowed
mod Pairs
pub mod Parts
mod Passing
mod Taken
mod Words
