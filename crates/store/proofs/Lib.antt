-- Laws on the stores of a record's words that the functions' proofs rest on.
mod Stores
mod Back
mod Comparing
