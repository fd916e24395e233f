-- The proofs of what the programs share.
mod Front
