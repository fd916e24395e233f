-- A law on the ways of a record, for the proofs of callers. Each function's proof stands in its own directory.
-- They rest on the contracts of `formula` and `chances`, and on `clauses`, Leaf.
pub mod Words
