-- Theorems about the search. Finds.antt is where to look first: what is found is the first of the widest. Drawn.antt says what that is in a tree.
-- Counted.antt says that the code's search, which passes over records that do not count, finds the same.
pub mod Finds
pub mod Drawn
mod Counted
