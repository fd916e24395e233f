-- Theorems about the leaf that a hand refinement names. ByHand.antt is where to look first: on a layout the records tell what the rules say.
-- Steps and Numbers serve the code: the walk byte by byte, and the numbers of a record case by case.
mod Steps
mod Numbers
pub mod ByHand
