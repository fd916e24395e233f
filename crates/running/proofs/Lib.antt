-- Laws on the rules' runs that the functions' proofs rest on.
-- Turns says what each way out of a turn means, Going what a run has made so far, Deciding what a turn decides on its way.
mod Turns
mod Going
mod Deciding
