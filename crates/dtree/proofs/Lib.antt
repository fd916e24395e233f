-- What the definitions of the calls come to; each function's proof stands in its own directory.
-- Rests on the theorems of `rules` and `records`, and on the contracts below.
mod Accepting
mod Stored
mod Calling
mod Opens
mod Fresh
mod Again
mod Refuses
mod ByHand
mod ByRun
mod One
mod Verdicts
mod TwoRuns
mod Back
