-- Weights from captures (RULES 14), to be read in this order: a log; fractions, with each call's refusals and answer; what the calls promise.
-- Rests on `rules`, Rounding and Refusals.
pub mod Logs
pub mod Fractions
pub mod Promises
