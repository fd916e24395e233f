-- What the contracts of this crate cite beside the definitions of `rules` and `cue_numbers` and the promises of `dtree` and `page`.
-- Told.antt is where to look first: what each call promises, its answer told in numbers. Into.antt: a report into a lent space.
pub mod Into
pub mod Told
