-- What the contracts of this crate cite beside the definitions of `rules`.
-- Reading.antt: what reading makes of bytes. Parts.antt: what stands in them many times over.
-- Handed.antt: what is handed over of a cue, its body and its table. Kept.antt: an array of which the first numbers are meant.
pub mod Handed
pub mod Kept
pub mod Parts
pub mod Reading
