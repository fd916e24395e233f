-- What the contracts of this crate cite besides the definitions of `rules`.
-- Rests on those.
pub mod Given
pub mod Judging
pub mod Pieces
pub mod Promises
