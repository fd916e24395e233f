-- What the contracts of this crate cite beside the definitions of `rules`.
-- Promises.antt: what a reader's call promises. Driven.antt: a reader that is called again and again.
pub mod Promises
pub mod Driven
