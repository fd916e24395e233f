-- What the library's calls promise, each in one record: the equality with its definition, and the claims beside it.
-- And what making a refinement again says, for 16. Rests on the definitions of `rules` and `records`.
pub mod Promises
pub mod Remade
