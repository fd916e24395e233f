-- What the contracts of this program cite besides the definitions of `captures`.
-- Rests on those.
pub mod Reading
