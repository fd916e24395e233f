-- The search that picks a leaf, and the leaves that it goes over, as the contracts cite them.
-- Rests on the definitions of `records`.
pub mod Picks
pub mod Leaves
pub mod Going
