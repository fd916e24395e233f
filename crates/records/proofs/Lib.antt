-- The theorems about records. Demand.antt is where to look first: demand 3 on the trees that the library leaves.
-- From the bottom up: places and positions; the series read back and 16; one refinement on the records; what a run takes next;
-- and that a tree's words are its records.
pub mod Positions
pub mod InPlace
pub mod History
pub mod Sixteen
pub mod Seen
pub mod ByTheRules
pub mod Demand
pub mod Words
pub mod Lent
pub mod Same
mod Raised
pub mod Grown
pub mod Live
pub mod Rebuilt
pub mod Compared
pub mod SafeLaws
pub mod Reduced
pub mod Children
pub mod SafeTrees
