-- Theorems about the search. Next.antt is where to look first: on a layout the search finds what the rules refine next.
pub mod Layouts
pub mod LeftToRight
pub mod Wider
pub mod Picking
pub mod Next
