-- The rules (docs/RULES.md) as definitions. proofs/ has the theorems about them.
pub mod Members
pub mod Rounding
pub mod Table
pub mod Leaf
pub mod Group
pub mod Common
pub mod Tree
pub mod Run
pub mod Refusals
pub mod Answers
pub mod Calls
pub mod Sheet
pub mod Text
