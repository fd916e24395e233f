-- The records of a tree, the words that they are to C, the library's calls on them, which records code may follow, and what a search of records finds.
pub mod Records
pub mod Lent
pub mod Library
pub mod Growing
pub mod Safe
pub mod Found
