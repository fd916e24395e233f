-- Laws on plain lists that the functions' proofs rest on.
-- Scanning.antt: where the first line ends. Pieces.antt: the first field, and what is left behind it.
pub mod Scanning
pub mod Fronts
mod Pieces
pub mod Reading
mod Heading
mod Storing
mod Naming
mod Faults
mod Collecting
mod Rows
