-- What the contracts of this crate cite besides the definitions of `csv_text`.
-- Scan.antt: where the first line ends. Fields.antt: what is told of the first field, and of what is left behind it. Walks.antt: a walk over faults.
-- Told.antt: what the functions tell of the first line.
pub mod Scan
pub mod Fields
pub mod Walks
pub mod Told
