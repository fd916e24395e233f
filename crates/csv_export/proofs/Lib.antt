-- Laws on plain lists and numbers that the functions' proofs rest on.
-- Faults.antt: one fault. Naming.antt: the faults that two words name. Records.antt: the records as they are written. Measured.antt: how long they are.
-- Entries.antt: the entries of an accepted sheet. Words.antt: its text is that of its parts. Exported.antt: what an export promises.
mod Faults
mod Naming
mod Records
mod Measured
mod Entries
mod Words
mod Exported
