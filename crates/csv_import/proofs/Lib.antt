-- Laws on plain lists that the functions' proofs rest on.
-- Joining.antt: cues joined to groups.
mod Joining
mod Counting
mod Gathering
mod Walking
mod Opening
mod Answering
mod Wording
