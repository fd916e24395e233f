-- Laws on records that the functions' proofs rest on.
-- Climb is for `raise`, Leaves for the records that a refinement writes.
mod Climb
mod Leaves
