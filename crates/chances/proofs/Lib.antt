-- Laws on plain lists and numbers that the functions' proofs rest on.
-- Those marked pub are for the proofs of callers too.
pub mod First
pub mod Light
pub mod Walk
