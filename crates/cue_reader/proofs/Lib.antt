-- InOrder.antt is where to look first: a reader hands over all cues in order, then says so, and a refused sheet keeps it at its place.
-- Promised.antt: what a call promises follows from its answer and its place. Moved.antt: how far an answer moves a reader.
mod Moved
mod Promised
pub mod InOrder
