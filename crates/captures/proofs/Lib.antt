-- The theorems about weights from captures. Claims.antt is where to look first: each headline claim under the clauses of docs/RULES.md that it settles.
-- Circle.antt: which numbers are discarded. Bits8.antt: the same by the machine's bits. Counting.antt: what a log counts, whole and in pieces.
-- Sums.antt: sums in any order. Exact.antt: weights and comparisons. Listed.antt: one turn of the loops over lists. Figures.antt: the figures.
pub mod Circle
mod Bits8
pub mod Counting
pub mod Sums
pub mod Exact
mod Listed
pub mod Figures
pub mod Claims
