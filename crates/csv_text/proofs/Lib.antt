-- The theorems about sheets as text. Claims.antt is where to look first: each headline claim under the clauses of docs/RULES.md that it settles.
-- Written.antt and Order.antt: spellings that say the same. Names.antt, Rows.antt, Exports.antt: what is written is read again. Imports.antt: every
-- text. First.antt: the record that 23 tells. RunRecord.antt: the first record. Rfc.antt, Grammar.antt: RFC 4180. Longest.antt, Taken.antt: the longest
-- texts. Figures.antt: the figures.
pub mod Written
pub mod Order
pub mod Names
pub mod Rows
pub mod First
pub mod RunRecord
pub mod Imports
pub mod Exports
pub mod Rfc
pub mod Grammar
pub mod Longest
pub mod Taken
pub mod Figures
pub mod Claims
