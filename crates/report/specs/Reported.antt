-- The report on any list of bytes read as a sheet: the printed text.
-- Rests on `rules`, Text, for the text.
use Rattle.std.specs.Prelude.{◌≡◌, List, ℕ, ◌≤◌, length}
use Rattle.rules.specs.Text.{text}

-- A report on bytes: it is the whole text, and fits the room for it.
pub record Reported (bs r : List ℕ) : Type 0 where
  pub printed : r ≡ text bs
  pub within : length r ≤ 939
