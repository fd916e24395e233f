-- What reading makes of bytes: a sheet, or a refusal; and the entries of a sheet's cues.
-- Rests on `rules`, Sheet.
use Rattle.std.specs.Prelude.{◌≡◌, List, [], ◌∷◌, ℕ, zero, suc, Result, Ok, Err, IfOk}
use Rattle.rules.specs.Refusals.{answered}
use Rattle.rules.specs.Sheet.{cues_in, read_refusals, entry_in}
use Rattle.rules.specs.declared.Entry.{Entry}
use Rattle.rules.specs.declared.Refusal.{Refusal}
use Rattle.sheet.specs.declared.accepted.Sheet.{Sheet}

-- Whether bytes are accepted, as whichever sheet.
abbrev pub passed : Result Sheet Refusal → Result (Unit {0}) Refusal
passed (Ok s) = Ok tt
passed (Err r) = Err r

-- What bytes are read as: the sheet that they are, or the first refusal of reading that applies to them.
pub record Reading (bs : List ℕ) (r : Result Sheet Refusal) : Type 0 where
  pub same : IfOk r (λ s. s.bytes.now ≡ bs)
  pub answer : passed r ≡ answered (read_refusals bs) tt

-- The entries of n cues, from the one at position i on.
unfoldable pub entries_from : List ℕ → ℕ → ℕ → List Entry
entries_from bs i zero = []
entries_from bs i (suc n) = entry_in bs i ∷ entries_from bs (suc i) n

-- The entries of all cues.
abbrev pub entries_in : List ℕ → List Entry
entries_in bs = entries_from bs 0 (cues_in bs)
