-- What one sweep over the ways of a leaf gives: the word of faults that it comes to, and the ways that it leaves.
-- Rests on `rules`, Group, and on `clauses`, Leaves.
use Rattle.std.specs.Prelude.{◌≡◌, true, false, ℕ}
use Rattle.rules.specs.declared.Way.{Way}
use Rattle.rules.specs.Members.{In}
use Rattle.rules.specs.Table.{bit, faults}
use Rattle.rules.specs.Group.{touches, pass}
use Rattle.clauses.specs.declared.Clauses.{Clauses}
use Rattle.clauses.specs.declared.sets.Numbers.{Numbers}
use Rattle.clauses.specs.Numbers.{is_in}
use Rattle.clauses.specs.Leaves.{ways_of}
use Rattle.formula.specs.declared.group.Swept.{Swept}

-- The way has joined a group with these faults: the word touches it and has all its faults.
abbrev pub Joined : ℕ → Way → Type 0
Joined m v = (touches m v ≡ true) × ((f : ℕ) → bit f (faults v) ≡ true → bit f m ≡ true)

-- Of the ways of a leaf c those outside a group whose faults are the word have these numbers: every other way has joined the group.
abbrev pub Outside : Clauses → ℕ → Numbers → Type 0
Outside c word rest = (v : Way) → In v (ways_of c) → is_in rest v.number ≡ false → Joined word v

-- One sweep over the ways of c from the word m: the word is that of one pass, and m touches no way that is left.
pub record Sweeps (c : Clauses) (m : ℕ) (s : Swept) : Type 0 where
  pub word_is : s.word ≡ pass m (ways_of c)
  pub inside : (i : ℕ) → is_in s.rest i ≡ true → is_in c.numbers i ≡ true
  pub outside : Outside c s.word s.rest
  pub untouched : (v : Way) → In v (ways_of c) → is_in s.rest v.number ≡ true → touches m v ≡ false
