-- Pieces written into an output, one behind the other: what a function that writes one asks for, and what it leaves.
-- Rests on the lists of the library and on nothing of `rules`.
use Rattle.std.specs.Prelude.{◌≡◌, Bool, true, false, List, [], ◌∷◌, ◌++◌, ℕ, ◌≤◌, length, take, drop}
use Rattle.std.specs.Borrow.{MutBor}
use Rattle.writer.specs.declared.output.Out.{Out}

-- What is written.
abbrev pub written : Out → List ℕ
written out = take out.at out.space.now

-- What is left of the space, as it was lent.
abbrev pub left : Out → List ℕ
left out = drop out.at out.space.now

-- A lent space of which nothing is written yet.
pub record Opened (space : MutBor (List ℕ)) (out : Out) : Type 0 where
  pub loan : out.space.ghost_name ≡ space.ghost_name
  pub written : written out ≡ []
  pub left : left out ≡ space.now

-- A piece ends within what is left.
pub record Room (out : Out) (piece : List ℕ) : Type 0 where
  pub fits : length piece ≤ length (left out)

-- A piece was written behind what was written before. The loan is the same, so that the owner of the space learns what it holds.
pub record Wrote (old : Out) (piece : List ℕ) (new : Out) : Type 0 where
  pub loan : new.space.ghost_name ≡ old.space.ghost_name
  pub written : written new ≡ written old ++ piece
  pub left : left new ≡ drop (length piece) (left old)

-- A byte, if it is meant.
abbrev pub if_meant : Bool → ℕ → List ℕ
if_meant true b = b ∷ []
if_meant false b = []
