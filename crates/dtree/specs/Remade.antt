-- One turn of 16: the next refinement that the records of x tell, made on the tree y that is being built.
-- Rests on `records`, Growing, whose `rebuild` makes such turns.
use Rattle.std.specs.Prelude.{◌≡◌, Bool, true, ◌&&◌, ℕ, ◌+◌, ltb}
use Rattle.rules.specs.Table.{Table}
use Rattle.rules.specs.declared.Kind.{Kind}
use Rattle.records.specs.Records.{record_in, kind_of, Good}
use Rattle.records.specs.Growing.{grown_at, may_at}
use Rattle.records.specs.Safe.{Safe}
use Rattle.records.specs.declared.Tree.{Tree}

-- The record of the next refinement's place: the parent of the next left child.
abbrev pub next_at : Tree → Tree → ℕ
next_at x y = (record_in x.nodes y.used).parent

-- Its kind: what the record there says was done.
abbrev pub next_kind : Tree → Tree → Kind
next_kind x y = kind_of (record_in x.nodes (next_at x y))

-- It can be made: its place is there, and its kind is possible.
abbrev pub may_next : Table → Tree → Tree → Bool
may_next t x y = ltb (next_at x y) y.used && may_at t y.nodes y.used (next_at x y) (next_kind x y)

-- The answer r says whether it can; then it is made, and y becomes z.
pub record Remade (t : Table) (x y z : Tree) (r : Bool) : Type 0 where
  pub said : r ≡ may_next t x y
  pub grown : r ≡ true → z.nodes ≡ grown_at t y.nodes y.used (next_at x y) (next_kind x y)
  pub two_more : r ≡ true → z.used ≡ y.used + 2
  pub safe : r ≡ true → Safe z.nodes
  pub good : r ≡ true → Good t z
