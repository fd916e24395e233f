-- `none_left` meets its contract: two empty words have no number, and a way would have one.
-- Rests on Pairs.antt and Leaf.antt.
use mathlib.Core.Path.{◌≡◌, refl, sym, ap, ◌∙◌}
use mathlib.Core.Bool.{not, true≢false}
use mathlib.Core.List.{List, [], ◌∷◌}
use mathlib.Core.List.Memᴰ
use Prim.Native.Nat.{◌^◌, ◌<◌}
use borrow.Author.Rules.{rules}
use borrow.Author.Tests.{eq-eqb, ne_eqb}
use lib.Bits.{bit_or}
use lib.Dec.{eqb}
use Rattle.rules.specs.declared.Way.{Way}
use Rattle.rules.specs.Leaf.{has_number}
use Rattle.rules.specs.Group.{nonempty}
use Rattle.clauses.specs.declared.Clauses.{Clauses}
use Rattle.clauses.specs.Leaves.{ways_of}
use Rattle.clauses.proofs.Leaf.{numbers, number_in}
use Rattle.clauses.proofs.Pairs.{in-none, none-in}
use Rattle.clauses.proofs.Clauses.none_left.Goals as goal

-- The words are empty just if there is no way.
none : (c : Clauses) → c.numbers.low < 2 ^ 64 → eqb (bit_or c.numbers.low c.numbers.high) 0 ≡ not (nonempty (ways_of c))
unfolding nonempty has_number
none c fits = by (ways_of c) refl
  where
    by : (vs : List Way) → ways_of c ≡ vs → eqb (bit_or c.numbers.low c.numbers.high) 0 ≡ not (nonempty vs)
    by [] e = eq-eqb _ 0 (none-in c.numbers.low c.numbers.high fits (λ i. sym (numbers c i) ∙ ap (λ (vs : List Way). has_number vs i) e))
    by (v ∷ vs) e = ne_eqb _ 0 (λ z. true≢false (sym (number_in c v (rw e (Memᴰ.head refl))) ∙ in-none c.numbers.low c.numbers.high z v.number))

pub returns : goal.returns
returns c = c.is_empty.ensures ∙ none c.args.self (search rules)
