-- `occurs` meets its contract: a search over the ways finds one that names the fault, which has a bit then.
-- Rests on the library's laws of `any`, on `clauses`, Parts, and on the contract of `names`.
use mathlib.Core.Path.{◌≡◌, sym, ◌∙◌}
use mathlib.Core.Bool.{Bool, true, false, true≢false}
use mathlib.Core.List.{List}
use Prim.Native.Nat.{ℕ, ◌<◌}
use lib.ListN.{length}
use Rattle.rules.specs.declared.Way.{Way}
use borrow.Author.Rules.{rules}
use Rattle.std.specs.Bool.{MatchBool}
use Rattle.std.specs.List.{HoldsAt, AllWithin}
use Rattle.std.proofs.lemmas.Iterator.{cases_from_any}
use Rattle.std.proofs.lemmas.Iterator.Consumers.{YieldsList-from_first}
use Rattle.std.proofs.lemmas.Iterator.Search.{any_from_yields_List}
use Rattle.rules.specs.Table.{bit, faults}
use Rattle.rules.specs.Tree.{occurs}
use Rattle.clauses.specs.Leaves.{ways_of, left_of}
use Rattle.clauses.proofs.Parts.{any-is}
use Rattle.formula.proofs.child.occurs.Goals as goal

-- Where a way names the fault, the fault has a bit.
named : (f : ℕ) (vs : List Way) (r : Bool) → MatchBool r ((k : ℕ) × (k < length vs) × HoldsAt (λ v. f < 64) vs k) (AllWithin (λ v. Unit {0}) vs 0 (length vs))
    → r ≡ true → f < 64
named f vs true h e = h.2 (record { number = 0; present = 0; absent = 0 })
named f vs false h e = absurd (true≢false (sym e))

pub returns-clause-answer : goal.returns-clause-answer
unfolding occurs
returns-clause-answer c =
    let a = c.args in
    any_from_yields_List (λ v. bit a.f (faults v)) _ _ c.any.result c.any.ensures.ran
    (YieldsList-from_first (λ u. u) left_of (ways_of a.c) c.ways.ensures) (λ x b q k. search rules)
    ∙ any-is _ (ways_of a.c)

pub returns-clause-fits : goal.returns-clause-fits
returns-clause-fits c =
    let a = c.args in
    named a.f _ _
    (cases_from_any _ _ c.any.result (λ v. a.f < 64) (λ v. Unit {0}) c.any.ensures.ran
    (YieldsList-from_first (λ u. u) left_of (ways_of a.c) c.ways.ensures) (λ x q k. search rules) (λ x q k. search rules))
