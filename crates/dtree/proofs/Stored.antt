-- EVERY PLACE of a good tree: what its records show is what the rules have there, and each stored interval encloses that place's exact sum.
-- So an accepted call leaves a tree that 16 never refuses. Rests on `records`, Seen and Sixteen, and on `rules`, Demands (`at_place`).
use mathlib.Core.Path.{◌≡◌, refl, sym, ap, subst, ◌∙◌}
use mathlib.Core.Bool.{true, false}
use mathlib.Core.List.{List}
use mathlib.Core.Option.{Option, none, some, some-injective, none-ne-some}
use native.Mathlib.Decide.{ℕ_discrete}
use Rattle.rules.specs.Table.{Table}
use Rattle.rules.specs.Tree.{Place, Refinement, tree, series, Subtree, subtree, Interval, interval, interval_at, kind_at}
use Rattle.rules.specs.Refusals.{Accepted}
use Rattle.rules.specs.Calls.{Call, Outcome}
use Rattle.std.specs.Prelude.{Result}
use Rattle.rules.specs.declared.Figures.{Figures}
use Rattle.rules.specs.declared.Refusal.{Refusal}
use Rattle.rules.proofs.Demands.{AtPlace, at_place}
use Rattle.records.specs.Records.{history, tree_kind, tree_interval, bad, Good}
use Rattle.records.specs.declared.Tree.{Tree}
use Rattle.records.proofs.History.{history-layout}
use Rattle.records.proofs.Sixteen.{sixteen}
use Rattle.records.proofs.Seen.{seen_kind, seen_interval}
use Rattle.dtree.specs.Promises.{Stored, EveryPlace, Opening, number_of, Called}

-- What stands at a place of the tree of a series has an interval that is what Stored says, in every tree of records that tells this series.
place-stored : (t : Table) → Accepted t → (ns : List Refinement) → series t ns ≡ true → (y : Tree) → history y ≡ ns → (p : Place) (x : Subtree)
    → subtree t p (tree ns) ≡ some x → Stored t y p (interval t.weights x)
place-stored t ok ns h y own p x e =
    let a : AtPlace t p x = at_place t ok ns h p x e in
    record {
      here = x;
      there = ap (λ (ms : List Refinement). subtree t p (tree ms)) own ∙ e;
      ways_are = a.ways_remaining;
      by_the_rules = refl;
      ordered = a.interval_certain.ordered;
      bounded = a.interval_certain.bounded;
      encloses = a.interval_certain.encloses;
      over_all = a.over_all;
    }

-- So has every place that has an interval by the rules.
interval-stored : (t : Table) → Accepted t → (ns : List Refinement) → series t ns ≡ true → (y : Tree) → history y ≡ ns → (p : Place) (i : Interval)
    → interval_at t p (tree ns) ≡ some i → Stored t y p i
unfolding interval_at
interval-stored t ok ns h y own p i e = by (subtree t p (tree ns)) refl e
  where
    by : (o : Option Subtree) → subtree t p (tree ns) ≡ o
        → (elim o as (λ o. Option Interval) [ none ↦ none | some x ↦ some (interval t.weights x) ]) ≡ some i → Stored t y p i
    by none d f = absurd (none-ne-some _ f)
    by (some x) d f = subst (Stored t y p) (some-injective _ _ f) (place-stored t ok ns h y own p x d)

-- EVERY PLACE of a good tree.
pub every-place : (t : Table) → Accepted t → (y : Tree) → Good t y → EveryPlace t y
every-place t ok y g =
    record {
      good = g;
      kinds = λ p. ap (λ (z : Tree). tree_kind z p) g.is ∙ seen_kind t g.made p ∙ ap (λ (ns : List Refinement). kind_at p (tree ns)) (sym own);
      intervals = λ p. shown p ∙ ap (λ (ns : List Refinement). interval_at t p (tree ns)) (sym own);
      stored = λ p i e. interval-stored t ok g.made g.accepted y own p i (sym (shown p) ∙ e);
    }
  where
    own : history y ≡ g.made
    own = ap history g.is ∙ history-layout t g.made g.accepted

    shown : (p : Place) → tree_interval y p ≡ interval_at t p (tree g.made)
    shown p = ap (λ (z : Tree). tree_interval z p) g.is ∙ seen_interval t g.made p

-- ---- 16 NEVER REFUSES WHAT A CALL LEFT: this follows from the promises alone

-- Not the tree of an accepted opening.
pub never-16-opened : (t : Table) (x : Tree) (a : Result Figures Refusal) → Opening t x a → Accepted t → bad t x ≡ false
never-16-opened t x a o ok = (sixteen t x).1 (o.accepted ok).2.good

-- Not the tree of an accepted hand refinement or run.
pub never-16-after : (t : Table) (x : Tree) (c : Call) (y : Tree) (o : Outcome) → Called t x c y o → number_of t x c ≡ 0 → bad t y ≡ false
never-16-after t x c y o d z = (sixteen t y).1 (d.accepted z).places.good

-- And a tree that 16 does not refuse stays so, whether the call is accepted or refused.
pub never-16-again : (t : Table) (x : Tree) (c : Call) (y : Tree) (o : Outcome) → Called t x c y o → bad t x ≡ false → bad t y ≡ false
never-16-again t x c y o d b = by (ℕ_discrete (number_of t x c) 0)
  where
    by : Dec (number_of t x c ≡ 0) → bad t y ≡ false
    by (yes z) = never-16-after t x c y o d z
    by (no f) = ap (bad t) (d.otherwise f).1 ∙ b
