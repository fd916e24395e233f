-- The turns of 16: a tree is built again by the refinements that its records tell, one after the other, and what is still to build answers for it.
-- Rests on `records`, Rebuilt: building again decides 16.
use mathlib.Core.Path.{◌≡◌, refl, sym, ap, ap₂, subst, ◌∙◌}
use mathlib.Core.Bool.{Bool, true, false, not, true≢false}
use mathlib.Core.List.{List, []}
use mathlib.Core.Option.{none}
use Prim.Native.Nat.{ℕ, zero, suc, ◌+◌, ◌-◌, ◌*◌, ◌/◌, ◌%◌, ◌<◌, ◌≤◌}
use native.Mathlib.Omega.{arith}
use borrow.Author.Tests.{lt-ltb, le-ltb, eq-eqb, ne_eqb, ltb-true, not-false}
use lib.Dec.{ltb}
use Rattle.rules.specs.Table.{Table}
use Rattle.rules.specs.Tree.{possible}
use Rattle.rules.specs.Refusals.{Accepted}
use Rattle.rules.specs.declared.Kind.{Kind}
use Rattle.rules.proofs.Booleans.{and-false}
use Rattle.records.specs.Records.{tree_records, layout, children, kind_of, record_in, is_live, places, record_ways, tree_count, same_nodes, is_good, Good}
use Rattle.records.specs.Growing.{grown_at, may_at, rebuild, same_as, is_good_rebuilt}
use Rattle.records.specs.declared.Node.{Node}
use Rattle.records.specs.declared.Tree.{Tree}
use Rattle.records.specs.Found.{is_full}
use Rattle.records.specs.Safe.{Safe}
use Rattle.records.proofs.Rebuilt.{rebuilt_is, good_next}
use Rattle.records.proofs.SafeTrees.{good_safe}
use Rattle.records.proofs.Sixteen.{good-sure, same-nodes}
use Rattle.dtree.specs.Remade.{next_at, next_kind, may_next, Remade}
use Rattle.dtree.proofs.Fresh.{alone-good}

-- ---- one turn of building again

module _ (t : Table) (n : ℕ) (x y : Tree) where
  turn_none : may_next t x y ≡ false → rebuild t (suc n) x.nodes y.nodes y.used ≡ none
  unfolding rebuild
  turn_none h = rw (h, rebuild)

  turn_some : may_next t x y ≡ true
      → rebuild t (suc n) x.nodes y.nodes y.used
      ≡ rebuild t n x.nodes (grown_at t y.nodes y.used (next_at x y) (next_kind x y)) (suc (suc y.used))
  unfolding rebuild
  turn_some h = rw (h, rebuild)

-- With `left` refinements to go on the tree y, their outcome answers for x.
pub record Answers (t : Table) (x y : Tree) (left : ℕ) : Type 0 where
  pub to_go : y.used + 2 * left ≡ 2 * tree_count x + 1
  pub good : Good t y
  pub rest : same_as x.nodes (rebuild t left x.nodes y.nodes y.used) ≡ is_good t x

module _ (t : Table) (ok : Accepted t) (x : Tree) where
  -- An even number of records is in use: no series gives that.
  pub even : x.used % 2 ≡ 0 → false ≡ is_good t x
  unfolding is_good_rebuilt tree_count
  even h = rw (ne_eqb x.used (2 * ((x.used - 1) / 2) + 1) (λ e. omega (arith, h, e))) at (rebuilt_is t ok x)

  -- At first the root leaf stands alone, and all refinements are to go.
  pub begun : (x.used % 2 ≡ 0 → ⊥) → (y : Tree) → y ≡ layout t [] → Answers t x y (x.used / 2)
  unfolding is_good_rebuilt tree_count layout places children
  begun h y alone =
      let odd : x.used ≡ 2 * ((x.used - 1) / 2) + 1 = omega (arith, h) in
      let half : x.used / 2 ≡ (x.used - 1) / 2 = omega (arith, h) in
      record {
        to_go = omega (arith, odd, half, ap (λ (z : Tree). z.used) alone);
        good = alone-good t y alone;
        rest =
            ap₂ (λ (m : ℕ) (z : Tree). same_as x.nodes (rebuild t m x.nodes z.nodes z.used)) half alone
            ∙ (rw (eq-eqb x.used (2 * ((x.used - 1) / 2) + 1) odd) at (rebuilt_is t ok x));
      }

module _ (t : Table) (x y : Tree) where
  -- Nothing is to go: the records decide.
  pub compared : (left : ℕ) → left ≤ 0 → Answers t x y left → (r : Bool) → r ≡ same_nodes x.nodes y.nodes → r ≡ is_good t x
  unfolding rebuild same_as
  compared zero h a r e = e ∙ a.rest
  compared (suc n) h a r e = absurd (omega (arith, h))

  module _ (left : ℕ) (some-left : 0 < left) (b : Answers t x y left) where
    abbrev n : ℕ
    n = left - 1

    a : Answers t x y (suc n)
    a = subst (Answers t x y) (omega (arith, some-left)) b

    -- The next refinement can't be made: x is not good.
    pub stops : (z : Tree) (r : Bool) → Remade t x y z r → r ≡ false → false ≡ is_good t x
    unfolding same_as
    stops z r m f = ap (same_as x.nodes) (sym (turn_none t n x y (sym m.said ∙ f))) ∙ a.rest

    -- It is made, and one less is to go.
    pub goes : (z : Tree) (r : Bool) → Remade t x y z r → r ≡ true → Answers t x z (left - 1)
    goes z r m f =
        record {
          to_go = omega (arith, a.to_go, m.two_more f);
          good = m.good f;
          rest =
              ap₂ (λ (xs : List Node) (u : ℕ). same_as x.nodes (rebuild t n x.nodes xs u)) (m.grown f) (omega (arith, m.two_more f))
              ∙ ap (same_as x.nodes) (sym (turn_some t n x y (sym m.said ∙ f))) ∙ a.rest;
        }

-- Nothing is to go, and the records are the same: x is the tree made.
pub made-so : (t : Table) (x y : Tree) (left : ℕ) → left ≤ 0 → (x.used % 2 ≡ 0 → ⊥) → Answers t x y left → (r : Bool) → r ≡ same_nodes x.nodes y.nodes
    → r ≡ true → y ≡ x
unfolding tree_count
made-so t x y left h odd a r e f =
    let ns : x.nodes ≡ y.nodes = same-nodes x.nodes y.nodes (sym e ∙ f) in
    let us : y.used ≡ x.used = omega (arith, a.to_go, h, odd) in
    λ i. record { nodes = sym ns i; used = us i }

-- ---- what the answer says besides

-- A tree that 16 lets pass is safe.
pub safe-so : (t : Table) → Accepted t → (x : Tree) (r : Bool) → r ≡ is_good t x → r ≡ true → Safe x.nodes
safe-so t ok x r e h = good_safe t ok x (good-sure t x (sym e ∙ h))

-- ---- what the branches of `remake` say

-- A tree that is not full has a record left.
pub some-left : (y : Tree) → is_full y ≡ false → y.used < tree_records
some-left y h = ltb-true y.used tree_records (not-false (ltb y.used tree_records) h)

-- What is not so is false.
is-false : (b : Bool) → not b ≡ true → b ≡ false
is-false true h = absurd (true≢false (sym h))
is-false false h = refl

module _ (t : Table) (x y z : Tree) where
  -- The next refinement can't be made, so nothing is said of the tree left.
  unmade : may_next t x y ≡ false → Remade t x y z false
  unmade h =
      let no : false ≡ true → ⊥ = λ e. true≢false (sym e) in
      record { said = sym h; grown = λ e. absurd (no e); two_more = λ e. absurd (no e); safe = λ e. absurd (no e); good = λ e. absurd (no e) }

  -- There is no room for two records more.
  pub full : is_full y ≡ true → Remade t x y z false
  unfolding may_at
  full h = unmade (rw (is-false _ h, and-false (is_live (record_in y.nodes (next_at x y)))) (and-false (ltb (next_at x y) y.used)))

  -- No such place is there yet.
  pub beyond : y.used ≤ next_at x y → Remade t x y z false
  beyond h = unmade (rw (le-ltb (next_at x y) y.used h) refl)

  -- The leaf there is closed.
  pub closed : is_live (record_in y.nodes (next_at x y)) ≡ false → Remade t x y z false
  unfolding may_at
  closed h = unmade (rw h (and-false (ltb (next_at x y) y.used)))

  module _ (k : Kind) (e : k ≡ next_kind x y) (b : Bool) (f : b ≡ possible k (record_ways t (record_in y.nodes (next_at x y)))) where
    told : possible (next_kind x y) (record_ways t (record_in y.nodes (next_at x y))) ≡ b
    told = ap (λ (i : Kind). possible i (record_ways t (record_in y.nodes (next_at x y)))) (sym e) ∙ sym f

    -- What the record tells is not possible there.
    pub impossible : b ≡ false → Remade t x y z false
    unfolding may_at
    impossible h =
        let live = is_live (record_in y.nodes (next_at x y)) in
        unmade (rw (told ∙ h, and-false (ltb y.used tree_records), and-false live) (and-false (ltb (next_at x y) y.used)))

    -- It can be made, and it is.
    pub can : b ≡ true → is_full y ≡ false → next_at x y < y.used → is_live (record_in y.nodes (next_at x y)) ≡ true → Accepted t → Good t y
        → z.nodes ≡ grown_at t y.nodes y.used (next_at x y) k → z.used ≡ y.used + 2 → Remade t x y z true
    unfolding may_at
    can o room inside live ok before grown more =
        let yes : may_next t x y ≡ true = rw (lt-ltb (next_at x y) y.used inside, not-false (ltb y.used tree_records) room, live) (told ∙ o) in
        let so : z.nodes ≡ grown_at t y.nodes y.used (next_at x y) (next_kind x y) = grown ∙ ap (grown_at t y.nodes y.used (next_at x y)) e in
        let after = good_next t ok y before (next_at x y) (next_kind x y) yes z so more in
        record { said = sym yes; grown = λ _. so; two_more = λ _. more; safe = λ _. good_safe t ok z after; good = λ _. after }

-- ---- the same of the place j that was read

module _ (t : Table) (x y z : Tree) (j : ℕ) (s : j ≡ next_at x y) where
  -- No such place is there yet.
  pub beyond_at : y.used ≤ j → Remade t x y z false
  beyond_at h = beyond t x y z (subst (λ i. y.used ≤ i) s h)

  -- The leaf there is closed.
  pub closed_at : is_live (record_in y.nodes j) ≡ false → Remade t x y z false
  closed_at h = closed t x y z (subst (λ i. is_live (record_in y.nodes i) ≡ false) s h)

  module _ (n : Node) (r : n ≡ record_in x.nodes j) (k : Kind) (e : k ≡ kind_of n) (b : Bool) (f : b ≡ possible k (record_ways t (record_in y.nodes j))) where
    kind_is : k ≡ next_kind x y
    kind_is = e ∙ ap kind_of r ∙ ap (λ i. kind_of (record_in x.nodes i)) s

    may_is : b ≡ possible k (record_ways t (record_in y.nodes (next_at x y)))
    may_is = subst (λ i. b ≡ possible k (record_ways t (record_in y.nodes i))) s f

    -- What the record tells is not possible there.
    pub impossible_at : b ≡ false → Remade t x y z false
    impossible_at h = impossible t x y z k kind_is b may_is h

    -- It can be made, and it is.
    pub can_at : b ≡ true → is_full y ≡ false → j < y.used → is_live (record_in y.nodes j) ≡ true → Accepted t → Good t y
        → z.nodes ≡ grown_at t y.nodes y.used j k → z.used ≡ y.used + 2 → Remade t x y z true
    can_at o room inside live ok before grown more =
        can t x y z k kind_is b may_is o room (subst (λ i. i < y.used) s inside) (subst (λ i. is_live (record_in y.nodes i) ≡ true) s live) ok before
        (subst (λ i. z.nodes ≡ grown_at t y.nodes y.used i k) s grown) more
