-- Good trees put back by their records in use: behind these all records of both are blank.
-- Rests on `records`, InPlace, and on `store`, Lent.
use mathlib.Core.Path.{◌≡◌, sym, ap, ◌∙◌}
use mathlib.Core.List.{List}
use Prim.Native.Nat.{ℕ, ◌≤◌}
use native.Mathlib.Omega.{arith}
use Rattle.rules.specs.Table.{Table}
use Rattle.rules.specs.Calls.{by_hand, by_run}
use Rattle.rules.specs.declared.Kind.{Kind}
use Rattle.rules.specs.declared.Figures.{Figures}
use Rattle.std.specs.Prelude.{Ok}
use Rattle.rules.specs.declared.Limits.{Limits}
use Rattle.rules.specs.declared.Ended.{Ended}
use Rattle.records.specs.Records.{record_in, layout, tree_count, Good}
use lib.ListN.{length}
use Rattle.records.specs.declared.Tree.{Tree}
use Rattle.records.proofs.Positions.{length_places}
use Rattle.records.proofs.InPlace.{few-places, records-long, record-rest}
use Rattle.store.specs.Lent.{Behind}
use Rattle.dtree.specs.Promises.{number_of, Refining, Running}

module _ (t : Table) (x y : Tree) (g : Good t x) (h : Good t y) where
  -- As many records in use or more.
  pub good-behind : x.used ≤ y.used → Behind x y
  unfolding layout
  good-behind l =
      record {
        inside = omega (arith, ap (λ (z : Tree). z.used) h.is, few-places t h.made h.accepted);
        whole =
            ap (λ (z : Tree). length z.nodes) g.is ∙ records-long t g.made g.accepted ∙ sym (records-long t h.made h.accepted)
            ∙ sym (ap (λ (z : Tree). length z.nodes) h.is);
        same = λ i m.
            ap (λ (z : Tree). record_in z.nodes i) g.is ∙ record-rest t g.made i (omega (arith, m, l, ap (λ (z : Tree). z.used) g.is))
            ∙ sym (record-rest t h.made i (omega (arith, m, ap (λ (z : Tree). z.used) h.is))) ∙ sym (ap (λ (z : Tree). record_in z.nodes i) h.is);
      }

  -- As many refinements or more.
  pub more-behind : tree_count x ≤ tree_count y → Behind x y
  unfolding layout tree_count
  more-behind l =
      good-behind
      (omega (arith, l, ap (λ (z : Tree). z.used) g.is, length_places g.made, ap (λ (z : Tree). z.used) h.is, length_places h.made))

-- What an accepted hand refinement leaves.
pub hand-behind : (t : Table) (x : Tree) → Good t x → (bs : List ℕ) (k : Kind) (y : Tree) (f : Figures) → Refining t x bs k y (Ok f) → Behind x y
hand-behind t x g bs k y f r =
    let z : number_of t x (by_hand bs k) ≡ 0 = sym r.call.numbered in
    let w = r.call.accepted z in
    more-behind t x y g w.places.good (omega (arith, w.counts))

-- What an accepted run leaves.
pub run-behind : (t : Table) (x : Tree) → Good t x → (m : Limits) (y : Tree) (e : Ended) → Running t x m y (Ok e) → Behind x y
run-behind t x g m y e r =
    let z : number_of t x (by_run m) ≡ 0 = sym r.call.numbered in
    let w = r.call.accepted z in
    more-behind t x y g w.places.good (omega (arith, w.counts))
