-- What a record tells that nothing refuses, and where a place leads.
-- Rests on the rules' laws of `answered`.
use mathlib.Core.Path.{◌≡◌, sym, ap, ◌∙◌}
use mathlib.Core.Bool.{Bool, true, false, not, ◌&&◌}
use mathlib.Core.List.{List}
use mathlib.Core.Option.{Option, none, some}
use Prim.Native.Nat.{ℕ, ◌<◌}
use lib.ListN.{length}
use lib.Dec.{ltb}
use borrow.Author.Tests.{not-false}
use Rattle.std.specs.Prelude.{Result, Ok, ok_or}
use Rattle.std.specs.Prelude.{Option as Reached}
use Rattle.rules.specs.Table.{Table}
use Rattle.rules.specs.Refusals.{answered}
use Rattle.rules.specs.declared.Kind.{Kind}
use Rattle.rules.specs.declared.Refusal.{Refusal}
use Rattle.rules.proofs.First.{none-applies}
use Rattle.rules.proofs.Answering.{answered-later, first-accepted}
use Rattle.records.specs.Records.{tree_records, record_in}
use Rattle.records.specs.Growing.{may_at}
use Rattle.records.specs.declared.Tree.{Tree}
use Rattle.formula.specs.Leaves.{FaultFits}
use Rattle.find.specs.Finds.{found, reached_of, record_refusals, refusals_at, told_refusals, Refinable}

-- ---- where a place leads

-- The code found f on the way that the links go, and w is that or the refusal of a place that leads nowhere.
module _ (o : Option ℕ) (f : Reached ℕ) (e : f ≡ reached_of o) (w : Result ℕ Refusal) (g : w ≡ ok_or f Refusal.NoLeaf) where
  is : w ≡ ok_or (reached_of o) Refusal.NoLeaf
  is = g ∙ ap (λ (x : Reached ℕ). ok_or x Refusal.NoLeaf) e

  -- A record found is the one that the links lead to.
  pub leads_to : (j : ℕ) → w ≡ Ok j → o ≡ some j
  leads_to j h = by o (sym is ∙ h)
    where
      by : (o : Option ℕ) → ok_or (reached_of o) Refusal.NoLeaf ≡ Ok j → o ≡ some j
      by none h = absurd (cc h)
      by (some i) h = ap some (cc h)

-- ---- what the records tell

-- Three tests that do not apply make the test of `may_at`.
all-three : (a b c : Bool) → not a ≡ false → not b ≡ false → not c ≡ false → a && (b && c) ≡ true
all-three a b c e f g = rw (not-false a e, not-false b f, not-false c g)

-- A place that is not too long leads to record j, of which nothing refuses the refinement: it can be made.
pub refinable : (t : Table) (x : Tree) (bs : List ℕ) (k : Kind) → ltb 64 (length bs) ≡ false → (j : ℕ) → found x.nodes bs ≡ some j → j < tree_records
    → FaultFits k → answered {A = Unit {0}} (record_refusals t x.used k (record_in x.nodes j)) tt ≡ Ok tt → Refinable t x bs k j
unfolding told_refusals refusals_at record_refusals may_at
refinable t x bs k short j leads inside fits e =
    let p = none-applies _ (first-accepted (record_refusals t x.used k (record_in x.nodes j)) tt tt e) in
    record {
      unrefused = answered-later _ _ tt short ∙ ap (λ (o : Option ℕ). answered (refusals_at t x k o) tt) leads ∙ e;
      leads = leads;
      inside = inside;
      may = all-three _ _ _ p.1.0 p.1.1.0 p.1.1.1.0;
      fault = fits;
    }
