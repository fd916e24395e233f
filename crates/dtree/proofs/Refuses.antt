-- A call on a tree that is refused: by its table, by its limits, or by 16; and what the test of 16 tells.
-- Rests on Calling.antt, on `rules`, Answering, and on `records`, Sixteen.
use mathlib.Core.Path.{◌≡◌, refl, sym, ap, ◌∙◌}
use mathlib.Core.Bool.{Bool, true, false, not}
use mathlib.Core.List.{List, [], ◌∷◌}
use Prim.Native.Nat.{ℕ, ◌+◌, ◌<◌}
use native.Mathlib.Omega.{arith}
use lib.Dec.{ltb}
use borrow.Author.Tests.{ltb-true}
use Rattle.std.specs.Prelude.{Result, Ok, Err}
use Rattle.rules.specs.Table.{Table}
use Rattle.rules.specs.Refusals.{test, answered, first, mode_above, table_refusals, limit_refusals, table_number, Accepted}
use Rattle.rules.specs.Calls.{hand_refusals, run_refusals, Call, by_hand, by_run}
use Rattle.rules.specs.declared.Kind.{Kind}
use Rattle.rules.specs.declared.Limits.{Limits}
use Rattle.rules.specs.declared.Refusal.{Refusal}
use Rattle.rules.proofs.First.{number-above, none-applies}
use Rattle.rules.proofs.Answering.{first-refused, answered-after, answered-before, answered-here, answered-later}
use Rattle.rules.proofs.Booleans.{and_left, and_right}
use Rattle.records.specs.Records.{tree_records, record_in, is_live, layout, is_good, bad, Good}
use Rattle.records.specs.Growing.{may_at}
use Rattle.records.specs.declared.Tree.{Tree}
use Rattle.records.proofs.Positions.{length_places}
use Rattle.records.proofs.Sixteen.{good-sure}
use Rattle.dtree.specs.Promises.{number_of, Called}
use Rattle.dtree.proofs.Accepting.{judged, of-mode}
use Rattle.dtree.proofs.Calling.{refusals_of, number-first, called, refused_by, refused-tree, refused-outcome}

-- Refused, a call hands back the first refusal that applies and leaves the tree as it was.
pub refused-call : (t : Table) (x : Tree) (c : Call) (r : Refusal) → judged (refusals_of t x c) ≡ Err r → Called t x c x (refused_by c r)
refused-call t x c r e =
    let some : number_of t x c ≡ 0 → ⊥ =
    λ z. absurd (omega (arith, z, number-first t x c, first-refused (refusals_of t x c) tt r e, number-above r)) in
    called t x c x (refused_by c r) (sym (refused-tree t x c some)) (sym (refused-outcome t x c r e))

-- ---- which refusal

-- 3 comes first in a run.
pub by-mode : (t : Table) (x : Tree) (m : Limits) (r : Refusal) → judged (of-mode m) ≡ Err r
    → judged (refusals_of t x (by_run m)) ≡ Err r
unfolding run_refusals
by-mode t x m r e = answered-before (of-mode m) _ tt tt r e

-- 9 to 13 come first in a hand refinement.
pub hand-table : (t : Table) (x : Tree) (bs : List ℕ) (k : Kind) (r : Refusal) → judged (table_refusals t) ≡ Err r
    → judged (refusals_of t x (by_hand bs k)) ≡ Err r
unfolding hand_refusals
hand-table t x bs k r e = answered-before (table_refusals t) _ tt tt r e

-- And next in a run.
pub run-table : (t : Table) (x : Tree) (m : Limits) → mode_above m ≡ false → (r : Refusal) → judged (table_refusals t) ≡ Err r
    → judged (refusals_of t x (by_run m)) ≡ Err r
unfolding run_refusals
run-table t x m low r e = answered-later (test Refusal.ModeAbove (mode_above m)) _ tt low ∙ answered-before (table_refusals t) _ tt tt r e

-- Then 14 and 15.
pub by-limits : (t : Table) → Accepted t → (x : Tree) (m : Limits) → mode_above m ≡ false → (r : Refusal) → judged (limit_refusals m) ≡ Err r
    → judged (refusals_of t x (by_run m)) ≡ Err r
unfolding run_refusals table_number
by-limits t ok x m low r e =
    answered-later (test Refusal.ModeAbove (mode_above m)) _ tt low
    ∙ answered-after (table_refusals t) _ tt (none-applies (table_refusals t) ok)
    ∙ answered-before (limit_refusals m) _ tt tt r e

-- Then 16. Its test refuses a tree of which b does not say that it is good.
pub not-passed : (b : Bool) (w : Result (Unit {0}) Refusal) → w ≡ answered (test Refusal.NotGood (not b) ∷ []) tt → (r : Refusal) → w ≡ Err r
    → (b ≡ false) × (r ≡ Refusal.NotGood)
unfolding answered
not-passed true w e r h = absurd (cc (h, e))
not-passed false w e r h = (refl, cc (h, e))

-- And lets any other pass.
pub passed-on : (b : Bool) (w : Result (Unit {0}) Refusal) → w ≡ answered (test Refusal.NotGood (not b) ∷ []) tt → (u : Unit {0}) → w ≡ Ok u → b ≡ true
unfolding answered
passed-on true w e u h = refl
passed-on false w e u h = absurd (cc (h, e))

-- The test on the tree gave b.
module _ (t : Table) (x : Tree) (b : Bool) (e : b ≡ is_good t x) where
  -- It is the test that the rules are handed.
  tested : not b ≡ bad t x
  unfolding bad
  tested = ap not e

  -- It refuses a hand refinement.
  pub hand-bad : Accepted t → (bs : List ℕ) (k : Kind) → b ≡ false → judged (refusals_of t x (by_hand bs k)) ≡ Err Refusal.NotGood
  unfolding hand_refusals table_number
  hand-bad ok bs k f =
      answered-after (table_refusals t) _ tt (none-applies (table_refusals t) ok)
      ∙ answered-here (test Refusal.NotGood (bad t x)) _ tt (sym tested ∙ ap not f)

  -- And a run.
  pub run-bad : Accepted t → (m : Limits) → mode_above m ≡ false → first (limit_refusals m) ≡ 0 → b ≡ false
      → judged (refusals_of t x (by_run m)) ≡ Err Refusal.NotGood
  unfolding run_refusals table_number
  run-bad ok m low free f =
      answered-later (test Refusal.ModeAbove (mode_above m)) _ tt low
      ∙ answered-after (table_refusals t) _ tt (none-applies (table_refusals t) ok)
      ∙ answered-after (limit_refusals m) _ tt (none-applies (limit_refusals m) free)
      ∙ answered-here (test Refusal.NotGood (bad t x)) _ tt (sym tested ∙ ap not f)

  -- A tree that it lets pass is not bad.
  pub not-bad : b ≡ true → bad t x ≡ false
  not-bad f = sym tested ∙ ap not f

  -- But good.
  pub good : b ≡ true → Good t x
  good f = good-sure t x (sym e ∙ f)

-- A good tree has room for two records or none, and for two where a refinement may be made.
pub odd-room : (t : Table) (x : Tree) → Good t x → x.used < tree_records → x.used + 1 < tree_records
unfolding layout
odd-room t x g h = omega (arith, h, ap (λ (y : Tree). y.used) g.is, length_places g.made)

pub may-room : (t : Table) (x : Tree) → Good t x → (j : ℕ) (k : Kind) → may_at t x.nodes x.used j k ≡ true → x.used + 1 < tree_records
unfolding may_at
may-room t x g j k m =
    let room = and_left (ltb x.used tree_records) _ (and_right (is_live (record_in x.nodes j)) _ m) in
    odd-room t x g (ltb-true x.used tree_records room)
