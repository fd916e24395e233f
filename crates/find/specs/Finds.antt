-- The record that a place's bytes lead to, and which of 17 to 20 refuses a hand refinement there, all told from the records alone.
-- Rests on the records and on the rules' list of refusals; proofs/ByHand.antt shows that on a layout these are the rules' refusals.
use Rattle.std.specs.Prelude.{◌≡◌, true, not, Result, Ok, Err, List, [], ◌∷◌, ℕ, ◌<◌, length, eqb, ltb, Some, None}
use Rattle.std.specs.Prelude.{Option as Reached}
use Rattle.std.proofs.Math.Option.{Option, none, some}
use Rattle.rules.specs.Table.{Table}
use Rattle.rules.specs.Tree.{Place, possible}
use Rattle.rules.specs.Refusals.{Test, test, answered}
use Rattle.rules.specs.Calls.{place_of}
use Rattle.rules.specs.declared.Kind.{Kind}
use Rattle.rules.specs.declared.Refusal.{Refusal}
use Rattle.records.specs.Records.{tree_records, record_in, is_live, record_ways, walk}
use Rattle.records.specs.Growing.{may_at}
use Rattle.records.specs.declared.Node.{Node}
use Rattle.records.specs.declared.Tree.{Tree}
use Rattle.formula.specs.Leaves.{FaultFits}

-- The record to which the links lead from record i, if there is such a place.
unfoldable pub led : List Node → ℕ → Option Place → Option ℕ
led xs i none = none
led xs i (some p) = walk xs p i

-- The record of the place that the bytes name.
abbrev pub found : List Node → List ℕ → Option ℕ
found xs bs = led xs 0 (place_of bs)

-- As Rust has it. Places and the walk to them are over the logic's own Option, as the rules' definitions and their theorems are.
abbrev pub reached_of : Option ℕ → Reached ℕ
reached_of none = None
reached_of (some j) = Some j

-- ---- 17 to 20

-- A table of these words. The weights do not matter here.
abbrev pub word_table : List ℕ → List ℕ → Table
word_table ps qs = record { weights = []; present = ps; absent = qs }

-- Those of a refinement at this record.
unfoldable pub record_refusals : Table → ℕ → Kind → Node → List Test
record_refusals t used k n =
    test Refusal.NoLeaf (not (eqb n.left 0))
    ∷ test Refusal.Closed (not (is_live n))
    ∷ test Refusal.Full (not (ltb used tree_records))
    ∷ test Refusal.Impossible (not (possible k (record_ways t n)))
    ∷ []

-- Those at the record that a place leads to; 17 if it leads to none.
unfoldable pub refusals_at : Table → Tree → Kind → Option ℕ → List Test
refusals_at t x k none = test Refusal.NoLeaf true ∷ []
refusals_at t x k (some j) = record_refusals t x.used k (record_in x.nodes j)

-- 17 TO 20 of a refinement of kind k at the place that the bytes name.
unfoldable pub told_refusals : Table → Tree → List ℕ → Kind → List Test
told_refusals t x bs k = test Refusal.NoLeaf (ltb 64 (length bs)) ∷ refusals_at t x k (found x.nodes bs)

-- What they come to: the first that applies, or that none does.
abbrev pub told : Table → Tree → List ℕ → Kind → Result (Unit {0}) Refusal
told t x bs k = answered (told_refusals t x bs k) tt

-- ---- what an answer tells

-- The bytes lead to record j, and the refinement can be made there.
pub record Refinable (t : Table) (x : Tree) (bs : List ℕ) (k : Kind) (j : ℕ) : Type 0 where
  pub unrefused : told t x bs k ≡ Ok tt
  pub leads : found x.nodes bs ≡ some j
  pub inside : j < tree_records
  pub may : may_at t x.nodes x.used j k ≡ true
  pub fault : FaultFits k

-- The leaf's record where nothing refuses the refinement, and else the first of 17 to 20 that applies.
unfoldable pub Tells : Table → Tree → List ℕ → Kind → Result ℕ Refusal → Type 0
Tells t x bs k (Ok j) = Refinable t x bs k j
Tells t x bs k (Err r) = told t x bs k ≡ Err r
