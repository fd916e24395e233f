-- What a leaf holds, told in other words, and of a leaf that came of another, over the lists of that one. Rests on the definition of `Holds`.
use Rattle.std.proofs.Common.{◌≡◌, ◌∙◌, ℕ, List}
use Rattle.rules.specs.declared.Way.{Way}
use Rattle.clauses.specs.declared.Clauses.{Clauses}
use Rattle.clauses.specs.declared.lost.Gone.{Gone}
use Rattle.clauses.specs.Leaves.{Holds, Becomes}

module _ {ps qs : List ℕ} {g k : Gone} {vs us : List Way} {r : Clauses} where
  -- The same faults and the same ways, told otherwise.
  pub reworded : Holds ps qs g vs r → g ≡ k → vs ≡ us → Holds ps qs k us r
  reworded h e w = record { present_is = h.present_is; absent_is = h.absent_is; gone_is = h.gone_is ∙ e; ways_are = h.ways_are ∙ w }

  -- What becomes of a leaf over two lists is over these too.
  pub onward : {c : Clauses} → Holds ps qs g vs c → Becomes c k us r → Holds ps qs k us r
  onward h b =
      record { present_is = b.present_is ∙ h.present_is; absent_is = b.absent_is ∙ h.absent_is; gone_is = b.gone_is; ways_are = b.ways_are }
