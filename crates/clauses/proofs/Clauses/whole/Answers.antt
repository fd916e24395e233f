-- `whole` meets its contract: rows are at most 128, and all the numbers are below how many they are.
-- Rests on Leaf.antt.
use mathlib.Core.Path.{refl, sym, ◌∙◌}
use lib.ListN.{length}
use borrow.Author.Tests.{ltb-true}
use Rattle.clauses.proofs.Leaf.{all_ways}
use Rattle.clauses.proofs.Clauses.whole.Goals as goal

pub below-requires : goal.below-requires
below-requires c = c.args.rows.short

pub invariant_of-result : goal.invariant_of-result
invariant_of-result c = record { inside = λ i h. ltb-true i (length c.args.rows.present.now) (sym (c.below.ensures i) ∙ h) }

pub returns : goal.returns
returns c =
    let t = c.args.rows in
    record { present_is = refl; absent_is = refl; gone_is = refl; ways_are = all_ways _ t.present.now t.absent.now refl refl t.paired refl c.below.ensures }
