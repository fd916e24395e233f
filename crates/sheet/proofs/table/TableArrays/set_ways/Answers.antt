-- Where no way is left that has room, those so far are all.
-- Rests on Kept.antt.
use Rattle.std.proofs.Common.{map, min, take, ap, ◌∙◌}
use Rattle.std.proofs.lemmas.List.{length-map}
use Rattle.rules.specs.Table.{Table}
use Rattle.sheet.proofs.Kept.{filled, as_many}
use Rattle.sheet.proofs.table.TableArrays.set_ways.Goals as goal

pub returns-clause-table : goal.returns-clause-table
returns-clause-table c =
    let same = c.loop-way.invariant.weights in
    λ j. record {
      weights = take (same.0 j) (same.1 j);
      present = filled c.loop-way.way-iterator.n _ _ c.loop-way.invariant.present (λ h. ap (map (λ w. w.present)) (c.in-None.ensures.steps h).0) j;
      absent = filled c.loop-way.way-iterator.n _ _ c.loop-way.invariant.absent (λ h. ap (map (λ w. w.absent)) (c.in-None.ensures.steps h).0) j;
    }

pub returns-clause-ways : goal.returns-clause-ways
returns-clause-ways c =
    as_many _ c.loop-way.self.present_kept (ap (λ (r : Table). r.present) (returns-clause-table c)) ∙ ap (min 128) (length-map _ _)
