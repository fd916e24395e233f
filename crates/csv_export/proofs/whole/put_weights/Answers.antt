-- `put_weights` meets its contract: each turn writes the field of the first weight that is left.
-- Rests on Records.antt and on `writer`, Over.
use Rattle.std.proofs.Common.{refl}
use Rattle.rules.specs.Text.{bytes}
use Rattle.writer.proofs.Over.{remains_all, next_written}
use Rattle.csv_export.proofs.Records.{weights_bytes, first_field}
use Rattle.csv_export.proofs.whole.put_weights.Goals as goal

pub loop-weight-init : goal.loop-weight-init
unfolding bytes
loop-weight-init c =
    rw c.into_iter-weight-iterator.ensures.into_iter_gives
    (next_written _ (remains_all _ _ _ c.requires refl) (weights_bytes c.args.weights) c.extend_from_slice.ensures)

pub loop-weight-preserved : goal.loop-weight-preserved
loop-weight-preserved c = next_written _ c.loop-weight.invariant (first_field c.in-Some.ensures.steps) (rw c.from.ensures at c.put_field.ensures)
