-- `push_around` meets its contract: a byte that is not meant is written over by the last.
-- Rests on Around.antt.
use Rattle.std.proofs.Common.{◌≡◌, refl, sym, ap, ◌∙◌}
use Rattle.writer.proofs.Around.{reach, around_written, around_left}
use Rattle.writer.proofs.output.Out.push_around.Goals as goal
use Rattle.writer.proofs.output.Out.push_around.Goals.{then-meant, else-meant}

pub returns : goal.returns
returns c =
    let far : c.if-meant.end ≡ reach c.args.meant = elim c.if-meant.branch [
      | then-meant w ↦ w.end-is ∙ sym (ap reach w.if-meant.true)
      | else-meant w ↦ w.end-is ∙ sym (ap reach w.if-meant.false)
    ] in
    record {
      loan = refl;
      written = around_written _ _ _ _ _ c.args.meant _ far c.requires.fits;
      left = around_left _ _ _ _ _ c.args.meant _ far;
    }
