-- `append` meets its contract: what fits is written behind the text, and behind that there are the zeros that were there.
-- Rests on Appending.antt.
use Rattle.std.proofs.Common.{◌≡◌, length, ap, ◌∙◌, arith}
use Rattle.report.specs.Appended.{appended}
use Rattle.report.proofs.Appending.{fits_in, as_long, behind, grown}
use Rattle.report.proofs.text.Report.append.Goals as goal

pub invariant_of-self : goal.invariant_of-self
invariant_of-self c =
    let r = c.self.inside in
    let room : length r.bytes ≡ 939 = omega arith in
    rw (c.append-self-inside.ensures.count, c.append-self-inside.ensures.bytes) (
      fits_in r.bytes r.used c.args.piece.now room c.self.invariant.0,
      as_long r.bytes r.used c.args.piece.now room c.self.invariant.0,
      behind r.bytes r.used c.args.piece.now room c.self.invariant.0 c.self.invariant.2,
    )

pub returns : goal.returns
returns c =
    let r = c.self.inside in
    let room : length r.bytes ≡ 939 = omega arith in
    rw (c.append-self-inside.ensures.count, c.append-self-inside.ensures.bytes)
    (grown r.bytes r.used c.args.piece.now room c.self.invariant.0 ∙ ap (λ text. appended text c.args.piece.now) c.self.view_is)
