-- `weights` meets its contract: each turn reads one weight more.
-- Rests on Heading.antt.
use Rattle.std.proofs.Common.{sym, ap, ◌∙◌, ◌<◌, ◌^◌, length, rules, arith}
use Rattle.rules.specs.Text.{bytes}
use Rattle.csv_rows.proofs.Pieces.{fields-are}
use Rattle.csv_rows.proofs.Heading.{weights-word, cut-fit, filled-none, filled-bad, filled-fits, filled-next, filled-all}
use Rattle.csv_rows.proofs.heads.weights.Goals as goal

pub returns-in_err-rest : goal.returns-in_err-rest
unfolding bytes
returns-in_err-rest g c = rw (c.from_residual.ensures, fields-are c.args.text.now) (weights-word _ _ _ c.in_err-rest.ensures)

pub loop-fields-init : goal.loop-fields-init
unfolding bytes
loop-fields-init g c = filled-none _ _ _ _ c.in_ok-rest.ensures.0 c.in_ok-rest.ensures.1 c.new-first.ensures

pub returns-in_err-weight : goal.returns-in_err-weight
returns-in_err-weight g c =
    rw c.from_residual-in_err-weight.ensures (filled-bad c.loop-fields.invariant _ c.in-Some.ensures.0 c.in_err-weight.ensures)

pub overflow_add-count : goal.overflow_add-count
overflow_add-count g c =
    let few = filled-fits c.loop-fields.invariant _ c.in-Some.ensures.0 in
    let short : length c.args.text.now < 2 ^ 63 = search rules in
    omega (arith, few, short)

pub loop-fields-smaller : goal.loop-fields-smaller
loop-fields-smaller g c = omega (arith, ap length (c.in-Some.ensures.0 ∙ c.in_ok-weight.ensures.1.fields))

pub loop-fields-preserved : goal.loop-fields-preserved
loop-fields-preserved g c =
    filled-next c.loop-fields.invariant _ _ _ _ c.in-Some.ensures c.in_ok-weight.ensures.0 c.in_ok-weight.ensures.1
    (rw (c.keep.ensures, c.unwrap_or.ensures, cut-fit c.try_from.result _ _ c.try_from.ensures))

pub returns : goal.returns
returns g c = (filled-all c.loop-fields.invariant c.in_ok-lines.ensures.0, sym c.in_ok-lines.ensures.1 ∙ c.loop-fields.invariant.lines)
