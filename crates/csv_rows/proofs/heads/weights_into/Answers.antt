-- `weights_into` meets its contract: each turn stores one weight more.
-- Rests on Storing.antt.
use Rattle.std.proofs.Common.{sym, ap, ◌∙◌, ◌<◌, ◌^◌, length, rules, arith}
use Rattle.rules.specs.Text.{bytes}
use Rattle.csv_rows.proofs.Pieces.{fields-are}
use Rattle.csv_rows.proofs.Storing.{counted-word, stored-not, cut-twice, storing-none, storing-bad, storing-fits, storing-next, storing-all, storing-stored}
use Rattle.csv_rows.proofs.heads.weights_into.Goals as goal

pub returns-in_err-rest-clause-said : goal.returns-in_err-rest-clause-said
unfolding bytes
returns-in_err-rest-clause-said c = rw (c.from_residual.ensures, fields-are c.args.text.now) (counted-word _ _ c.in_err-rest.ensures)

pub returns-in_err-rest-clause-stored : goal.returns-in_err-rest-clause-stored
unfolding bytes
returns-in_err-rest-clause-stored c = stored-not _ _ _ _ (rw (fields-are c.args.text.now) (counted-word _ _ c.in_err-rest.ensures))

pub loop-fields-init : goal.loop-fields-init
unfolding bytes
loop-fields-init c = storing-none _ _ _ _ c.in_ok-rest.ensures.0 c.in_ok-rest.ensures.1

pub returns-in_err-weight-clause-said : goal.returns-in_err-weight-clause-said
returns-in_err-weight-clause-said c =
    rw c.from_residual-in_err-weight.ensures (storing-bad c.loop-fields.invariant _ c.in-Some.ensures.0 c.in_err-weight.ensures)

pub returns-in_err-weight-clause-stored : goal.returns-in_err-weight-clause-stored
returns-in_err-weight-clause-stored c = stored-not _ _ _ _ (storing-bad c.loop-fields.invariant _ c.in-Some.ensures.0 c.in_err-weight.ensures)

pub overflow_add-place : goal.overflow_add-place
overflow_add-place c =
    let few = storing-fits c.loop-fields.invariant _ c.in-Some.ensures.0 in
    let short : length c.args.text.now < 2 ^ 63 = search rules in
    omega (arith, few, short)

pub loop-fields-preserved : goal.loop-fields-preserved
loop-fields-preserved c =
    storing-next c.loop-fields.invariant _ _ _ _ c.in-Some.ensures c.in_ok-weight.ensures.0 c.in_ok-weight.ensures.1
    (rw (c.store.ensures, c.min.ensures, c.unwrap_or.ensures, cut-twice c.try_from.result _ c.args.most c.try_from.ensures (omega (arith, c.ranges.most.fits))))

pub returns-clause-said : goal.returns-clause-said
returns-clause-said c =
    (storing-all c.loop-fields.invariant c.in_ok-lines.ensures.0, sym c.in_ok-lines.ensures.1 ∙ c.loop-fields.invariant.lines)
