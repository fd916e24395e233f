-- `read` meets its contract: each turn gathers the first record that is left.
-- Rests on Walking.antt.
use Rattle.std.proofs.Common.{◌≡◌, sym, ap, ◌<◌, length, eqb-true, Err, rules, arith}
use Rattle.csv_text.specs.declared.ImportError.{ImportError}
use Rattle.csv_rows.proofs.Reading.{said-true}
use Rattle.csv_rows.proofs.Scanning.{lines-shorter}
use Rattle.csv_import.proofs.Walking.{left, walk-start, walk-ended, walk-bad, walk-apart, walk-next}
use Rattle.csv_import.proofs.rows.Rows.read.Goals as goal

pub loop-rest-init : goal.loop-rest-init
loop-rest-init c = (omega arith, λ h. walk-start c.args.text.now c.args.self.now h)

pub returns-in_err-row : goal.returns-in_err-row
returns-in_err-row c = λ h.
    let answer : c.from_residual.result ≡ Err (ImportError.Misread c.loop-rest.record) = search rules in
    rw answer (walk-bad (c.loop-rest.invariant.1 h) (left _ c.loop-rest-test.ensures) (rw c.in_err-row.ensures.ok_part at c.row.ensures))

pub returns-in_err-add : goal.returns-in_err-add
returns-in_err-add c = λ h.
    let w = c.loop-rest.invariant.1 h in
    let said = (rw c.in_ok-row.ensures.ok_part at c.row.ensures).0 in
    let no = c.in_err-add.ensures _ _ w.gathers (sym (said-true _ _ _ said).1) in
    let answer : c.from_residual-in_err-add.result ≡ Err c.in_err-add.field-0.0 = search rules in
    rw (answer, no.1) (walk-apart w (left _ c.loop-rest-test.ensures) no.0)

pub loop-rest-smaller : goal.loop-rest-smaller
loop-rest-smaller c =
    let lines = (rw c.in_ok-row.ensures.ok_part at c.row.ensures).1 in
    omega (arith, ap length lines, lines-shorter c.loop-rest.rest.now (left _ c.loop-rest-test.ensures))

pub loop-rest-preserved : goal.loop-rest-preserved
loop-rest-preserved c =
    let (said, lines) = rw c.in_ok-row.ensures.ok_part at c.row.ensures in
    let more : 0 < length c.loop-rest.rest.now = left _ c.loop-rest-test.ensures in (
      omega (arith, ap length lines, lines-shorter c.loop-rest.rest.now more, c.loop-rest.invariant.0),
      λ h.
          let w = c.loop-rest.invariant.1 h in
          let is = said-true _ _ _ said in
          rw lines (walk-next w more is.0 _ (c.in_ok-add.ensures _ _ w.gathers (sym is.1))),
    )

pub returns : goal.returns
returns c = λ h.
    let all = walk-ended (c.loop-rest.invariant.1 h) (eqb-true _ _ (sym c.loop-rest-test.ensures)) in
    (all.0, record { cues = c.close.ensures _ all.1.cues; ways = all.1.ways })
