-- `field` meets its contract: in quotes or bare, its bytes are read, then it must end.
-- Rests on Pieces.antt.
use Rattle.std.proofs.Common.{ℕ, List, Option, Bor, subst, arith, eqb-true, ltb-true}
use Rattle.std.proofs.lemmas.Bool.{eqb-false}
use Rattle.csv_rows.specs.Fields.{SaysPlain, Front, Longest}
use Rattle.csv_rows.proofs.Pieces.{first-byte, bare-none, quoted-none, unclosed, Closed, closed-bare, closed-quoted, closed-reads}
use Rattle.csv_rows.proofs.fields.field.Given as given
use Rattle.csv_rows.proofs.fields.field.Goals as goal
use Rattle.csv_rows.proofs.fields.field.Goals.{After-ended, in-34+in_ok-value-in-34+in-34-rest, in_default+in_ok-value-in_default, in_default-via-then-text-lt1, in_default-via-else-text-lt1+in_default-1, in_default-rest-via-then-rest-lt1, in_default-rest-via-else-rest-lt1+in_default-1}

pub returns-in_err-value-in-34 : goal.returns-in_err-value-in-34
returns-in_err-value-in-34 g c = λ says plain reads.
    rw (c.from_residual.ensures, first-byte c.args.text.now 34 (omega arith) (omega (arith, eqb-true)))
    (quoted-none says plain _ (reads _ _ c.in_err-value-in-34.ensures))

pub returns-in_default-rest : goal.returns-in_default-rest
returns-in_default-rest g c = λ says plain reads.
    rw (first-byte c.args.text.now 34 (omega arith) (omega (arith, eqb-true)))
    (unclosed says plain _ _ _ (reads _ _ c.in_ok-value-in-34.ensures) (λ h e.
    elim c.in_default-rest.branch [
      | in_default-rest-via-then-rest-lt1 w ↦ omega (arith, ltb-true)
      | in_default-rest-via-else-rest-lt1+in_default-1 w ↦ omega (arith, eqb-false)
    ]))

pub returns-in_err-value-in_default : goal.returns-in_err-value-in_default
returns-in_err-value-in_default g c = λ says plain reads.
    rw c.from_residual-in_err-value-in_default.ensures
    (bare-none says plain _ (λ h e.
    elim c.in_default.branch [ in_default-via-then-text-lt1 w ↦ omega (arith, ltb-true) | in_default-via-else-text-lt1+in_default-1 w ↦ omega (arith, eqb-false) ])
    (reads _ _ c.in_err-value-in_default.ensures))

-- What was read belongs to the first field.
closed : (g : given.Over) (c : After-ended g) (says : List ℕ → Option g.row.T.Denot) (plain : SaysPlain says)
    → ((t : Bor (List ℕ)) (r : _) → g.R.Fn.post c.args.read (t, tt) r → Front says t.now r)
    → Closed says plain c.args.text.now c.if-text-lt1.value.0 c.if-text-lt1.value.1.now
closed g c says plain reads =
    elim c.if-text-lt1.branch [
      | in-34+in_ok-value-in-34+in-34-rest w ↦
          rw (w.value-is, first-byte c.args.text.now 34 (omega arith) (omega (arith, eqb-true)))
          (closed-quoted says plain _ _ _
          (subst (Longest says _ _) (first-byte w.in_ok-value-in-34.rest.now 34 (omega arith) (omega (arith, eqb-true))) (reads _ _ w.in_ok-value-in-34.ensures)))
      | in_default+in_ok-value-in_default w ↦
          rw w.value-is
          (closed-bare says plain _ _ _ (reads _ _ w.in_ok-value-in_default.ensures) (λ h e.
          elim w.in_default.branch [ in_default-via-then-text-lt1 v ↦ omega (arith, ltb-true) | in_default-via-else-text-lt1+in_default-1 v ↦ omega (arith, eqb-false) ]))
    ]

pub returns-in_err-ended : goal.returns-in_err-ended
returns-in_err-ended g c = λ says plain reads.
    rw c.from_residual-in_err-ended.ensures
    ((closed g (goal.at.returns-in_err-ended g c).After-ended says plain reads).broken c.in_err-ended.ensures)

pub returns : goal.returns
returns g c = λ says plain reads.
    closed-reads says plain _ _ _ _ (closed g (goal.at.returns g c).After-ended says plain reads) c.in_ok-ended.ensures
