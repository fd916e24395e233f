-- `add` meets its contract: the cue of the record, and its way, if it has one.
-- Rests on Gathering.antt and Wording.antt.
use Rattle.std.proofs.Common.{◌≡◌, sym, ◌∙◌, subst, Some, Err, rules}
use Rattle.csv_rows.specs.declared.Named.{Named}
use Rattle.csv_import.proofs.Gathering.{number-said, way-said, adds-bare, adds-way}
use Rattle.csv_import.proofs.Wording.{words-near, words-wide, words-gone, words-far}
use Rattle.csv_import.proofs.rows.Rows.add.Goals as goal

pub returns-in_err-add : goal.returns-in_err-add
returns-in_err-add c = λ cs r h said.
    let answer : c.from_residual.result ≡ Err c.in_err-add.field-0.0 = search rules in
    rw answer (c.in_err-add.ensures cs _ h.cues (number-said h r _ said) (way-said h r _ said))

pub returns-in-Some : goal.returns-in-Some
returns-in-Some c = λ cs r h said.
    let counts = c.in_ok-add.ensures cs _ h.cues (number-said h r _ said) (way-said h r _ said) in
    let near = c.add-in-Some.ensures in (
      counts.0,
      adds-way h r _ said _ (subst (λ (w : Named). c.args.row.way ≡ Some w) (rw c.in-Some-Near.is at c.in-Some-Near.field-0-is) c.in-Some-Near.is) counts.1 _
          (λ ps qs p q w e. words-near ps qs p q (rw c.in-Some.is at w) c.in-Some-Near.words e _ near.present near.absent),
    )

pub returns-in_default : goal.returns-in_default
returns-in_default c = λ cs r h said.
    let counts = c.in_ok-add.ensures cs _ h.cues (number-said h r _ said) (way-said h r _ said) in (
      counts.0,
      adds-way h r _ said _ (subst (λ (w : Named). c.args.row.way ≡ Some w) (rw c.in-Some-Near.is at c.in-Some-Near.field-0-is) c.in-Some-Near.is) counts.1 _
          (λ ps qs p q w e. rw c.in_default.is (words-wide ps qs p q (rw c.in_default.is at w))),
    )

pub returns-then-is_some : goal.returns-then-is_some
returns-then-is_some c = λ cs r h said.
    let counts = c.in_ok-add.ensures cs _ h.cues (number-said h r _ said) (way-said h r _ said) in (
      counts.0,
      adds-way h r _ said _ (subst (λ (w : Named). c.args.row.way ≡ Some w) (rw c.in-Some-Far.is at c.in-Some-Far.field-0-is) c.in-Some-Far.is) counts.1 _ (λ ps qs p q w e. words-far ps qs p q _ w e),
    )

pub returns-else-is_some : goal.returns-else-is_some
returns-else-is_some c = λ cs r h said.
    let counts = c.in_ok-add.ensures cs _ h.cues (number-said h r _ said) (way-said h r _ said) in (
      counts.0,
      adds-way h r _ said _ (subst (λ (w : Named). c.args.row.way ≡ Some w) (rw c.in-Some-Far.is at c.in-Some-Far.field-0-is) c.in-Some-Far.is) counts.1 _ (λ ps qs p q w e. words-gone ps qs p q _ (sym c.is_some.ensures ∙ c.if-is_some.false) w),
    )

pub returns-in-None : goal.returns-in-None
returns-in-None c = λ cs r h said.
    let counts = c.in_ok-add.ensures cs _ h.cues (number-said h r _ said) (way-said h r _ said) in
    (counts.0, adds-bare h r _ said c.in-None.is counts.1)
