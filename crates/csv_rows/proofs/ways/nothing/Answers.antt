-- `nothing` meets its contract: each test decides whether the field is `0` alone.
-- Rests on Rows.antt.
use Rattle.std.proofs.Common.{sym, ap, ◌∙◌}
use Rattle.csv_text.specs.Shapes.{word_of}
use Rattle.csv_rows.specs.Walks.{named_in, some_far}
use Rattle.csv_rows.specs.Told.{nothing_said}
use Rattle.csv_rows.proofs.Pieces.{fields-are, alone}
use Rattle.csv_rows.proofs.Rows.{nothing-bad, nothing-more, nothing-alone, reads-if}
use Rattle.csv_rows.proofs.ways.nothing.Goals as goal

pub returns-in_err-number : goal.returns-in_err-number
returns-in_err-number c = rw (c.from_residual.ensures, fields-are c.args.text.now) (nothing-bad _ _ c.in_err-number.ensures)

pub returns-in_err-lines : goal.returns-in_err-lines
returns-in_err-lines c =
    rw (c.from_residual-in_err-lines.ensures, c.in_ok-number.ensures.1.fields) (nothing-more _ _ c.in_err-lines.ensures)

pub returns : goal.returns
unfolding named_in some_far word_of
returns c =
    let (said, passed) = c.in_ok-number.ensures in
    let (last, lines) = c.in_ok-lines.ensures in
    rw (c.then_some.ensures, c.named.ensures)
    (reads-if nothing_said c.args.text.now _ _ _ (ap nothing_said (alone passed last) ∙ nothing-alone _ _ said) (sym lines ∙ sym passed.lines))
