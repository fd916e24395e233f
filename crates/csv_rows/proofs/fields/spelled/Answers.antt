-- `spelled` meets its contract.
-- Rests on Reading.antt.
use Rattle.std.proofs.Common.{Some, None}
use Rattle.std.proofs.lemmas.Slice.Eq.{strip_prefix_is}
use Rattle.std.proofs.lemmas.Bool.Decides.{Decides-eqb}
use Rattle.csv_rows.proofs.Reading.{word-none, word-some}
use Rattle.csv_rows.proofs.fields.spelled.Goals as goal

pub returns-in_err-strip_prefix : goal.returns-in_err-strip_prefix
returns-in_err-strip_prefix c =
    rw c.from_residual.ensures
    (word-none c.args.word.now c.args.text.now (strip_prefix_is Decides-eqb c.args.text.now c.args.word.now None c.in_err-strip_prefix.ensures.cases))

pub returns : goal.returns
returns c = word-some c.args.word.now c.args.text.now _ (strip_prefix_is Decides-eqb c.args.text.now c.args.word.now (Some c.in_ok-strip_prefix.field-0) c.in_ok-strip_prefix.ensures.cases)
