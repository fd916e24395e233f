-- `append_decimal` meets its contract: the digits, and the byte behind them.
-- Rests on Appending.antt.
use Rattle.std.proofs.Common.{◌+◌, [], ◌∷◌, length, ap, ◌∙◌, arith}
use Rattle.rules.specs.Text.{decimal}
use Rattle.report.specs.Appended.{fitting, written}
use Rattle.report.proofs.Appending.{written_then}
use Rattle.report.proofs.text.append_decimal.Goals as goal

pub returns-clause-bytes : goal.returns-clause-bytes
returns-clause-bytes c =
    written_then c.args.text.now c.args.used (decimal c.args.n) (c.args.end ∷ []) (omega arith)
    (c.append-used.ensures.bytes ∙ ap (written c.args.text.now c.args.used) (c.as_slice.ensures ∙ c.digits_of.ensures))
    (c.append-used.ensures.count ∙ ap (λ digits. c.args.used + length (fitting c.args.used digits)) (c.as_slice.ensures ∙ c.digits_of.ensures))
    c.append.ensures.bytes
