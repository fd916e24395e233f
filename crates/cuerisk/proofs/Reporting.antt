-- The reply to a report put into a lent space, by the definitions of specs/Into.antt. Rests on the laws of `answered` in `rules`.
use mathlib.Core.Path.{◌≡◌}
use mathlib.Core.List.{List}
use Prim.Native.Nat.{ℕ}
use lib.ListN.{length}
use Rattle.rules.specs.Answers.{counted_by, write_reply}
use Rattle.rules.specs.Text.{text}
use Rattle.rules.proofs.Replies.{write-by}
use Rattle.cuerisk.specs.Into.{report_refusals, report_number, report_answer}

-- The answer's reply, by its number and the bytes of the text.
pub report-reply : (bs : List ℕ) (space : ℕ) → write_reply (report_answer bs space) ≡ counted_by (report_number bs space) (length (text bs))
unfolding report_answer report_number
report-reply bs space = write-by (report_refusals bs space) (length (text bs))
