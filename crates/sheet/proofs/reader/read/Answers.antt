-- `read` meets its contract: the head, or the refusal of reading.
-- Rests on Readings.antt, on `rules`, Replies, and on the contract of `Sheet::read`.
use Rattle.std.proofs.Common.{ap, ◌∙◌, rules}
use Rattle.rules.specs.Answers.{read_reply}
use Rattle.rules.specs.Sheet.{head_in, read_answer}
use Rattle.rules.proofs.Replies.{read-reply}
use Rattle.sheet.proofs.Readings.{refused_too, accepted_too}
use Rattle.sheet.proofs.reader.read.Goals as goal

pub returns-in_err-sheet : goal.returns-in_err-sheet
unfolding read_answer
returns-in_err-sheet c =
    let bs = c.args.bytes.now in
    let answer = refused_too bs (head_in bs) _ c.in_err-sheet.ensures (search rules) in
    record { answer = answer; reply = ap read_reply answer ∙ read-reply bs }

pub returns : goal.returns
unfolding read_answer
returns c =
    let bs = c.args.bytes.now in
    let answer = accepted_too bs (head_in bs) (search rules) (search rules) in
    record { answer = answer; reply = ap read_reply answer ∙ read-reply bs }
