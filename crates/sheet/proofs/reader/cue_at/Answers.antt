-- `cue_at` meets its contract: the entry at the position, or none past the last, or the refusal of reading.
-- Rests on Readings.antt, on `rules`, Replies, and on the contracts of `Sheet::read` and `entries`.
use Rattle.std.proofs.Common.{ltb, ap, ◌∙◌, rules}
use Rattle.std.proofs.lemmas.Iterator.Consumers.{YieldsList-from_first, nth_from_yields_List}
use Rattle.rules.specs.Answers.{entry_reply}
use Rattle.rules.specs.Sheet.{cues_in, entry_in, entry_if, entry_answer}
use Rattle.rules.proofs.Replies.{cue-reply}
use Rattle.sheet.proofs.Readings.{refused_too, accepted_too, entry_found}
use Rattle.sheet.proofs.reader.cue_at.Goals as goal

pub returns-in_err-sheet : goal.returns-in_err-sheet
unfolding entry_answer
returns-in_err-sheet c =
    let bs = c.args.bytes.now in
    let i = c.args.i in
    let answer = refused_too bs (entry_if (ltb i (cues_in bs)) (entry_in bs i)) _ c.in_err-sheet.ensures (search rules) in
    record { answer = answer; reply = ap entry_reply answer ∙ cue-reply bs i }

pub returns : goal.returns
unfolding entry_answer
returns c =
    let bs = c.args.bytes.now in
    let i = c.args.i in
    let found = entry_found bs _ i c.nth.result c.in_ok-sheet.ensures.same
    (nth_from_yields_List c.nth.result _ i c.nth.ensures.ran (YieldsList-from_first (λ e. e) (λ es. es) _ c.entries.ensures)) in
    let answer = accepted_too bs (entry_if (ltb i (cues_in bs)) (entry_in bs i)) (search rules) found in
    record { answer = answer; reply = ap entry_reply answer ∙ cue-reply bs i }
