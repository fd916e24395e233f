-- What a call of the writer promises: where a test refuses, nothing is written; where none does, the sheet is.
-- Rests on Accepted.antt, Calls.antt and on `rules`, Replies.
use Rattle.std.proofs.Common.{◌≡◌, ℕ, List, [], length, sym, ap, ◌∙◌, Result, Ok, Err}
use Rattle.rules.specs.Refusals.{first, answered}
use Rattle.rules.specs.Answers.{write_reply}
use Rattle.rules.specs.Sheet.{Lists, sheet_of, encode, lists_refusals, write_refusals, write_number, write_answer}
use Rattle.rules.specs.Sheet as sheet
use Rattle.rules.specs.declared.Refusal.{Refusal}
use Rattle.rules.proofs.Laid.{laid_out}
use Rattle.rules.proofs.Replies.{write-reply}
use Rattle.writer.specs.declared.output.Out.{Out}
use Rattle.writer.specs.Pieces.{written, left, Room, Wrote}
use Rattle.writer.specs.Promises.{Writing}
use Rattle.writer.proofs.Accepted.{laid}
use Rattle.writer.proofs.Calls.{refused_call, accepted_call, room_found}

-- The answer settles the reply.
promised : (x : Lists) (before after : List ℕ) (r : Result ℕ Refusal) → (r ≡ write_answer x (length before)) × (after ≡ sheet.written x before)
    → Writing x before after r
promised x before after r p = record { answer = p.0; reply = ap write_reply p.0 ∙ write-reply x (length before); space = p.1 }

module _ (x : Lists) (before : List ℕ) {w : Result (Unit {0}) Refusal} (tests : w ≡ answered (write_refusals x (length before)) tt) where
  -- A test refuses: nothing is written.
  pub wrote_nothing : (r : Result ℕ Refusal) (e : Refusal) → w ≡ Err e → r ≡ Err e → Writing x before before r
  unfolding write_answer sheet.written write_number
  wrote_nothing r e refused handed = promised x before before r (refused_call _ (encode (sheet_of x)) before e (sym tests ∙ refused) handed)

  module _ (passed : w ≡ Ok tt) where
    -- None does: the lists are kept.
    pub kept : first (lists_refusals x) ≡ 0
    unfolding write_refusals
    kept = (room_found (lists_refusals x) (length before) (length (encode (sheet_of x))) (sym tests ∙ passed)).0

    module _ {start : Out} (fresh : written start ≡ []) (all : left start ≡ before) where
      -- There is room for the sheet.
      pub room : Room start (laid_out x)
      unfolding write_refusals
      room = record { fits = rw (← laid x kept, all) (room_found (lists_refusals x) (length before) (length (encode (sheet_of x))) (sym tests ∙ passed)).1 }

      -- Once it is written, the promise is kept.
      pub wrote_sheet : {end : Out} → Wrote start (laid_out x) end → (after : List ℕ) → after ≡ end.space.now → (n : ℕ) → n ≡ length (written end)
          → Writing x before after (Ok n)
      unfolding write_answer sheet.written write_number
      wrote_sheet {end} v after held n count =
          promised x before after (Ok n)
          (accepted_call _ (encode (sheet_of x)) before (sym tests ∙ passed) {start = start} {end = end} fresh all (rw (laid x kept) v) after held n count)
