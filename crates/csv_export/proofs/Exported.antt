-- What an export promises: where a test refuses, nothing is written; where none does, the text is.
-- Rests on Words.antt, on `writer`, Calls, on `rules`, Answering, and on `csv_text`, Imports.
use Rattle.std.proofs.Common.{◌≡◌, ℕ, List, [], ◌∷◌, length, ltb, Result, Ok, Err, sym, ap, ◌∙◌}
use Rattle.rules.specs.Refusals.{Test, test, first, answered}
use Rattle.rules.specs.Answers.{write_reply}
use Rattle.rules.specs.Sheet.{AllBelow, decode, read_refusals, read_number, written_by}
use Rattle.rules.specs.declared.Refusal.{Refusal}
use Rattle.rules.proofs.Answering.{answered-passed, answered-before, first-accepted, alone}
use Rattle.sheet.specs.Reading.{Reading}
use Rattle.sheet.specs.declared.accepted.Sheet.{Sheet}
use Rattle.writer.specs.declared.output.Out.{Out}
use Rattle.writer.specs.Pieces.{written, left, Room, Wrote}
use Rattle.writer.proofs.Calls.{refused_call, accepted_call, room_found}
use Rattle.csv_text.specs.Texts.{csv_of}
use Rattle.csv_text.specs.Calls.{export_refusals, export_number, export_answer, exported}
use Rattle.csv_text.specs.Promises.{Exporting}
use Rattle.csv_text.proofs.Imports.{export-replies}
use Rattle.csv_export.specs.Parts.{sheet_text}
use Rattle.csv_export.proofs.Words.{text_parts}

module _ (bs before : List ℕ) where
  abbrev text : List ℕ
  text = csv_of (decode bs)

  abbrev tests : List Test
  tests = export_refusals bs (length before)

  -- 22, which is tried last.
  abbrev of_space : List Test
  of_space = test Refusal.NoRoom (ltb (length before) (length text)) ∷ []

  -- The answer settles the reply.
  promised : (after : List ℕ) (r : Result ℕ Refusal) → (r ≡ answered tests (length text)) × (after ≡ written_by (first tests) text before)
      → Exporting bs before after r
  unfolding export_answer export_number exported
  promised after r p = record { answer = p.0; reply = ap write_reply p.0 ∙ export-replies bs (length before); space = p.1 }

  -- A test of reading refuses: nothing is written.
  pub refused_sheet : (e : Refusal) → Reading bs (Err e) → (r : Result ℕ Refusal) → r ≡ Err e → Exporting bs before before r
  unfolding export_refusals
  refused_sheet e read r handed =
      promised before r (refused_call tests text before e (answered-before (read_refusals bs) of_space tt tt e (sym read.answer)) handed)

  module _ {s : Sheet} (read : Reading bs (Ok s)) (below : AllBelow 256 bs) {long : ℕ} (counted : long ≡ length (sheet_text s.bytes.now))
      {w : Result (Unit {0}) Refusal} (tested : w ≡ answered (test Refusal.NoRoom (ltb (length before) long) ∷ []) tt) where
    accepted : read_number bs ≡ 0
    unfolding read_number
    accepted = first-accepted (read_refusals bs) tt tt (sym read.answer)

    -- What is written is the text.
    whole : sheet_text s.bytes.now ≡ text
    whole = ap sheet_text read.same ∙ sym (text_parts bs below accepted)

    found : answered {A = Unit {0}} tests tt ≡ w
    unfolding export_refusals
    found =
        answered-passed (read_refusals bs) of_space tt tt tt (sym read.answer)
        ∙ sym (alone (test Refusal.NoRoom (ltb (length before) (length text))) _ (ap (ltb (length before)) (counted ∙ ap length whole)) w tested)

    -- That of the space refuses: nothing is written.
    pub refused_space : (e : Refusal) → w ≡ Err e → (r : Result ℕ Refusal) → r ≡ Err e → Exporting bs before before r
    refused_space e refused r handed = promised before r (refused_call tests text before e (found ∙ refused) handed)

    module _ (passed : w ≡ Ok tt) {start : Out} (fresh : written start ≡ []) (all : left start ≡ before) where
      -- None does: there is room for the text.
      pub room : Room start (sheet_text s.bytes.now)
      unfolding export_refusals
      room = record { fits = rw (whole, all) (room_found (read_refusals bs) (length before) (length text) (found ∙ passed)).1 }

      -- Once it is written, the promise is kept.
      pub wrote_text : {end : Out} → Wrote start (sheet_text s.bytes.now) end → (after : List ℕ) → after ≡ end.space.now
          → (n : ℕ) → n ≡ length (written end) → Exporting bs before after (Ok n)
      wrote_text {end} v after held n count =
          promised after (Ok n) (accepted_call tests text before (found ∙ passed) {start = start} {end = end} fresh all (rw whole at v) after held n count)
