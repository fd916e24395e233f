-- What a reader's call promises (RULES 7.11, 7.12).
-- Rests on `rules`, Answers for what each answer says and Sheet for the answer itself.
use Rattle.std.specs.Prelude.{◌≡◌, Option, Some, Result, Ok, List, ℕ, suc, ◌<◌}
use Rattle.rules.specs.Answers.{counted_by, entry_reply, handed_over, place_after}
use Rattle.rules.specs.Sheet.{cues_in, read_number, entry_in, entry_answer}
use Rattle.rules.specs.declared.Entry.{Entry}
use Rattle.rules.specs.declared.Refusal.{Refusal}
use Rattle.cue_reader.specs.declared.Reader.{Reader}

-- Position i of an accepted sheet's contents has a cue.
abbrev pub HasCue : List ℕ → ℕ → Type 0
HasCue bs i = (read_number bs ≡ 0) × (i < cues_in bs)

-- A call on the reader d with the answer a, which leaves the reader x.
pub record ReaderCalled (d : Reader) (a : Result (Option Entry) Refusal) (x : Reader) : Type 0 where
  -- The answer is the rules' answer at the reader's place.
  pub answer_is : a ≡ entry_answer d.sheet.now d.at
  -- The sheet stays.
  pub sheet_is : x.sheet ≡ d.sheet
  -- The position moves on by one for a cue, else it stays.
  pub place_is : x.at ≡ place_after d.at a
  -- The number is that of reading the sheet, 0 if it is not refused.
  pub numbered : entry_reply a ≡ counted_by (read_number d.sheet.now) 0
  -- A cue is handed over: the one at the reader's position, which moves on.
  pub hands_over : HasCue d.sheet.now d.at → (a ≡ Ok (Some (entry_in d.sheet.now d.at))) × (x.at ≡ suc d.at)
  -- Refused or past the last cue: cue 0 without ways, and the position stays.
  pub keeps : (HasCue d.sheet.now d.at → ⊥) → ((handed_over a).cue ≡ 0) × (((handed_over a).ways ≡ 0) × (x.at ≡ d.at))
