-- What a reader's call promises follows from its answer, its place and its sheet.
-- Rests on `rules`, Replies for the number, and on Moved.antt; else by the cases of an answer.
use mathlib.Core.Path.{◌≡◌, refl, sym, ap, ◌∙◌}
use mathlib.Core.Bool.{Bool, true, false}
use mathlib.Core.List.{List}
use Prim.Native.Nat.{ℕ}
use lib.Dec.{ltb}
use borrow.Author.Tests.{ltb-true}
use Rattle.rules.specs.Answers.{entry_reply, handed_over, place_after}
use Rattle.rules.specs.Sheet.{cues_in, read_refusals, read_number, entry_in, entry_if, entry_answer}
use Rattle.rules.specs.declared.Entry.{Entry}
use Rattle.rules.specs.declared.Refusal.{Refusal}
use Rattle.rules.proofs.Answering.{Comes, accepts, refuses, comes}
use Rattle.std.specs.Prelude.{Result, Option, Ok}
use Rattle.rules.proofs.Replies.{cue-reply}
use Rattle.cue_reader.specs.Promises.{HasCue, ReaderCalled}
use Rattle.cue_reader.specs.declared.Reader.{Reader}
use Rattle.cue_reader.proofs.Moved.{before-the-last}

-- An answer without a cue: cue 0, 0 ways, the place as it was.
abbrev Keeps : ℕ → Result (Option Entry) Refusal → Type 0
Keeps i a = ((handed_over a).cue ≡ 0) × (((handed_over a).ways ≡ 0) × (place_after i a ≡ i))

-- Refused or past the last there is no cue.
keeps-at : (bs : List ℕ) (i : ℕ) → (HasCue bs i → ⊥) → Keeps i (entry_answer bs i)
unfolding entry_answer read_number
keeps-at bs i none = split (comes (read_refusals bs) (entry_if (ltb i (cues_in bs)) (entry_in bs i)))
  where
    there : (b : Bool) → ltb i (cues_in bs) ≡ b → read_number bs ≡ 0 → entry_answer bs i ≡ Ok (entry_if b (entry_in bs i)) → Keeps i (entry_answer bs i)
    there true q n s = absurd (none (n, ltb-true i (cues_in bs) q))
    there false q n s = rw s (refl, (refl, refl))

    split : Comes (read_refusals bs) (entry_if (ltb i (cues_in bs)) (entry_in bs i)) → Keeps i (entry_answer bs i)
    split (accepts n s) = there (ltb i (cues_in bs)) refl n s
    split (refuses r n s) = rw s (refl, (refl, refl))

pub called : (d x : Reader) (a : Result (Option Entry) Refusal) → a ≡ entry_answer d.sheet.now d.at
    → x.sheet ≡ d.sheet → x.at ≡ place_after d.at (entry_answer d.sheet.now d.at) → ReaderCalled d a x
called d x a answer sheet place =
    let bs = d.sheet.now in
    let i = d.at in
    record {
      answer_is = answer;
      sheet_is = sheet;
      place_is = place ∙ sym (ap (place_after i) answer);
      numbered = ap entry_reply answer ∙ cue-reply bs i;
      hands_over = λ has. let cue = before-the-last bs has.0 i has.1 in (answer ∙ cue, place ∙ ap (place_after i) cue);
      keeps = λ none.
          let k = keeps-at bs i none in
          (ap (λ (r : Result (Option Entry) Refusal). (handed_over r).cue) answer ∙ k.0, (ap (λ (r : Result (Option Entry) Refusal). (handed_over r).ways) answer ∙ k.1.0, place ∙ k.1.1));
    }
