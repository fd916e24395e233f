-- `next` meets its contract: what it promises follows from the answer, the place that the answer leaves, and the sheet that stays.
-- Rests on Promised.antt, Moved.antt and the contract of `sheet::reader::cue_at`.
use Rattle.std.proofs.Common.{◌≡◌, ℕ, ◌+◌, refl, sym, ap, ◌∙◌, arith, add-one, rules, Some, None, Ok, Err, Result, Option}
use Rattle.rules.specs.Answers.{place_after}
use Rattle.rules.specs.declared.Entry.{Entry}
use Rattle.rules.specs.declared.Refusal.{Refusal}
use Rattle.cue_reader.proofs.Moved.{handed-early}
use Rattle.cue_reader.proofs.Promised.{called}
use Rattle.cue_reader.proofs.Reader.next.Goals as goal

pub overflow_add-self : goal.overflow_add-self
overflow_add-self c =
    let cue : c.cue_at-answer.result ≡ Ok (Some c.in-Ok-Some.field-0-0) = search rules in
    let early = handed-early c.args.self.now.sheet.now c.args.self.now.at _ (sym c.cue_at-answer.ensures.answer ∙ cue) in
    record { fits = omega (arith, early) }

-- The place that a cue leaves, and the one that any other answer leaves.
moved : (i : ℕ) (a b : Result (Option Entry) Refusal) (e : Entry) → a ≡ b → a ≡ Ok (Some e) → i + 1 ≡ place_after i b
moved i a b e h k = add-one i ∙ ap (place_after i) (sym k ∙ h)

pub returns-in-Ok-Some : goal.returns-in-Ok-Some
returns-in-Ok-Some c =
    let cue : c.cue_at-answer.result ≡ Ok (Some c.in-Ok-Some.field-0-0) = search rules in
    record { promise = called _ _ _ c.cue_at-answer.ensures.answer refl (moved _ _ _ _ c.cue_at-answer.ensures.answer cue) }

pub returns : goal.returns
returns c =
    let past : c.cue_at-answer.result ≡ Ok None = search rules in
    let i = c.args.self.now.at in
    record { promise = called _ _ _ c.cue_at-answer.ensures.answer refl (ap (place_after i) (sym past ∙ c.cue_at-answer.ensures.answer)) }

pub returns-2 : goal.returns-2
returns-2 c =
    let refused : (r : Refusal) × (c.cue_at-answer.result ≡ Err r) = search rules in
    let i = c.args.self.now.at in
    record { promise = called _ _ _ c.cue_at-answer.ensures.answer refl (ap (place_after i) (sym refused.1 ∙ c.cue_at-answer.ensures.answer)) }
