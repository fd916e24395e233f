-- `call_after` meets its contract: each call of the reader is one step of the definition, and the last gives the answer.
-- Of `open` and `next` only the contracts are known.
use Rattle.std.proofs.Common.{◌≡◌, ℕ, ◌+◌, List, Result, Option, sym, ap, ◌∙◌, arith, add-one, Bor}
use Rattle.rules.specs.Answers.{place_after}
use Rattle.rules.specs.Sheet.{entry_answer}
use Rattle.rules.specs.declared.Entry.{Entry}
use Rattle.rules.specs.declared.Refusal.{Refusal}
use Rattle.cue_reader.specs.Driven.{place_at, call_answer}
use Rattle.cue_reader.specs.Promises.{ReaderCalled}
use Rattle.cue_reader.specs.declared.Reader.{Reader}
use Rattle.cue_reader.proofs.call_after.Goals as goal

-- ---- the definition, call by call

-- A reader on the bytes bs, at the place after k calls.
abbrev Driven : List ℕ → ℕ → Reader → Type 0
Driven bs k d = (d.sheet.now ≡ bs) × (d.at ≡ place_at bs k)

-- One that has just been opened.
begins : (bs : List ℕ) (d : Reader) → d.sheet.now ≡ bs → d.at ≡ 0 → Driven bs 0 d
unfolding place_at
begins bs d s e = (s, e)

-- The answer of its next call.
answered : (bs : List ℕ) (k : ℕ) (d : Reader) {a : Result (Option Entry) Refusal} (x : Reader) → Driven bs k d → ReaderCalled d a x → a ≡ call_answer bs k
unfolding call_answer
answered bs k d x at p = p.answer_is ∙ ap (λ (ys : List ℕ). entry_answer ys d.at) at.0 ∙ ap (entry_answer bs) at.1

-- And the reader after it.
goes_on : (bs : List ℕ) (k : ℕ) (d : Reader) {a : Result (Option Entry) Refusal} (x : Reader) → Driven bs k d → ReaderCalled d a x → Driven bs (k + 1) x
unfolding place_at call_answer
goes_on bs k d {a = a} x at p = (
  ap (λ (b : Bor (List ℕ)). b.now) p.sheet_is ∙ at.0,
  p.place_is ∙ ap (λ (i : ℕ). place_after i a) at.1 ∙ ap (place_after (place_at bs k)) (answered bs k d x at p) ∙ ap (place_at bs) (sym (add-one k)),
)

-- ---- the goals

pub loop-init : goal.loop-init
loop-init c = begins _ c.open-reader.result (ap (λ (b : Bor (List ℕ)). b.now) c.open-reader.ensures.bytes) c.open-reader.ensures.place

pub loop-preserved : goal.loop-preserved
loop-preserved c = goes_on _ _ _ _ c.loop.invariant c.next.ensures.promise

pub returns : goal.returns
returns c =
    record {
      answer = answered _ _ _ _ c.loop.invariant c.next-2.ensures.promise ∙ ap (call_answer c.args.sheet.now) (omega (arith, c.loop-test.false));
    }
