-- A call that writes bytes to the front of a lent space, or nothing if one of its tests applies: its answer, and what the space holds afterwards.
-- Rests on Over.antt and on `rules`, First and Answering.
use Rattle.std.proofs.Common.{◌≡◌, ℕ, zero, suc, ◌<◌, ◌≤◌, List, [], ◌∷◌, ◌++◌, length, drop, refl, sym, ◌∙◌, arith, ltb, ltb-false, Result, Ok, Err, take-append-drop}
use Rattle.rules.specs.Refusals.{Test, test, number, first, answered}
use Rattle.rules.specs.Sheet.{written_by}
use Rattle.rules.specs.declared.Refusal.{Refusal}
use Rattle.rules.proofs.First.{none-applies, first-before, first-after, number-above}
use Rattle.rules.proofs.Answering.{answered-alike, answered-free, first-accepted, first-refused}
use Rattle.writer.specs.declared.output.Out.{Out}
use Rattle.writer.specs.Pieces.{written, left, Wrote}

-- What is refused leaves the space as it was.
untouched : (k : ℕ) (bytes space : List ℕ) → 0 < k → space ≡ written_by k bytes space
unfolding written_by
untouched zero bytes space h = absurd (omega arith)
untouched (suc k) bytes space h = refl

module _ (xs : List Test) (bytes before : List ℕ) where
  -- A test refuses: the refusal is handed on, and nothing is written.
  pub refused_call : (e : Refusal) → answered {A = Unit {0}} xs tt ≡ Err e → {r : Result ℕ Refusal} → r ≡ Err e
      → (r ≡ answered xs (length bytes)) × (before ≡ written_by (first xs) bytes before)
  refused_call e found handed =
      let n : first xs ≡ number e = first-refused xs tt e found in
      (handed ∙ sym (answered-alike xs tt (length bytes) e found), untouched (first xs) bytes before (omega (arith, n, number-above e)))

  -- None does: once the bytes are written, their count is the answer.
  pub accepted_call : answered {A = Unit {0}} xs tt ≡ Ok tt → {start end : Out} → written start ≡ [] → left start ≡ before → Wrote start bytes end
      → (after : List ℕ) → after ≡ end.space.now → (n : ℕ) → n ≡ length (written end)
      → (Ok n ≡ answered xs (length bytes)) × (after ≡ written_by (first xs) bytes before)
  unfolding written_by
  accepted_call found {start} {end} fresh all w after held n count =
      let none : first xs ≡ 0 = first-accepted xs tt tt found in
      let front : written end ≡ bytes = w.written ∙ rw fresh refl in
      let rest : left end ≡ drop (length bytes) before = w.left ∙ rw all refl in (
        rw (count, front) (sym (answered-free xs (length bytes) none)),
        rw none (held ∙ sym (take-append-drop end.at end.space.now) ∙ rw (front, rest) refl),
      )

-- Where nothing refuses, and 22 was tried last: no test before it applies, and the space is as long as the bytes.
pub room_found : (xs : List Test) (space long : ℕ) → answered {A = Unit {0}} (xs ++ test Refusal.NoRoom (ltb space long) ∷ []) tt ≡ Ok tt → (first xs ≡ 0) × (long ≤ space)
room_found xs space long found = (kept, ltb-false space long (none-applies ys (sym (first-after xs ys (none-applies xs kept)) ∙ none)).0)
  where
    ys : List Test
    ys = test Refusal.NoRoom (ltb space long) ∷ []

    none : first (xs ++ ys) ≡ 0
    none = first-accepted (xs ++ ys) tt tt found

    split : (k : ℕ) → first xs ≡ k → first xs ≡ 0
    split zero e = e
    split (suc k) e = absurd (omega (arith, none, first-before xs ys k e))

    kept : first xs ≡ 0
    kept = split (first xs) refl
