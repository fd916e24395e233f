-- What the answer of reading a sheet says of the other calls on the same bytes.
-- Rests on `rules`, Answering, and on the definitions of Reading.
use Rattle.std.proofs.Common.{◌≡◌, ℕ, zero, suc, ◌+◌, List, Option, Some, None, Result, Ok}
use Rattle.std.proofs.Common.{Err, ltb, refl, ap, ap₂, ◌∙◌, sym, arith, slice_get, option_map, lt-ltb, le-ltb}
use Rattle.std.proofs.lemmas.Bool.Decides.{nat_tests}
use Rattle.rules.specs.Refusals.{answered}
use Rattle.rules.specs.Sheet.{read_refusals, read_number, cues_in, entry_in, entry_if}
use Rattle.rules.specs.declared.Entry.{Entry}
use Rattle.rules.specs.declared.Refusal.{Refusal}
use Rattle.rules.proofs.Answering.{answered-alike, answered-free}
use Rattle.sheet.specs.Reading.{Reading, entries_from, entries_in}

module _ (bs : List ℕ) where
  -- What reading refuses is refused whatever is asked.
  pub refused_too : {A : Type 0} (a : A) (r : Refusal) {v : Result A Refusal} → Reading bs (Err r) → v ≡ Err r → v ≡ answered (read_refusals bs) a
  refused_too a r h e = e ∙ sym (answered-alike {A = Unit {0}} (read_refusals bs) tt a r (sym h.answer))

  -- Of what it accepts, the answer is what is asked for.
  pub accepted_too : {A : Type 0} (a : A) {v : A} → read_number bs ≡ 0 → v ≡ a → Ok v ≡ answered (read_refusals bs) a
  unfolding read_number
  accepted_too a none e = ap Ok e ∙ sym (answered-free (read_refusals bs) a none)

-- The entry at a position, if there is one.
entry_from : (bs : List ℕ) (i n k : ℕ) → slice_get (entries_from bs i n) k ≡ entry_if (ltb k n) (entry_in bs (i + k))
unfolding entries_from
entry_from bs i zero k = rw (le-ltb k 0 (omega arith))
entry_from bs i (suc n) zero =
    let here : i ≡ i + 0 = omega arith in
    rw (lt-ltb 0 (suc n) (omega arith)) (ap (λ j. Some (entry_in bs j)) here)
entry_from bs i (suc n) (suc k) =
    let here : suc i + k ≡ i + suc k = omega arith in
    let same : ltb k n ≡ ltb (suc k) (suc n) = grind (arith, nat_tests) in
    entry_from bs (suc i) n k ∙ ap₂ (λ b j. entry_if b (entry_in bs j)) same here

-- What a search for it finds in a sheet of these bytes.
same_option : {A : Type 0} (o : Option A) → option_map (λ x. x) o ≡ o
same_option None = refl
same_option (Some x) = refl

pub entry_found : (bs cs : List ℕ) (i : ℕ) (o : Option Entry) → cs ≡ bs → option_map (λ x. x) o ≡ slice_get (entries_in cs) i
    → o ≡ entry_if (ltb i (cues_in bs)) (entry_in bs i)
entry_found bs cs i o same e =
    let here : 0 + i ≡ i = omega arith in
    sym (same_option o) ∙ e ∙ ap (λ xs. slice_get (entries_in xs) i) same
    ∙ entry_from bs 0 (cues_in bs) i ∙ ap (λ j. entry_if (ltb i (cues_in bs)) (entry_in bs j)) here
