-- THE FIRST RECORD (RULES 13.5): it has the shape exactly if it is `run` and two numbers, or these and `1`; in the second form the allowance is a share.
-- Rests on the shapes alone (specs/Shapes.antt), and on First.antt for the record that is told.
use mathlib.Core.Path.{◌≡◌, refl, sym, subst}
use mathlib.Core.Logic.{◌↔◌}
use mathlib.Core.Bool.{true, ◌&&◌, true≢false}
use mathlib.Core.List.{List, [], ◌∷◌}
use Prim.Native.Nat.{ℕ, ◌<◌, ◌≤◌}
use native.Mathlib.Omega.{arith}
use lib.ListN.{length, get_or}
use Rattle.rules.specs.Sheet.{same_numbers}
use Rattle.rules.specs.Text.{bytes, value_after, decimal_value}
use Rattle.rules.proofs.Booleans.{and_split, and_both}
use Rattle.rules.proofs.Sheets.{same-equal}
use Rattle.decimal.specs.Numerals.{is_numeral}
use Rattle.csv_text.specs.Cut.{records_in}
use Rattle.csv_text.specs.Shapes.{is_mode, is_run, limits_said, misread, sheet_said, sheet_in}
use Rattle.csv_text.proofs.First.{misread-none, misread_first}

-- ---- its two forms

-- `run`, allowance and budget; where the allowance is a share, `1` behind them.
pub data RunForm : List (List ℕ) → Type 0 where
  by-distance : {a b : List ℕ} → is_numeral a ≡ true → is_numeral b ≡ true → RunForm (bytes "run" ∷ a ∷ b ∷ [])
  by-share : {a b : List ℕ} → is_numeral a ≡ true → is_numeral b ≡ true → RunForm (bytes "run" ∷ a ∷ b ∷ bytes "1" ∷ [])

-- Two numbers, and what may stand behind them.
mode-form : (a b : List ℕ) (fs : List (List ℕ)) → is_numeral a ≡ true → is_numeral b ≡ true → is_mode fs ≡ true → RunForm (bytes "run" ∷ a ∷ b ∷ fs)
unfolding is_mode
mode-form a b [] h k m = by-distance h k
mode-form a b (f ∷ []) h k m = subst (λ (x : List ℕ). RunForm (bytes "run" ∷ a ∷ b ∷ x ∷ [])) (sym (same-equal f (bytes "1") m)) (by-share h k)
mode-form a b (f ∷ g ∷ fs) h k m = absurd (true≢false (sym m))

-- A record of the shape is of one of them.
pub run-form : (r : List (List ℕ)) → is_run r ≡ true → RunForm r
unfolding is_run
run-form [] h = absurd (true≢false (sym h))
run-form (w ∷ []) h = absurd (true≢false (sym h))
run-form (w ∷ a ∷ []) h = absurd (true≢false (sym h))
run-form (w ∷ a ∷ b ∷ fs) h =
    let word = and_split (same_numbers w (bytes "run")) (is_numeral a && (is_numeral b && is_mode fs)) h in
    let first = and_split (is_numeral a) (is_numeral b && is_mode fs) word.1 in
    let second = and_split (is_numeral b) (is_mode fs) first.1 in
    subst (λ (x : List ℕ). RunForm (x ∷ a ∷ b ∷ fs)) (sym (same-equal w (bytes "run") word.0)) (mode-form a b fs first.0 second.0 second.1)

-- And the other way.
form-run : (r : List (List ℕ)) → RunForm r → is_run r ≡ true
unfolding is_run is_mode bytes same_numbers
form-run _ (by-distance h k) = and_both _ _ h (and_both _ _ k refl)
form-run _ (by-share h k) = and_both _ _ h (and_both _ _ k refl)

-- THE SHAPE IS THESE TWO FORMS.
pub run-exactly : (r : List (List ℕ)) → (is_run r ≡ true) ↔ RunForm r
run-exactly r = (run-form r, form-run r)

-- So 23 tells the first record exactly if it is of neither.
pub run-misread : (t : List ℕ) → (misread t ≡ 1) ↔ (RunForm (get_or (records_in t) 0 []) → ⊥)
unfolding is_run
run-misread t = (
  (λ e f. ((misread_first t 0).0 e).amiss (there (records_in t) f, form-run _ f)),
  (λ n.
      (misread_first t 0).1
      (record { asked = omega arith; before = λ j h. absurd (omega arith); amiss = λ h. n (run-form _ h.1) })),
)
  where
    there : (rs : List (List (List ℕ))) → RunForm (get_or rs 0 []) → 0 < length rs
    there [] f = absurd (true≢false (sym (form-run [] f)))
    there (r ∷ rs) f = omega arith

-- ---- the mode that it says

-- A first record and the mode that it says: a share exactly if a third number stands there, a distance exactly if there are but two.
pub record ModeSaid (r : List (List ℕ)) (mode : ℕ) : Type 0 where
  pub share : (mode ≡ 1) ↔ (length r ≡ 4)
  pub distance : (mode ≡ 0) ↔ (length r ≡ 3)
  pub either : mode ≤ 1

-- So for either form.
form-mode : (r : List (List ℕ)) → RunForm r → ModeSaid r (limits_said r).mode
unfolding limits_said bytes value_after decimal_value
form-mode _ (by-distance h k) =
    record { share = ((λ e. omega arith), λ e. omega arith); distance = ((λ e. refl), λ e. refl); either = omega arith }
form-mode _ (by-share h k) =
    record { share = ((λ e. refl), λ e. refl); distance = ((λ e. omega arith), λ e. omega arith); either = omega arith }

-- So for every record of the shape.
pub run-mode : (r : List (List ℕ)) → is_run r ≡ true → ModeSaid r (limits_said r).mode
run-mode r h = form-mode r (run-form r h)

-- A TEXT OF WHICH NO RECORD IS MISREAD says a share exactly if its first record has a third number, and else a distance.
pub text-mode : (t : List ℕ) → misread t ≡ 0 → ModeSaid (get_or (records_in t) 0 []) (sheet_in t).limits.mode
unfolding sheet_in sheet_said
text-mode t e = run-mode _ ((misread-none t).0 e 0 (omega arith)).1
