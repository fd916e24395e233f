-- A reader that is called again and again hands over the cues of its sheet in order, one at each call (RULES 7.12).
-- Rests on `rules`, ReaderCalls, and on Moved.antt: what a call at each position gives.
use mathlib.Core.Path.{◌≡◌, refl, sym, ap, ◌∙◌}
use mathlib.Core.List.{List}
use Prim.Native.Nat.{ℕ, zero, suc, ◌≤◌}
use native.Mathlib.Decide.{dec_le}
use native.Mathlib.Nat.{le_refl}
use native.Mathlib.Omega.{arith}
use Rattle.rules.specs.Answers.{place_after}
use Rattle.rules.specs.Sheet.{cues_in, read_number, entry_answer}
use Rattle.rules.proofs.ReaderCalls.{refused-everywhere, past-the-last}
use Rattle.cue_reader.specs.Driven.{place_at, call_answer}
use Rattle.cue_reader.proofs.Moved.{before-the-last}

-- A refused sheet keeps the reader at its first place, however often it is called.
pub refused-stays : (bs : List ℕ) (n : ℕ) → read_number bs ≡ suc n → (k : ℕ) → place_at bs k ≡ 0
unfolding place_at
refused-stays bs n refused zero = refl
refused-stays bs n refused (suc k) = rw ((refused-everywhere bs n refused).2 (place_at bs k)) (refused-stays bs n refused k)

module _ (bs : List ℕ) (accepted : read_number bs ≡ 0) where
  -- Up to the last cue the place is the number of calls.
  pub counts_calls : (k : ℕ) → k ≤ cues_in bs → place_at bs k ≡ k
  unfolding place_at
  counts_calls zero h = refl
  counts_calls (suc k) h = rw (counts_calls k (omega arith), before-the-last bs accepted k (omega arith))

  -- Past the last cue the reader keeps its place.
  pub past_stays : (k : ℕ) → cues_in bs ≤ k → place_at bs k ≡ cues_in bs
  unfolding place_at
  past_stays zero h = omega arith
  past_stays (suc k) h =
      elim (dec_le (cues_in bs) k) as (λ _. place_after (place_at bs k) (entry_answer bs (place_at bs k)) ≡ cues_in bs) [
        | yes late ↦ rw (past_stays k late, past-the-last bs accepted (cues_in bs) (le_refl _))
        | no early ↦ let last : suc k ≡ cues_in bs = omega arith in counts_calls (suc k) (omega arith) ∙ last
      ]

-- IN ORDER: the answer of each call is that of the cue at its number in the contents, past the last and for a refused sheet too.
in-order-by : (bs : List ℕ) (n : ℕ) → read_number bs ≡ n → (k : ℕ) → call_answer bs k ≡ entry_answer bs k
unfolding call_answer
in-order-by bs zero accepted k =
    elim (dec_le (cues_in bs) k) as (λ _. entry_answer bs (place_at bs k) ≡ entry_answer bs k) [
      | yes late ↦ ap (entry_answer bs) (past_stays bs accepted k late)
          ∙ past-the-last bs accepted (cues_in bs) (le_refl _) ∙ sym (past-the-last bs accepted k late)
      | no early ↦ ap (entry_answer bs) (counts_calls bs accepted k (omega arith))
    ]
in-order-by bs (suc n) refused k = let r = refused-everywhere bs n refused in r.2 (place_at bs k) ∙ sym (r.2 k)

pub in_order : (bs : List ℕ) (k : ℕ) → call_answer bs k ≡ entry_answer bs k
in_order bs k = in-order-by bs (read_number bs) refl k
