-- What is left to a loop over lists: the fractions that two lists of numbers give, and those of the logs that lengths cut out of bytes.
-- Rests on specs/Fractions.antt and Logs.antt.
use Rattle.std.proofs.Common.{◌≡◌, ℕ, ◌+◌, ◌<◌, ◌≤◌, min, List, [], ◌∷◌, map, length, get_or, take, drop, refl, sym, ap, ◌∙◌, ap₂, arith}
use Rattle.std.proofs.lemmas.List.{drop_more, drop_all, drop_min, take_min}
use Rattle.captures.specs.Logs.{fraction_of, logs_in}
use Rattle.captures.specs.Fractions.{fraction, fractions_in}

-- ---- two lists of numbers

-- Unless both have ended, the first fraction has their first numbers, 0 where there is none, and the rest is that of what is behind.
pub pairs-first : (ds js : List ℕ) → (length ds ≡ 0 → length js ≡ 0 → ⊥)
    → fractions_in ds js ≡ fraction (get_or ds 0 0) (get_or js 0 0) ∷ fractions_in (drop 1 ds) (drop 1 js)
unfolding fractions_in
pairs-first [] [] h = absurd (h refl refl)
pairs-first [] (j ∷ js) h = refl
pairs-first (d ∷ ds) [] h = refl
pairs-first (d ∷ ds) (j ∷ js) h = refl

-- Where both have, there is none.
pub pairs-ended : (ds js : List ℕ) → length ds ≡ 0 → length js ≡ 0 → fractions_in ds js ≡ []
unfolding fractions_in
pairs-ended [] [] h k = refl
pairs-ended [] (j ∷ js) h k = absurd (omega (arith, k))
pairs-ended (d ∷ ds) js h k = absurd (omega (arith, h))

-- What code knows that goes through both.
pub ruleset pairs_cut = (pairs-first, pairs-ended)

-- ---- logs one behind the other

-- From i on the first log has as many of the bytes as it is long, or all that there are.
pub logs-from : (ns bs front behind : List ℕ) (i k : ℕ) → i < length ns → k ≡ min (length bs) (get_or ns i 0)
    → front ≡ take k bs → behind ≡ drop k bs
    → map fraction_of (logs_in (drop i ns) bs) ≡ fraction_of front ∷ map fraction_of (logs_in (drop (i + 1) ns) behind)
unfolding logs_in
logs-from ns bs front behind i k h ke fe be =
    let n : ℕ = get_or ns i 0 in
    let cut : k ≡ min n (length bs) = omega (arith, ke) in
    ap (λ ks. map fraction_of (logs_in ks bs)) (drop_more ns i 0 h)
    ∙ ap₂ (λ l ks. fraction_of l ∷ map fraction_of (logs_in (drop (i + 1) ns) ks))
    (sym (fe ∙ rw cut (take_min n bs)))
    (sym (be ∙ rw cut (drop_min n bs)))

-- Behind the last length there are none.
pub logs-ended : (ns bs : List ℕ) (i : ℕ) → length ns ≤ i → map fraction_of (logs_in (drop i ns) bs) ≡ []
unfolding logs_in
logs-ended ns bs i h = ap (λ ks. map fraction_of (logs_in ks bs)) (drop_all i ns h)
