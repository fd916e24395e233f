-- Lists kept from the front as far as there is room, and that cutting numbers to one above their limit changes no test.
-- Rests on specs, Told.
use Rattle.std.proofs.Common.{◌≡◌, refl, ap, ap₂, sym, ◌∙◌, ℕ, zero, suc, ◌<◌, ◌≤◌, min, Bool, false, ◌||◌, ltb, lt-ltb, le-ltb, List, [], ◌∷◌, ◌++◌, take, drop, set, length, length-append, length-take, arith}
use Rattle.std.proofs.lemmas.List.{length-drop}
use Rattle.std.proofs.Math.Seq.{take-nil, drop-nil}
use Rattle.std.proofs.lemmas.Bool.{ltb-false}
use native.Mathlib.Decide.{dec_le}
use Rattle.rules.specs.Refusals.{some_above}
use Rattle.rules.proofs.Booleans.{or_split}
use Rattle.csv_rows.specs.Told.{cut_all, stored}

-- What is left out of the front of a list is left out of more.
kept-again : {A : Type 0} (n : ℕ) (xs ys : List A) → take n (take n xs ++ ys) ≡ take n (xs ++ ys)
kept-again zero xs ys = refl
kept-again (suc n) [] ys = refl
kept-again {A} (suc n) (x ∷ xs) ys = ap (λ (l : List A). x ∷ l) (kept-again n xs ys)

-- One item more, behind those that are kept of a list or behind all of them.
pub kept-next : {A : Type 0} (n : ℕ) {xs : List A} (ys : List A) (x : A) → xs ≡ take n ys → take n (xs ++ x ∷ []) ≡ take n (ys ++ x ∷ [])
kept-next {A} n ys x h = ap (λ (l : List A). take n (l ++ x ∷ [])) h ∙ kept-again n ys (x ∷ [])

-- ---- numbers in a list that is lent

-- Of nothing, nothing.
pub stored-none : (list : List ℕ) → list ≡ stored list []
unfolding stored
stored-none list = ap (λ (l : List ℕ). l ++ list) (sym (take-nil (length list)))

-- The list stays as long.
pub stored-long : (list xs : List ℕ) → length (stored list xs) ≡ length list
unfolding stored
stored-long list xs =
    omega (arith, length-append (take (length list) xs) (drop (length xs) list), length-take (length list) xs, length-drop (length xs) list)

-- One number more, at its place, if there is one.
pub stored-next : (list xs : List ℕ) (x : ℕ) → set (stored list xs) (length xs) x ≡ stored list (xs ++ x ∷ [])
unfolding stored
stored-next [] xs x = ap (λ (l : List ℕ). set l (length xs) x) (drop-nil (length xs)) ∙ sym (drop-nil (length (xs ++ x ∷ [])))
stored-next (y ∷ list) [] x = ap (λ (l : List ℕ). x ∷ l ++ list) (sym (take-nil (length list)))
stored-next (y ∷ list) (z ∷ xs) x = ap (λ (l : List ℕ). z ∷ l) (stored-next list xs x)

-- ---- numbers cut

-- The test for a number above the limit finds the same.
cut-test : (limit m x : ℕ) → limit < m → ltb limit (min x m) ≡ ltb limit x
cut-test limit m x h = split (dec_le x limit)
  where
    split : Dec (x ≤ limit) → ltb limit (min x m) ≡ ltb limit x
    split (yes k) = le-ltb limit (min x m) (omega arith) ∙ sym (le-ltb limit x k)
    split (no k) = lt-ltb limit (min x m) (omega arith) ∙ sym (lt-ltb limit x (omega arith))

-- Some number is above the limit if and only if some was before the cut.
pub cut-same : (limit m : ℕ) (xs : List ℕ) → limit < m → some_above limit (cut_all m xs) ≡ some_above limit xs
unfolding some_above cut_all
cut-same limit m [] h = refl
cut-same limit m (x ∷ xs) h = ap₂ (λ (a b : Bool). a || b) (cut-test limit m x h) (cut-same limit m xs h)

-- Where none is above the limit, nothing is cut.
pub cut-none : (limit m : ℕ) (xs : List ℕ) → limit < m → some_above limit xs ≡ false → cut_all m xs ≡ xs
unfolding some_above cut_all
cut-none limit m [] h e = refl
cut-none limit m (x ∷ xs) h e =
    let here = or_split (ltb limit x) _ e in
    let le : x ≤ limit = ltb-false limit x here.0 in
    ap₂ (λ (y : ℕ) (ys : List ℕ). y ∷ ys) (omega arith) (cut-none limit m xs h here.1)
