-- Numbers as bytes: laws of little, value, field and column (specs/Sheet.antt), for any list of numbers below 256.
-- Rests on the list laws of the library and on nothing else of this crate.
use mathlib.Core.Path.{◌≡◌, refl, sym, ap, ap₂, ◌∙◌}
use mathlib.Core.List.{List, [], ◌∷◌, ◌++◌}
use Prim.Native.Nat.{ℕ, zero, suc, ◌+◌, ◌*◌, ◌/◌, ◌%◌, ◌^◌, ◌<◌, ◌≤◌}
use native.Mathlib.Nat.{add-zero, pow-suc, mul-suc, zero-lt-suc, one-le-pow}
use native.Mathlib.Omega.{arith}
use lib.ListN.{length, get_or, take, drop, length-drop}
use lib.Seq.{take-add, drop-drop, take-take, length-take-le}
use Rattle.rules.specs.Sheet.{little, value, field, column, AllBelow}

-- ---- numbers below a limit

-- Two lists below a limit, joined.
-- Each element is below a limit, so all are.
pub each_below : (m : ℕ) (xs : List ℕ) → ((i : ℕ) → get_or xs i 0 < m) → AllBelow m xs
each_below m [] h = tt
each_below m (x ∷ xs) h = (h 0, each_below m xs (λ i. h (suc i)))

pub below-append : (m : ℕ) (xs ys : List ℕ) → AllBelow m xs → AllBelow m ys → AllBelow m (xs ++ ys)
below-append m [] ys h k = k
below-append m (x ∷ xs) ys h k = (h.0, below-append m xs ys h.1 k)

-- The rest of a list below a limit.
pub below-drop : (m i : ℕ) (xs : List ℕ) → AllBelow m xs → AllBelow m (drop i xs)
below-drop m zero xs h = h
below-drop m (suc i) [] h = h
below-drop m (suc i) (x ∷ xs) h = below-drop m i xs h.1

-- The front of a list below a limit.
pub below-take : (m i : ℕ) (xs : List ℕ) → AllBelow m xs → AllBelow m (take i xs)
below-take m zero xs h = tt
below-take m (suc i) [] h = tt
below-take m (suc i) (x ∷ xs) h = (h.0, below-take m i xs h.1)

-- A higher limit.
pub below-mono : (m n : ℕ) (xs : List ℕ) → m ≤ n → AllBelow m xs → AllBelow n xs
below-mono m n [] le h = tt
below-mono m n (x ∷ xs) le h = (omega arith, below-mono m n xs le h.1)

-- ---- one number

-- So many bytes as asked for.
pub length-little : (k x : ℕ) → length (little k x) ≡ k
unfolding little
length-little zero x = refl
length-little (suc k) x = ap suc (length-little k (x / 256))

-- They are bytes.
pub little-bytes : (k x : ℕ) → AllBelow 256 (little k x)
unfolding little
little-bytes zero x = tt
little-bytes (suc k) x = (omega arith, little-bytes k (x / 256))

-- The bytes of a number that fits give it back.
pub value-little : (k x : ℕ) → x < 256 ^ k → value (little k x) ≡ x
unfolding little value
value-little zero x h = omega arith
value-little (suc k) x h =
    let fits : x / 256 < 256 ^ k = omega (arith, pow-suc 256 k) in
    omega (arith, value-little k (x / 256) fits)

-- The number that bytes give has these bytes.
pub little-value : (bs : List ℕ) → AllBelow 256 bs → little (length bs) (value bs) ≡ bs
unfolding little value
little-value [] h = refl
little-value (b ∷ bs) h =
    let low : (b + 256 * value bs) % 256 ≡ b = omega arith in
    let high : (b + 256 * value bs) / 256 ≡ value bs = omega arith in
    ap₂ (λ (x : ℕ) (r : List ℕ). x ∷ r) low (ap (λ (y : ℕ). little (length bs) y) high ∙ little-value bs h.1)

-- The first k bytes give a number of k bytes.
pub value-below : (k : ℕ) (bs : List ℕ) → AllBelow 256 bs → value (take k bs) < 256 ^ k
unfolding value
value-below zero bs h = omega arith
value-below (suc k) [] h = one-le-pow (suc k) 256 (zero-lt-suc 255)
value-below (suc k) (b ∷ bs) h = omega (arith, pow-suc 256 k, value-below k bs h.1)

-- ---- a number at a position

-- Dropping bytes moves the position.
pub field-drop : (k m i : ℕ) (bs : List ℕ) → field k (m + i) bs ≡ field k i (drop m bs)
unfolding field
field-drop k m i bs = ap (λ (r : List ℕ). value (take k r)) (sym (drop-drop i m bs))

-- What stands behind the bytes of a number does not count.
pub field-take : (k i m : ℕ) (bs : List ℕ) → i + k ≤ m → field k i (take m bs) ≡ field k i bs
unfolding field
field-take k i m bs h = ap value (front k i m bs h)
  where
    front : (k i m : ℕ) (bs : List ℕ) → i + k ≤ m → take k (drop i (take m bs)) ≡ take k (drop i bs)
    front k zero m bs h = take-take k m bs (omega arith)
    front k (suc i) zero bs h = absurd (omega arith)
    front k (suc i) (suc m) [] h = refl
    front k (suc i) (suc m) (b ∷ bs) h = front k i m bs (omega arith)

-- A number of k bytes.
pub field_below : (k i : ℕ) (bs : List ℕ) → AllBelow 256 bs → field k i bs < 256 ^ k
unfolding field
field_below k i bs h = value-below k (drop i bs) (below-drop 256 i bs h)

-- The bytes of the number at a position are those that stand there.
pub little-field : (k i : ℕ) (bs : List ℕ) → AllBelow 256 bs → i + k ≤ length bs → little k (field k i bs) ≡ take k (drop i bs)
unfolding field
little-field k i bs h long =
    let part : List ℕ = take k (drop i bs) in
    let full : length part ≡ k = length-take-le k (drop i bs) (omega (arith, length-drop i bs)) in
    ap (λ (j : ℕ). little j (value part)) (sym full) ∙ little-value part (below-take 256 k (drop i bs) (below-drop 256 i bs h))

-- ---- numbers at equal distances

-- So many numbers as asked for.
pub length-column : (k stride i n : ℕ) (bs : List ℕ) → length (column k stride i n bs) ≡ n
unfolding column
length-column k stride i zero bs = refl
length-column k stride i (suc n) bs = ap suc (length-column k stride (i + stride) n bs)

-- Each is a number of k bytes.
pub column-below : (k stride i n : ℕ) (bs : List ℕ) → AllBelow 256 bs → AllBelow (256 ^ k) (column k stride i n bs)
unfolding column
column-below k stride i zero bs h = tt
column-below k stride i (suc n) bs h = (field_below k i bs h, column-below k stride (i + stride) n bs h)

-- Dropping bytes moves the position.
pub column-drop : (k stride m i n : ℕ) (bs : List ℕ) → column k stride (m + i) n bs ≡ column k stride i n (drop m bs)
unfolding column
column-drop k stride m i zero bs = refl
column-drop k stride m i (suc n) bs =
    let moved : m + i + stride ≡ m + (i + stride) = omega arith in
    ap₂ (λ (x : ℕ) (r : List ℕ). x ∷ r) (field-drop k m i bs)
    (ap (λ (j : ℕ). column k stride j n bs) moved ∙ column-drop k stride m (i + stride) n bs)

-- From a position on.
pub column-at : (k stride m n : ℕ) (bs : List ℕ) → column k stride m n bs ≡ column k stride 0 n (drop m bs)
column-at k stride m n bs = ap (λ (j : ℕ). column k stride j n bs) (sym (add-zero m)) ∙ column-drop k stride m 0 n bs

-- What stands behind the last of them does not count.
pub column-take : (k stride i n m : ℕ) (bs : List ℕ) → k ≤ stride → i + stride * n ≤ m → column k stride i n (take m bs) ≡ column k stride i n bs
unfolding column
column-take k stride i zero m bs fits h = refl
column-take k stride i (suc n) m bs fits h =
    let here : i + k ≤ m = omega (arith, mul-suc stride n) in
    let next : i + stride + stride * n ≤ m = omega (arith, mul-suc stride n) in
    ap₂ (λ (x : ℕ) (r : List ℕ). x ∷ r) (field-take k i m bs here) (column-take k stride (i + stride) n m bs fits next)

-- ---- the front of a list, field by field

-- The front up to a field, and the field's bytes.
pub front-field : (k i : ℕ) (bs : List ℕ) → AllBelow 256 bs → i + k ≤ length bs → take i bs ++ little k (field k i bs) ≡ take (i + k) bs
front-field k i bs h long = ap (λ (r : List ℕ). take i bs ++ r) (little-field k i bs h long) ∙ sym (take-add i k bs)

-- The first row of a table, and n rows more.
pub front-row : (stride n : ℕ) (bs : List ℕ) → take stride bs ++ take (stride * n) (drop stride bs) ≡ take (stride * suc n) bs
front-row stride n bs =
    let rows : stride + stride * n ≡ stride * suc n = omega (arith, mul-suc stride n) in
    sym (take-add stride (stride * n) bs) ∙ ap (λ (j : ℕ). take j bs) rows
