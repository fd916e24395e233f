-- Bytes appended to a text: two pieces are one piece, and where there is room for all, all are there.
-- Rests on the kit's laws of `take`.
use Rattle.std.proofs.Common.{◌≡◌, ℕ, zero, suc, ◌+◌, ◌-◌, ◌≤◌, List, [], ◌∷◌, ◌++◌, length}
use Rattle.std.proofs.Common.{take, drop, replicate, min, length-take, refl, sym, ap, ap₂, ◌∙◌, arith, append_assoc, append-nil, length-append}
use Rattle.std.proofs.lemmas.Grind.{common_steps}
use Rattle.std.proofs.lemmas.List.{take_all, drop-drop, drop-replicate, length-drop, take-append-drop}
use Rattle.std.proofs.Math.Seq.{take-append_seam, drop-append_seam}
use Rattle.std.proofs.lemmas.Slice.{take-put_mid, drop-put_mid}
use borrow.Rule.Slice.PartMut.{put_mid}
use lib.Seq.{take-nil}
use native.Mathlib.Decide.{dec_le}
use Rattle.sheet.proofs.Stated.{reading}
use Rattle.report.specs.Appended.{appended, fitting, written}

-- The front of two lists is that of the first, and as much of the second as is left.
take-both : (k : ℕ) (xs ys : List ℕ) → take k (xs ++ ys) ≡ take k xs ++ take (k - length xs) ys
take-both k [] ys =
    let all : k ≡ k - 0 = omega arith in
    ap (λ n. take n ys) all ∙ ap (λ zs. zs ++ take (k - 0) ys) (sym (take-nil k))
take-both zero (x ∷ xs) ys = let no : 0 ≡ 0 - suc (length xs) = omega arith in ap (λ n. take n ys) no
take-both (suc k) (x ∷ xs) ys =
    let less : k - length xs ≡ suc k - suc (length xs) = omega arith in
    ap (λ r. x ∷ r) (take-both k xs ys ∙ ap (λ n. take k xs ++ take n ys) less)

-- Two pieces, the second behind the first, are one.
pub appended_both : (text xs ys : List ℕ) → appended (appended text xs) ys ≡ appended text (xs ++ ys)
unfolding appended
appended_both text xs ys =
    let k : ℕ = 939 - length text in
    let left : 939 - length (text ++ take k xs) ≡ k - length xs = omega (arith, length-append text (take k xs), length-take k xs) in
    ap (λ n. (text ++ take k xs) ++ take n ys) left
    ∙ append_assoc text (take k xs) (take (k - length xs) ys)
    ∙ ap (λ zs. text ++ zs) (sym (take-both k xs ys))

-- Where there is room for all, all are there.
pub appended_room : (text xs : List ℕ) → length (text ++ xs) ≤ 939 → appended text xs ≡ text ++ xs
unfolding appended
appended_room text xs h = ap (λ zs. text ++ zs) (take_all (939 - length text) xs (omega (arith, h, length-append text xs)))

-- Of nothing, nothing.
pub appended_none : (text : List ℕ) → appended text [] ≡ text
unfolding appended
appended_none text = ap (λ zs. text ++ zs) (take-nil (939 - length text)) ∙ append-nil text

-- ---- a piece written behind the first n bytes of an array

-- Behind a full one nothing fits,
full-fits : (n : ℕ) (piece : List ℕ) → 939 ≤ n → fitting n piece ≡ []
full-fits n piece h = let none : 939 - n ≡ 0 = omega arith in ap (λ k. take k piece) none

-- and it stays as it is.
pub full_stays : (bytes : List ℕ) (n : ℕ) (piece : List ℕ) → 939 ≤ n → written bytes n piece ≡ bytes
unfolding written
full_stays bytes n piece h =
    let same : n + 0 ≡ n = omega arith in
    ap (λ zs. take n bytes ++ zs ++ drop (n + length zs) bytes) (full-fits n piece h)
    ∙ ap₂ (λ (us : List ℕ) (k : ℕ). us ++ drop k bytes) (append-nil (take n bytes)) same
    ∙ take-append-drop n bytes

module _ (bytes : List ℕ) (n : ℕ) (piece : List ℕ) (room : length bytes ≡ 939) (within : n ≤ 939) where
  -- How many bytes are used then.
  front-long : length (take n bytes ++ fitting n piece) ≡ n + length (fitting n piece)
  front-long = omega (arith, length-append (take n bytes) (fitting n piece), length-take n bytes, room, within)

  -- The bytes that are used then, and those behind them.
  parts : written bytes n piece ≡ (take n bytes ++ fitting n piece) ++ drop (n + length (fitting n piece)) bytes
  unfolding written
  parts = refl

  -- These are the bytes before and what fits of the piece;
  front : take (n + length (fitting n piece)) (written bytes n piece) ≡ take n bytes ++ fitting n piece
  front =
      ap₂ take (sym front-long) parts
      ∙ take-append_seam (take n bytes ++ fitting n piece) (drop (n + length (fitting n piece)) bytes)

  -- behind them nothing changes.
  rest : drop (n + length (fitting n piece)) (written bytes n piece) ≡ drop (n + length (fitting n piece)) bytes
  rest =
      ap₂ drop (sym front-long) parts
      ∙ drop-append_seam (take n bytes ++ fitting n piece) (drop (n + length (fitting n piece)) bytes)

  -- There is room for them,
  pub fits_in : n + length (fitting n piece) ≤ 939
  fits_in = omega (arith, length-take (939 - n) piece, within)

  -- the array stays as long,
  pub as_long : length (written bytes n piece) ≡ 939
  as_long =
      omega (
        arith,
        ap length parts,
        length-append (take n bytes ++ fitting n piece) (drop (n + length (fitting n piece)) bytes),
        front-long,
        length-drop (n + length (fitting n piece)) bytes,
        room,
        fits_in,
      )

  -- and behind the piece there are the zeros that were there before.
  pub behind : drop n bytes ≡ replicate (939 - n) 0
      → drop (n + length (fitting n piece)) (written bytes n piece) ≡ replicate (939 - (n + length (fitting n piece))) 0
  behind zeros =
      let k : ℕ = length (fitting n piece) in
      let left : 939 - n - k ≡ 939 - (n + k) = omega arith in
      rest ∙ sym (drop-drop k n bytes) ∙ ap (drop k) zeros ∙ drop-replicate k (939 - n) 0 ∙ ap (λ k. replicate k 0) left

  -- The text is longer by what fits of the piece.
  pub grown : take (n + length (fitting n piece)) (written bytes n piece) ≡ appended (take n bytes) piece
  unfolding appended
  grown =
      let left : 939 - n ≡ 939 - length (take n bytes) = omega (arith, length-take n bytes, room, within) in
      front ∙ ap (λ k. take n bytes ++ take k piece) left

  -- So it is written as one slice, up to the e-th byte.
  pub in_place : (e : ℕ) {ys : List ℕ} → e ≡ min (n + length piece) 939 → ys ≡ take (e - n) piece → put_mid n (e - n) bytes ys ≡ written bytes n piece
  in_place e {ys} end same =
      let z : List ℕ = put_mid n (e - n) bytes ys in
      let long : length ys ≡ e - n = omega (arith, ap length same, length-take (e - n) piece, end) in
      let used : e ≡ n + length (fitting n piece) = omega (arith, length-take (939 - n) piece, end) in
      sym (take-append-drop e z)
      ∙ ap₂ (λ (xs zs : List ℕ). xs ++ zs)
      (take-put_mid n (e - n) bytes ys e (omega (arith, end, long)) (omega (arith, room)) ∙ ap (λ zs. take n bytes ++ zs) (same ∙ fitting-is e end))
      (drop-put_mid n (e - n) bytes ys e (omega (arith, end)) (omega (arith, room)) long ∙ ap (λ k. drop k bytes) used)
      ∙ sym parts
    where
      fitting-is : (e : ℕ) → e ≡ min (n + length piece) 939 → take (e - n) piece ≡ fitting n piece
      fitting-is e end = split (dec_le (length piece) (939 - n))
        where
          split : Dec (length piece ≤ 939 - n) → take (e - n) piece ≡ fitting n piece
          split (yes h) = take_all (e - n) piece (omega (arith, h, end, within)) ∙ sym (take_all (939 - n) piece h)
          split (no h) = let full : e - n ≡ 939 - n = omega (arith, h, end, within) in ap (λ k. take k piece) full

-- Two pieces, the second behind the first, are one: what fits,
both-fit : (n : ℕ) (xs ys : List ℕ) → fitting n (xs ++ ys) ≡ fitting n xs ++ fitting (n + length (fitting n xs)) ys
both-fit n xs ys =
    let left : 939 - n - length xs ≡ 939 - (n + length (fitting n xs)) = omega (arith, length-take (939 - n) xs) in
    take-both (939 - n) xs ys ∙ ap (λ k. fitting n xs ++ take k ys) left

-- and what is written.
pub written_both : (bytes : List ℕ) (n : ℕ) (xs ys : List ℕ) → length bytes ≡ 939
    → written (written bytes n xs) (n + length (fitting n xs)) ys ≡ written bytes n (xs ++ ys)
unfolding written
written_both bytes n xs ys room = split (dec_le n 939)
  where
    split : Dec (n ≤ 939) → written (written bytes n xs) (n + length (fitting n xs)) ys ≡ written bytes n (xs ++ ys)
    split (yes h) =
        let first : List ℕ = fitting n xs in
        let m : ℕ = n + length first in
        let second : List ℕ = fitting m ys in
        let both : fitting n (xs ++ ys) ≡ first ++ second = both-fit n xs ys in
        let used : m + length second ≡ n + length (first ++ second) = omega (arith, length-append first second) in
        let left : drop (m + length second) (written bytes n xs) ≡ drop (n + length (first ++ second)) bytes
        = sym (drop-drop (length second) m (written bytes n xs))
        ∙ ap (drop (length second)) (rest bytes n xs room h)
        ∙ drop-drop (length second) m bytes
        ∙ ap (λ k. drop k bytes) used in
        ap₂ (λ (us vs : List ℕ). us ++ second ++ vs) (front bytes n xs room h) left
        ∙ ap (λ (us : List ℕ). us ++ drop (n + length (first ++ second)) bytes) (append_assoc (take n bytes) first second)
        ∙ ap (λ zs. take n bytes ++ zs ++ drop (n + length zs) bytes) (sym both)
    split (no h) =
        full_stays (written bytes n xs) (n + length (fitting n xs)) ys (omega (arith, h))
        ∙ full_stays bytes n xs (omega (arith, h))
        ∙ sym (full_stays bytes n (xs ++ ys) (omega (arith, h)))

-- Two pieces from the first text to the last.
pub written_then : (bytes : List ℕ) (n : ℕ) (xs ys : List ℕ) → length bytes ≡ 939 → {us vs : List ℕ} {m : ℕ} → us ≡ written bytes n xs
    → m ≡ n + length (fitting n xs) → vs ≡ written us m ys → vs ≡ written bytes n (xs ++ ys)
written_then bytes n xs ys room e f g = g ∙ ap₂ (λ us m. written us m ys) e f ∙ written_both bytes n xs ys room

-- What code that appends knows.
pub ruleset appending = (common_steps, appended_both, appended_none, append_assoc)

-- What code that appends the lines of a sheet knows.
pub ruleset line_by_line = (appending, reading)
