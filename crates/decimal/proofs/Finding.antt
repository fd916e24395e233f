-- The digits of a number as a loop finds them, from the last one on, in an array of twenty.
-- Rests on `rules`, Decimal.
use Rattle.std.proofs.Common.{◌≡◌, ℕ, ◌+◌, ◌-◌, ◌/◌, ◌%◌, ◌^◌, ◌≤◌, ◌<◌, List, [], ◌∷◌, ◌++◌, length, take, drop, refl, sym, ap, ◌∙◌, append-nil, length-append, arith}
use Rattle.std.proofs.Math.ListN.{set, replicate, length-set}
use Rattle.std.proofs.Math.Seq.{append_snoc}
use Rattle.std.proofs.lemmas.List.{drop-set, take-replicate, take-set-le, take-take}
use Rattle.rules.specs.Text.{decimal}
use Rattle.rules.proofs.Decimal.{decimal-one, decimal-more, decimal-leading, decimal-length}

-- In front of a place that is set there are the zeros that were there, as far as a place before it.
zeros_before : (n at d : ℕ) (digits : List ℕ) → n ≤ at → take at digits ≡ replicate at 48 → take n (set digits at d) ≡ replicate n 48
zeros_before n at d digits h zeros =
    take-set-le n digits at d h ∙ sym (take-take n at digits h) ∙ ap (take n) zeros ∙ take-replicate n at 48 h

-- Behind position `at` the array has the last digits of n; those of `rest` are still to be found, and there is room for them.
pub record Found (n : ℕ) (digits : List ℕ) (at rest : ℕ) : Type 0 where
  pub long : length digits ≡ 20
  pub inside : at < 20
  pub zeros : take at digits ≡ replicate at 48
  pub room : length (decimal rest) ≤ at + 1
  pub whole : decimal rest ++ drop (at + 1) digits ≡ decimal n

-- At first, none is found.
pub found_none : (n : ℕ) → n < 2 ^ 64 → Found n (replicate 20 48) 19 n
found_none n h = record { long = refl; inside = omega arith; zeros = refl; room = decimal-length n 19 (omega arith); whole = append-nil (decimal n) }

module _ {n : ℕ} {digits : List ℕ} {at rest : ℕ} (f : Found n digits at rest) where
  -- A number of more than one digit needs more than one place.
  pub found_room : 9 < rest → 0 < at
  found_room h =
      omega (
        arith,
        f.room,
        ap length (decimal-more rest h),
        length-append (decimal (rest / 10)) ((48 + rest % 10) ∷ []),
        (decimal-leading (rest / 10)).0,
      )

  -- Its last digit is found.
  pub found_next : 9 < rest → Found n (set digits at (48 + rest % 10)) (at - 1) (rest / 10)
  found_next h =
      let b : ℕ = 48 + rest % 10 in
      let front : at - 1 + 1 ≡ at = omega (arith, found_room h) in
      let more : length (decimal rest) ≡ length (decimal (rest / 10)) + 1 = ap length (decimal-more rest h) ∙ length-append (decimal (rest / 10)) (b ∷ []) in
      record {
        long = length-set digits at b ∙ f.long;
        inside = omega (arith, f.inside);
        zeros = zeros_before (at - 1) at b digits (omega arith) f.zeros;
        room = omega (arith, f.room, found_room h);
        whole =
            rw (front, drop-set digits at b (omega (arith, f.long, f.inside)))
            (sym (append_snoc (decimal (rest / 10)) b (drop (at + 1) digits)) ∙ rw (← decimal-more rest h) f.whole);
      }

  -- A number of one digit is that digit, and then all are found.
  pub found_all : rest ≤ 9 → drop at (set digits at (48 + rest)) ≡ decimal n
  found_all h = drop-set digits at (48 + rest) (omega (arith, f.long, f.inside)) ∙ rw (decimal-one rest (omega arith)) at f.whole
