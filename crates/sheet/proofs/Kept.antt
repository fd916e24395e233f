-- An array of which the first numbers are meant, with zeros behind them: one number more, one less, and the array as the list that is meant.
-- Rests on the kit's laws of `drop` and `set`, on Sized.antt, and on Stated.antt for the parts that are read.
use Rattle.std.proofs.Common.{◌≡◌, ℕ, zero, suc, ◌+◌, ◌-◌, ◌<◌, ◌≤◌, List, [], ◌∷◌, ◌++◌, length, take, drop, set, replicate, min, refl, sym, ap, ◌∙◌, arith}
use Rattle.std.proofs.Common.{append-nil, length-take-le, length-set}
use Rattle.std.proofs.lemmas.List.{drop-set, drop-set-lt, drop-drop, drop-replicate, take-append-drop, length-take}
use Rattle.rules.specs.Sheet.{column, weights_in}
use Rattle.rules.specs.Table.{Table}
use Rattle.rules.specs.declared.Entry.{Entry}
use Rattle.sheet.specs.Handed.{sized, table_at, as_table, HandedOver}
use Rattle.sheet.specs.Kept.{Kept}
use Rattle.sheet.specs.declared.table.TableArrays.{TableArrays}
use Rattle.sheet.proofs.Sized.{sized_short}
use Rattle.sheet.proofs.Stated.{reading}

-- One number more.
pub kept_more : {m : ℕ} (i : ℕ) (xs : List ℕ) (y : ℕ) → Kept m i xs → i + 1 ≤ m → Kept m (i + 1) (set xs i y)
kept_more {m} i xs y kept room =
    let left : m - i - 1 ≡ m - (i + 1) = omega arith in
    record {
      few = room;
      long = length-set xs i y ∙ kept.long;
      behind = drop-set-lt (i + 1) xs i y (omega arith)
          ∙ sym (drop-drop 1 i xs) ∙ ap (drop 1) kept.behind ∙ drop-replicate 1 (m - i) 0 ∙ ap (λ k. replicate k 0) left;
    }

-- One less: the last that was meant is a zero too from now on.
pub kept_less : {m : ℕ} (i n : ℕ) (xs : List ℕ) → Kept m n xs → i + 1 ≡ n → Kept m i (set xs i 0)
kept_less {m} i n xs kept last =
    let left : suc (m - n) ≡ m - i = omega (arith, kept.few, last) in
    record {
      few = omega (arith, kept.few, last);
      long = length-set xs i 0 ∙ kept.long;
      behind = drop-set xs i 0 (omega (arith, kept.few, kept.long, last))
          ∙ ap (λ k. 0 ∷ drop k xs) last ∙ ap (λ zs. 0 ∷ zs) kept.behind ∙ ap (λ k. replicate k 0) left;
    }

-- Where no number is left that has room, those that are meant are all.
pub filled : (n : ℕ) (front rest : List ℕ) {all : List ℕ} → front ++ take n rest ≡ all → (0 < n → rest ≡ []) → front ≡ all
filled zero front rest e none = sym (append-nil front) ∙ e
filled (suc n) front rest e none = sym (append-nil front) ∙ ap (λ xs. front ++ take (suc n) xs) (sym (none (omega arith))) ∙ e

-- The first numbers of a list, and zeros: those for which there is no room play no part.
sized-take : (m : ℕ) (xs : List ℕ) → sized m (take m xs) ≡ sized m xs
unfolding sized
sized-take zero xs = refl
sized-take (suc m) [] = refl
sized-take (suc m) (x ∷ xs) = ap (λ r. x ∷ r) (sized-take m xs)

module _ {m n : ℕ} {xs : List ℕ} (kept : Kept m n xs) where
  -- As many are meant as are said to be.
  pub in_use : length (take n xs) ≡ n
  in_use = length-take-le n xs (omega (arith, kept.few, kept.long))

  -- The whole array is the list that is meant, with zeros behind it.
  pub whole : xs ≡ sized m (take n xs)
  whole =
      sym (sized_short m (take n xs) (omega (arith, in_use, kept.few))
      ∙ ap (λ k. take n xs ++ drop k (replicate m 0)) in_use
      ∙ ap (λ zs. take n xs ++ zs) (drop-replicate n m 0 ∙ sym kept.behind)
      ∙ take-append-drop n xs)

-- Where those that are meant are all that have room, as many are meant as there are numbers, up to the room.
pub as_many : {m n : ℕ} {xs : List ℕ} (all : List ℕ) → Kept m n xs → take n xs ≡ take m all → n ≡ min m (length all)
as_many {m} all kept same = sym (in_use kept) ∙ ap length same ∙ length-take m all

-- A table that is that of an entry is handed over for it.
pub handed : (bs : List ℕ) (e : Entry) (t : TableArrays) → as_table t ≡ table_at bs e → HandedOver bs e t
unfolding table_at
handed bs e t same = record {
  table = same;
  faults = t.weights_kept.few;
  ways = t.present_kept.few;
  weights = whole t.weights_kept ∙ ap (λ (r : Table). sized 64 r.weights) same ∙ sized-take 64 (weights_in bs);
  present = whole t.present_kept ∙ ap (λ (r : Table). sized 128 r.present) same ∙ sized-take 128 (column 8 16 e.start e.ways bs);
  absent = whole t.absent_kept ∙ ap (λ (r : Table). sized 128 r.absent) same ∙ sized-take 128 (column 8 16 (e.start + 8) e.ways bs);
}

-- What code that hands a table over knows.
pub ruleset handing = (reading, handed)
