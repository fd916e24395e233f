-- Comparing the records of lent words with a tree's, one after the other: what was unlike so far, and those left, answer for all.
-- Rests on `records`, Compared, and on the laws of Lent.antt there.
use Rattle.std.proofs.Common.{◌≡◌, refl, sym, ◌∙◌, ap, ◌&&◌, Bool, List, [], ◌∷◌, ℕ, zero, suc, ◌+◌, ◌<◌, ◌≤◌, eqb, length, drop, arith, bit_or}
use Rattle.std.proofs.Math.Bool.{and_assoc}
use mathlib.Core.Bool.{and-true}
use lib.ListN.{drop_of_length-le}
use Rattle.records.specs.Records.{record_in, same_node, same_nodes}
use Rattle.records.specs.declared.Node.{Node}
use Rattle.records.proofs.Compared.{eqb-or}

-- The first records of two lists, and the others.
split : (xs ys : List Node) (j : ℕ) → j < length xs → j < length ys
    → same_nodes (drop j xs) (drop j ys) ≡ same_node (record_in xs j) (record_in ys j) && same_nodes (drop (suc j) xs) (drop (suc j) ys)
unfolding same_nodes
split [] ys j h k = absurd (omega (arith, h))
split (x ∷ xs) [] j h k = absurd (omega (arith, k))
split (x ∷ xs) (y ∷ ys) zero h k = refl
split (x ∷ xs) (y ∷ ys) (suc j) h k = split xs ys j (omega (arith, h)) (omega (arith, k))

-- One record more.
pub turn : (xs ys : List Node) (j u r : ℕ) (s : Bool) → j < length xs → j < length ys → eqb r 0 ≡ same_node (record_in xs j) (record_in ys j)
    → s ≡ eqb u 0 && same_nodes (drop j xs) (drop j ys) → s ≡ eqb (bit_or u r) 0 && same_nodes (drop (j + 1) xs) (drop (j + 1) ys)
turn xs ys j u r s h k e f =
    f
    ∙ ap (λ (b : Bool). eqb u 0 && b) (split xs ys j h k)
    ∙ sym (and_assoc (eqb u 0) (same_node (record_in xs j) (record_in ys j)) (same_nodes (drop (suc j) xs) (drop (suc j) ys)))
    ∙ ap (λ (b : Bool). b && same_nodes (drop (suc j) xs) (drop (suc j) ys)) (ap (λ (b : Bool). eqb u 0 && b) (sym e) ∙ sym (eqb-or u r))
    ∙ ap (λ (k : ℕ). eqb (bit_or u r) 0 && same_nodes (drop k xs) (drop k ys)) next
  where
    next : suc j ≡ j + 1
    next = omega arith

-- After the last one, what was unlike answers.
pub answer : (xs ys : List Node) (j u : ℕ) (s : Bool) → length xs ≤ j → length ys ≤ j → s ≡ eqb u 0 && same_nodes (drop j xs) (drop j ys) → eqb u 0 ≡ s
unfolding same_nodes
answer xs ys j u s h k f = sym (f ∙ (rw (drop_of_length-le xs {i = j} h, drop_of_length-le ys {i = j} k) (and-true (eqb u 0))))
