-- THE SEARCH OVER THE LEAVES FINDS THE LEFTMOST WIDEST OPEN ONE: the leaves entered from left to right, one after the other, give what the definition
-- finds below the root. Rests on LeftToRight.antt and Wider.antt.
use Rattle.std.proofs.Common.{◌≡◌, refl, sym, ap, ◌∙◌, arith, ℕ, zero, suc, List, [], ◌∷◌, ◌++◌, Option, Some, None}
use native.Mathlib.Decide.{ℕ_discrete}
use borrow.Author.Tests.{eq-eqb, ne_eqb}
use Rattle.std.specs.List.{fold, filter_map, cons_option, reduce}
use Rattle.records.specs.Records.{tree_records, record_in}
use Rattle.records.specs.Found.{wider}
use Rattle.records.specs.declared.Node.{Node}
use Rattle.records.specs.declared.Tree.{Tree}
use Rattle.records.specs.declared.Found.{Found}
use Rattle.pick.specs.Picks.{own_found, wider_of, pick_from, pick_of, Linked}
use Rattle.pick.specs.Leaves.{leaves, leaves_at}
use Rattle.pick.specs.Going.{placed_all}
use Rattle.pick.proofs.Wider.{wider-nothing, wider-assoc}
use Rattle.pick.proofs.LeftToRight.{leaves_deep}

-- What has been found after leaves were entered in this order.
unfoldable entered : List Node → Option Found → List ℕ → Option Found
entered xs b [] = b
entered xs b (i ∷ is) = entered xs (wider_of b (own_found i (record_in xs i))) is

-- Leaves entered in two parts: what the first part finds, the second goes on from.
entered-append : (xs : List Node) (b : Option Found) (is js : List ℕ) → entered xs b (is ++ js) ≡ entered xs (entered xs b is) js
unfolding entered
entered-append xs b [] js = refl
entered-append xs b (i ∷ is) js = entered-append xs (wider_of b (own_found i (record_in xs i))) is js

-- The leaves below a record give the wider of what was found before and what the search finds there.
entered-leaves : (f : ℕ) (xs : List Node) (b : Option Found) (i : ℕ) → entered xs b (leaves f xs i) ≡ wider_of b (pick_from f xs i)
unfolding entered leaves pick_from
entered-leaves zero xs b i = sym (wider-nothing b)
entered-leaves (suc f) xs b i = by (λ c j. entered-leaves f xs c j) (ℕ_discrete (record_in xs i).left 0)
  where
    by : ((c : Option Found) (j : ℕ) → entered xs c (leaves f xs j) ≡ wider_of c (pick_from f xs j)) → Dec ((record_in xs i).left ≡ 0)
        → entered xs b (leaves (suc f) xs i) ≡ wider_of b (pick_from (suc f) xs i)
    by ih (yes z) = rw (eq-eqb (record_in xs i).left 0 z, leaves, pick_from)
    by ih (no q) =
        let l = (record_in xs i).left in
        rw (ne_eqb (record_in xs i).left 0 q, leaves, pick_from)
        (entered-append xs b (leaves f xs l) (leaves f xs (suc l))
        ∙ ih (entered xs b (leaves f xs l)) (suc l)
        ∙ ap (λ (c : Option Found). wider_of c (pick_from f xs (suc l))) (ih b l)
        ∙ wider-assoc b (pick_from f xs l) (pick_from f xs (suc l)))

-- ---- the chain of the code

-- An open leaf with its index, as the search takes it.
abbrev pub own : ℕ × Node → Option Found
own p = own_found p.0 p.1

module _ (t : Tree) where
  -- The best of leaves that come after a best one.
  best-after : (x : Found) (is : List ℕ) → Some (fold wider x (filter_map own (placed_all t is))) ≡ entered t.nodes (Some x) is
  unfolding entered wider_of
  best-after x [] = refl
  best-after x (i ∷ is) = by (own_found i (record_in t.nodes i)) (λ y. best-after y is)
    where
      by : (o : Option Found) → ((y : Found) → Some (fold wider y (filter_map own (placed_all t is))) ≡ entered t.nodes (Some y) is)
          → Some (fold wider x (cons_option o (filter_map own (placed_all t is)))) ≡ entered t.nodes (wider_of (Some x) o) is
      by None ih = ih x
      by (Some y) ih = ih (wider x y)

  -- The best of leaves.
  best : (is : List ℕ) → reduce wider (filter_map own (placed_all t is)) ≡ entered t.nodes None is
  unfolding entered wider_of
  best [] = refl
  best (i ∷ is) = by (own_found i (record_in t.nodes i)) (best is)
    where
      by : (o : Option Found) → reduce wider (filter_map own (placed_all t is)) ≡ entered t.nodes None is
          → reduce wider (cons_option o (filter_map own (placed_all t is))) ≡ entered t.nodes (wider_of None o) is
      by None ih = ih
      by (Some y) ih = best-after y is

  -- OF THE WHOLE TREE.
  pub picked : Linked t.nodes t.used → reduce wider (filter_map own (placed_all t (leaves_at t 0))) ≡ pick_of t.nodes
  unfolding pick_of wider_of
  picked linked =
      let h = linked.some in
      let k = linked.fits in
      best (leaves_at t 0)
      ∙ ap (entered t.nodes None) (leaves_deep linked t.used tree_records 0 h (omega arith) (omega arith))
      ∙ entered-leaves tree_records t.nodes None 0
