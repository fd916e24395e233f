-- The series of a layout, read back off its records: it is the series that was laid out.
-- Each refinement's place is the parent of its left child, and a series has every parent before its children. Rests on InPlace.antt.
use mathlib.Core.Path.{◌≡◌, refl, sym, ap, ap₂, ◌∙◌}
use mathlib.Core.Bool.{true}
use mathlib.Core.List.{List, [], ◌∷◌, ◌++◌, map, append_assoc}
use Prim.Native.Nat.{ℕ, ◌-◌}
use native.Mathlib.Omega.{arith}
use lib.ListN.{length, get_or, replicate}
use Rattle.rules.specs.Table.{Table}
use Rattle.rules.specs.Tree.{left, right, Place, Refinement, series_from, series}
use Rattle.records.specs.Records.{tree_records, blank, children, places, position, above, record_at}
use Rattle.records.specs.Records.{records_of, layout, kind_of, history_from, tree_count, history}
use Rattle.records.specs.declared.Node.{Node}
use Rattle.records.proofs.Positions.{above-child, places-append, length_places, position-get}
use Rattle.records.proofs.InPlace.{next_held, next_position, next_kind}

-- A layout's count is the number of its refinements.
pub layout-count : (t : Table) (ns : List Refinement) → tree_count (layout t ns) ≡ length ns
unfolding tree_count layout
layout-count t ns = omega (arith, length_places ns)

-- The records of a layout that are not in use.
unused : List Refinement → List Node
unused ns = replicate (tree_records - length (places ns)) blank

module _ (t : Table) (ns : List Refinement) (h : series t ns ≡ true) where
  -- With the places of the first refinements known, the others are read off the records that are left.
  history_rest : (done todo : List Refinement) → ns ≡ done ++ todo
      → history_from (length todo) (places done) (map (record_at t ns) (children todo) ++ unused ns) (records_of t ns) ≡ todo
  unfolding history_from children record_at series_from
  history_rest done [] e = refl
  history_rest done (n ∷ todo) e =
      ap₂ (λ (x : Refinement) (y : List Refinement). x ∷ y) (λ i. record { place = place_is i; kind = kind_is i })
      (ap (λ (q : Place). from (places done ++ ((q ++ (left ∷ [])) ∷ (q ++ (right ∷ [])) ∷ []))) place_is
      ∙ ap from (sym (places-append done (n ∷ [])))
      ∙ history_rest (done ++ (n ∷ [])) todo (e ∙ sym (append_assoc done (n ∷ []) todo)))
    where
      from : List Place → List Refinement
      from ps = history_from (length todo) ps (map (record_at t ns) (children todo) ++ unused ns) (records_of t ns)

      -- the parent in the record of the left child
      j : ℕ
      j = position (above (n.place ++ (left ∷ []))) (places ns)

      j-is : j ≡ position n.place (places ns)
      j-is = ap (λ (q : Place). position q (places ns)) (above-child n.place left)

      place_is : get_or (places done) j [] ≡ n.place
      place_is =
          ap (λ (k : ℕ). get_or (places done) k []) (j-is ∙ next_position t ns done todo n h e)
          ∙ position-get done n.place (next_held t ns done todo n h e)

      kind_is : kind_of (get_or (records_of t ns) j blank) ≡ n.kind
      kind_is = ap (λ (k : ℕ). kind_of (get_or (records_of t ns) k blank)) j-is ∙ next_kind t ns done todo n h e

-- THE SERIES COMES BACK from its records.
pub history-layout : (t : Table) (ns : List Refinement) → series t ns ≡ true → history (layout t ns) ≡ ns
unfolding history layout records_of places children unused
history-layout t ns h =
    ap (λ (k : ℕ). history_from k ([] ∷ []) (map (record_at t ns) (children ns) ++ unused ns) (records_of t ns)) (layout-count t ns)
    ∙ history_rest t ns h [] ns refl
