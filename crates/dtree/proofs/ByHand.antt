-- A hand refinement on an accepted table and a good tree: refused by 17 to 20, or made.
-- Rests on `find`, ByHand, and on `records`, Grown.
use mathlib.Core.Path.{◌≡◌, sym, ap, ap₂, ◌∙◌}
use mathlib.Core.Bool.{Bool, true, false}
use mathlib.Core.List.{List, [], ◌∷◌, ◌++◌}
use Prim.Native.Nat.{ℕ, ◌+◌}
use native.Mathlib.Omega.{arith}
use lib.ListN.{length, length-append}
use Rattle.std.specs.Prelude.{Ok, Err}
use Rattle.rules.specs.Table.{Table}
use Rattle.rules.specs.Tree.{Refinement, DTree, tree, series, acceptable}
use Rattle.rules.specs.Refusals.{Accepted}
use Rattle.rules.specs.Calls.{hand_number, hand_refusals, hand_answer, by_hand, handed, hand_makes, figures, call_number, outcome, makes, makes_by, would_make}
use Rattle.rules.specs.declared.Kind.{Kind}
use Rattle.rules.specs.declared.Figures.{Figures}
use Rattle.rules.specs.declared.Refusal.{Refusal}
use Rattle.rules.proofs.Answering.{answered-free, first-accepted}
use Rattle.records.specs.Records.{position, places, layout, records_of, history, bad, Good}
use Rattle.records.specs.Growing.{grown_at}
use Rattle.records.specs.Library.{call_tree, call_outcome}
use Rattle.records.specs.declared.Tree.{Tree}
use Rattle.records.proofs.Grown.{grows}
use Rattle.records.proofs.History.{history-layout}
use Rattle.records.proofs.Positions.{length_places}
use Rattle.records.proofs.ByTheRules.{call-tree, call-outcome}
use Rattle.find.specs.Finds.{told, found, Refinable}
use Rattle.find.proofs.ByHand.{Names, names, answered-by-hand}
use Rattle.dtree.proofs.Accepting.{judged}
use Rattle.dtree.specs.Promises.{root_figures, Called}
use Rattle.dtree.proofs.Calling.{called, refusals_of, shows}

-- The records of a series, grown by an acceptable refinement, are those of the longer series.
grown-layout : (t : Table) → Accepted t → (ns : List Refinement) → series t ns ≡ true → (n : Refinement) → acceptable t (tree ns) n ≡ true → (j : ℕ)
    → position n.place (places ns) ≡ j → (y : Tree) → y.nodes ≡ grown_at t (layout t ns).nodes (layout t ns).used j n.kind
    → y.used ≡ (layout t ns).used + 2 → y ≡ layout t (ns ++ (n ∷ []))
unfolding layout
grown-layout t ok ns h n a j e y f u =
    let nodes_are = f ∙ ap (λ (i : ℕ). grown_at t (records_of t ns) (length (places ns)) i n.kind) (sym e) ∙ grows t ok ns h n a in
    let used_is : y.used ≡ length (places (ns ++ (n ∷ []))) = omega (arith, u, length_places ns, length_places (ns ++ (n ∷ [])), length-append ns (n ∷ [])) in
    λ i. record { nodes = nodes_are i; used = used_is i }

-- What an accepted hand refinement makes.
pub made_one : (t : Table) (s : DTree) (bs : List ℕ) (k : Kind) (n : Refinement) → hand_number t false s bs k ≡ 0 → hand_makes bs k ≡ n ∷ []
    → makes t s (by_hand bs k) ≡ n ∷ []
unfolding makes makes_by call_number would_make
made_one t s bs k n z e = ap (λ (m : ℕ). makes_by m (hand_makes bs k)) z ∙ e

-- What it hands back.
said-one : (t : Table) (ns : List Refinement) (bs : List ℕ) (k : Kind) (n : Refinement) → hand_number t false (tree ns) bs k ≡ 0 → hand_makes bs k ≡ n ∷ []
    → outcome t (tree ns) (by_hand bs k) ≡ handed (Ok (root_figures (layout t (ns ++ (n ∷ []))) 1))
unfolding outcome hand_answer hand_number
said-one t ns bs k n z e =
    ap handed (answered-free (hand_refusals t false (tree ns) bs k) (figures t (tree ns) (hand_makes bs k)) z)
    ∙ ap (λ (ms : List Refinement). handed (Ok (figures t (tree ns) ms))) e
    ∙ ap (λ (f : Figures). handed (Ok f)) (sym (shows t ns (n ∷ [])))

module _ (t : Table) (ok : Accepted t) (x : Tree) (g : Good t x) (b : bad t x ≡ false) (bs : List ℕ) (k : Kind) where
  abbrev ns : List Refinement
  ns = g.made

  -- The refusals are those by the rules of the tree that the series grows.
  by-series : refusals_of t x (by_hand bs k) ≡ hand_refusals t false (tree ns) bs k
  by-series = ap₂ (λ (o : Bool) (ms : List Refinement). hand_refusals t o (tree ms) bs k) b (ap history g.is ∙ history-layout t ns g.accepted)

  -- What the records tell refuses the call.
  pub by_leaf : (r : Refusal) → told t x bs k ≡ Err r → judged (refusals_of t x (by_hand bs k)) ≡ Err r
  by_leaf r e =
      ap judged by-series
      ∙ sym (answered-by-hand t ns g.accepted bs k ok tt)
      ∙ ap (λ (y : Tree). told t y bs k) (sym g.is) ∙ e

  -- The refinement is made.
  pub made : (j : ℕ) → Refinable t x bs k j → (y : Tree) → y.nodes ≡ grown_at t x.nodes x.used j k → y.used ≡ x.used + 2
      → Called t x (by_hand bs k) y (handed (Ok (root_figures y 1)))
  unfolding hand_number
  made j r y e u = called t x (by_hand bs k) y _ tree_is outcome_is
    where
      h : series t ns ≡ true
      h = g.accepted

      free : told t (layout t ns) bs k ≡ Ok tt
      free = ap (λ (z : Tree). told t z bs k) (sym g.is) ∙ r.unrefused

      w : Names t ns bs k j
      w = names t ns h bs k j free (ap (λ (z : Tree). found z.nodes bs) (sym g.is) ∙ r.leads)

      n : Refinement
      n = record { place = w.place; kind = k }

      zeroed : hand_number t false (tree ns) bs k ≡ 0
      zeroed = first-accepted (hand_refusals t false (tree ns) bs k) tt tt (sym (answered-by-hand t ns h bs k ok tt) ∙ free)

      grown : y ≡ layout t (ns ++ (n ∷ []))
      grown =
          grown-layout t ok ns h n w.accepted j w.found_at y (e ∙ ap (λ (z : Tree). grown_at t z.nodes z.used j k) g.is)
          (u ∙ ap (λ (z : Tree). z.used + 2) g.is)

      tree_is : y ≡ call_tree t x (by_hand bs k)
      tree_is =
          grown ∙ ap (λ (ms : List Refinement). layout t (ns ++ ms)) (sym (made_one t (tree ns) bs k n zeroed w.makes))
          ∙ sym (call-tree t ns h (by_hand bs k)) ∙ ap (λ (z : Tree). call_tree t z (by_hand bs k)) (sym g.is)

      outcome_is : handed (Ok (root_figures y 1)) ≡ call_outcome t x (by_hand bs k)
      outcome_is =
          ap (λ (z : Tree). handed (Ok (root_figures z 1))) grown
          ∙ sym (said-one t ns bs k n zeroed w.makes) ∙ sym (call-outcome t ns h (by_hand bs k))
          ∙ ap (λ (z : Tree). call_outcome t z (by_hand bs k)) (sym g.is)
