-- DEMAND 3, A: what the library hands over along a list of calls is what the rules alone say, tree and answers.
-- Rests on Sixteen.antt, so that 16 never applies to a tree of the library's, and on the rules' Demand3.antt.
use mathlib.Core.Path.{◌≡◌, refl, sym, ap, ap₂, ◌∙◌}
use mathlib.Core.Bool.{Bool, true, false}
use mathlib.Core.List.{List, [], ◌∷◌, ◌++◌, append-nil}
use Prim.Native.Nat.{ℕ, zero, suc}
use Rattle.rules.specs.Table.{Table}
use Rattle.rules.specs.Tree.{leaf, Refinement, tree, series_from, series}
use Rattle.rules.specs.Refusals.{Accepted}
use Rattle.rules.specs.Calls.{hand_number, run_number, hand_makes, run_makes, hand_answer, run_answer, makes_by, Call, by_hand, by_run, Outcome}
use Rattle.rules.specs.Calls.{handed, ran, call_number, outcome, would_make, makes, noted_from, noted, outcomes_from, outcomes}
use Rattle.rules.proofs.Series.{series-append}
use Rattle.rules.proofs.Demand3.{makes_series, noted_series}
use Rattle.records.specs.Records.{layout, history, bad}
use Rattle.records.specs.Library.{open_by, open_tree, tree_by, hand_tree, run_tree, call_tree, call_outcome, tree_after, outcomes_after}
use Rattle.records.specs.declared.Tree.{Tree}
use Rattle.records.proofs.History.{history-layout}
use Rattle.records.proofs.Sixteen.{layout-good}

-- The tree of an accepted opening is the leaf at the root alone (RULES 5.2).
pub opened : (t : Table) → Accepted t → open_tree t ≡ layout t []
unfolding open_tree open_by
opened t ok = ap (λ (n : ℕ). open_by n t) ok

-- ---- one call, on the tree of a series

module _ (t : Table) (ns : List Refinement) (h : series t ns ≡ true) where
  -- 16 does not apply and the series is read back, so what is worked out from these two is what the rules work out.
  read_back : {A : Type 0} (f : Bool → List Refinement → A) → f (bad t (layout t ns)) (history (layout t ns)) ≡ f false ns
  read_back f = ap₂ f (layout-good t ns h) (history-layout t ns h)

  -- By its number a call leaves the series with what it made, or as it was.
  tree-by : (n : ℕ) (ms : List Refinement) → tree_by n t (layout t ns) ms ≡ layout t (ns ++ makes_by n ms)
  unfolding tree_by makes_by
  tree-by zero ms = ap (λ (r : List Refinement). layout t (r ++ ms)) (history-layout t ns h)
  tree-by (suc n) ms = ap (layout t) (sym (append-nil ns))

  -- The tree that a call leaves is that of the series with what the call makes by the rules.
  pub call-tree : (c : Call) → call_tree t (layout t ns) c ≡ layout t (ns ++ makes t (tree ns) c)
  unfolding call_tree hand_tree run_tree makes call_number would_make
  call-tree (by_hand bs k) =
      read_back (λ b r. tree_by (hand_number t b (tree r) bs k) t (layout t ns) (hand_makes bs k))
      ∙ tree-by (hand_number t false (tree ns) bs k) (hand_makes bs k)
  call-tree (by_run m) =
      read_back (λ b r. tree_by (run_number t b m) t (layout t ns) (run_makes t (tree r) m)) ∙ tree-by (run_number t false m) (run_makes t (tree ns) m)

  -- It hands back what the rules say.
  pub call-outcome : (c : Call) → call_outcome t (layout t ns) c ≡ outcome t (tree ns) c
  unfolding call_outcome outcome
  call-outcome (by_hand bs k) = read_back (λ b r. handed (hand_answer t b (tree r) bs k))
  call-outcome (by_run m) = read_back (λ b r. ran (run_answer t b (tree r) m))

-- ---- lists of calls

module _ (t : Table) (ok : Accepted t) where
  -- After a call the refinements made are a series again.
  pub still_series : (ns : List Refinement) → series t ns ≡ true → (c : Call) → series t (ns ++ makes t (tree ns) c) ≡ true
  still_series ns h c = series-append t ns (makes t (tree ns) c) leaf h (makes_series t ok (tree ns) c)

  -- From the tree of a series on, the trees and what the calls hand back go by the rules.
  trees_from : (cs : List Call) (ns : List Refinement) → series t ns ≡ true → tree_after t (layout t ns) cs ≡ layout t (noted_from t ns cs)
  unfolding tree_after noted_from
  trees_from [] ns h = refl
  trees_from (c ∷ cs) ns h = ap (λ (x : Tree). tree_after t x cs) (call-tree t ns h c) ∙ trees_from cs (ns ++ makes t (tree ns) c) (still_series ns h c)

  outcomes-from : (cs : List Call) (ns : List Refinement) → series t ns ≡ true → outcomes_after t (layout t ns) cs ≡ outcomes_from t ns cs
  unfolding outcomes_after outcomes_from
  outcomes-from [] ns h = refl
  outcomes-from (c ∷ cs) ns h =
      ap₂ (λ (x : Outcome) (y : List Outcome). x ∷ y) (call-outcome t ns h c)
      (ap (λ (x : Tree). outcomes_after t x cs) (call-tree t ns h c) ∙ outcomes-from cs (ns ++ makes t (tree ns) c) (still_series ns h c))

-- What holds after a list of calls from a fresh opening.
pub record ByTheRules (t : Table) (cs : List Call) : Type 0 where
  -- the tree is that of the refinements noted along the list
  pub tree : tree_after t (open_tree t) cs ≡ layout t (noted t cs)
  -- each call handed back what the rules say
  pub said : outcomes_after t (open_tree t) cs ≡ outcomes t cs
  -- 16 does not apply to the tree
  pub never_16 : bad t (tree_after t (open_tree t) cs) ≡ false

-- DEMAND 3, A: from an accepted opening every list of calls goes by the rules.
pub by_the_rules : (t : Table) → Accepted t → (cs : List Call) → ByTheRules t cs
unfolding series_from
by_the_rules t ok cs =
    let e : tree_after t (open_tree t) cs ≡ layout t (noted t cs) = ap (λ (x : Tree). tree_after t x cs) (opened t ok) ∙ trees_from t ok cs [] refl in
    record {
      tree = e;
      said = ap (λ (x : Tree). outcomes_after t x cs) (opened t ok) ∙ outcomes-from t ok cs [] refl;
      never_16 = ap (bad t) e ∙ layout-good t (noted t cs) (noted_series t ok cs);
    }
