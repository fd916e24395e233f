-- TWO RUNS ARE ONE: a run of budget b and then one of c, with the same allowance and in the same mode, are one run of b + c, if that is at most 255. It
-- holds of the calls, on every table and every tree: what they leave and what they hand back. Rests on `rules`, Runs, for the rules, and on Verdicts.antt.
use mathlib.Core.Path.{◌≡◌, refl, sym, ap, subst, ◌∙◌}
use mathlib.Core.Bool.{Bool, true, false}
use mathlib.Core.List.{List, ◌++◌, append_assoc}
use Prim.Native.Nat.{ℕ, ◌+◌, ◌≤◌}
use native.Mathlib.Omega.{arith}
use borrow.Author.Tests.{le-ltb}
use Rattle.std.specs.Prelude.{Some, Err}
use Rattle.rules.specs.Table.{Table}
use Rattle.rules.specs.Tree.{Refinement, DTree, leaf, tree, low, high, series}
use Rattle.rules.specs.Run.{aim_of, picks}
use Rattle.rules.specs.Run.{ran as after, figure as shown}
use Rattle.rules.specs.Refusals.{first, limit_refusals, mode_above, allowance_above, budget_above, Accepted}
use Rattle.rules.specs.Calls.{Call, by_run, Outcome, reply, run_number, run_refusals, figures, outcome}
use Rattle.rules.specs.declared.Limits.{Limits}
use Rattle.rules.specs.declared.Verdict.{Verdict}
use Rattle.rules.specs.declared.Refusal.{Refusal}
use Rattle.rules.proofs.Answering.{Comes, accepts, refuses, comes}
use Rattle.rules.proofs.Series.{grow-append}
use Rattle.rules.proofs.Runs.{OneRun, two_runs, picks-add}
use Rattle.records.specs.Records.{layout, bad, Good}
use Rattle.records.specs.Library.{call_tree, call_outcome}
use Rattle.records.specs.declared.Tree.{Tree}
use Rattle.records.proofs.Sixteen.{sixteen}
use Rattle.records.proofs.ByTheRules.{call-tree, call-outcome, still_series}
use Rattle.dtree.proofs.Accepting.{judged}
use Rattle.dtree.specs.Promises.{number_of}
use Rattle.dtree.proofs.Calling.{refusals_of, number-first, free}
use Rattle.dtree.proofs.Refuses.{refused-call}
use Rattle.dtree.proofs.ByRun.{made-picks, said}
use Rattle.dtree.proofs.Verdicts.{verdict_of, figure_of}

-- Limits with another budget, and a run with them.
abbrev limits : Limits → ℕ → Limits
limits m b = record { allowance = m.allowance; budget = b; mode = m.mode }

abbrev pub run_of : Limits → ℕ → Call
run_of m b = by_run (limits m b)

-- What two runs hand back, one after the other, beside what one run does.
pub record AddUp (first second one : Outcome) : Type 0 where
  -- The first is accepted if the one is, and else refused by the same number.
  pub first_number : (reply first).number ≡ (reply one).number
  -- The second hands back what the one does: number, interval, verdict and figure.
  pub number : (reply second).number ≡ (reply one).number
  pub low_end : (reply second).low ≡ (reply one).low
  pub high_end : (reply second).high ≡ (reply one).high
  pub verdict : verdict_of second ≡ verdict_of one
  pub figure : figure_of second ≡ figure_of one
  -- The reports of the two add up to that of the one.
  pub reports : (reply first).count + (reply second).count ≡ (reply one).count

-- On the tree x, two calls come to the same as one: the tree that they leave, record by record, and what they hand back.
pub record AsOne (t : Table) (x : Tree) (first second one : Call) : Type 0 where
  pub tree_is : call_tree t (call_tree t x first) second ≡ call_tree t x one
  pub answers : AddUp (call_outcome t x first) (call_outcome t (call_tree t x first) second) (call_outcome t x one)

-- ---- refused: all three are, by the same number, and the tree stays

-- Between two budgets of at most 255 the refusals of a run see no difference, whatever 16 says.
same_refusals : (t : Table) (o : Bool) (m : Limits) (b c : ℕ) → b ≤ 255 → c ≤ 255 → run_refusals t o (limits m b) ≡ run_refusals t o (limits m c)
unfolding run_refusals limit_refusals mode_above budget_above allowance_above
same_refusals t o m b c h k = rw (le-ltb 255 b h, le-ltb 255 c k) refl

-- So is their number.
same_number : (t : Table) (o : Bool) (m : Limits) (b c : ℕ) → b ≤ 255 → c ≤ 255 → run_number t o (limits m b) ≡ run_number t o (limits m c)
unfolding run_number
same_number t o m b c h k = ap first (same_refusals t o m b c h k)

-- So the second run meets the tree that the first met.
refused-runs : (t : Table) (x : Tree) (k l m : Limits) (r : Refusal) → judged (refusals_of t x (by_run k)) ≡ Err r
    → judged (refusals_of t x (by_run l)) ≡ Err r → judged (refusals_of t x (by_run m)) ≡ Err r
    → AsOne t x (by_run k) (by_run l) (by_run m)
refused-runs t x k l m r e f g =
    let on-first = refused-call t x (by_run k) r e in
    let on-second = refused-call t x (by_run l) r f in
    let on-one = refused-call t x (by_run m) r g in
    record {
      tree_is = ap (λ (y : Tree). call_tree t y (by_run l)) (sym on-first.tree_is) ∙ sym on-second.tree_is ∙ on-one.tree_is;
      answers =
          rw (sym on-first.tree_is, sym on-first.outcome_is, sym on-second.outcome_is, sym on-one.outcome_is)
          record { first_number = refl; number = refl; low_end = refl; high_end = refl; verdict = refl; figure = refl; reports = refl };
    }

-- ---- accepted: by the rules

-- What accepted runs hand back on a tree of the rules.
rules-add-up : (t : Table) (s : DTree) (m : Limits) (b c : ℕ) → run_number t false (limits m b) ≡ 0 → run_number t false (limits m c) ≡ 0
    → run_number t false (limits m (b + c)) ≡ 0
    → AddUp (outcome t s (run_of m b)) (outcome t (after t (aim_of m) b s) (run_of m c)) (outcome t s (run_of m (b + c)))
unfolding figures aim_of
rules-add-up t s m b c y z w =
    let one : OneRun t (aim_of m) b c s = two_runs t (aim_of m) b c s in
    rw (said t s (limits m b) y, said t (after t (aim_of m) b s) (limits m c) z, said t s (limits m (b + c)) w)
    record {
      first_number = refl;
      number = refl;
      low_end = ap (low t) one.tree;
      high_end = ap (high t) one.tree;
      verdict = ap (λ (v : Verdict). Some v) one.verdicts;
      figure = ap (λ (s : DTree). shown (aim_of m) (low t s) (high t s)) one.tree;
      reports = one.report;
    }

-- The tree that an accepted run leaves of the tree of a series.
run-tree : (t : Table) (ns : List Refinement) → series t ns ≡ true → (m : Limits) → run_number t false m ≡ 0
    → call_tree t (layout t ns) (by_run m) ≡ layout t (ns ++ picks t (aim_of m) m.budget (tree ns))
run-tree t ns h m z = call-tree t ns h (by_run m) ∙ ap (λ (ms : List Refinement). layout t (ns ++ ms)) (made-picks t (tree ns) m z)

-- Where the one run is accepted, so are the two, and they are one.
module _ (t : Table) (ok : Accepted t) (ns : List Refinement) (h : series t ns ≡ true) (m : Limits) (b c : ℕ) (few : b + c ≤ 255)
    (free_one : run_number t false (limits m (b + c)) ≡ 0) where
  free_first : run_number t false (limits m b) ≡ 0
  free_first = same_number t false m b (b + c) (omega (arith, few)) few ∙ free_one

  free_second : run_number t false (limits m c) ≡ 0
  free_second = same_number t false m c (b + c) (omega (arith, few)) few ∙ free_one

  -- The refinements after the first run are a series, from which the rules grow the tree of that run.
  abbrev ms : List Refinement
  ms = ns ++ picks t (aim_of m) b (tree ns)

  first_series : series t ms ≡ true
  unfolding aim_of
  first_series =
      ap (λ (ps : List Refinement). series t (ns ++ ps)) (sym (made-picks t (tree ns) (limits m b) free_first))
      ∙ still_series t ok ns h (run_of m b)

  first_grows : tree ms ≡ after t (aim_of m) b (tree ns)
  first_grows = grow-append ns (picks t (aim_of m) b (tree ns)) leaf

  -- The refinements of both runs are those of the one.
  cut : ms ++ picks t (aim_of m) c (tree ms) ≡ ns ++ picks t (aim_of m) (b + c) (tree ns)
  cut =
      append_assoc ns (picks t (aim_of m) b (tree ns)) (picks t (aim_of m) c (tree ms))
      ∙ ap (λ (s : DTree). ns ++ (picks t (aim_of m) b (tree ns) ++ picks t (aim_of m) c s)) first_grows
      ∙ ap (λ (ps : List Refinement). ns ++ ps) (sym (picks-add t (aim_of m) b c (tree ns)))

  on_series : AsOne t (layout t ns) (run_of m b) (run_of m c) (run_of m (b + c))
  unfolding aim_of
  on_series =
      let first-tree : call_tree t (layout t ns) (run_of m b) ≡ layout t ms = run-tree t ns h (limits m b) free_first in
      record {
        tree_is =
            ap (λ (x : Tree). call_tree t x (run_of m c)) first-tree
            ∙ run-tree t ms first_series (limits m c) free_second
            ∙ ap (layout t) cut
            ∙ sym (run-tree t ns h (limits m (b + c)) free_one);
        answers =
            rw (first-tree, call-outcome t ns h (run_of m b), call-outcome t ms first_series (run_of m c), call-outcome t ns h (run_of m (b + c)), first_grows)
            (rules-add-up t (tree ns) m b c free_first free_second free_one);
      }

-- TWO RUNS ARE ONE.
pub two-runs-are-one : (t : Table) (x : Tree) (m : Limits) (b c : ℕ) → b + c ≤ 255 → AsOne t x (run_of m b) (run_of m c) (run_of m (b + c))
unfolding number_of
two-runs-are-one t x m b c few = by (comes {A = Unit {0}} (refusals_of t x (run_of m (b + c))) tt)
  where
    same : (d : ℕ) → d ≤ 255 → judged (refusals_of t x (run_of m d)) ≡ judged (refusals_of t x (run_of m (b + c)))
    same d h = ap judged (same_refusals t (bad t x) m d (b + c) h few)

    by : Comes {A = Unit {0}} (refusals_of t x (run_of m (b + c))) tt → AsOne t x (run_of m b) (run_of m c) (run_of m (b + c))
    by (accepts n s) =
        let e = number-first t x (run_of m (b + c)) ∙ n in
        let f = free t x (run_of m (b + c)) e in
        let g : Good t x = (sixteen t x).0 f.1 in
        let z : run_number t false (limits m (b + c)) ≡ 0 = sym (ap (λ (o : Bool). run_number t o (limits m (b + c))) f.1) ∙ e in
        subst (λ (y : Tree). AsOne t y (run_of m b) (run_of m c) (run_of m (b + c))) (sym g.is) (on_series t f.0 g.made g.accepted m b c few z)
    by (refuses r n s) =
        refused-runs t x (limits m b) (limits m c) (limits m (b + c)) r
        (same b (omega (arith, few)) ∙ s)
        (same c (omega (arith, few)) ∙ s)
        s
