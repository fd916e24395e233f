-- What an accepted run says, how much it makes and what its figure is worth.
-- Rests on `rules`, Runs, where each verdict is what it says, and Aims, for what met and the figure are worth.
use mathlib.Core.Path.{◌≡◌, ap, ◌∙◌}
use mathlib.Core.Bool.{true, false}
use mathlib.Core.List.{List, ◌++◌}
use mathlib.Core.Logic.{◌↔◌}
use Rattle.std.specs.Prelude.{Option, Some, None, Result, Err}
use Prim.Native.Nat.{ℕ, ◌+◌, ◌-◌, ◌*◌, ◌/◌, ◌≤◌}
use Rattle.rules.specs.Rounding.{S}
use Rattle.rules.specs.Table.{Table, ways, Near, ShareKept}
use Rattle.rules.specs.Tree.{Refinement, leaf, tree, grow, low, high, series}
use Rattle.rules.specs.Run.{aim_of, picks}
use Rattle.rules.specs.Answers.{run_verdict, run_figure}
use Rattle.rules.specs.Refusals.{Accepted}
use Rattle.rules.specs.Calls.{run_number, Outcome, handed, ran, reply, by_run, figures, call_number, outcome, makes}
use Rattle.rules.specs.declared.Limits.{Limits}
use Rattle.rules.specs.declared.Verdict.{Verdict}
use Rattle.rules.specs.declared.Verdict.TheVariants.{Met}
use Rattle.rules.specs.declared.Ended.{Ended}
use Rattle.rules.specs.declared.Refusal.{Refusal}
use Rattle.rules.proofs.Series.{grow-append}
use Rattle.rules.proofs.Runs.{picks-budget}
use Rattle.rules.proofs.Aims.{aims_distance, aims_share, met_distance, met_share, Aimed, aimed, no_figure}
use Rattle.records.specs.Records.{layout, history, bad}
use Rattle.records.specs.Library.{call_tree, call_outcome}
use Rattle.records.specs.declared.Tree.{Tree}
use Rattle.dtree.specs.Promises.{root_of, number_of, Called, Running}
use Rattle.dtree.proofs.Accepting.{judged}
use Rattle.dtree.proofs.Refuses.{refused-call}
use Rattle.dtree.proofs.Calling.{refusals_of, by_the_rules, root_low, root_high}
use Rattle.dtree.proofs.ByRun.{made-picks, said}

-- The verdict of what a call hands back; a hand refinement has none.
abbrev pub verdict_of : Outcome → Option Verdict
verdict_of (handed a) = None
verdict_of (ran a) = run_verdict a

-- The figure of what a call hands back; a hand refinement has none.
abbrev pub figure_of : Outcome → ℕ
figure_of (handed a) = 0
figure_of (ran a) = run_figure a

-- What an accepted run on a table says that leaves the tree y.
record Says (t : Table) (m : Limits) (y : Tree) (o : Outcome) : Type 0 where
  in_budget : (reply o).count ≤ m.budget
  met_distance : m.mode ≡ 0 → (verdict_of o ≡ Some Met) ↔ ((root_of y).high - (root_of y).low ≤ 2 * m.allowance)
  met_share : m.mode ≡ 1 → (verdict_of o ≡ Some Met) ↔ ((S - m.allowance) * (root_of y).high ≤ (S + m.allowance) * (root_of y).low)
  figure_is : m.mode ≡ 0 → figure_of o ≡ (root_of y).low + ((root_of y).high - (root_of y).low) / 2
  share_figure : m.mode ≡ 1 → figure_of o ≡ 0
  near : m.mode ≡ 0 → verdict_of o ≡ Some Met → Near t.weights (ways t) (figure_of o) m.allowance
  in_share : m.mode ≡ 1 → verdict_of o ≡ Some Met → ShareKept t.weights (ways t) m.allowance (root_of y).low (root_of y).high

-- What a run's answer is worth; a hand refinement has none.
abbrev WorthOf : Table → Limits → Outcome → Type 0
WorthOf t m (handed a) = Unit {0}
WorthOf t m (ran a) = Aimed t m a

-- Of an accepted run by the rules it is that.
worth : (t : Table) → Accepted t → (ns : List Refinement) → series t ns ≡ true → (m : Limits) → run_number t false m ≡ 0
    → WorthOf t m (outcome t (tree ns) (by_run m))
unfolding outcome
worth t ok ns s m z = aimed t ok ns s m z

-- What a verdict says, said of a verdict that is there.
of_some : {v w : Verdict} {P : Type 0} → (v ≡ w) ↔ P → (Some v ≡ Some w) ↔ P
of_some x = (λ e. x.0 (cc e), λ p. ap (λ (v : Verdict). Some v) (x.1 p))

-- By the rules, on the tree of a series.
on_series : (t : Table) → Accepted t → (ns : List Refinement) → series t ns ≡ true → (m : Limits) → run_number t false m ≡ 0
    → Says t m (layout t (ns ++ picks t (aim_of m) m.budget (tree ns))) (outcome t (tree ns) (by_run m))
unfolding figures
on_series t ok ns s m z =
    let ps = picks t (aim_of m) m.budget (tree ns) in
    let e = said t (tree ns) m z in
    let a = rw e at (worth t ok ns s m z) in
    let l : (root_of (layout t (ns ++ ps))).low ≡ low t (grow (tree ns) ps) = root_low t (ns ++ ps) ∙ ap (low t) (grow-append ns ps leaf) in
    let h : (root_of (layout t (ns ++ ps))).high ≡ high t (grow (tree ns) ps) = root_high t (ns ++ ps) ∙ ap (high t) (grow-append ns ps leaf) in
    rw e
    record {
      in_budget = picks-budget t (aim_of m) m.budget (tree ns);
      met_distance = λ q. rw (l, h) (of_some (met_distance t (aim_of m) m.allowance (aims_distance m q) m.budget (tree ns)));
      met_share = λ q. rw (l, h) (of_some (met_share t (aim_of m) m.allowance (aims_share m q) m.budget (tree ns)));
      figure_is = λ q. rw (l, h) (a.is_middle q);
      share_figure = a.share_figure;
      near = a.near;
      in_share = λ q v. rw (l, h) (a.in_share q v);
    }

-- On every tree.
says : (t : Table) (x : Tree) (m : Limits) → number_of t x (by_run m) ≡ 0 → Says t m (call_tree t x (by_run m)) (call_outcome t x (by_run m))
unfolding call_number
says t x m z = by_the_rules t (by_run m) (λ y w o. Says t m w o) on x z
  where
    on : Accepted t → (ns : List Refinement) → series t ns ≡ true → run_number t false m ≡ 0
        → Says t m (layout t (ns ++ makes t (tree ns) (by_run m))) (outcome t (tree ns) (by_run m))
    on ok ns h n = rw (made-picks t (tree ns) m n) (on_series t ok ns h m n)

-- A refused run has the figure 0.
refused-figure : (t : Table) (x : Tree) (m : Limits) → (number_of t x (by_run m) ≡ 0 → ⊥) → figure_of (call_outcome t x (by_run m)) ≡ 0
unfolding number_of call_outcome
refused-figure t x m f = no_figure t m (bad t x) (tree (history x)) f

-- The promise of a run, from that of a call.
pub running : (t : Table) (x : Tree) (m : Limits) (y : Tree) (a : Result Ended Refusal) → Called t x (by_run m) y (ran a) → Running t x m y a
running t x m y a c =
    record {
      call = c;
      in_budget = λ z. (at z).in_budget;
      met_distance = λ z. (at z).met_distance;
      met_share = λ z. (at z).met_share;
      figure_is = λ z. (at z).figure_is;
      share_figure = λ z. (at z).share_figure;
      no_figure = λ f. ap figure_of c.outcome_is ∙ refused-figure t x m f;
      near = λ z. (at z).near;
      in_share = λ z. (at z).in_share;
    }
  where
    at : number_of t x (by_run m) ≡ 0 → Says t m y (ran a)
    at z = rw (c.tree_is, c.outcome_is) (says t x m z)

-- A run that is refused.
pub running-refused : (t : Table) (x : Tree) (m : Limits) (a : Result Ended Refusal) (r : Refusal) → a ≡ Err r → judged (refusals_of t x (by_run m)) ≡ Err r
    → Running t x m x a
running-refused t x m a r e f = rw e (running t x m x (Err r) (refused-call t x (by_run m) r f))
