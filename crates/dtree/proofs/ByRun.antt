-- A run on a good tree that nothing refuses: it leaves and hands back what the rules say.
-- Rests on the contract of `running`.
use mathlib.Core.Path.{◌≡◌, sym, ap, ap₂, ◌∙◌}
use mathlib.Core.Bool.{true, false}
use mathlib.Core.List.{List, ◌++◌}
use Prim.Native.Nat.{ℕ}
use Rattle.std.specs.Prelude.{Ok}
use Rattle.rules.specs.Table.{Table}
use Rattle.rules.specs.Tree.{Refinement, DTree, tree, series}
use Rattle.rules.specs.Run.{aim_of, picks, verdict, figure}
use Rattle.rules.specs.Refusals.{test, first, mode_above, limit_refusals, Accepted}
use Rattle.rules.specs.Calls.{run_number, run_refusals, run_answer, by_run, ran, run_makes, figures, ended, call_number, outcome, makes, makes_by, would_make}
use Rattle.rules.specs.declared.Limits.{Limits}
use Rattle.rules.specs.declared.Verdict.{Verdict}
use Rattle.rules.specs.declared.Figures.{Figures}
use Rattle.rules.specs.declared.Refusal.{Refusal}
use Rattle.rules.proofs.First.{first-later}
use Rattle.rules.proofs.Answering.{answered-free}
use Rattle.rules.proofs.Demand3.{run-number}
use Rattle.records.specs.Records.{layout, history, Good}
use Rattle.records.specs.Library.{call_tree, call_outcome}
use Rattle.records.specs.declared.Node.{Node}
use Rattle.records.specs.declared.Tree.{Tree}
use Rattle.records.proofs.History.{history-layout}
use Rattle.records.proofs.ByTheRules.{call-tree, call-outcome}
use Rattle.running.specs.Ran.{Ran}
use Rattle.running.specs.declared.Stopped.{Stopped}
use Rattle.dtree.specs.Promises.{root_of, root_figures, Called}
use Rattle.dtree.proofs.Calling.{called, shows}

-- What an accepted run makes.
pub made-picks : (t : Table) (s : DTree) (m : Limits) → run_number t false m ≡ 0 → makes t s (by_run m) ≡ picks t (aim_of m) m.budget s
unfolding makes makes_by call_number would_make run_makes
made-picks t s m z = ap (λ (n : ℕ). makes_by n (picks t (aim_of m) m.budget s)) z

-- What it hands back, with the figure of its interval.
pub said : (t : Table) (s : DTree) (m : Limits) → run_number t false m ≡ 0
    → outcome t s (by_run m) ≡ ran (Ok (ended (aim_of m) (verdict t (aim_of m) m.budget s) (figures t s (picks t (aim_of m) m.budget s))))
unfolding outcome run_answer run_makes run_number
said t s m z = ap ran (answered-free (run_refusals t false m) _ z)

-- The run is made.
pub ran_on : (t : Table) (x : Tree) → Good t x → (m : Limits) → run_number t false m ≡ 0 → (y : Tree) (r : Stopped) → Ran t (history x) m y r
    → Called t x (by_run m) y (ran (Ok (ended (aim_of m) r.verdict (root_figures y r.made))))
ran_on t x g m zeroed y r w = called t x (by_run m) y _ tree_is outcome_is
  where
    own : history x ≡ g.made
    own = ap history g.is ∙ history-layout t g.made g.accepted

    whole : series t (history x) ≡ true
    whole = ap (series t) own ∙ g.accepted

    is : x ≡ layout t (history x)
    is = g.is ∙ ap (layout t) (sym own)

    ms : List Refinement
    ms = picks t (aim_of m) m.budget (tree (history x))

    tree_is : y ≡ call_tree t x (by_run m)
    tree_is =
        w.leaves ∙ ap (λ (ps : List Refinement). layout t (history x ++ ps)) (sym (made-picks t (tree (history x)) m zeroed))
        ∙ sym (call-tree t (history x) whole (by_run m)) ∙ ap (λ (z : Tree). call_tree t z (by_run m)) (sym is)

    figures_are : root_figures y r.made ≡ figures t (tree (history x)) ms
    figures_are = ap₂ root_figures w.leaves w.counts ∙ shows t (history x) ms

    outcome_is : ran (Ok (ended (aim_of m) r.verdict (root_figures y r.made))) ≡ call_outcome t x (by_run m)
    outcome_is =
        ap₂ (λ (v : Verdict) (f : Figures). ran (Ok (ended (aim_of m) v f))) w.says figures_are
        ∙ sym (said t (tree (history x)) m zeroed) ∙ sym (call-outcome t (history x) whole (by_run m))
        ∙ ap (λ (z : Tree). call_outcome t z (by_run m)) (sym is)

-- The same for an accepted table and limits that nothing refuses, of what was read of the tree: the figures, and the figure of its root's record.
pub ran_so : (t : Table) → Accepted t → (x : Tree) → Good t x → (m : Limits) → mode_above m ≡ false → first (limit_refusals m) ≡ 0
    → (y : Tree) (r : Stopped) → Ran t (history x) m y r → (f : Figures) → f ≡ root_figures y r.made → (top : Node) → top ≡ root_of y
    → (g : ℕ) → g ≡ figure (aim_of m) top.low top.high → Called t x (by_run m) y (ran (Ok (record { verdict = r.verdict; figures = f; figure = g })))
ran_so t ok x good m low free y r w f e top o g h =
    rw (h, o, e) (ran_on t x good m (run-number t ok m ∙ first-later (test Refusal.ModeAbove (mode_above m)) _ low ∙ free) y r w)
