-- What the tests at the front of a call come to: a mode, a table or limits that are refused, and those that are accepted.
-- Rests on the contracts of `checks` and `running`.
use mathlib.Core.Path.{◌≡◌, sym, ap, ◌∙◌}
use mathlib.Core.Bool.{false}
use mathlib.Core.List.{List, [], ◌∷◌}
use Prim.Native.Nat.{ℕ}
use Rattle.std.specs.Prelude.{Result, Ok, Err}
use Rattle.rules.specs.Table.{table}
use Rattle.rules.specs.Refusals.{Test, test, first, answered, mode_above, table_refusals, limit_refusals}
use Rattle.rules.specs.declared.Limits.{Limits}
use Rattle.rules.specs.declared.Refusal.{Refusal}
use Rattle.rules.proofs.First.{none-applies}
use Rattle.rules.proofs.Answering.{first-accepted}
use Rattle.checks.specs.declared.accepted.Table.{Table}
use Rattle.checks.specs.Tables.{passed, Accepting}
use Rattle.running.specs.declared.Task.{Task}
use Rattle.running.specs.Tasks.{passed as task_passed, Accepting as TaskAccepting}

-- Whether a list of tests refuses, and by which.
abbrev pub judged : List Test → Result (Unit {0}) Refusal
judged xs = answered xs tt

-- The test of the mode.
abbrev pub of-mode : Limits → List Test
of-mode m = test Refusal.ModeAbove (mode_above m) ∷ []

module _ (m : Limits) (w : Result (Unit {0}) Refusal) (a : w ≡ judged (of-mode m)) where
  -- A mode is refused by 3.
  pub mode_refused : (r : Refusal) → w ≡ Err r → judged (of-mode m) ≡ Err r
  mode_refused r e = sym a ∙ e

  -- Accepted, it is not above 1.
  pub mode_taken : (u : Unit {0}) → w ≡ Ok u → mode_above m ≡ false
  mode_taken u e = (none-applies (of-mode m) (first-accepted (of-mode m) tt u (sym a ∙ e))).0

module _ (ws ps qs : List ℕ) (w : Result Table Refusal) (a : Accepting ws ps qs w) where
  -- A table is refused by the first of its tests that applies.
  pub table_refused : (r : Refusal) → w ≡ Err r → judged (table_refusals (table ws ps qs)) ≡ Err r
  table_refused r e = sym a.answer ∙ ap passed e

module _ (m : Limits) (w : Result Task Refusal) (a : TaskAccepting m w) where
  -- Limits are refused by the first of their tests that applies.
  pub task_refused : (r : Refusal) → w ≡ Err r → judged (limit_refusals m) ≡ Err r
  task_refused r e = sym a.answer ∙ ap task_passed e

  -- Accepted as a task that is these limits, they are refused by no number.
  pub task_taken : (t : Task) → w ≡ Ok t → t.limits ≡ m → first (limit_refusals t.limits) ≡ 0
  task_taken t e f = ap (λ (l : Limits). first (limit_refusals l)) f ∙ first-accepted (limit_refusals m) tt tt (sym a.answer ∙ ap task_passed e)
