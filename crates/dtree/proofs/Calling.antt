-- What a hand refinement and a run promise, shown of their definitions, for every table and tree.
-- Rests on `records`, ByTheRules: on a good tree a call goes by the rules; and on Stored.antt for every place.
use mathlib.Core.Path.{◌≡◌, refl, sym, ap, ap₂, subst, ◌∙◌}
use mathlib.Core.Bool.{Bool, true, false}
use mathlib.Core.List.{List, [], ◌∷◌, ◌++◌}
use mathlib.Core.Option.{some}
use Prim.Native.Nat.{ℕ, zero, suc}
use native.Mathlib.Omega.{arith}
use borrow.Author.Tests.{not-false}
use lib.ListN.{length, length-append}
use Rattle.std.specs.Prelude.{Result, Err}
use Rattle.rules.specs.Table.{Table}
use Rattle.rules.specs.Tree.{DTree, leaf, Refinement, tree, low, high, series, subtree, descend}
use Rattle.rules.specs.Run.{aim_of, verdict}
use Rattle.rules.specs.Refusals.{Test, test, number, first, table_refusals, limit_refusals, table_number, Accepted}
use Rattle.rules.specs.Answers.{Reply, refused, accepted}
use Rattle.rules.specs.Calls.{hand_number, run_number, hand_refusals, run_refusals, hand_answer, run_answer, figures, ended}
use Rattle.rules.specs.Calls.{Call, by_hand, by_run, Outcome, handed, ran, reply, call_number, outcome, makes, makes_by, would_make, hand_makes, run_makes}
use Rattle.rules.specs.declared.Figures.{Figures}
use Rattle.rules.specs.declared.Ended.{Ended}
use Rattle.rules.specs.declared.Refusal.{Refusal}
use Rattle.rules.proofs.First.{number-above, none-applies, first-after, first-before}
use Rattle.rules.proofs.Answering.{Comes, accepts, refuses, comes, answered-free, answered-alike}
use Rattle.rules.proofs.Series.{grow-append}
use Rattle.rules.proofs.Demand3.{HandsBack, hands-back, report_is}
use Rattle.records.specs.Records.{layout, records_of, record_at, subtree_or, places, history, is_good, bad, tree_interval, Good}
use Rattle.records.specs.Library.{tree_by, hand_tree, run_tree, call_tree, call_outcome}
use Rattle.records.specs.declared.Tree.{Tree}
use Rattle.records.proofs.History.{layout-count, history-layout}
use Rattle.records.proofs.Sixteen.{good-sure}
use Rattle.records.proofs.ByTheRules.{call-tree, call-outcome, still_series}
use Rattle.records.proofs.Demand.{root-read}
use Rattle.dtree.proofs.Accepting.{judged, of-mode}
use Rattle.dtree.specs.Promises.{root_of, root_figures, number_of, Worked, Called}
use Rattle.dtree.proofs.Stored.{every-place}

-- The root's record has the low end of the tree.
pub root_low : (t : Table) (ns : List Refinement) → (root_of (layout t ns)).low ≡ low t (tree ns)
unfolding layout records_of places record_at subtree_or subtree descend low
root_low t ns = refl

-- And its high end.
pub root_high : (t : Table) (ns : List Refinement) → (root_of (layout t ns)).high ≡ high t (tree ns)
unfolding layout records_of places record_at subtree_or subtree descend high
root_high t ns = refl

-- What the root shows after the refinements ms is what the rules hand back that made them.
pub shows : (t : Table) (ns ms : List Refinement) → root_figures (layout t (ns ++ ms)) (length ms) ≡ figures t (tree ns) ms
unfolding figures
shows t ns ms = rw (root_low t (ns ++ ms), root_high t (ns ++ ms), grow-append ns ms leaf) refl

-- ---- the tests of a call

-- The refusals of a call on any tree, 16 judged by the records.
abbrev pub refusals_of : Table → Tree → Call → List Test
refusals_of t x (by_hand bs k) = hand_refusals t (bad t x) (tree (history x)) bs k
refusals_of t x (by_run m) = run_refusals t (bad t x) m

-- The number is that of the first that applies.
pub number-first : (t : Table) (x : Tree) (c : Call) → number_of t x c ≡ first (refusals_of t x c)
unfolding number_of hand_number run_number
number-first t x (by_hand bs k) = refl
number-first t x (by_run m) = refl

-- ---- what 0 says

-- Where nothing of two lists is refused, nothing of the first is.
front-free : (xs ys : List Test) → first (xs ++ ys) ≡ 0 → first xs ≡ 0
front-free xs ys h = by (first xs) refl
  where
    by : (n : ℕ) → first xs ≡ n → first xs ≡ 0
    by zero e = e
    by (suc n) e = absurd (omega (arith, h, first-before xs ys n e))

-- Nor of the second.
back-free : (xs ys : List Test) → first (xs ++ ys) ≡ 0 → first ys ≡ 0
back-free xs ys h = sym (first-after xs ys (none-applies xs (front-free xs ys h))) ∙ h

-- 16 does not apply where it stands first and nothing is refused.
sixteen-free : (b : Bool) (xs : List Test) → first (test Refusal.NotGood b ∷ xs) ≡ 0 → b ≡ false
sixteen-free b xs h = (none-applies (test Refusal.NotGood b ∷ xs) h).0

-- Nothing is refused only on an accepted table and a good tree.
pub free : (t : Table) (x : Tree) (c : Call) → number_of t x c ≡ 0 → (Accepted t) × (bad t x ≡ false)
unfolding number_of hand_number run_number hand_refusals run_refusals table_number
free t x (by_hand bs k) h = (front-free (table_refusals t) _ h, sixteen-free (bad t x) _ (back-free (table_refusals t) _ h))
free t x (by_run m) h =
    let rest = back-free (of-mode m) _ h in
    (front-free (table_refusals t) _ rest, sixteen-free (bad t x) [] (back-free (limit_refusals m) _ (back-free (table_refusals t) _ rest)))

-- ---- accepted

-- On the tree of a series the number is the rules' own.
pub number_is : (t : Table) (ns : List Refinement) → series t ns ≡ true → (x : Tree) → x ≡ layout t ns → bad t x ≡ false → (c : Call)
    → number_of t x c ≡ call_number t (tree ns) c
unfolding number_of call_number
number_is t ns h x e b (by_hand bs k) =
    ap₂ (λ (o : Bool) (r : List Refinement). hand_number t o (tree r) bs k) b (ap history e ∙ history-layout t ns h)
number_is t ns h x e b (by_run m) = ap (λ (o : Bool). run_number t o m) b

-- What holds of the tree of every series that a call accepts, and of what the rules then make and hand back, holds of every accepted call.
pub by_the_rules : (t : Table) (c : Call) (P : Tree → Tree → Outcome → Type 0)
    → (Accepted t → (ns : List Refinement) → series t ns ≡ true → call_number t (tree ns) c ≡ 0
    → P (layout t ns) (layout t (ns ++ makes t (tree ns) c)) (outcome t (tree ns) c))
    → (x : Tree) → number_of t x c ≡ 0 → P x (call_tree t x c) (call_outcome t x c)
unfolding bad
by_the_rules t c P on x e =
    let f = free t x c e in
    let g : Good t x = good-sure t x (not-false (is_good t x) f.1) in
    let n = sym (number_is t g.made g.accepted x g.is f.1 c) ∙ e in
    subst (λ (z : Tree). P z (call_tree t z c) (call_outcome t z c)) (sym g.is)
    (rw (call-tree t g.made g.accepted c, call-outcome t g.made g.accepted c) (on f.0 g.made g.accepted n))

-- An accepted call hands back the interval then at the root, and the number of refinements that it made.
accepted-reply : (t : Table) (s : DTree) (c : Call) → call_number t s c ≡ 0 → reply (outcome t s c) ≡ accepted (figures t s (makes t s c))
unfolding outcome hand_answer run_answer makes makes_by call_number hand_number run_number would_make
accepted-reply t s (by_hand bs k) e = rw (answered-free (hand_refusals t false s bs k) (figures t s (hand_makes bs k)) e, e) refl
accepted-reply t s (by_run m) e =
    rw (answered-free (run_refusals t false m) (ended (aim_of m) (verdict t (aim_of m) m.budget s) (figures t s (run_makes t s m))) e, e) refl

-- That interval is the one that the root's record shows.
root-shown : (t : Table) (ns : List Refinement) (c : Call) → call_number t (tree ns) c ≡ 0
    → tree_interval (layout t (ns ++ makes t (tree ns) c)) []
    ≡ some (record { low = (reply (outcome t (tree ns) c)).low; high = (reply (outcome t (tree ns) c)).high })
unfolding figures
root-shown t ns c e =
    root-read t (ns ++ makes t (tree ns) c)
    ∙ ap (λ (s : DTree). some (record { low = low t s; high = high t s })) (grow-append ns (makes t (tree ns) c) leaf)
    ∙ ap (λ (r : Reply). some (record { low = r.low; high = r.high })) (sym (accepted-reply t (tree ns) c e))

-- On the tree of a series an accepted call does what Worked says.
on-layout : (t : Table) (c : Call) → Accepted t → (ns : List Refinement) → series t ns ≡ true → call_number t (tree ns) c ≡ 0
    → Worked t (layout t ns) (layout t (ns ++ makes t (tree ns) c)) (reply (outcome t (tree ns) c))
on-layout t c ok ns h e =
    let b : HandsBack t (tree ns) c = hands-back t ok ns h c e in
    record {
      certain = record { at-root = root-shown t ns c e; encloses = b.encloses; ordered = b.ordered; bounded = b.bounded };
      no_wider = (rw (root_low t ns) b.low_rises, rw (root_high t ns) b.high_falls);
      counts =
          omega
          (arith, layout-count t ns, layout-count t (ns ++ makes t (tree ns) c), length-append ns (makes t (tree ns) c), report_is t ok (tree ns) c);
      places = every-place t ok _ (record { made = ns ++ makes t (tree ns) c; accepted = still_series t ok ns h c; is = refl });
    }

-- And so on every tree.
worked : (t : Table) (x : Tree) (c : Call) → number_of t x c ≡ 0 → Worked t x (call_tree t x c) (reply (call_outcome t x c))
worked t x c e = by_the_rules t c (λ y z o. Worked t y z (reply o)) (on-layout t c) x e

-- ---- refused

-- Whatever number refuses, nothing is made.
stays : (t : Table) (x : Tree) (ns : List Refinement) (n : ℕ) → (n ≡ 0 → ⊥) → tree_by n t x ns ≡ x
unfolding tree_by
stays t x ns zero f = absurd (f refl)
stays t x ns (suc n) f = refl

-- A refused call leaves the tree as it was.
pub refused-tree : (t : Table) (x : Tree) (c : Call) → (number_of t x c ≡ 0 → ⊥) → call_tree t x c ≡ x
unfolding number_of call_tree hand_tree run_tree
refused-tree t x (by_hand bs k) f = stays t x (hand_makes bs k) _ f
refused-tree t x (by_run l) f = stays t x (run_makes t (tree (history x)) l) _ f

-- A call refused.
abbrev pub refused_by : Call → Refusal → Outcome
refused_by (by_hand bs k) r = handed (Err r)
refused_by (by_run m) r = ran (Err r)

-- It hands back the first refusal that applies.
pub refused-outcome : (t : Table) (x : Tree) (c : Call) (r : Refusal) → judged (refusals_of t x c) ≡ Err r
    → call_outcome t x c ≡ refused_by c r
unfolding call_outcome hand_answer run_answer
refused-outcome t x (by_hand bs k) r e = ap handed (answered-alike (hand_refusals t (bad t x) (tree (history x)) bs k) tt _ r e)
refused-outcome t x (by_run l) r e = ap ran (answered-alike (run_refusals t (bad t x) l) tt _ r e)

-- In the reply too, with nought to the full billion and count 0.
refused-reply : (c : Call) (r : Refusal) → reply (refused_by c r) ≡ refused (number r)
refused-reply (by_hand bs k) r = refl
refused-reply (by_run m) r = refl

-- ---- both

-- The reply of an accepted call has number 0.
accepted-number : (t : Table) (x : Tree) (c : Call) → number_of t x c ≡ 0 → (reply (call_outcome t x c)).number ≡ 0
unfolding number_of call_outcome hand_answer run_answer hand_number run_number
accepted-number t x (by_hand bs k) e =
    ap (λ (a : Result Figures Refusal). (reply (handed a)).number) (answered-free (hand_refusals t (bad t x) (tree (history x)) bs k) _ e)
accepted-number t x (by_run l) e = ap (λ (a : Result Ended Refusal). (reply (ran a)).number) (answered-free (run_refusals t (bad t x) l) _ e)

-- WHAT THE DEFINITIONS PROMISE.
promised : (t : Table) (x : Tree) (c : Call) → Called t x c (call_tree t x c) (call_outcome t x c)
promised t x c = by (comes {A = Unit {0}} (refusals_of t x c) tt)
  where
    by : Comes {A = Unit {0}} (refusals_of t x c) tt → Called t x c (call_tree t x c) (call_outcome t x c)
    by (accepts n s) =
        let e : number_of t x c ≡ 0 = number-first t x c ∙ n in
        record {
          tree_is = refl;
          outcome_is = refl;
          numbered = accepted-number t x c e ∙ sym e;
          accepted = λ _. worked t x c e;
          otherwise = λ f. absurd (f e);
        }
    by (refuses r n s) =
        let e : number_of t x c ≡ number r = number-first t x c ∙ n in
        let some : number_of t x c ≡ 0 → ⊥ = λ z. absurd (omega (arith, z, e, number-above r)) in
        let back = ap reply (refused-outcome t x c r s) ∙ refused-reply c r ∙ ap refused (sym e) in
        record {
          tree_is = refl;
          outcome_is = refl;
          numbered = ap (λ (y : Reply). y.number) back;
          accepted = λ h. absurd (some h);
          otherwise = λ _. (back, refused-tree t x c some);
        }

-- The same of a tree and an outcome that are the defined ones.
pub called : (t : Table) (x : Tree) (c : Call) (y : Tree) (o : Outcome) → y ≡ call_tree t x c → o ≡ call_outcome t x c → Called t x c y o
called t x c y o e f = rw (e, f) (promised t x c)
