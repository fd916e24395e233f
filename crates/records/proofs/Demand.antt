-- DEMAND 3, on the trees that the library leaves and its answers: two operators from one accepted table.
-- Rests on ByTheRules.antt (the library goes by the rules), Seen.antt (what a reader sees) and the rules' Demand3.antt.
use mathlib.Core.Path.{◌≡◌, sym, ap, ◌∙◌}
use mathlib.Core.List.{List, [], ◌∷◌, ◌++◌}
use mathlib.Core.Option.{some}
use mathlib.Core.Logic.{◌↔◌}
use Prim.Native.Nat.{◌≤◌}
use lib.ListN.{length}
use Rattle.rules.specs.Table.{Table}
use Rattle.rules.specs.Tree.{Place, leaf, low, high, inners, Refinement, tree, kind_at, descend, subtree, Interval, interval_at}
use Rattle.rules.specs.Refusals.{Accepted}
use Rattle.rules.specs.Calls.{Call, by_run, Outcome, outcome, makes, noted, reports}
use Rattle.rules.specs.declared.Limits.{Limits}
use Rattle.rules.proofs.Members.{In}
use Rattle.rules.proofs.Series.{Same, grow-append, all_done, only-done, places-differ}
use Rattle.rules.proofs.Narrowing.{NoWider}
use Rattle.rules.proofs.Demand3.{noted_series, after_run, Share, same-share, never_wider, call_never_widens}
use Rattle.records.specs.Records.{layout, tree_kind, tree_interval, tree_count}
use Rattle.records.specs.Library.{open_tree, call_tree, call_outcome, tree_after, outcomes_after}
use Rattle.records.specs.declared.Tree.{Tree}
use Rattle.records.proofs.Seen.{seen_kind, seen_interval, seen_count}
use Rattle.records.proofs.ByTheRules.{call-tree, call-outcome, ByTheRules, by_the_rules}

-- The tree after a list of calls from a fresh opening, and what the calls handed back.
abbrev pub after : Table → List Call → Tree
after t cs = tree_after t (open_tree t) cs

abbrev pub said : Table → List Call → List Outcome
said t cs = outcomes_after t (open_tree t) cs

-- What two lists share.
pub record Shared (t : Table) (cs cs' : List Call) : Type 0 where
  -- the interval at every place, and what was done there
  pub intervals : (p : Place) → tree_interval (after t cs) p ≡ tree_interval (after t cs') p
  pub kinds : (p : Place) → tree_kind (after t cs) p ≡ tree_kind (after t cs') p
  -- the number of refinements: how many are noted, and for either list the sum of its counts
  pub count : tree_count (after t cs) ≡ tree_count (after t cs')
  pub places : tree_count (after t cs) ≡ length (noted t cs)
  pub reported : tree_count (after t cs) ≡ reports (said t cs)
  pub reported' : tree_count (after t cs) ≡ reports (said t cs')
  -- the outcome of every further run, refused ones included (RULES 5.13): its answer, and then every place with its kind and its interval
  pub answers : (m : Limits) → call_outcome t (after t cs) (by_run m) ≡ call_outcome t (after t cs') (by_run m)
  pub then_intervals : (m : Limits) (p : Place)
      → tree_interval (call_tree t (after t cs) (by_run m)) p ≡ tree_interval (call_tree t (after t cs') (by_run m)) p
  pub then_kinds : (m : Limits) (p : Place) → tree_kind (call_tree t (after t cs) (by_run m)) p ≡ tree_kind (call_tree t (after t cs') (by_run m)) p

-- Both trees have an interval at the root, and that of the second lies within that of the first.
pub record RootWithin (x y : Tree) : Type 0 where
  pub was : Interval
  pub now : Interval
  pub was_read : tree_interval x [] ≡ some was
  pub now_read : tree_interval y [] ≡ some now
  pub low_rises : was.low ≤ now.low
  pub high_falls : now.high ≤ was.high

-- DEMAND 3 (RULES 5.14, 5.15, 4.13), of the library's trees: two lists of calls that note the same refinements in the end, in whatever order, share every
-- interval, the number of refinements and the outcome of every further run; and along a list no refinement widens the root.
pub record Demand-3-library (t : Table) : Type 0 where
  -- A. after every list the tree is that of the refinements noted by the rules, each call has said what the rules say, and 16 does not apply
  pub goes_by_the_rules : (cs : List Call) → ByTheRules t cs
  -- B. two lists that note the same refinements
  pub shared : (cs cs' : List Call) → Same (noted t cs) (noted t cs') → Shared t cs cs'
  -- what is noted is what the tree shows, and no place is noted twice
  pub noted_read : (cs : List Call) (n : Refinement) → In n (noted t cs) ↔ (tree_kind (after t cs) n.place ≡ some n.kind)
  pub noted_once : (cs : List Call) (before later : List Refinement) (n m : Refinement)
      → noted t cs ≡ before ++ n ∷ later → In m before → m.place ≡ n.place → ⊥
  -- so whether both note the same may be read off the two trees
  pub same_read : (cs cs' : List Call) → ((p : Place) → tree_kind (after t cs) p ≡ tree_kind (after t cs') p) → Same (noted t cs) (noted t cs')
  -- C. each single refinement along a list, and each call
  pub never_wider : (cs : List Call) (before later : List Refinement) (n : Refinement)
      → noted t cs ≡ before ++ n ∷ later → RootWithin (layout t before) (layout t (before ++ n ∷ []))
  pub call_never_widens : (cs : List Call) (c : Call) → RootWithin (after t cs) (call_tree t (after t cs) c)

-- At the root of a layout the interval is the one that the rules give.
pub root-read : (t : Table) (ns : List Refinement) → tree_interval (layout t ns) [] ≡ some (record { low = low t (tree ns); high = high t (tree ns) })
unfolding interval_at subtree descend low high
root-read t ns = seen_interval t ns []

-- So what the rules say of two roots holds of two layouts.
root_within : (t : Table) (ns ms : List Refinement) → NoWider t (tree ns) (tree ms) → RootWithin (layout t ns) (layout t ms)
root_within t ns ms w =
    record {
      was = record { low = low t (tree ns); high = high t (tree ns) };
      now = record { low = low t (tree ms); high = high t (tree ms) };
      was_read = root-read t ns;
      now_read = root-read t ms;
      low_rises = w.low_rises;
      high_falls = w.high_falls;
    }

module _ (t : Table) (ok : Accepted t) where
  -- ---- the trees and answers of the library, by the rules

  -- The tree after a list, and what it shows.
  after_is : (cs : List Call) → after t cs ≡ layout t (noted t cs)
  after_is cs = (by_the_rules t ok cs).tree

  kind_is : (cs : List Call) (p : Place) → tree_kind (after t cs) p ≡ kind_at p (tree (noted t cs))
  kind_is cs p = ap (λ (x : Tree). tree_kind x p) (after_is cs) ∙ seen_kind t (noted t cs) p

  interval_is : (cs : List Call) (p : Place) → tree_interval (after t cs) p ≡ interval_at t p (tree (noted t cs))
  interval_is cs p = ap (λ (x : Tree). tree_interval x p) (after_is cs) ∙ seen_interval t (noted t cs) p

  count_is : (cs : List Call) → tree_count (after t cs) ≡ inners (tree (noted t cs))
  count_is cs = ap tree_count (after_is cs) ∙ seen_count t (noted t cs) (noted_series t ok cs)

  -- What the next call hands back, its tree, and what that shows after a run.
  outcome_is : (cs : List Call) (c : Call) → call_outcome t (after t cs) c ≡ outcome t (tree (noted t cs)) c
  outcome_is cs c = ap (λ (x : Tree). call_outcome t x c) (after_is cs) ∙ call-outcome t (noted t cs) (noted_series t ok cs) c

  then_is : (cs : List Call) (c : Call) → call_tree t (after t cs) c ≡ layout t (noted t cs ++ makes t (tree (noted t cs)) c)
  then_is cs c = ap (λ (x : Tree). call_tree t x c) (after_is cs) ∙ call-tree t (noted t cs) (noted_series t ok cs) c

  then_kind : (cs : List Call) (m : Limits) (p : Place) → tree_kind (call_tree t (after t cs) (by_run m)) p ≡ kind_at p (after_run t (tree (noted t cs)) m)
  then_kind cs m p = ap (λ (x : Tree). tree_kind x p) (then_is cs (by_run m)) ∙ seen_kind t _ p ∙ ap (kind_at p) (grow-append (noted t cs) _ leaf)

  then_interval : (cs : List Call) (m : Limits) (p : Place) → tree_interval (call_tree t (after t cs) (by_run m)) p
      ≡ interval_at t p (after_run t (tree (noted t cs)) m)
  then_interval cs m p =
      ap (λ (x : Tree). tree_interval x p) (then_is cs (by_run m)) ∙ seen_interval t _ p ∙ ap (interval_at t p) (grow-append (noted t cs) _ leaf)

  -- ---- two lists

  -- What two lists share by the rules they share on the trees.
  share_trees : (cs cs' : List Call) → Share t cs cs' → Shared t cs cs'
  share_trees cs cs' s =
      record {
        intervals = λ p. interval_is cs p ∙ s.intervals p ∙ sym (interval_is cs' p);
        kinds = λ p. kind_is cs p ∙ s.kinds p ∙ sym (kind_is cs' p);
        count = count_is cs ∙ s.count ∙ sym (count_is cs');
        places = count_is cs ∙ s.places;
        reported = count_is cs ∙ s.reported ∙ ap reports (sym (by_the_rules t ok cs).said);
        reported' = count_is cs ∙ s.reported' ∙ ap reports (sym (by_the_rules t ok cs').said);
        answers = λ m. outcome_is cs (by_run m) ∙ s.answers m ∙ sym (outcome_is cs' (by_run m));
        then_intervals = λ m p. then_interval cs m p ∙ s.then_intervals m p ∙ sym (then_interval cs' m p);
        then_kinds = λ m p. then_kind cs m p ∙ s.then_kinds m p ∙ sym (then_kind cs' m p);
      }

  -- What is noted is done, and what is done is noted.
  noted_is : (cs : List Call) (n : Refinement) → In n (noted t cs) ↔ (tree_kind (after t cs) n.place ≡ some n.kind)
  noted_is cs n = (
    λ i. kind_is cs n.place ∙ all_done t (noted t cs) leaf (noted_series t ok cs) n i,
    λ e. only-done (noted t cs) n.place n.kind (sym (kind_is cs n.place) ∙ e),
  )

  -- What one list notes shows in its tree, so in the other's, so the other notes it.
  noted_too : (cs cs' : List Call) → ((p : Place) → tree_kind (after t cs) p ≡ tree_kind (after t cs') p)
      → (n : Refinement) → In n (noted t cs) → In n (noted t cs')
  noted_too cs cs' h n i = (noted_is cs' n).1 (sym (h n.place) ∙ (noted_is cs n).0 i)

  -- No call widens the root.
  call_within : (cs : List Call) (c : Call) → RootWithin (after t cs) (call_tree t (after t cs) c)
  call_within cs c =
      let s = tree (noted t cs) in
      rw (then_is cs c, after_is cs)
      (root_within t (noted t cs) (noted t cs ++ makes t s c) (rw (grow-append (noted t cs) (makes t s c) leaf) (call_never_widens t s c)))

-- DEMAND 3 holds of every accepted table.
pub demand-3-library : (t : Table) → Accepted t → Demand-3-library t
demand-3-library t ok =
    record {
      goes_by_the_rules = by_the_rules t ok;
      shared = λ cs cs' e. share_trees t ok cs cs' (same-share t ok cs cs' e);
      noted_read = noted_is t ok;
      noted_once = λ cs before later n m. places-differ t (noted t cs) before later n m (noted_series t ok cs);
      same_read = λ cs cs' h. record { there = noted_too t ok cs cs' h; back = noted_too t ok cs' cs (λ p. sym (h p)) };
      never_wider = λ cs before later n e. root_within t before (before ++ n ∷ []) (never_wider t cs before later n e);
      call_never_widens = call_within t ok;
    }
