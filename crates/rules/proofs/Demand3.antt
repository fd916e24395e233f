-- DEMAND 3, by the rules: two lists of calls that note the same refinements agree on everything, and no refinement along a list widens the root.
-- A list starts from an accepted opening. Rests on Series.antt, Runs.antt and Narrowing.antt.
use mathlib.Core.Path.{◌≡◌, refl, sym, ap, ◌∙◌, subst}
use mathlib.Core.Bool.{Bool, true, false, not, ◌&&◌, true≢false}
use mathlib.Core.List.{List, [], ◌∷◌, ◌++◌}
use mathlib.Core.Option.{Option, none, some}
use Prim.Native.Nat.{ℕ, zero, suc, ◌+◌, ◌-◌, ◌≤◌, ◌<◌}
use native.Mathlib.Omega.{arith}
use lib.ListN.{length, length-append}
use borrow.Author.Tests.{not-false, le-ltb, lt-ltb}
use Rattle.rules.specs.Rounding.{S}
use Rattle.rules.specs.Table.{Way, Table, ways, Encloses}
use Rattle.rules.specs.Leaf.{is_open}
use Rattle.rules.specs.Tree.{root_ways, left, right, Place, DTree, leaf, possible, low, high, inners, Refinement}
use Rattle.rules.specs.Tree.{grow, tree, kind_at, leaf_ways, roomy, interval_at, acceptable, series_from, series}
use Rattle.rules.specs.Run.{aim_of, picks, verdict}
use Rattle.rules.specs.Refusals.{mode_above, Test, test, number, first, table_refusals, table_number, way_refusals, limit_refusals, Accepted}
use Rattle.rules.specs.Calls.{step_to, place_of, place_bytes, leaf_named, no_leaf, of_leaf, leaf_refusals, hand_refusals, run_refusals, hand_number, run_number}
use Rattle.rules.specs.Calls.{hand_makes, run_makes, figures, ended, hand_answer, run_answer, makes_by, Call, by_hand, by_run}
use Rattle.rules.specs.Calls.{reply, call_number, outcome, would_make, makes, noted_from, noted, outcomes_from, outcomes, reports}
use Rattle.rules.specs.declared.Kind.{Kind}
use Rattle.rules.specs.declared.Limits.{Limits}
use Rattle.rules.specs.declared.Refusal.{Refusal}
use Rattle.rules.proofs.Booleans.{and_both}
use Rattle.rules.specs.Answers.{answer_reply, run_reply}
use Rattle.rules.proofs.First.{number-above, none-applies, first-after, first-later, first-end, first-same}
use Rattle.rules.proofs.Answering.{by-number, answered-free}
use Rattle.rules.proofs.Series.{Same, acceptable-found, grow-append, series-append, same-tree, series-inners, grown-inners}
use Rattle.rules.proofs.Enclosure.{root-encloses, enclosing-order, end-le}
use Rattle.rules.proofs.Levels.{refined-above}
use Rattle.rules.proofs.Runs.{picks-series}
use Rattle.rules.proofs.Narrowing.{NoWider, refined-within, grown-within}

-- ---- what an accepted call makes could be made

module _ (t : Table) (ok : Accepted t) where
  -- 9 to 13 do not apply, so a call's number is that of its other refusals.
  table_passed : (xs : List Test) → first (table_refusals t ++ xs) ≡ first xs
  unfolding table_number table_refusals way_refusals
  table_passed xs = first-after (table_refusals t) xs (none-applies (table_refusals t) ok)

  pub hand-number : (s : DTree) (bs : List ℕ) (k : Kind) → hand_number t false s bs k ≡ first (leaf_refusals t s bs k (leaf_named t s bs))
  unfolding hand_number hand_refusals
  hand-number s bs k =
      let rest : List Test = leaf_refusals t s bs k (leaf_named t s bs) in
      table_passed (test Refusal.NotGood false ∷ rest) ∙ first-later (test Refusal.NotGood false) rest refl

  pub run-number : (m : Limits) → run_number t false m ≡ first (test Refusal.ModeAbove (mode_above m) ∷ limit_refusals m)
  unfolding run_number run_refusals first
  run-number m =
      let rest : List Test = limit_refusals m ++ test Refusal.NotGood false ∷ [] in
      first-same (test Refusal.ModeAbove (mode_above m)) (table_refusals t ++ rest) (limit_refusals m)
      (λ k. table_passed rest ∙ first-end (limit_refusals m) (test Refusal.NotGood false ∷ []) refl)

-- A hand refinement that none of 17 to 20 refuses is acceptable.
leaf-acceptable : (t : Table) (s : DTree) (bs : List ℕ) (k : Kind) (p : Place) → place_of bs ≡ some p → first (leaf_refusals t s bs k (leaf_named t s bs)) ≡ 0
    → acceptable t s (record { place = p; kind = k }) ≡ true
unfolding leaf_named acceptable leaf_refusals no_leaf of_leaf
leaf-acceptable t s bs k p e h = by (leaf_ways p (root_ways t) s) (rw (e, leaf_named) at h)
  where
    by : (o : Option (List Way)) → first (leaf_refusals t s bs k o) ≡ 0
        → (elim o as (λ o. Bool) [ none ↦ false | some vs ↦ is_open t.weights vs && (roomy s && possible k vs) ]) ≡ true
    by none h = absurd (true≢false (none-applies (leaf_refusals t s bs k none) h).0)
    by (some vs) h =
        let n = none-applies (leaf_refusals t s bs k (some vs)) h in
        and_both (is_open t.weights vs) _ (not-false _ n.1.0) (and_both (roomy s) _ (not-false _ n.1.1.0) (not-false _ n.1.1.1.0))

-- Bytes that name no place name no leaf, and 17 refuses that.
unnamed : (t : Table) (s : DTree) (bs : List ℕ) → place_of bs ≡ none → leaf_named t s bs ≡ none
unfolding leaf_named
unnamed t s bs e = rw (e, leaf_named)

no-leaf : (t : Table) (s : DTree) (bs : List ℕ) (k : Kind) (o : Option (List Way)) → o ≡ none → first (leaf_refusals t s bs k o) ≡ 0 → ⊥
unfolding leaf_refusals no_leaf
no-leaf t s bs k o e h = true≢false (none-applies (leaf_refusals t s bs k none) (rw e at h)).0

all-clear : first (test Refusal.NoLeaf false ∷ test Refusal.Closed (not true) ∷ test Refusal.Full (not true) ∷ test Refusal.Impossible (not true) ∷ []) ≡ 0
unfolding first
all-clear = refl

-- And the other way: an acceptable refinement at a place of at most 64 steps is refused by none of them.
acceptable-leaf : (t : Table) (s : DTree) (bs : List ℕ) (k : Kind) (p : Place) → place_of bs ≡ some p → length bs ≤ 64
    → acceptable t s (record { place = p; kind = k }) ≡ true → first (leaf_refusals t s bs k (leaf_named t s bs)) ≡ 0
unfolding leaf_named leaf_refusals no_leaf of_leaf
acceptable-leaf t s bs k p e l a =
    let f = acceptable-found t s (record { place = p; kind = k }) a in
    rw (e, leaf_named, f.there, le-ltb 64 (length bs) l, f.opened, lt-ltb (inners s) 255 f.room, f.fitting) all-clear

-- AN ACCEPTED HAND REFINEMENT names one acceptable refinement, and makes that one and no other.
pub record HandMade (t : Table) (s : DTree) (bs : List ℕ) (k : Kind) : Type 0 where
  pub place : Place
  pub named : place_of bs ≡ some place
  pub fine : acceptable t s (record { place = place; kind = k }) ≡ true
  pub made : hand_makes bs k ≡ record { place = place; kind = k } ∷ []

pub hand-made : (t : Table) → Accepted t → (s : DTree) (bs : List ℕ) (k : Kind) → hand_number t false s bs k ≡ 0 → HandMade t s bs k
unfolding hand_makes
hand-made t ok s bs k h = by (place_of bs) refl
  where
    free : first (leaf_refusals t s bs k (leaf_named t s bs)) ≡ 0
    free = sym (hand-number t ok s bs k) ∙ h

    by : (o : Option Place) → place_of bs ≡ o → HandMade t s bs k
    by none e = absurd (no_place e)
      where
        no_place : place_of bs ≡ none → ⊥
        no_place e = no-leaf t s bs k (leaf_named t s bs) (unnamed t s bs e) free
    by (some p) e = record { place = p; named = e; fine = leaf-acceptable t s bs k p e free; made = rw (e, hand_makes) }

-- A place is read back from its bytes.
pub place-bytes : (p : Place) → place_of (place_bytes p) ≡ some p
unfolding place_of place_bytes step_to
place-bytes [] = refl
place-bytes (left ∷ p) = ap (step_to left) (place-bytes p)
place-bytes (right ∷ p) = ap (step_to right) (place-bytes p)

bytes-length : (p : Place) → length (place_bytes p) ≡ length p
unfolding place_bytes
bytes-length [] = refl
bytes-length (b ∷ p) = ap suc (bytes-length p)

-- What a run's rule may make can be made by hand: the length of a place never decides.
pub by-hand : (t : Table) → Accepted t → (ns : List Refinement) → series t ns ≡ true → (n : Refinement) → acceptable t (tree ns) n ≡ true
    → hand_number t false (tree ns) (place_bytes n.place) n.kind ≡ 0
by-hand t ok ns h n a =
    hand-number t ok (tree ns) (place_bytes n.place) n.kind
    ∙ acceptable-leaf t (tree ns) (place_bytes n.place) n.kind n.place (place-bytes n.place)
    (omega (arith, bytes-length n.place, refined-above t ok ns h n a)) a

module _ (t : Table) (ok : Accepted t) where
  -- What a call makes is a series, from any tree.
  pub makes_series : (s : DTree) (c : Call) → series_from t s (makes t s c) ≡ true
  unfolding makes makes_by would_make call_number hand_makes run_makes series_from
  makes_series s (by_hand bs k) = by (place_of bs) refl (hand_number t false s bs k) refl
    where
      by : (o : Option Place) → place_of bs ≡ o → (n : ℕ) → hand_number t false s bs k ≡ n
          → series_from t s (makes_by n (elim o as (λ o. List Refinement) [ none ↦ [] | some p ↦ record { place = p; kind = k } ∷ [] ])) ≡ true
      by o e (suc n) h = refl
      by none e zero h = refl
      by (some p) e zero h =
          and_both (acceptable t s (record { place = p; kind = k })) _ (leaf-acceptable t s bs k p e (sym (hand-number t ok s bs k) ∙ h)) refl
  makes_series s (by_run m) = by (run_number t false m)
    where
      by : (n : ℕ) → series_from t s (makes_by n (picks t (aim_of m) m.budget s)) ≡ true
      by zero = picks-series t ok (aim_of m) m.budget s
      by (suc n) = refl

  noted_from_series : (cs : List Call) (ns : List Refinement) → series t ns ≡ true → series t (noted_from t ns cs) ≡ true
  unfolding noted_from
  noted_from_series [] ns h = h
  noted_from_series (c ∷ cs) ns h =
      noted_from_series cs (ns ++ makes t (tree ns) c) (series-append t ns (makes t (tree ns) c) leaf h (makes_series (tree ns) c))

  -- WHAT A LIST OF CALLS NOTES is a series of acceptable refinements.
  pub noted_series : (cs : List Call) → series t (noted t cs) ≡ true
  unfolding series_from
  noted_series cs = noted_from_series cs [] refl

  -- A refused call makes nothing.
  refused-makes : (ms : List Refinement) (r : Refusal) → 0 ≡ length (makes_by (number r) ms)
  unfolding makes_by
  refused-makes ms r = by (number r) (number-above r)
    where
      by : (n : ℕ) → 0 < n → 0 ≡ length (makes_by n ms)
      by zero h = absurd (omega (arith, h))
      by (suc n) h = refl

  -- Each call reports the number of refinements that it makes: 0 if it is refused.
  pub report_is : (s : DTree) (c : Call) → (reply (outcome t s c)).count ≡ length (makes t s c)
  unfolding outcome hand_answer run_answer makes makes_by call_number hand_number run_number would_make figures
  report_is s (by_hand bs k) =
      by-number (λ a. (answer_reply a).count) (λ n. length (makes_by n (hand_makes bs k))) (hand_refusals t false s bs k) _ refl (refused-makes (hand_makes bs k))
  report_is s (by_run m) =
      by-number (λ a. (run_reply a).count) (λ n. length (makes_by n (run_makes t s m))) (run_refusals t false m) _ refl (refused-makes (run_makes t s m))

  reports_from : (cs : List Call) (ns : List Refinement) → length ns + reports (outcomes_from t ns cs) ≡ length (noted_from t ns cs)
  unfolding reports outcomes_from noted_from
  reports_from [] ns = omega arith
  reports_from (c ∷ cs) ns =
      omega (arith, reports_from cs (ns ++ makes t (tree ns) c), length-append ns (makes t (tree ns) c), report_is (tree ns) c)

  -- The reports of a list add up to the refinements that it notes.
  pub reports_noted : (cs : List Call) → reports (outcomes t cs) ≡ length (noted t cs)
  reports_noted cs = omega (arith, reports_from cs [])

-- ---- DEMAND 3: two lists of calls

-- What a further run leaves.
abbrev pub after_run : Table → DTree → Limits → DTree
after_run t s m = grow s (makes t s (by_run m))

-- What two lists share.
pub record Share (t : Table) (cs cs' : List Call) : Type 0 where
  -- the interval at every place, and what was done there
  pub intervals : (p : Place) → interval_at t p (tree (noted t cs)) ≡ interval_at t p (tree (noted t cs'))
  pub kinds : (p : Place) → kind_at p (tree (noted t cs)) ≡ kind_at p (tree (noted t cs'))
  -- the number of refinements: how many are noted, and for either list the sum of its counts
  pub count : inners (tree (noted t cs)) ≡ inners (tree (noted t cs'))
  pub places : inners (tree (noted t cs)) ≡ length (noted t cs)
  pub reported : inners (tree (noted t cs)) ≡ reports (outcomes t cs)
  pub reported' : inners (tree (noted t cs)) ≡ reports (outcomes t cs')
  -- the outcome of every further run on equal limits, mode included, refused ones too (RULES 5.13): number, verdict, count and figure, then every place with
  -- its kind and its interval
  pub answers : (m : Limits) → outcome t (tree (noted t cs)) (by_run m) ≡ outcome t (tree (noted t cs')) (by_run m)
  pub then_kinds : (m : Limits) (p : Place) → kind_at p (after_run t (tree (noted t cs)) m) ≡ kind_at p (after_run t (tree (noted t cs')) m)
  pub then_intervals : (m : Limits) (p : Place) → interval_at t p (after_run t (tree (noted t cs)) m) ≡ interval_at t p (after_run t (tree (noted t cs')) m)

-- DEMAND 3, B: lists that note the same refinements in the end share all of this (RULES 5.15).
pub same-share : (t : Table) → Accepted t → (cs cs' : List Call) → Same (noted t cs) (noted t cs') → Share t cs cs'
same-share t ok cs cs' e =
    record {
      intervals = λ p. ap (interval_at t p) q;
      kinds = λ p. ap (kind_at p) q;
      count = ap inners q;
      places = size cs;
      reported = size cs ∙ sym (reports_noted t ok cs);
      reported' = ap inners q ∙ size cs' ∙ sym (reports_noted t ok cs');
      answers = λ m. ap (λ (s : DTree). outcome t s (by_run m)) q;
      then_kinds = λ m p. ap (λ (s : DTree). kind_at p (after_run t s m)) q;
      then_intervals = λ m p. ap (λ (s : DTree). interval_at t p (after_run t s m)) q;
    }
  where
    q : tree (noted t cs) ≡ tree (noted t cs')
    q = same-tree t (noted t cs) (noted t cs') (noted_series t ok cs) (noted_series t ok cs') e

    size : (ds : List Call) → inners (tree (noted t ds)) ≡ length (noted t ds)
    size ds = series-inners t (noted t ds) (noted_series t ok ds)

-- DEMAND 3, C: along every list, at each single refinement, by hand or within a run, the root's low never falls and its high never rises.
pub never_wider : (t : Table) (cs : List Call) (before after : List Refinement) (n : Refinement) → noted t cs ≡ before ++ n ∷ after
    → NoWider t (tree before) (tree (before ++ n ∷ []))
unfolding grow
never_wider t cs before after n e = rw (grow-append before (n ∷ []) leaf) (refined-within t n (tree before))

-- And from call to call.
pub call_never_widens : (t : Table) (s : DTree) (c : Call) → NoWider t s (grow s (makes t s c))
call_never_widens t s c = grown-within t (makes t s c) s

-- ---- what a call hands back is certain

-- What every call that is not refused hands back after a list of calls: the root's interval, which encloses the exact sum over the table's ways,
-- stands in order, is at most S and lies within the one before; and the number of refinements that it made.
pub record HandsBack (t : Table) (s : DTree) (c : Call) : Type 0 where
  pub encloses : Encloses t.weights (ways t) (reply (outcome t s c)).low (reply (outcome t s c)).high
  pub ordered : (reply (outcome t s c)).low ≤ (reply (outcome t s c)).high
  pub bounded : (reply (outcome t s c)).high ≤ S
  pub low_rises : low t s ≤ (reply (outcome t s c)).low
  pub high_falls : (reply (outcome t s c)).high ≤ high t s
  pub count : (reply (outcome t s c)).count ≡ inners (grow s (makes t s c)) - inners s

-- The interval of an accepted call is the one then at the root.
accepted-low : (t : Table) (s : DTree) (c : Call) → call_number t s c ≡ 0 → (reply (outcome t s c)).low ≡ low t (grow s (makes t s c))
unfolding outcome hand_answer run_answer makes makes_by call_number hand_number run_number would_make figures
accepted-low t s (by_hand bs k) e = rw (answered-free (hand_refusals t false s bs k) (figures t s (hand_makes bs k)) e, e) refl
accepted-low t s (by_run m) e =
    rw (answered-free (run_refusals t false m) (ended (aim_of m) (verdict t (aim_of m) m.budget s) (figures t s (run_makes t s m))) e, e) refl

accepted-high : (t : Table) (s : DTree) (c : Call) → call_number t s c ≡ 0 → (reply (outcome t s c)).high ≡ high t (grow s (makes t s c))
unfolding outcome hand_answer run_answer makes makes_by call_number hand_number run_number would_make figures
accepted-high t s (by_hand bs k) e = rw (answered-free (hand_refusals t false s bs k) (figures t s (hand_makes bs k)) e, e) refl
accepted-high t s (by_run m) e =
    rw (answered-free (run_refusals t false m) (ended (aim_of m) (verdict t (aim_of m) m.budget s) (figures t s (run_makes t s m))) e, e) refl

pub hands-back : (t : Table) → Accepted t → (ns : List Refinement) → series t ns ≡ true → (c : Call) → call_number t (tree ns) c ≡ 0 → HandsBack t (tree ns) c
unfolding high
hands-back t ok ns h c e =
    let ms = makes t (tree ns) c in
    let w = grown-within t ms (tree ns) in
    let enc = subst (λ (x : DTree). Encloses t.weights (ways t) (low t x) (high t x)) (grow-append ns ms leaf)
    (root-encloses t ok (ns ++ ms) (series-append t ns ms leaf h (makes_series t ok (tree ns) c))) in
    let l = accepted-low t (tree ns) c e in
    let u = accepted-high t (tree ns) c e in
    record {
      encloses = rw (l, u) enc;
      ordered = rw (l, u) (enclosing-order t.weights (ways t) _ _ enc);
      bounded = rw u (end-le t.weights (root_ways t) (grow (tree ns) ms));
      low_rises = rw l w.low_rises;
      high_falls = rw u w.high_falls;
      count = omega (arith, report_is t ok (tree ns) c, grown-inners t ms (tree ns) (makes_series t ok (tree ns) c));
    }
