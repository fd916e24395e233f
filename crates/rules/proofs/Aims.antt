-- What a run aims at (RULES 5.6, 5.7, 5.16, 5.17): what narrow enough says by distance and by share, what is then known of the exact chance, and where a
-- run stops. Rests on Runs.antt for the verdict and on Demand3.antt for the interval that a run hands back.
use mathlib.Core.Path.{◌≡◌, refl, ap}
use mathlib.Core.Bool.{Bool, true, false}
use mathlib.Core.List.{List, [], ◌∷◌}
use mathlib.Core.Logic.{◌↔◌}
use mathlib.Core.Option.{none, some}
use Prim.Native.Nat.{ℕ, zero, suc, ◌+◌, ◌-◌, ◌*◌, ◌/◌, ◌^◌, ◌≤◌, ◌<◌}
use native.Mathlib.Nat.{le_trans, mul-le-mul_left, mul-le-mul_right, le_of_mul-le-mul_right}
use native.Mathlib.Omega.{arith}
use lib.ListN.{length}
use lib.Dec.{leb}
use borrow.Author.Tests.{leb-true, leb-false, le-leb, lt-leb}
use Rattle.rules.specs.Rounding.{S}
use Rattle.rules.specs.Table.{Way, Table, ways, Encloses, Near, InShare, InRange, ShareKept}
use Rattle.rules.specs.Tree.{DTree, tree, low, high, roomy, Refinement, refine, series}
use Rattle.rules.specs.Run.{next, aim_of, narrow, Turn, stop, go, turn, picks, verdict, ran, figure}
use Rattle.rules.specs.Refusals.{Accepted}
use Rattle.rules.specs.Answers.{run_reply, run_verdict, run_figure}
use Rattle.rules.specs.Calls.{run_number, run_answer, run_refusals, ended, run_makes, figures, by_run, call_number, outcome}
use Rattle.rules.specs.declared.Limits.{Limits}
use Rattle.rules.specs.declared.Aim.{Aim}
use Rattle.rules.specs.declared.Verdict.{Verdict}
use Rattle.rules.specs.declared.Verdict.TheVariants.{Met, Done, Full, Spent}
use Rattle.std.specs.Prelude.{Result, Some}
use Rattle.rules.specs.declared.Ended.{Ended}
use Rattle.rules.specs.declared.Refusal.{Refusal}
use Rattle.rules.proofs.Answering.{Comes, accepts, refuses, comes, answered-free}
use Rattle.rules.proofs.Enclosure.{enclosing-order}
use Rattle.rules.proofs.Runs.{verdict-exactly}
use Rattle.rules.proofs.Sum.{pow-S-pos}
use Rattle.rules.proofs.Demand3.{HandsBack, hands-back}

-- ---- the two modes

-- In mode 1 the allowance is a share.
pub aims_share : (m : Limits) → m.mode ≡ 1 → aim_of m ≡ Aim.Share m.allowance
unfolding aim_of
aims_share m o = rw (o, aim_of)

-- In mode 0 it is a distance.
pub aims_distance : (m : Limits) → m.mode ≡ 0 → aim_of m ≡ Aim.Distance m.allowance
unfolding aim_of
aims_distance m z = rw (z, aim_of)

-- ---- narrow enough

-- What a comparison of x with y says: enough is x at most y, too wide is x above y.
pub record Compares (b : Bool) (x y : ℕ) : Type 0 where
  pub enough : (b ≡ true) ↔ (x ≤ y)
  pub wide : (b ≡ false) ↔ (y < x)

compares : (x y : ℕ) → Compares (leb x y) x y
compares x y = record { enough = (leb-true x y, le-leb x y); wide = (leb-false x y, lt-leb x y) }

-- NARROW ENOUGH AND TOO WIDE, by distance and by share.
pub distance-exactly : (a : Aim) (e : ℕ) → a ≡ Aim.Distance e → (lo hi : ℕ) → Compares (narrow a lo hi) (hi - lo) (2 * e)
unfolding narrow
distance-exactly a e q lo hi = rw (q, narrow) (compares (hi - lo) (2 * e))

pub share-exactly : (a : Aim) (e : ℕ) → a ≡ Aim.Share e → (lo hi : ℕ) → Compares (narrow a lo hi) ((S - e) * hi) ((S + e) * lo)
unfolding narrow
share-exactly a e q lo hi = rw (q, narrow) (compares ((S - e) * hi) ((S + e) * lo))

-- MET is said exactly if the interval then at the root is that narrow.
pub met_distance : (t : Table) (a : Aim) (e : ℕ) → a ≡ Aim.Distance e → (b : ℕ) (s : DTree)
    → (verdict t a b s ≡ Met) ↔ (high t (ran t a b s) - low t (ran t a b s) ≤ 2 * e)
met_distance t a e q b s =
    let met = (verdict-exactly t a b s).met in
    let width = (distance-exactly a e q (low t (ran t a b s)) (high t (ran t a b s))).enough in
    (λ h. width.0 (met.0 h), λ h. met.1 (width.1 h))

pub met_share : (t : Table) (a : Aim) (e : ℕ) → a ≡ Aim.Share e → (b : ℕ) (s : DTree)
    → (verdict t a b s ≡ Met) ↔ ((S - e) * high t (ran t a b s) ≤ (S + e) * low t (ran t a b s))
met_share t a e q b s =
    let met = (verdict-exactly t a b s).met in
    let range = (share-exactly a e q (low t (ran t a b s)) (high t (ran t a b s))).enough in
    (λ h. range.0 (met.0 h), λ h. met.1 (range.1 h))

-- ---- the allowance as a distance: one figure is near

-- The figure is low plus half the width, rounded down.
pub figure-distance : (a : Aim) (e : ℕ) → a ≡ Aim.Distance e → (lo hi : ℕ) → figure a lo hi ≡ lo + (hi - lo) / 2
unfolding figure
figure-distance a e q lo hi = rw (q, figure)

-- It lies in its interval.
pub figure-inside : (a : Aim) (e : ℕ) → a ≡ Aim.Distance e → (lo hi : ℕ) → lo ≤ hi → (lo ≤ figure a lo hi) × (figure a lo hi ≤ hi)
figure-inside a e q lo hi h = rw (figure-distance a e q lo hi) (omega arith, omega (arith, h))

-- AT MET the exact chance is within the allowance of the figure: neither end of the interval is further away than that.
pub near-met : (ws : List ℕ) (vs : List Way) (a : Aim) (e : ℕ) → a ≡ Aim.Distance e → (lo hi : ℕ) → Encloses ws vs lo hi → narrow a lo hi ≡ true
    → Near ws vs (figure a lo hi) e
near-met ws vs a e q lo hi i h =
    let ordered = enclosing-order ws vs lo hi i in
    let middle = figure-distance a e q lo hi in
    let w = (distance-exactly a e q lo hi).enough.0 h in
    let from_low : figure a lo hi ≤ lo + e = omega (arith, middle, w, ordered) in
    let from-high : hi ≤ figure a lo hi + e = omega (arith, middle, w, ordered) in
    record {
      below = omega (arith, i.below, mul-le-mul_right (S ^ length ws) from_low);
      above = omega (arith, i.above, mul-le-mul_right (S ^ length ws) from-high);
    }

-- ---- the allowance as a share: every number of a range is near

-- By share the figure is 0: it claims nothing.
pub figure-share : (a : Aim) (e : ℕ) → a ≡ Aim.Share e → (lo hi : ℕ) → figure a lo hi ≡ 0
unfolding figure
figure-share a e q lo hi = rw (q, figure)

-- EVERY NUMBER OF THE RANGE is within the share of the exact chance p, since (S − e) × p ≤ (S − e) × high and (S + e) × low ≤ (S + e) × p.
pub range-near : (ws : List ℕ) (vs : List Way) (e lo hi x d : ℕ) → Encloses ws vs lo hi → InRange e lo hi x d → InShare ws vs e x d
range-near ws vs e lo hi x d i r =
    record {
      below = omega (arith, mul-le-mul_left ((S - e) * d) i.above, mul-le-mul_right (S ^ length ws) r.from);
      above = omega (arith, mul-le-mul_left ((S + e) * d) i.below, mul-le-mul_right (S ^ length ws) r.to);
    }

-- NOR IS ANY OTHER where the exact chance is a whole number p of billionths: x / d is within the share of it exactly if it stands in the range of the
-- interval from p to p.
pub share-tight : (ws : List ℕ) (vs : List Way) (e p x d : ℕ) → Encloses ws vs p p → 0 < d → InShare ws vs e x d ↔ InRange e p p x d
share-tight ws vs e p x d i h =
    let unit = pow-S-pos (length ws) in (
      (λ r.
          record {
            positive = h;
            from = le_of_mul-le-mul_right (omega (arith, r.below, mul-le-mul_left ((S - e) * d) i.below)) unit;
            to = le_of_mul-le-mul_right (omega (arith, r.above, mul-le-mul_left ((S + e) * d) i.above)) unit;
          }),
      (λ r. range-near ws vs e p p x d i r),
    )

-- THERE IS SUCH A NUMBER exactly if the interval is narrow enough by share: its lower end, (S − e) × high / S, then is one.
pub range-exactly : (e lo hi : ℕ) → ((S - e) * hi ≤ (S + e) * lo) ↔ ((x : ℕ) × (d : ℕ) × InRange e lo hi x d)
range-exactly e lo hi = (
  (λ h. ((S - e) * hi, S, record { positive = omega arith; from = omega arith; to = omega (arith, mul-le-mul_right S h) })),
  (λ k. let r = k.2 in le_of_mul-le-mul_right (le_trans r.from r.to) r.positive),
)

-- AT MET every number of the range is within the share, and there is one.
pub share-kept : (ws : List ℕ) (vs : List Way) (a : Aim) (e : ℕ) → a ≡ Aim.Share e → (lo hi : ℕ) → Encloses ws vs lo hi → narrow a lo hi ≡ true
    → ShareKept ws vs e lo hi
share-kept ws vs a e q lo hi i h =
    record { every = λ x d r. range-near ws vs e lo hi x d i r; some_number = (range-exactly e lo hi).0 ((share-exactly a e q lo hi).enough.0 h) }

-- ---- what a run hands back

-- What an accepted run's answer is worth, by what it aims at. By distance, the figure is the middle of the interval, and at met the exact chance of the
-- table's ways is within the allowance of it. By share, the figure is 0, and at met every number of the range is within the share.
pub record Aimed (t : Table) (m : Limits) (a : Result Ended Refusal) : Type 0 where
  pub is_middle : m.mode ≡ 0 → run_figure a ≡ (run_reply a).low + ((run_reply a).high - (run_reply a).low) / 2
  pub inside : m.mode ≡ 0 → ((run_reply a).low ≤ run_figure a) × (run_figure a ≤ (run_reply a).high)
  pub near : m.mode ≡ 0 → run_verdict a ≡ Some Met → Near t.weights (ways t) (run_figure a) m.allowance
  pub share_figure : m.mode ≡ 1 → run_figure a ≡ 0
  pub in_share : m.mode ≡ 1 → run_verdict a ≡ Some Met → ShareKept t.weights (ways t) m.allowance (run_reply a).low (run_reply a).high

-- So it is of every accepted run, on the tree of any series.
pub aimed : (t : Table) → Accepted t → (ns : List Refinement) → series t ns ≡ true → (m : Limits) → run_number t false m ≡ 0
    → Aimed t m (run_answer t false (tree ns) m)
unfolding call_number run_number outcome run_answer run_makes figures figure
aimed t ok ns h m z =
    let back : HandsBack t (tree ns) (by_run m) = hands-back t ok ns h (by_run m) z in
    let narrow-if = (verdict-exactly t (aim_of m) m.budget (tree ns)).met.0 in
    let answer = ended (aim_of m) (verdict t (aim_of m) m.budget (tree ns)) (figures t (tree ns) (run_makes t (tree ns) m)) in
    let accepted = answered-free (run_refusals t false m) answer z in
    rw accepted
    record {
      is_middle = λ q. figure-distance (aim_of m) m.allowance (aims_distance m q) _ _;
      inside = λ q. figure-inside (aim_of m) m.allowance (aims_distance m q) _ _ (rw accepted at back.ordered);
      near =
          λ q e.
          near-met t.weights (ways t) (aim_of m) m.allowance (aims_distance m q) _ _ (rw accepted at back.encloses) (narrow-if (cc e));
      share_figure = λ q. figure-share (aim_of m) m.allowance (aims_share m q) _ _;
      in_share =
          λ q e.
          share-kept t.weights (ways t) (aim_of m) m.allowance (aims_share m q) _ _ (rw accepted at back.encloses) (narrow-if (cc e));
    }

-- A refused run has the figure 0.
pub no_figure : (t : Table) (m : Limits) (bad : Bool) (s : DTree) → (run_number t bad m ≡ 0 → ⊥) → run_figure (run_answer t bad s m) ≡ 0
unfolding run_answer run_number
no_figure t m bad s f = split (comes (run_refusals t bad m) answer)
  where
    answer : Ended
    answer = ended (aim_of m) (verdict t (aim_of m) m.budget s) (figures t s (run_makes t s m))

    split : Comes (run_refusals t bad m) answer → run_figure (run_answer t bad s m) ≡ 0
    split (accepts n e) = absurd (f n)
    split (refuses r n e) = ap run_figure e

-- ---- where a run stops

-- A RUN BY ITS INTERVAL: it stops as soon as the one at the root is enough; its leaves, its refinements and its other verdicts are those of Run.antt.
module _ (t : Table) (enough : ℕ → ℕ → Bool) where
  abbrev pub turn_to : DTree → Turn
  turn_to s =
      elim (enough (low t s) (high t s)) as (λ b. Turn) [
        | true ↦ stop Met
        | false ↦ elim (next t s) as (λ o. Turn) [ none ↦ stop Done | some n ↦ elim (roomy s) as (λ b. Turn) [ true ↦ go n | false ↦ stop Full ] ]
      ]

  abbrev pub picks_to : ℕ → DTree → List Refinement
  picks_to zero s = []
  picks_to (suc b) s = elim (turn_to s) as (λ x. List Refinement) [ stop v ↦ [] | go n ↦ n ∷ picks_to b (refine n s) ]

  abbrev pub verdict_to : ℕ → DTree → Verdict
  verdict_to zero s = elim (turn_to s) as (λ x. Verdict) [ stop v ↦ v | go n ↦ Spent ]
  verdict_to (suc b) s = elim (turn_to s) as (λ x. Verdict) [ stop v ↦ v | go n ↦ verdict_to b (refine n s) ]

-- A RUN makes and says what that run does for the test that its aim asks for: nothing else of a run looks at the aim.
module _ (t : Table) (a : Aim) where
  pub same_picks : (b : ℕ) (s : DTree) → picks t a b s ≡ picks_to t (narrow a) b s
  unfolding picks turn
  same_picks zero s = refl
  same_picks (suc b) s = by (turn_to t (narrow a) s) (λ n. same_picks b (refine n s))
    where
      by : (x : Turn) → ((n : Refinement) → picks t a b (refine n s) ≡ picks_to t (narrow a) b (refine n s))
          → ◌≡◌ {A = List Refinement} (elim x as (λ x. List Refinement) [ stop v ↦ [] | go n ↦ n ∷ picks t a b (refine n s) ])
          (elim x as (λ x. List Refinement) [ stop v ↦ [] | go n ↦ n ∷ picks_to t (narrow a) b (refine n s) ])
      by (stop v) ih = refl
      by (go n) ih = ap (λ (ns : List Refinement). n ∷ ns) (ih n)

  pub same_verdict : (b : ℕ) (s : DTree) → verdict t a b s ≡ verdict_to t (narrow a) b s
  unfolding verdict turn
  same_verdict zero s = refl
  same_verdict (suc b) s = by (turn_to t (narrow a) s) (λ n. same_verdict b (refine n s))
    where
      by : (x : Turn) → ((n : Refinement) → verdict t a b (refine n s) ≡ verdict_to t (narrow a) b (refine n s))
          → ◌≡◌ {A = Verdict} (elim x as (λ x. Verdict) [ stop v ↦ v | go n ↦ verdict t a b (refine n s) ])
          (elim x as (λ x. Verdict) [ stop v ↦ v | go n ↦ verdict_to t (narrow a) b (refine n s) ])
      by (stop v) ih = refl
      by (go n) ih = ih n
