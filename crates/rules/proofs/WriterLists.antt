-- Lists that the writer does not refuse, and what its tests say of them: they agree in length, fit the fields and end at byte 49612 or before.
-- Rests on First.antt and Accepted.antt for the refusals and on Laid.antt for what laying out asks of lists.
use mathlib.Core.Path.{◌≡◌, sym, ap, ◌∙◌}
use mathlib.Core.Bool.{false, not, ◌||◌}
use mathlib.Core.List.{List, [], ◌∷◌}
use Prim.Native.Nat.{ℕ, suc, ◌+◌, ◌*◌, ◌^◌, ◌≤◌}
use native.Mathlib.Nat.{mul-suc, pow-le-pow_right, zero-lt-suc}
use native.Mathlib.Omega.{arith}
use lib.ListN.{length}
use lib.Dec.{eqb, ltb, leb}
use borrow.Author.Tests.{ltb-false, leb-false, eqb-true, eq-eqb, not-false}
use Rattle.rules.specs.Rounding.{S}
use Rattle.rules.specs.Table.{rows}
use Rattle.rules.specs.Leaf.{any}
use Rattle.rules.specs.Refusals.{first, faults_outside, cues_outside, some_above, not_rising, crowded, overweight, names_beyond, names_both}
use Rattle.rules.specs.Refusals.{mode_above, allowance_above, budget_above, way_refusals, limit_refusals}
use Rattle.rules.specs.Sheet.{Lists, total, weights_start, bodies_start, disagree, lists_refusals, AllBelow}
use Rattle.rules.proofs.Bytes.{below-mono}
use Rattle.rules.proofs.Booleans.{or_split, or-neither}
use Rattle.rules.proofs.First.{none-applies, first-later, first-none}
use Rattle.rules.proofs.Accepted.{not-outside}
use Rattle.rules.proofs.Laid.{Agree, Fits}

-- ---- the writer's tests, one by one

-- Lists to which no refusal of the writer applies.
pub record Kept (x : Lists) : Type 0 where
  pub faults : faults_outside (length x.weights) ≡ false
  pub cues : cues_outside (length x.numbers) ≡ false
  pub counted : cues_outside (length x.counts) ≡ false
  pub mode : mode_above x.limits ≡ false
  pub rising : not_rising x.numbers ≡ false
  pub counts : crowded x.counts ≡ false
  pub weights : overweight x.weights ≡ false
  pub beyond : names_beyond (length x.weights) (rows 0 x.present x.absent) ≡ false
  pub both : names_both (rows 0 x.present x.absent) ≡ false
  pub allowance : allowance_above x.limits ≡ false
  pub budget : budget_above x.limits ≡ false
  pub agree : disagree x ≡ false

-- Lists whose number is 0 are such lists.
pub lists_kept : (x : Lists) → first (lists_refusals x) ≡ 0 → Kept x
unfolding lists_refusals way_refusals limit_refusals
lists_kept x h =
    let n = none-applies (lists_refusals x) h in
    let two = or_split (faults_outside (length x.weights)) _ n.0 in
    let lists = or_split (cues_outside (length x.numbers)) _ two.1 in
    record {
      faults = two.0;
      cues = lists.0;
      counted = lists.1;
      mode = n.1.0;
      rising = n.1.1.0;
      counts = n.1.1.1.0;
      weights = n.1.1.1.1.0;
      beyond = n.1.1.1.1.1.0;
      both = n.1.1.1.1.1.1.0;
      allowance = n.1.1.1.1.1.1.1.0;
      budget = n.1.1.1.1.1.1.1.1.0;
      agree = n.1.1.1.1.1.1.1.1.1.0;
    }

-- None of them applies to such lists.
pub kept-lists : (x : Lists) → Kept x → first (lists_refusals x) ≡ 0
unfolding lists_refusals way_refusals limit_refusals
kept-lists x k =
    first-later _ _ (or-neither _ _ k.faults (or-neither _ _ k.cues k.counted))
    ∙ first-later _ _ k.mode
    ∙ first-later _ _ k.rising
    ∙ first-later _ _ k.counts
    ∙ first-later _ _ k.weights
    ∙ first-later _ _ k.beyond
    ∙ first-later _ _ k.both
    ∙ first-later _ _ k.allowance
    ∙ first-later _ _ k.budget
    ∙ first-later _ _ k.agree
    ∙ first-none

-- ---- what they say

-- Not outside: at most 64 faults.
pub faults-most : (n : ℕ) → faults_outside n ≡ false → n ≤ 64
unfolding faults_outside
faults-most n h = (not-outside 64 n h).1

-- Not outside: at most 24 cues.
pub cues-most : (n : ℕ) → cues_outside n ≡ false → n ≤ 24
unfolding cues_outside
cues-most n h = (not-outside 24 n h).1

-- No number of a list is above a limit.
pub none_above : (m : ℕ) (xs : List ℕ) → some_above m xs ≡ false → AllBelow (suc m) xs
unfolding some_above
none_above m [] h = tt
none_above m (x ∷ xs) h =
    let here = or_split (ltb m x) _ h in
    let le : x ≤ m = ltb-false m x here.0 in
    (omega arith, none_above m xs here.1)

-- A sum of numbers below a limit.
pub total-most : (m : ℕ) (ks : List ℕ) → AllBelow (suc m) ks → total ks ≤ m * length ks
unfolding total
total-most m [] h = omega arith
total-most m (k ∷ ks) h = omega (arith, total-most m ks h.1, mul-suc m (length ks))

-- The last body ends at byte 49612 or before.
pub ends-most : (n : ℕ) (ks : List ℕ) → n ≤ 64 → length ks ≤ 24 → crowded ks ≡ false → bodies_start (length ks) n + 16 * total ks ≤ 49612
unfolding bodies_start weights_start crowded
ends-most n ks faults cues h = omega (arith, total-most 128 ks (none_above 128 ks h))

-- Every word names faults below n only.
pub words-below : (n i : ℕ) (ps qs : List ℕ) → length qs ≡ length ps → names_beyond n (rows i ps qs) ≡ false → AllBelow (2 ^ n) ps × AllBelow (2 ^ n) qs
unfolding names_beyond any rows
words-below n i [] [] e h = (tt, tt)
words-below n i [] (q ∷ qs) e h = absurd (omega arith)
words-below n i (p ∷ ps) [] e h = absurd (omega arith)
words-below n i (p ∷ ps) (q ∷ qs) e h =
    let all = or_split (leb (2 ^ n) p || leb (2 ^ n) q) _ h in
    let here = or_split (leb (2 ^ n) p) _ all.0 in
    let rest = words-below n (suc i) ps qs (omega arith) all.1 in
    ((leb-false (2 ^ n) p here.0, rest.0), (leb-false (2 ^ n) q here.1, rest.1))

-- 21 says that the lists agree in length.
pub disagree-agree : (x : Lists) → disagree x ≡ false → Agree x
unfolding disagree
disagree-agree x h =
    let a = or_split (not (eqb (length x.numbers) (length x.counts))) _ h in
    let b = or_split (not (eqb (length x.present) (length x.absent))) _ a.1 in
    record {
      counted = sym (eqb-true _ _ (not-false _ a.0));
      paired = sym (eqb-true _ _ (not-false _ b.0));
      dealt = eqb-true _ _ (not-false _ b.1);
    }

-- The other way.
pub agree-disagree : (x : Lists) → Agree x → disagree x ≡ false
unfolding disagree
agree-disagree x a =
    or-neither _ _ (ap not (eq-eqb _ _ (sym a.counted))) (or-neither _ _ (ap not (eq-eqb _ _ (sym a.paired))) (ap not (eq-eqb _ _ a.dealt)))

module _ (x : Lists) (k : Kept x) where
  -- They agree in length.
  pub kept_agree : Agree x
  kept_agree = disagree-agree x k.agree

  -- The last body ends at byte 49612 or before.
  pub kept_ends : bodies_start (length x.numbers) (length x.weights) + 16 * total x.counts ≤ 49612
  kept_ends =
      rw (← kept_agree.counted)
      (ends-most (length x.weights) x.counts (faults-most _ k.faults) (cues-most _ k.counted) k.counts)

  -- Lists that the writer keeps fit the fields, if the cue numbers do.
  pub kept_fits : AllBelow 65536 x.numbers → Fits x
  unfolding crowded overweight mode_above allowance_above budget_above
  kept_fits numbers =
      let faults : length x.weights ≤ 64 = faults-most (length x.weights) k.faults in
      let cues : length x.numbers ≤ 24 = cues-most (length x.numbers) k.cues in
      let words = words-below (length x.weights) 0 x.present x.absent kept_agree.paired k.beyond in
      let widest : 2 ^ length x.weights ≤ 256 ^ 8 = pow-le-pow_right (zero-lt-suc 1) faults in
      record {
        faults = omega arith;
        cues = omega arith;
        allowance = omega (arith, ltb-false S x.limits.allowance k.allowance);
        budget = omega (arith, ltb-false 255 x.limits.budget k.budget);
        mode = omega (arith, ltb-false 1 x.limits.mode k.mode);
        numbers = numbers;
        counts = below-mono 129 (256 ^ 2) x.counts (omega arith) (none_above 128 x.counts k.counts);
        weights = below-mono (suc S) (256 ^ 4) x.weights (omega arith) (none_above S x.weights k.weights);
        present = below-mono (2 ^ length x.weights) (256 ^ 8) x.present widest words.0;
        absent = below-mono (2 ^ length x.weights) (256 ^ 8) x.absent widest words.1;
        ends = omega (arith, kept_ends);
      }
