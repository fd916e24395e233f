-- A sheet within the limits (specs/Sheet.antt, `Within`) is one whose lists the writer's tests let through, and the other way.
-- A table's ways are numbered from 0, the sheet's tests run over all rows numbered through: those tests do not look at the number.
-- Rests on Accepted.antt for a cue's table, on WriterLists.antt for the tests of the lists.
use mathlib.Core.Path.{◌≡◌, refl, sym, ap, ◌∙◌}
use mathlib.Core.Bool.{Bool, true, false, not, ◌||◌}
use mathlib.Core.List.Memᴰ
use mathlib.Core.List.{List, [], ◌∷◌, ◌++◌}
use Prim.Native.Nat.{ℕ, suc, ◌+◌, ◌^◌, ◌≤◌, ◌<◌}
use native.Mathlib.Nat.{add-zero}
use native.Mathlib.Omega.{arith}
use lib.ListN.{length}
use lib.Dec.{eqb, ltb, leb}
use lib.Bits.{bit_and}
use borrow.Author.Tests.{ltb-true, ltb-false, lt-ltb, le-ltb, eq-eqb, not-false}
use Rattle.rules.specs.Rounding.{S}
use Rattle.rules.specs.Table.{Way, absent_rows, rows, ways}
use Rattle.rules.specs.Leaf.{any}
use Rattle.rules.specs.Refusals.{first, faults_outside, cues_outside, some_above, rising, not_rising, crowded, overweight}
use Rattle.rules.specs.Refusals.{words_amiss, names_beyond, names_both, mode_above, allowance_above, budget_above, way_refusals, table_refusals, table_number}
use Rattle.rules.specs.Refusals.{Accepted}
use Rattle.rules.specs.Sheet.{AllBelow, Cue, Sheet, table_of, numbers_of, counts_of, present_of, absent_of, lists_of, lists_refusals, Within}
use Rattle.rules.proofs.Members.{In, each-most, most-each}
use Rattle.rules.proofs.Booleans.{and_split, and_both, or_left, or_right, or-neither}
use Rattle.rules.proofs.First.{first-later, first-none}
use Rattle.rules.proofs.Accepted.{not-outside, from_one, weights-of, inside, one_sense, Inside, accepted-inside, inside-accepted}
use Rattle.rules.proofs.Laid.{Paired, paired-agree, length-numbers, length-counts}
use Rattle.rules.proofs.WriterLists.{Kept, lists_kept, kept-lists, agree-disagree}

-- ---- rows and their numbers

-- A test of the two words of a way, which does not look at its number.
abbrev on_words : (ℕ → ℕ → Bool) → Way → Bool
on_words f v = f v.present v.absent

-- Such a test finds the same in absent words numbered from elsewhere.
absent-renumbered : (f : ℕ → ℕ → Bool) (i j : ℕ) (qs : List ℕ) → any (on_words f) (absent_rows i qs) ≡ any (on_words f) (absent_rows j qs)
unfolding any absent_rows
absent-renumbered f i j [] = refl
absent-renumbered f i j (q ∷ qs) = ap (λ (b : Bool). f 0 q || b) (absent-renumbered f (suc i) (suc j) qs)

-- And in rows numbered from elsewhere.
any-renumbered : (f : ℕ → ℕ → Bool) (i j : ℕ) (ps qs : List ℕ) → any (on_words f) (rows i ps qs) ≡ any (on_words f) (rows j ps qs)
unfolding any rows
any-renumbered f i j [] qs = absent-renumbered f i j qs
any-renumbered f i j (p ∷ ps) [] = ap (λ (b : Bool). f p 0 || b) (any-renumbered f (suc i) (suc j) ps [])
any-renumbered f i j (p ∷ ps) (q ∷ qs) = ap (λ (b : Bool). f p q || b) (any-renumbered f (suc i) (suc j) ps qs)

-- The rows of words that come in pairs, with more words behind them.
rows_append : (i : ℕ) (ps qs ps' qs' : List ℕ) → length qs ≡ length ps
    → rows i (ps ++ ps') (qs ++ qs') ≡ rows i ps qs ++ rows (i + length ps) ps' qs'
unfolding rows absent_rows
rows_append i [] [] ps' qs' e = ap (λ (j : ℕ). rows j ps' qs') (sym (add-zero i))
rows_append i [] (q ∷ qs) ps' qs' e = absurd (omega arith)
rows_append i (p ∷ ps) [] ps' qs' e = absurd (omega arith)
rows_append i (p ∷ ps) (q ∷ qs) ps' qs' e =
    ap (λ (r : List Way). record { number = i; present = p; absent = q } ∷ r)
    (rows_append (suc i) ps qs ps' qs' (omega arith) ∙ ap (λ (j : ℕ). rows (suc i) ps qs ++ rows j ps' qs') (omega arith))

-- A way of two lists passes a test if one of either does.
any_append : (f : Way → Bool) (us vs : List Way) → any f (us ++ vs) ≡ any f us || any f vs
unfolding any
any_append f [] vs = refl
any_append f (u ∷ us) vs = or-next (f u) (any f us) (any f vs) (any_append f us vs)
  where
    or-next : (x y z : Bool) {r : Bool} → r ≡ y || z → x || r ≡ (x || y) || z
    or-next true y z e = refl
    or-next false y z e = e

-- A way of all cues passes a test of the words if one of the first cue or one behind it does.
any-cue : (f : ℕ → ℕ → Bool) (i : ℕ) (c : Cue) (cs : List Cue) → length c.absent ≡ length c.present
    → any (on_words f) (rows i (present_of (c ∷ cs)) (absent_of (c ∷ cs)))
    ≡ any (on_words f) (rows 0 c.present c.absent) || any (on_words f) (rows (i + length c.present) (present_of cs) (absent_of cs))
unfolding present_of absent_of
any-cue f i c cs e =
    let rest : List Way = rows (i + length c.present) (present_of cs) (absent_of cs) in
    ap (any (on_words f)) (rows_append i c.present c.absent (present_of cs) (absent_of cs) e)
    ∙ any_append (on_words f) (rows i c.present c.absent) rest
    ∙ ap (λ (b : Bool). b || any (on_words f) rest) (any-renumbered f i 0 c.present c.absent)

-- A test that no row of all cues passes, none of a cue's own ways passes.
cue_ways : (f : ℕ → ℕ → Bool) (i : ℕ) (cs : List Cue) → Paired cs → any (on_words f) (rows i (present_of cs) (absent_of cs)) ≡ false
    → (c : Cue) → In c cs → any (on_words f) (rows 0 c.present c.absent) ≡ false
cue_ways f i [] p h c x3 = elim x3 [ ]
cue_ways f i (d ∷ cs) p h c (Memᴰ.head e) = rw e (or_left _ _ (sym (any-cue f i d cs (p d (Memᴰ.head refl))) ∙ h))
cue_ways f i (d ∷ cs) p h c (Memᴰ.tail m) =
    let own : Bool = any (on_words f) (rows 0 d.present d.absent) in
    let rest = or_right own _ (sym (any-cue f i d cs (p d (Memᴰ.head refl))) ∙ h) in
    cue_ways f (i + length d.present) cs (λ a k. p a (Memᴰ.tail k)) rest c m

-- The other way.
all_ways : (f : ℕ → ℕ → Bool) (i : ℕ) (cs : List Cue) → Paired cs → ((c : Cue) → In c cs → any (on_words f) (rows 0 c.present c.absent) ≡ false)
    → any (on_words f) (rows i (present_of cs) (absent_of cs)) ≡ false
unfolding present_of absent_of rows absent_rows any
all_ways f i [] p h = refl
all_ways f i (c ∷ cs) p h =
    any-cue f i c cs (p c (Memᴰ.head refl))
    ∙ or-neither _ _ (h c (Memᴰ.head refl))
    (all_ways f (i + length c.present) cs (λ d k. p d (Memᴰ.tail k)) (λ d k. h d (Memᴰ.tail k)))

-- ---- counts and numbers

-- No cue counts more than 128 ways.
cue-few : (cs : List Cue) → crowded (counts_of cs) ≡ false → (c : Cue) → In c cs → length c.present ≤ 128
unfolding counts_of crowded some_above
cue-few [] h c x'' = elim x'' [ ]
cue-few (d ∷ cs) h c (Memᴰ.head e) = rw e (ltb-false 128 (length d.present) (or_left (ltb 128 (length d.present)) _ h))
cue-few (d ∷ cs) h c (Memᴰ.tail m) = cue-few cs (or_right (ltb 128 (length d.present)) _ h) c m

-- The other way.
few-cue : (cs : List Cue) → ((c : Cue) → In c cs → length c.present ≤ 128) → crowded (counts_of cs) ≡ false
unfolding counts_of crowded some_above
few-cue [] h = refl
few-cue (c ∷ cs) h = or-neither _ _ (le-ltb 128 (length c.present) (h c (Memᴰ.head refl))) (few-cue cs (λ d m. h d (Memᴰ.tail m)))

-- The number of each cue is below a limit.
number-below : (n : ℕ) (cs : List Cue) → AllBelow n (numbers_of cs) → (c : Cue) → In c cs → c.number < n
unfolding numbers_of
number-below n [] h c x'' = elim x'' [ ]
number-below n (d ∷ cs) h c (Memᴰ.head e) = rw e h.0
number-below n (d ∷ cs) h c (Memᴰ.tail m) = number-below n cs h.1 c m

-- The other way.
below-number : (n : ℕ) (cs : List Cue) → ((c : Cue) → In c cs → c.number < n) → AllBelow n (numbers_of cs)
unfolding numbers_of
below-number n [] h = tt
below-number n (c ∷ cs) h = (h c (Memᴰ.head refl), below-number n cs (λ d m. h d (Memᴰ.tail m)))

-- Numbers that rise from above n: each is above n.
rising-above : (n : ℕ) (cs : List Cue) → rising n (numbers_of cs) ≡ true → (c : Cue) → In c cs → n < c.number
unfolding numbers_of rising
rising-above n [] h c x'' = elim x'' [ ]
rising-above n (d ∷ cs) h c (Memᴰ.head e) = rw e (ltb-true n d.number (and_split (ltb n d.number) _ h).0)
rising-above n (d ∷ cs) h c (Memᴰ.tail m) =
    let here = and_split (ltb n d.number) _ h in
    omega (arith, ltb-true n d.number here.0, rising-above d.number cs here.1 c m)

-- And of two that follow each other, the second is the higher one.
rising-next : (n : ℕ) (before after : List Cue) (c d : Cue) → rising n (numbers_of (before ++ c ∷ d ∷ after)) ≡ true → c.number < d.number
unfolding numbers_of rising
rising-next n [] after c d h = ltb-true c.number d.number (and_split (ltb c.number d.number) _ (and_split (ltb n c.number) _ h).1).0
rising-next n (b ∷ before) after c d h = rising-next b.number before after c d (and_split (ltb n b.number) _ h).1

-- Of two cues that follow each other, the second has the higher number.
abbrev Ascending : List Cue → Type 0
Ascending cs = (before after : List Cue) (c d : Cue) → cs ≡ before ++ c ∷ d ∷ after → c.number < d.number

-- The numbers behind a cue rise from its own.
next-rising : (c : Cue) (cs : List Cue) → Ascending (c ∷ cs) → rising c.number (numbers_of cs) ≡ true
unfolding numbers_of rising
next-rising c [] h = refl
next-rising c (d ∷ cs) h =
    and_both (ltb c.number d.number) _ (lt-ltb c.number d.number (h [] cs c d refl))
    (next-rising d cs (λ before after x y e. h (c ∷ before) after x y (ap (λ (r : List Cue). c ∷ r) e)))

-- All of them rise from above 0.
above-rising : (cs : List Cue) → ((c : Cue) → In c cs → 1 ≤ c.number) → Ascending cs → rising 0 (numbers_of cs) ≡ true
unfolding numbers_of rising
above-rising [] one h = refl
above-rising (c ∷ cs) one h = and_both (ltb 0 c.number) _ (lt-ltb 0 c.number (one c (Memᴰ.head refl))) (next-rising c cs h)

-- ---- the sheet

-- A sheet as the tests find it: its cue numbers fit two bytes, its words come in pairs, and the writer refuses none of its lists.
pub record Tested (s : Sheet) : Type 0 where
  pub numbered : AllBelow 65536 (numbers_of s.cues)
  pub paired : Paired s.cues
  pub kept : first (lists_refusals (lists_of s)) ≡ 0

-- Every cue of such a sheet is an accepted table.
tested-cue : (s : Sheet) → Tested s → (c : Cue) → In c s.cues → Accepted (table_of s.weights c)
unfolding lists_of table_number table_refusals way_refusals words_amiss names_beyond names_both ways
tested-cue s w c m =
    let k = lists_kept (lists_of s) w.kept in
    let n : ℕ = length s.weights in
    let few : ltb 128 (length c.present) ≡ false = le-ltb 128 (length c.present) (cue-few s.cues k.counts c m) in
    first-later _ _ k.faults
    ∙ first-later _ _ k.weights
    ∙ first-later _ _ (or-neither _ _ few (ap not (eq-eqb (length c.present) (length c.absent) (sym (w.paired c m)))))
    ∙ first-later _ _ (cue_ways (λ p q. leb (2 ^ n) p || leb (2 ^ n) q) 0 s.cues w.paired k.beyond c m)
    ∙ first-later _ _ (cue_ways (λ p q. not (eqb (bit_and p q) 0)) 0 s.cues w.paired k.both c m)
    ∙ first-none

-- A sheet that passes the tests is within the limits.
pub tested-within : (s : Sheet) → Tested s → Within s
unfolding lists_of faults_outside cues_outside not_rising overweight mode_above allowance_above budget_above
tested-within s w =
    record {
      some_faults = (not-outside 64 (length s.weights) k.faults).0;
      few_faults = (not-outside 64 (length s.weights) k.faults).1;
      weights = each-most S s.weights k.weights;
      some_cues = omega (arith, length-numbers s.cues, (not-outside 24 (length (numbers_of s.cues)) k.cues).0);
      few_cues = omega (arith, length-numbers s.cues, (not-outside 24 (length (numbers_of s.cues)) k.cues).1);
      numbered = rising-above 0 s.cues rises;
      two_bytes = number-below 65536 s.cues w.numbered;
      rising = λ before after c d e. omega (arith, rising-next 0 before after c d (ap (λ (cs : List Cue). rising 0 (numbers_of cs)) (sym e) ∙ rises));
      few_ways = cue-few s.cues k.counts;
      paired = w.paired;
      faults_known = λ c m. (cue c m).faults_known;
      one_sense_each = λ c m. (cue c m).one_sense_each;
      allowance = ltb-false S s.limits.allowance k.allowance;
      budget = ltb-false 255 s.limits.budget k.budget;
      mode = ltb-false 1 s.limits.mode k.mode;
    }
  where
    k : Kept (lists_of s)
    k = lists_kept (lists_of s) w.kept

    rises : rising 0 (numbers_of s.cues) ≡ true
    rises = not-false _ k.rising

    cue : (c : Cue) → In c s.cues → Inside (table_of s.weights c)
    cue c m = accepted-inside (table_of s.weights c) (tested-cue s w c m)

-- Every cue of a sheet within the limits is a table inside the limits.
pub cue-inside : (s : Sheet) → Within s → (c : Cue) → In c s.cues → Inside (table_of s.weights c)
unfolding overweight
cue-inside s w c m =
    record {
      some_faults = w.some_faults;
      few_faults = w.few_faults;
      weights = weights-of s.weights (most-each S s.weights w.weights);
      few_ways = w.few_ways c m;
      paired = sym (w.paired c m);
      faults_known = w.faults_known c m;
      one_sense_each = w.one_sense_each c m;
    }

-- A sheet within the limits passes the tests.
pub within-tested : (s : Sheet) → Within s → Tested s
unfolding lists_of faults_outside cues_outside not_rising overweight names_beyond names_both mode_above allowance_above budget_above ways
within-tested s w = record { numbered = below-number 65536 s.cues w.two_bytes; paired = w.paired; kept = kept-lists (lists_of s) tests }
  where
    n : ℕ
    n = length s.weights

    cue : (c : Cue) → In c s.cues → Accepted (table_of s.weights c)
    cue c m = inside-accepted (table_of s.weights c) (cue-inside s w c m)

    cues : cues_outside (length s.cues) ≡ false
    cues = from_one 24 (length s.cues) w.some_cues w.few_cues

    tests : Kept (lists_of s)
    tests =
        record {
          faults = from_one 64 n w.some_faults w.few_faults;
          cues = rw (length-numbers s.cues) cues;
          counted = rw (length-counts s.cues) cues;
          rising = ap not (above-rising s.cues w.numbered w.rising);
          counts = few-cue s.cues w.few_ways;
          weights = most-each S s.weights w.weights;
          beyond = all_ways (λ p q. leb (2 ^ n) p || leb (2 ^ n) q) 0 s.cues w.paired (λ c m. inside (table_of s.weights c) (cue c m));
          both = all_ways (λ p q. not (eqb (bit_and p q) 0)) 0 s.cues w.paired (λ c m. one_sense (table_of s.weights c) (cue c m));
          allowance = le-ltb S s.limits.allowance w.allowance;
          budget = le-ltb 255 s.limits.budget w.budget;
          mode = le-ltb 1 s.limits.mode w.mode;
          agree = agree-disagree (lists_of s) (paired-agree s w.paired);
        }
