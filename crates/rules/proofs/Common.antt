-- The common part: what taking it out does to the ways. They happen where the common part and the ways without it both do; in a lean list
-- no way is the common part alone, and without the common part the list is lean again.
-- Rests on Bits, Ways, Minimal and, for the order of the numbers, on Sets.
use mathlib.Core.Path.{◌≡◌, refl, sym, ap, ap₂, ◌∙◌}
use mathlib.Core.Bool.{Bool, true, false, not, ◌&&◌, ◌||◌, true≢false}
use mathlib.Core.List.Memᴰ
use mathlib.Core.List.{List, [], ◌∷◌}
use mathlib.Core.Logic.{◌⊎◌, inl, inr, ◌↔◌}
use Prim.Native.Nat.{ℕ, suc, ◌≤◌}
use native.Mathlib.Omega.{arith}
use lib.ListN.{length}
use lib.Dec.{ltb}
use lib.Bits.{bit_and, bit_or, or_comm}
use borrow.Author.Tests.{eqb-true, ltb-false, not-false}
use Rattle.rules.specs.Table.{bit, Way, faults, Assignment, satisfies, happens}
use Rattle.rules.specs.Leaf.{any, without, dropped, drop_all, subsumes, outdoes, redundant, minimal, Lean, is_empty}
use Rattle.rules.specs.Common.{meet_from, meet, all_present, all_absent, shared, lowest, spare}
use Rattle.rules.specs.Tree.{left, right, occurs, child}
use Rattle.rules.specs.Refusals.{names_both}
use Rattle.rules.specs.declared.Kind.TheVariants.{IndependentAnd}
use Rattle.rules.proofs.Booleans.{and_left, and_right, and_both, and-false, and_second, or_left, or_right, or-first, or-second, or_cases}
use Rattle.rules.proofs.Booleans.{or-neither, is_false, same_test}
use Rattle.rules.proofs.Bits.{bit-zero, bit-and, bit-or, bit-without, bits-ext, or-zero, apart-bit}
use Rattle.rules.proofs.Ways.{satisfied-asks, asks-satisfied}
use Rattle.rules.proofs.Remaining.{dropped-faults}
use Rattle.rules.proofs.Sets.{Rising}
use Rattle.rules.proofs.Members.{In}
use Rattle.rules.proofs.Groups.{Subword, none_passes, each-fails}
use Rattle.rules.proofs.Minimal.{less, drop_both, undrop, subsumes-inside, inside-subsumes, sift-whole, lean-none}

-- ---- the words that all ways have in common

-- A bit that a word has in common with all ways: the word has it, and so has each of them.
from_each : (g : Way → ℕ) (m i : ℕ) (vs : List Way) → bit i (meet_from g m vs) ≡ true → (bit i m ≡ true) × ((v : Way) → In v vs → bit i (g v) ≡ true)
unfolding meet_from
from_each g m i [] h = (h, λ v k. absurd (Memᴰ.not-nil k))
from_each g m i (v ∷ vs) h =
    let r = from_each g (bit_and m (g v)) i vs h in
    let e : bit i m && bit i (g v) ≡ true = sym (bit-and i m (g v)) ∙ r.0 in
    (and_left (bit i m) (bit i (g v)) e, λ u k. of (and_right (bit i m) (bit i (g v)) e) r.1 u k)
  where
    of : bit i (g v) ≡ true → ((u : Way) → In u vs → bit i (g u) ≡ true) → (u : Way) → In u (v ∷ vs) → bit i (g u) ≡ true
    of a f u (Memᴰ.head e) = ap (λ (w : Way). bit i (g w)) e ∙ a
    of a f u (Memᴰ.tail k) = f u k

-- And back.
each_from : (g : Way → ℕ) (m i : ℕ) (vs : List Way) → bit i m ≡ true → ((v : Way) → In v vs → bit i (g v) ≡ true) → bit i (meet_from g m vs) ≡ true
unfolding meet_from
each_from g m i [] h f = h
each_from g m i (v ∷ vs) h f =
    each_from g (bit_and m (g v)) i vs (bit-and i m (g v) ∙ and_both _ _ h (f v (Memᴰ.head refl))) (λ u k. f u (Memᴰ.tail k))

-- A bit that all ways have in common, each has.
meet-each : (g : Way → ℕ) (i : ℕ) (vs : List Way) → bit i (meet g vs) ≡ true → (v : Way) → In v vs → bit i (g v) ≡ true
unfolding meet
meet-each g i [] h v k = absurd (Memᴰ.not-nil k)
meet-each g i (u ∷ vs) h v (Memᴰ.head e) = ap (λ (w : Way). bit i (g w)) e ∙ (from_each g (g u) i vs h).0
meet-each g i (u ∷ vs) h v (Memᴰ.tail k) = (from_each g (g u) i vs h).1 v k

-- And a bit that each has, all have in common.
each-meet : (g : Way → ℕ) (i : ℕ) (u : Way) (vs : List Way) → ((v : Way) → In v (u ∷ vs) → bit i (g v) ≡ true) → bit i (meet g (u ∷ vs)) ≡ true
unfolding meet
each-meet g i u vs f = each_from g (g u) i vs (f u (Memᴰ.head refl)) (λ v k. f v (Memᴰ.tail k))

-- A fault that all ways name in the same sense.
abbrev pub InOneSense : ℕ → List Way → Type 0
InOneSense i vs = ((v : Way) → In v vs → bit i v.present ≡ true) ⊎ ((v : Way) → In v vs → bit i v.absent ≡ true)

-- A fault of the common part is such a fault.
shared-sense : (i : ℕ) (vs : List Way) → bit i (shared vs) ≡ true → InOneSense i vs
unfolding shared
shared-sense i vs h =
    or_cases (bit i (all_present vs)) (bit i (all_absent vs))
    (λ e. inl (meet-each (λ w. w.present) i vs e)) (λ e. inr (meet-each (λ w. w.absent) i vs e))
    (sym (bit-or i (all_present vs) (all_absent vs)) ∙ h)

-- THE COMMON PART has exactly the faults that all ways name in the same sense.
pub shared-exactly : (i : ℕ) (u : Way) (vs : List Way) → (bit i (shared (u ∷ vs)) ≡ true) ↔ InOneSense i (u ∷ vs)
unfolding shared
shared-exactly i u vs = (shared-sense i (u ∷ vs), λ h. bit-or i (all_present (u ∷ vs)) (all_absent (u ∷ vs)) ∙ back h)
  where
    back : InOneSense i (u ∷ vs) → bit i (all_present (u ∷ vs)) || bit i (all_absent (u ∷ vs)) ≡ true
    back (inl f) = or-first _ _ (each-meet (λ w. w.present) i u vs f)
    back (inr f) = or-second (bit i (all_present (u ∷ vs))) _ (each-meet (λ w. w.absent) i u vs f)

-- A fault of the common part, every way names.
pub shared-named : (i : ℕ) (vs : List Way) → bit i (shared vs) ≡ true → (v : Way) → In v vs → bit i (faults v) ≡ true
shared-named i vs h v k = bit-or i v.present v.absent ∙ by (shared-sense i vs h)
  where
    by : InOneSense i vs → bit i v.present || bit i v.absent ≡ true
    by (inl f) = or-first (bit i v.present) _ (f v k)
    by (inr f) = or-second (bit i v.present) _ (f v k)

-- ---- the common part of one way

-- What a way says in one sense of the faults of the common part is what all say in it, if the way says nothing of them in the other sense.
kept-sense : (g h : Way → ℕ) (vs : List Way) (v : Way) → In v vs → (i : ℕ) → (bit i (g v) ≡ true → bit i (h v) ≡ false)
    → bit i (g v) && bit i (bit_or (meet g vs) (meet h vs)) ≡ bit i (meet g vs)
kept-sense g h vs v k i f = ap (λ (x : Bool). bit i (g v) && x) (bit-or i (meet g vs) (meet h vs)) ∙ same_test _ _ there back
  where
    there : bit i (g v) && (bit i (meet g vs) || bit i (meet h vs)) ≡ true → bit i (meet g vs) ≡ true
    there e =
        or_cases (bit i (meet g vs)) (bit i (meet h vs)) (λ q. q)
        (λ q. absurd (true≢false (sym (meet-each h i vs q v k) ∙ f (and_left (bit i (g v)) _ e))))
        (and_right (bit i (g v)) _ e)

    back : bit i (meet g vs) ≡ true → bit i (g v) && (bit i (meet g vs) || bit i (meet h vs)) ≡ true
    back q = and_both (bit i (g v)) _ (meet-each g i vs q v k) (or-first (bit i (meet g vs)) _ q)

module _ (vs : List Way) (c : names_both vs ≡ false) (v : Way) (k : In v vs) (i : ℕ) where
  -- A way names a fault in one sense alone.
  one_sense : bit i v.present ≡ true → bit i v.absent ≡ false
  unfolding names_both
  one_sense b = apart-bit v.present v.absent i (none_passes _ vs v c k) b

  -- So what it says of the common part is what all say, present.
  common_present : bit i v.present && bit i (shared vs) ≡ bit i (all_present vs)
  unfolding shared
  common_present = kept-sense (λ w. w.present) (λ w. w.absent) vs v k i one_sense

  -- And absent.
  common_absent : bit i v.absent && bit i (shared vs) ≡ bit i (all_absent vs)
  unfolding shared
  common_absent =
      ap (λ (m : ℕ). bit i v.absent && bit i m) (or_comm (all_present vs) (all_absent vs))
      ∙ kept-sense (λ w. w.absent) (λ w. w.present) vs v k i (λ b. is_false _ (λ p. true≢false (sym b ∙ one_sense p)))

-- The common part as a way.
abbrev pub common_part : ℕ → List Way → Way
common_part n vs = record { number = n; present = all_present vs; absent = all_absent vs }

-- Without the faults of w that are not in s, just those of s are left of a word within w.
kept_word : (w s x e : ℕ) → Subword x w → ((i : ℕ) → bit i x && bit i s ≡ bit i e) → without (without s w) x ≡ e
kept_word w s x e f h =
    bits-ext (without (without s w) x) e
    (λ i. bit-without i (without s w) x ∙ ap (λ (b : Bool). bit i x && not b) (bit-without i s w) ∙ kept (bit i x) (bit i w) (bit i s) (f i) ∙ h i)
  where
    kept : (x w s : Bool) → (x ≡ true → w ≡ true) → x && not (w && not s) ≡ x && s
    kept true true true f = refl
    kept true true false f = refl
    kept true false s f = absurd (true≢false (sym (f refl)))
    kept false w s f = refl

-- THE LEFT CHILD IS ONE WAY, THE COMMON PART.
pub left-common : (v : Way) (vs : List Way) → names_both (v ∷ vs) ≡ false → child IndependentAnd left (v ∷ vs) ≡ common_part v.number (v ∷ vs) ∷ []
unfolding child lowest spare drop_all
left-common v vs c = ap (λ (w : Way). w ∷ []) (λ i. record { number = v.number; present = on-present i; absent = on-absent i })
  where
    us : List Way
    us = v ∷ vs

    on-present : without (without (shared us) (faults v)) v.present ≡ all_present us
    on-present =
        kept_word (faults v) (shared us) v.present (all_present us) (λ i b. bit-or i v.present v.absent ∙ or-first (bit i v.present) _ b)
        (common_present us c v (Memᴰ.head refl))

    on-absent : without (without (shared us) (faults v)) v.absent ≡ all_absent us
    on-absent =
        kept_word (faults v) (shared us) v.absent (all_absent us) (λ i b. bit-or i v.present v.absent ∙ or-second (bit i v.present) _ b)
        (common_absent us c v (Memᴰ.head refl))

-- ---- where the ways happen

-- A way is satisfied where its common part and the rest of it are.
both-parts : (n : ℕ) (vs : List Way) → names_both vs ≡ false → (v : Way) → In v vs → (a : Assignment)
    → satisfies v a ≡ satisfies (common_part n vs) a && satisfies (dropped (shared vs) v) a
both-parts n vs c v k a = same_test _ _ there back
  where
    m : ℕ
    m = shared vs

    there : satisfies v a ≡ true → satisfies (common_part n vs) a && satisfies (dropped m v) a ≡ true
    there s =
        and_both _ _
        (asks-satisfied (all_present vs) (all_absent vs) a
        (λ i l. let z = satisfied-asks v.present v.absent a s i l in
        (λ b. z.0 (meet-each (λ w. w.present) i vs b v k), λ b. z.1 (meet-each (λ w. w.absent) i vs b v k))))
        (asks-satisfied (without m v.present) (without m v.absent) a
        (λ i l. let z = satisfied-asks v.present v.absent a s i l in
        (λ b. z.0 (less m v.present i b), λ b. z.1 (less m v.absent i b))))

    -- A fault of the way is one of the common part, or one of the rest.
    by_part : {A : Type 0} (w e i : ℕ) → (bit i w && bit i m ≡ bit i e) → bit i w ≡ true → (bit i e ≡ true → A) → (bit i (without m w) ≡ true → A)
        → (x : Bool) → bit i m ≡ x → A
    by_part w e i q b f g true z = f (sym q ∙ and_both _ _ b z)
    by_part w e i q b f g false z = g (bit-without i m w ∙ and_both _ _ b (ap not z))

    back : satisfies (common_part n vs) a && satisfies (dropped m v) a ≡ true → satisfies v a ≡ true
    back s =
        let x : Bool = satisfies (common_part n vs) a in
        let y : Bool = satisfies (dropped m v) a in
        let common = satisfied-asks (all_present vs) (all_absent vs) a (and_left x y s) in
        let rest = satisfied-asks (without m v.present) (without m v.absent) a (and_right x y s) in
        asks-satisfied v.present v.absent a
        (λ i l. (
          λ b. by_part v.present (all_present vs) i (common_present vs c v k i) b (common i l).0 (rest i l).0 (bit i m) refl,
          λ b. by_part v.absent (all_absent vs) i (common_absent vs c v k i) b (common i l).1 (rest i l).1 (bit i m) refl,
        ))

-- So the ways happen where the common part and some way without it are satisfied.
each_both : (m : ℕ) (u : Way) (vs : List Way) (a : Assignment) → ((v : Way) → In v vs → satisfies v a ≡ satisfies u a && satisfies (dropped m v) a)
    → happens vs a ≡ satisfies u a && happens (drop_all m vs) a
unfolding drop_all
each_both m u [] a f = sym (and-false (satisfies u a))
each_both m u (v ∷ vs) a f =
    ap₂ (λ (x y : Bool). x || y) (f v (Memᴰ.head refl)) (each_both m u vs a (λ w k. f w (Memᴰ.tail k)))
    ∙ out (satisfies u a) (satisfies (dropped m v) a) (happens (drop_all m vs) a)
  where
    out : (x y z : Bool) → (x && y) || (x && z) ≡ x && (y || z)
    out true y z = refl
    out false y z = refl

-- THE WAYS HAPPEN WHERE BOTH CHILDREN DO.
pub both-happen : (vs : List Way) → names_both vs ≡ false → (a : Assignment)
    → happens vs a ≡ happens (child IndependentAnd left vs) a && happens (child IndependentAnd right vs) a
unfolding child lowest drop_all
both-happen [] c a = refl
both-happen (v ∷ vs) c a =
    let u : Way = common_part v.number (v ∷ vs) in
    each_both (shared (v ∷ vs)) u (v ∷ vs) a (λ w k. both-parts v.number (v ∷ vs) c w k a)
    ∙ ap (λ (x : Bool). x && happens (drop_all (shared (v ∷ vs)) (v ∷ vs)) a)
    (alone (satisfies u a) ∙ sym (ap (λ (us : List Way). happens us a) (left-common v vs c)))
  where
    alone : (x : Bool) → x ≡ x || false
    alone true = refl
    alone false = refl

-- A fault that is not in the common part does not occur on the left.
pub left-off : (i : ℕ) (vs : List Way) → bit i (shared vs) ≡ false → occurs i (child IndependentAnd left vs) ≡ false
unfolding child lowest spare drop_all occurs any
left-off i [] h = refl
left-off i (v ∷ vs) h =
    or-neither _ _
    (dropped-faults i (without (shared (v ∷ vs)) (faults v)) v ∙ ap (λ (x : Bool). bit i (faults v) && not x) (bit-without i (shared (v ∷ vs)) (faults v))
    ∙ ap (λ (x : Bool). bit i (faults v) && not (bit i (faults v) && not x)) h ∙ neither (bit i (faults v)))
    refl
  where
    neither : (x : Bool) → x && not (x && true) ≡ false
    neither true = refl
    neither false = refl

-- ---- ways that say nothing new

-- A way with faults left out was a way before.
in-drop : (m : ℕ) (vs : List Way) (w : Way) → In w (drop_all m vs) → (v : Way) × In v vs × (w ≡ dropped m v)
unfolding drop_all
in-drop m [] w k = absurd (Memᴰ.not-nil k)
in-drop m (v ∷ vs) w (Memᴰ.head e) = (v, Memᴰ.head refl, e)
in-drop m (v ∷ vs) w (Memᴰ.tail k) = let r = in-drop m vs w k in (r.0, Memᴰ.tail r.1, r.2)

module _ (vs : List Way) (c : names_both vs ≡ false) (u v : Way) (j : In u vs) (k : In v vs) where
  -- What one way says of the common part, every other says: present.
  common_in : (i : ℕ) → bit i (shared vs) ≡ true → bit i u.present ≡ true → bit i v.present ≡ true
  common_in i s b = meet-each (λ w. w.present) i vs (sym (common_present vs c u j i) ∙ and_both _ _ b s) v k

  -- And absent.
  common_in_absent : (i : ℕ) → bit i (shared vs) ≡ true → bit i u.absent ≡ true → bit i v.absent ≡ true
  common_in_absent i s b = meet-each (λ w. w.absent) i vs (sym (common_absent vs c u j i) ∙ and_both _ _ b s) v k

  -- A way subsumes another exactly if it does without the common part.
  subsumes_rest : subsumes (dropped (shared vs) u) (dropped (shared vs) v) ≡ subsumes u v
  subsumes_rest = same_test _ _ there back
    where
      m : ℕ
      m = shared vs

      there : subsumes (dropped m u) (dropped m v) ≡ true → subsumes u v ≡ true
      there h =
          let s = subsumes-inside (dropped m u) (dropped m v) h in
          inside-subsumes u v (undrop m u.present v.present common_in s.0, undrop m u.absent v.absent common_in_absent s.1)

      back : subsumes u v ≡ true → subsumes (dropped m u) (dropped m v) ≡ true
      back h =
          let s = subsumes-inside u v h in
          inside-subsumes (dropped m u) (dropped m v) (
            drop_both m u.present v.present (λ i b. s.0 i (less m u.present i b)),
            drop_both m u.absent v.absent (λ i b. s.1 i (less m u.absent i b)),
          )

  -- A way that is the common part alone subsumes every other.
  alone_least : is_empty (dropped (shared vs) u) ≡ true → subsumes u v ≡ true
  alone_least h =
      let m = shared vs in
      let z = or-zero (without m u.present) (without m u.absent) (eqb-true (faults (dropped m u)) 0 h) in
      sym subsumes_rest
      ∙ inside-subsumes (dropped m u) (dropped m v) (none (without m u.present) _ z.0, none (without m u.absent) _ z.1)
    where
      none : (w x : ℕ) → w ≡ 0 → Subword w x
      none w x e i b = absurd (true≢false (sym b ∙ ap (bit i) e ∙ bit-zero i))

-- A way outdoes another exactly if it does without the common part.
outdoes-rest : (vs : List Way) → names_both vs ≡ false → (u v : Way) → In u vs → In v vs
    → outdoes (dropped (shared vs) u) (dropped (shared vs) v) ≡ outdoes u v
outdoes-rest vs c u v j k =
    ap₂ (λ (x y : Bool). x && (not y || ltb u.number v.number)) (subsumes_rest vs c u v j k) (subsumes_rest vs c v u k j)

-- WITHOUT THE COMMON PART a lean list is lean.
pub rest-lean : (vs : List Way) → names_both vs ≡ false → Lean vs → Lean (drop_all (shared vs) vs)
unfolding minimal redundant
rest-lean vs c e = sift-whole _ (drop_all m vs) (λ w i. ap not (each-fails _ (drop_all m vs) (λ x j. fails w x (in-drop m vs w i) (in-drop m vs x j))))
  where
    m : ℕ
    m = shared vs

    fails : (w x : Way) → (v : Way) × In v vs × (w ≡ dropped m v) → (u : Way) × In u vs × (x ≡ dropped m u) → outdoes x w ≡ false
    fails w x r s =
        ap₂ outdoes s.2 r.2 ∙ outdoes-rest vs c s.0 r.0 s.1 r.1 ∙ none_passes _ vs s.0 (lean-none vs e r.0 r.1) s.1

-- ---- no way is the common part alone

-- No number of a list is below the first.
not-below : (i : ℕ) (vs : List Way) → Rising i vs → (v : Way) → In v vs → i ≤ v.number
unfolding Rising
not-below i [] r v x'' = elim x'' [ ]
not-below i (u ∷ vs) r v (Memᴰ.head e) = rw e r.0
not-below i (u ∷ vs) r v (Memᴰ.tail k) = omega (arith, r.0, not-below (suc u.number) vs r.1 v k)

-- Of two ways or more, one with another number than this one.
another : (i : ℕ) (vs : List Way) → Rising i vs → 2 ≤ length vs → (v : Way) → In v vs → (u : Way) × In u vs × (u.number ≡ v.number → ⊥)
unfolding Rising
another i [] r l v k = absurd (omega arith)
another i (a ∷ []) r l v k = absurd (omega arith)
another i (a ∷ b ∷ vs) r l v (Memᴰ.head e) =
    (b, Memᴰ.tail (Memᴰ.head refl), λ q. later a.number b.number v.number r.1.0 q (ap (λ (w : Way). w.number) e))
  where
    later : (x y z : ℕ) → suc x ≤ y → y ≡ z → z ≡ x → ⊥
    later x y z h q e = omega arith
another i (a ∷ b ∷ vs) r l v (Memᴰ.tail k) =
    (a, Memᴰ.head refl, λ q. later a.number v.number (not-below (suc a.number) (b ∷ vs) r.1 v k) q)
  where
    later : (x z : ℕ) → suc x ≤ z → x ≡ z → ⊥
    later x z h q = omega arith

-- Two ways of which the first subsumes the second, and neither outdoes the other, have one number.
level-numbers : (u v : Way) → subsumes u v ≡ true → outdoes u v ≡ false → outdoes v u ≡ false → v.number ≡ u.number
level-numbers u v s h k =
    let a = and_second (subsumes u v) (not (subsumes v u) || ltb u.number v.number) s h in
    let t = not-false (subsumes v u) (or_left (not (subsumes v u)) _ a) in
    let b = and_second (subsumes v u) (not (subsumes u v) || ltb v.number u.number) t k in
    omega (arith, ltb-false u.number v.number (or_right (not (subsumes v u)) _ a), ltb-false v.number u.number (or_right (not (subsumes u v)) _ b))

-- NO WAY IS EMPTY without the common part, of two ways or more in a lean list. Lean and two ways are not enough: the same way twice under one number
-- is a lean list, and both become empty.
pub right-full : (i : ℕ) (vs : List Way) → Rising i vs → 2 ≤ length vs → names_both vs ≡ false → Lean vs → any is_empty (drop_all (shared vs) vs) ≡ false
unfolding redundant
right-full i vs r l c e = each-fails is_empty (drop_all m vs) (λ w j. is_false (is_empty w) (λ h. never w (in-drop m vs w j) h))
  where
    m : ℕ
    m = shared vs

    never : (w : Way) → (v : Way) × In v vs × (w ≡ dropped m v) → is_empty w ≡ true → ⊥
    never w s h =
        let v = s.0 in
        let o = another i vs r l v s.1 in
        o.2
        (level-numbers v o.0 (alone_least vs c v o.0 s.1 o.1 (ap is_empty (sym s.2) ∙ h))
        (none_passes _ vs v (lean-none vs e o.0 o.1) s.1) (none_passes _ vs o.0 (lean-none vs e v s.1) o.1))
