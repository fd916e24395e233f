-- Fixing one fault in a lean list: a way that lost the fault stays, and another is redundant just if one that lost the fault subsumes it.
-- So the code tests the ways that did not name the fault against those that did, and nothing else. Rests on Minimal.antt.
use mathlib.Core.Path.{◌≡◌, refl, sym, ap, ap₂, ◌∙◌}
use mathlib.Core.Bool.{Bool, true, false, not, ◌&&◌, ◌||◌, true≢false, beq}
use mathlib.Core.List.Memᴰ
use mathlib.Core.List.{List, [], ◌∷◌}
use Prim.Native.Nat.{ℕ, ◌^◌}
use lib.Dec.{eqb, ltb}
use lib.Bits.{bit_and, bit_or, and_comm}
use borrow.Author.Tests.{eqb-true, eq-eqb, not-false}
use Rattle.rules.specs.Table.{bit, Way, faults}
use Rattle.rules.specs.Leaf.{any, dropped, contradicted, remaining, subsumes, outdoes, redundant, Lean}
use Rattle.rules.specs.Group.{touches, part}
use Rattle.rules.proofs.Booleans.{and_both, and-false, or-first, or-second, or_left, or_right, is_false, same_test}
use Rattle.rules.proofs.Bits.{bit-zero, bit-and, bit-or, bit-pow, bits-zero, apart-bit}
use Rattle.rules.proofs.Remaining.{meets-pow}
use Rattle.rules.proofs.Members.{In}
use Rattle.rules.proofs.Groups.{none_passes}
use Rattle.rules.proofs.Minimal.{less, drop_both, undrop, subsumes-inside, inside-subsumes, outdone, lean-none}

-- ---- one fault fixed

module _ (f P A : ℕ) (only : bit_or P A ≡ 2 ^ f) where
  -- The word of the fault.
  abbrev m : ℕ
  m = bit_or P A

  -- It has no other bit.
  only_bit : (i : ℕ) → bit i m ≡ true → i ≡ f
  only_bit i h = eqb-true i f (sym (bit-pow i f) ∙ ap (bit i) (sym only) ∙ h)

  -- The way names it.
  names : (v : Way) → touches m v ≡ bit f (faults v)
  names v =
      ap (λ (w : ℕ). not (eqb (bit_and w (faults v)) 0)) only ∙ ap (λ (w : ℕ). not (eqb w 0)) (and_comm (2 ^ f) (faults v))
      ∙ meets-pow (faults v) f

  -- It is fixed in one sense.
  fixed_either : bit f P || bit f A ≡ true
  fixed_either = sym (bit-or f P A) ∙ ap (bit f) only ∙ bit-pow f f ∙ eq-eqb f f refl

  -- And a way that is not contradicted does not name it in the other.
  clash_off : (v : Way) → contradicted P A v ≡ false → (bit f v.present && bit f A) || (bit f v.absent && bit f P) ≡ false
  clash_off v h =
      sym (bit-or f (bit_and v.present A) (bit_and v.absent P) ∙ ap₂ (λ (x y : Bool). x || y) (bit-and f v.present A) (bit-and f v.absent P))
      ∙ ap (bit f) (eqb-true (bit_or (bit_and v.present A) (bit_and v.absent P)) 0 (not-false _ h))
      ∙ bit-zero f

  -- A way that does not name it is not contradicted.
  pub unnamed_free : (v : Way) → touches m v ≡ false → contradicted P A v ≡ false
  unnamed_free v n =
      ap (λ (k : ℕ). not (eqb k 0))
      (bits-zero (bit_or (bit_and v.present A) (bit_and v.absent P))
      (λ i. bit-or i (bit_and v.present A) (bit_and v.absent P) ∙ ap₂ (λ (x y : Bool). x || y) (bit-and i v.present A) (bit-and i v.absent P)
      ∙ off (bit i P) (bit i A) (bit i v.present) (bit i v.absent)
      (λ e. sym (bit-or i v.present v.absent) ∙ apart-bit m (faults v) i n (bit-or i P A ∙ e))))
    where
      off : (p a x y : Bool) → (p || a ≡ true → x || y ≡ false) → (x && a) || (y && p) ≡ false
      off p a false false h = refl
      off p true true y h = absurd (true≢false (h (or-second p true refl)))
      off true false true y h = absurd (true≢false (h refl))
      off false false true true h = refl
      off false false true false h = refl
      off true a false true h = absurd (true≢false (h refl))
      off false true false true h = absurd (true≢false (h refl))
      off false false false true h = refl

  -- One sense is fixed, a way that is not contradicted does not name the other: so two that name it name it alike.
  alike : (p a x y x' y' : Bool) → p || a ≡ true → (x && a) || (y && p) ≡ false → (x' && a) || (y' && p) ≡ false → x' || y' ≡ true
      → (x ≡ true → x' ≡ true) × (y ≡ true → y' ≡ true)
  alike p a x y true true h k l n = (λ e. refl, λ e. refl)
  alike p true x y true false h k l n = absurd (true≢false l)
  alike true false x true true false h k l n = absurd (true≢false (sym (or-second (x && false) true refl) ∙ k))
  alike true false x false true false h k l n = (λ e. refl, λ e. e)
  alike false false x y true false h k l n = absurd (true≢false (sym h))
  alike true a x y false true h k l n = absurd (true≢false l)
  alike false true true y false true h k l n = absurd (true≢false k)
  alike false true false y false true h k l n = (λ e. e, λ e. refl)
  alike false false x y false true h k l n = absurd (true≢false (sym h))
  alike p a x y false false h k l n = absurd (true≢false (sym n))

  -- The second way says of the fault what the first says.
  abbrev Follows : Way → Way → Type 0
  Follows u v = (bit f u.present ≡ true → bit f v.present ≡ true) × (bit f u.absent ≡ true → bit f v.absent ≡ true)

  -- It does if it names the fault at all, and neither is contradicted.
  both_follow : (u v : Way) → contradicted P A u ≡ false → contradicted P A v ≡ false → touches m v ≡ true → Follows u v
  both_follow u v cu cv n =
      alike (bit f P) (bit f A) (bit f u.present) (bit f u.absent)
      (bit f v.present) (bit f v.absent) fixed_either (clash_off u cu) (clash_off v cv)
      (sym (bit-or f v.present v.absent) ∙ sym (names v) ∙ n)

  -- And if the first does not name it.
  none_follows : (u v : Way) → touches m u ≡ false → Follows u v
  none_follows u v n = (
    λ e. absurd (true≢false (sym e ∙ or_left (bit f u.present) (bit f u.absent) off)),
    λ e. absurd (true≢false (sym e ∙ or_right (bit f u.present) (bit f u.absent) off)),
  )
    where
      off : bit f u.present || bit f u.absent ≡ false
      off = sym (bit-or f u.present u.absent) ∙ sym (names u) ∙ n

  -- ---- subsuming, with the fault dropped and before

  -- Where the second way says of the fault what the first says, subsuming without it is subsuming with it.
  back : (u v : Way) → Follows u v → subsumes (dropped m u) (dropped m v) ≡ true → subsumes u v ≡ true
  back u v c h =
      let k = subsumes-inside (dropped m u) (dropped m v) h in
      inside-subsumes u v (
        undrop m u.present v.present (at u.present v.present c.0) k.0,
        undrop m u.absent v.absent (at u.absent v.absent c.1) k.1,
      )
    where
      at : (x y : ℕ) → (bit f x ≡ true → bit f y ≡ true) → (i : ℕ) → bit i m ≡ true → bit i x ≡ true → bit i y ≡ true
      at x y g i b = rw (only_bit i b) g

  -- A way without the fault that subsumes another subsumes it without the fault too.
  forth : (u v : Way) → subsumes (dropped m u) v ≡ true → subsumes (dropped m u) (dropped m v) ≡ true
  forth u v h =
      let k = subsumes-inside (dropped m u) v h in
      inside-subsumes (dropped m u) (dropped m v) (drop_both m u.present v.present k.0, drop_both m u.absent v.absent k.1)

  -- What subsumes a way without the fault subsumes the way.
  weaker : (u v : Way) → subsumes u (dropped m v) ≡ true → subsumes u v ≡ true
  weaker u v h =
      let k = subsumes-inside u (dropped m v) h in
      inside-subsumes u v (λ i b. less m v.present i (k.0 i b), λ i b. less m v.absent i (k.1 i b))

  -- A way that subsumes another subsumes it without the fault.
  lighter : (u v : Way) → subsumes u v ≡ true → subsumes (dropped m u) v ≡ true
  lighter u v h =
      let k = subsumes-inside u v h in
      inside-subsumes (dropped m u) v (λ i b. k.0 i (less m u.present i b), λ i b. k.1 i (less m u.absent i b))

  -- A way that names the fault does not say less than one that does not.
  names_more : (u v : Way) → touches m u ≡ true → touches m v ≡ false → subsumes u v ≡ false
  names_more u v n o = is_false (subsumes u v) (λ h. true≢false (sym (there h (bit f u.present) (bit f u.absent) refl refl on) ∙ off))
    where
      on : bit f u.present || bit f u.absent ≡ true
      on = sym (bit-or f u.present u.absent) ∙ sym (names u) ∙ n

      off : bit f v.present || bit f v.absent ≡ false
      off = sym (bit-or f v.present v.absent) ∙ sym (names v) ∙ o

      there : subsumes u v ≡ true → (x y : Bool) → bit f u.present ≡ x → bit f u.absent ≡ y → x || y ≡ true
          → bit f v.present || bit f v.absent ≡ true
      there h true y e g k = or-first (bit f v.present) (bit f v.absent) ((subsumes-inside u v h).0 f e)
      there h false true e g k = or-second (bit f v.present) (bit f v.absent) ((subsumes-inside u v h).1 f g)
      there h false false e g k = absurd (true≢false (sym k))

  -- Of two ways of which each says of the fault what the other says, dropping it changes nothing.
  same_outdoes : (u v : Way) → Follows u v → Follows v u → outdoes (dropped m u) (dropped m v) ≡ outdoes u v
  same_outdoes u v c d = ap₂ (λ (x y : Bool). x && (not y || ltb u.number v.number)) (same u v c) (same v u d)
    where
      same : (u v : Way) → Follows u v → subsumes (dropped m u) (dropped m v) ≡ subsumes u v
      same u v c = same_test _ _ (λ h. back u v c h) (λ h. forth u v (lighter u v h))

  -- ---- in a lean list

  module _ (vs : List Way) (lean : Lean vs) where
    -- No way of it outdoes another.
    not-outdone : (u v : Way) → In u vs → In v vs → outdoes u v ≡ false
    unfolding redundant
    not-outdone u v i j = none_passes (λ w. outdoes w v) vs u (lean-none vs lean v j) i

    -- Of two that are not contradicted, the first outdoes the second just if it lost the fault, the second did not, and without the fault it subsumes it.
    one-pair : (u v : Way) → In u vs → In v vs → contradicted P A u ≡ false → contradicted P A v ≡ false
        → outdoes (dropped m u) (dropped m v) ≡ not (touches m v) && (touches m u && subsumes (dropped m u) v)
    one-pair u v i j cu cv = by (touches m u) refl (touches m v) refl
      where
        strictly : (x y : Way) → In x vs → In y vs → subsumes x y ≡ true → subsumes y x ≡ false → ⊥
        strictly x y k l h n =
            true≢false (sym (and_both (subsumes x y) (not (subsumes y x) || ltb x.number y.number) h
            (or-first (not (subsumes y x)) (ltb x.number y.number) (ap not n))) ∙ not-outdone x y k l)

        by : (a : Bool) → touches m u ≡ a → (b : Bool) → touches m v ≡ b → outdoes (dropped m u) (dropped m v) ≡ not b && (a && subsumes (dropped m u) v)
        by true e true g = same_outdoes u v (both_follow u v cu cv g) (both_follow v u cv cu e) ∙ not-outdone u v i j
        by false e false g = same_outdoes u v (none_follows u v e) (none_follows v u g) ∙ not-outdone u v i j
        by false e true g =
            is_false (outdoes (dropped m u) (dropped m v))
            (λ h. strictly u v i j (back u v (none_follows u v e) (outdone (dropped m u) (dropped m v) h)) (names_more v u g e))
        by true e false g =
            same_test _ _ (λ h. weaker (dropped m u) v (outdone (dropped m u) (dropped m v) h))
            (λ h. and_both (subsumes (dropped m u) (dropped m v)) _ (forth u v h)
            (or-first (not (subsumes (dropped m v) (dropped m u))) (ltb u.number v.number)
            (ap not (is_false (subsumes (dropped m v) (dropped m u)) (λ k. strictly v u j i (back v u (none_follows v u g) k) (names_more u v e g))))))

    -- So a way that is not contradicted is redundant just if it does not name the fault, and one that lost it subsumes it.
    pub redundant-fixed : (v : Way) → In v vs → contradicted P A v ≡ false
        → redundant (remaining P A vs) (dropped m v) ≡ not (touches m v) && any (λ u. subsumes u v) (remaining P A (part true m vs))
    unfolding redundant any remaining
    redundant-fixed v j cv = over vs (λ u i. i)
      where
        none : (b : Bool) → false ≡ b && false
        none b = sym (and-false b)

        first : (b x y z : Bool) → x ≡ b && (true && y) → x || (b && z) ≡ b && (y || z)
        first true x y z e = ap (λ (w : Bool). w || z) e
        first false x y z e = ap (λ (w : Bool). w || false) e

        other : (b x y z : Bool) → x ≡ b && (false && y) → x || (b && z) ≡ b && z
        other true x y z e = ap (λ (w : Bool). w || z) e
        other false x y z e = ap (λ (w : Bool). w || false) e

        over : (us : List Way) → ((u : Way) → In u us → In u vs)
            → any (λ u. outdoes u (dropped m v)) (remaining P A us) ≡ not (touches m v) && any (λ u. subsumes u v) (remaining P A (part true m us))
        over [] h = none (not (touches m v))
        over (u ∷ us) h = by (contradicted P A u) refl (touches m u) refl (over us (λ w i. h w (Memᴰ.tail i)))
          where
            rest : List Way
            rest = remaining P A (part true m us)

            by : (x : Bool) → contradicted P A u ≡ x → (y : Bool) → touches m u ≡ y
                → any (λ u. outdoes u (dropped m v)) (remaining P A us) ≡ not (touches m v) && any (λ u. subsumes u v) rest
                → any (λ u. outdoes u (dropped m v)) (elim x as (λ b. List Way) [ true ↦ remaining P A us | false ↦ dropped m u ∷ remaining P A us ])
                ≡ not (touches m v)
                && any (λ u. subsumes u v)
                (remaining P A (elim (beq true y) as (λ c. List Way) [ true ↦ u ∷ part true m us | false ↦ part true m us ]))
            by true e true g ih = rw (e, remaining) ih
            by true e false g ih = ih
            by false e true g ih =
                rw (e, remaining)
                (ap (λ (w : Bool). outdoes (dropped m u) (dropped m v) || w) ih
                ∙ first (not (touches m v)) (outdoes (dropped m u) (dropped m v)) (subsumes (dropped m u) v) (any (λ u. subsumes u v) rest)
                (one-pair u v (h u (Memᴰ.head refl)) j e cv ∙ ap (λ (w : Bool). not (touches m v) && (w && subsumes (dropped m u) v)) g))
            by false e false g ih =
                ap (λ (w : Bool). outdoes (dropped m u) (dropped m v) || w) ih
                ∙ other (not (touches m v)) (outdoes (dropped m u) (dropped m v)) (subsumes (dropped m u) v) (any (λ u. subsumes u v) rest)
                (one-pair u v (h u (Memᴰ.head refl)) j e cv ∙ ap (λ (w : Bool). not (touches m v) && (w && subsumes (dropped m u) v)) g)
