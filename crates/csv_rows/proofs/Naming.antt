-- The faults of a way collected in two words: what one fault more changes, and when some fault is named twice.
-- Rests on the laws of bits (`rules`, Bits) and of tests (`rules`, Booleans, and the library).
use Rattle.std.proofs.Common.{◌≡◌, refl, sym, ap, ap₂, ◌∙◌, Bool, true, false, ◌&&◌, ◌||◌, true≢false, List, [], ◌∷◌, ℕ, ◌*◌, ◌/◌, ◌%◌, ◌^◌, ◌<◌, ◌≤◌, eqb}
use Rattle.std.proofs.Common.{ltb, lt-ltb, le-ltb, eqb-true, arith}
use mathlib.Core.Bool.{or-false, or-true, or_assoc}
use Rattle.std.proofs.lemmas.Bool.{false≢true}
use lib.Pow.{shl_exact}
use native.Mathlib.Nat.{one-mul}
use lib.Bits.{bit_and, bit_or}
use Rattle.std.proofs.lemmas.Nat.{and_mask}
use Rattle.rules.specs.Table.{bit}
use Rattle.rules.proofs.Bits.{bit-shift, bit-or, bit-pow, bit-zero, or_assoc as bits_assoc}
use Rattle.rules.proofs.Booleans.{and-false, and-true, and_left, or_left, eqb_swap}
use Rattle.csv_text.specs.declared.Fault.{Fault}
use Rattle.csv_text.specs.Shapes.{same_sense, among, repeats, word_of}
use Rattle.rules.specs.declared.Words.{Words}
use Rattle.csv_rows.specs.declared.ways.Seen.{Seen}
use Rattle.csv_rows.specs.Walks.{word_for, holds, with_bit, with_fault, twice, clash, some_far}

-- ---- booleans

-- Two tests side by side, for n that holds where s does.
shuffle : (n h s c a : Bool) → (s ≡ true → n ≡ true) → (n && (h || s)) || (c || a) ≡ ((n && h) || c) || (s || a)
shuffle true true s c a e = refl
shuffle true false true true a e = refl
shuffle true false true false a e = refl
shuffle true false false c a e = sym (or_assoc c false a) ∙ ap (λ (x : Bool). x || a) (or-false c)
shuffle false h true c a e = absurd (false≢true (e refl))
shuffle false h false c a e = refl

-- ---- one fault more

-- The same fault in the same sense.
abbrev alike : Fault → Fault → Bool
alike f g = eqb f.place g.place && same_sense f.absent g.absent

-- A bit more in the word of one sense, asked for in another.
bit-more : (a b : Bool) (i k : ℕ) (w : Words) → bit k (word_for b (with_bit a (2 ^ i) w)) ≡ bit k (word_for b w) || (eqb i k && same_sense a b)
unfolding with_bit same_sense
bit-more true true i k w =
    bit-or k w.absent (2 ^ i) ∙ ap (λ (x : Bool). bit k w.absent || x) (bit-pow k i ∙ eqb_swap k i ∙ sym (and-true (eqb i k)))
bit-more true false i k w = sym (ap (λ (x : Bool). bit k w.present || x) (and-false (eqb i k)) ∙ or-false (bit k w.present))
bit-more false true i k w = sym (ap (λ (x : Bool). bit k w.absent || x) (and-false (eqb i k)) ∙ or-false (bit k w.absent))
bit-more false false i k w =
    bit-or k w.present (2 ^ i) ∙ ap (λ (x : Bool). bit k w.present || x) (bit-pow k i ∙ eqb_swap k i ∙ sym (and-true (eqb i k)))

module _ (s : Seen) (f : Fault) (near : ltb f.place 64 ≡ true) where
  -- A near fault is a bit more.
  pub with_near : with_fault s f ≡ record { words = with_bit f.absent (2 ^ f.place) s.words; far = s.far }
  unfolding with_fault
  with_near = rw near

  -- Then also that one is among those so far.
  holds_more : (g : Fault) → holds (with_fault s f) g ≡ holds s g || alike f g
  unfolding holds
  holds_more g = rw with_near (bit-more f.absent g.absent f.place g.place s.words)

  -- A near fault that is alike is near.
  near_alike : (g : Fault) → alike f g ≡ true → ltb g.place 64 ≡ true
  near_alike g e = rw (eqb-true f.place g.place (and_left (eqb f.place g.place) _ e)) at near

  -- Those to come that are among the ones so far and this one.
  clash_near : (fs : List Fault) → clash (with_fault s f) fs ≡ clash s fs || among f fs
  unfolding clash among
  clash_near [] = refl
  clash_near (g ∷ gs) =
      ap₂ (λ (x y : Bool). (ltb g.place 64 && x) || y) (holds_more g) (clash_near gs)
      ∙ shuffle (ltb g.place 64) (holds s g) (alike f g) (clash s gs) (among f gs) (near_alike g)

module _ (s : Seen) (f : Fault) (far : ltb f.place 64 ≡ false) where
  -- A far fault is no bit.
  pub with_far : with_fault s f ≡ record { words = s.words; far = true }
  unfolding with_fault
  with_far = rw far

  -- Those so far are as before, and so are those to come that are among them.
  clash_far : (fs : List Fault) → clash (with_fault s f) fs ≡ clash s fs
  unfolding clash holds
  clash_far [] = refl
  clash_far (g ∷ gs) = rw (with_far, clash_far gs)

-- ---- the steps in code

-- A bit tested by a shift.
pub holds-bit : (s : Seen) (f : Fault) (w : ℕ) → w ≡ word_for f.absent s.words → eqb (bit_and (w / 2 ^ f.place) 1) 1 ≡ holds s f
unfolding holds
holds-bit s f w e = rw (and_mask (w / 2 ^ f.place) 1) (sym (bit-shift f.place w) ∙ ap (bit f.place) e)

-- A shift of 1 by less than 64 loses nothing.
shifted : (i : ℕ) → i < 64 → (1 * 2 ^ i) % 2 ^ 64 ≡ 2 ^ i
shifted i h = shl_exact 1 i 64 (omega arith) (omega arith) ∙ one-mul (2 ^ i)

-- A far fault.
pub far-with : (s : Seen) (f : Fault) → 64 ≤ f.place → record { words = s.words; far = true } ≡ with_fault s f
far-with s f h = sym (with_far s f (le-ltb f.place 64 h))

-- A near one, in either word.
pub absent-with : (s : Seen) (f : Fault) → f.place < 64 → f.absent ≡ true
    → record { words = record { present = s.words.present; absent = bit_or s.words.absent ((1 * 2 ^ f.place) % 2 ^ 64) }; far = s.far } ≡ with_fault s f
unfolding with_bit
absent-with s f h a = sym (with_near s f (lt-ltb f.place 64 h) ∙ rw (a, shifted f.place h))

pub present-with : (s : Seen) (f : Fault) → f.place < 64 → f.absent ≡ false
    → record { words = record { present = bit_or s.words.present ((1 * 2 ^ f.place) % 2 ^ 64); absent = s.words.absent }; far = s.far } ≡ with_fault s f
unfolding with_bit
present-with s f h a = sym (with_near s f (lt-ltb f.place 64 h) ∙ rw (a, shifted f.place h))

-- ---- named twice

-- So far there is no fault.
pub clash-none : (fs : List Fault) → clash (record { words = record { present = 0; absent = 0 }; far = false }) fs ≡ false
unfolding clash holds
clash-none [] = refl
clash-none (f ∷ fs) = rw (clash-none fs, none f.absent) (ap (λ (x : Bool). x || false) (and-false (ltb f.place 64)))
  where
    none : (b : Bool) → bit f.place (word_for b (record { present = 0; absent = 0 })) ≡ false
    none true = bit-zero f.place
    none false = bit-zero f.place

module _ (s : Seen) (f : Fault) (fs : List Fault) where
  -- Where a fault is looked for: a near one in the words, a far one among those behind it.
  pub twice_near : f.place < 64 → holds s f ≡ twice s f fs
  unfolding twice
  twice_near h = sym (rw (lt-ltb f.place 64 h, twice))

  pub twice_far : 64 ≤ f.place → among f fs ≡ twice s f fs
  unfolding twice
  twice_far h = sym (rw (le-ltb f.place 64 h, twice))

  -- A fault that is named twice.
  pub twice_found : twice s f fs ≡ true → clash s (f ∷ fs) || repeats (f ∷ fs) ≡ true
  unfolding twice clash repeats
  twice_found = split (ltb f.place 64) refl
    where
      split : (x : Bool) → ltb f.place 64 ≡ x → twice s f fs ≡ true → clash s (f ∷ fs) || repeats (f ∷ fs) ≡ true
      split true e t = let h : holds s f ≡ true = rw (e, twice) at t in rw (e, h)
      split false e t = let h : among f fs ≡ true = rw (e, twice) at t in rw (e, h) (or-true (clash s fs))

  -- One that is not: the same for those behind it, with this one among those so far.
  pub twice_not : twice s f fs ≡ false → clash s (f ∷ fs) || repeats (f ∷ fs) ≡ clash (with_fault s f) fs || repeats fs
  unfolding twice clash repeats
  twice_not = split (ltb f.place 64) refl
    where
      split : (x : Bool) → ltb f.place 64 ≡ x → twice s f fs ≡ false → clash s (f ∷ fs) || repeats (f ∷ fs) ≡ clash (with_fault s f) fs || repeats fs
      split true e t =
          let h : holds s f ≡ false = rw (e, twice) at t in
          rw (e, h, clash_near s f e fs) (sym (or_assoc (clash s fs) (among f fs) (repeats fs)))
      split false e t = let h : among f fs ≡ false = rw (e, twice) at t in rw (e, h, clash_far s f e fs)

  -- ---- far faults and words

  -- Some fault is far: one so far, this one, or one to come.
  pub far_next : s.far || some_far (f ∷ fs) ≡ (with_fault s f).far || some_far fs
  unfolding some_far
  far_next = split (ltb f.place 64) refl
    where
      split : (x : Bool) → ltb f.place 64 ≡ x → s.far || some_far (f ∷ fs) ≡ (with_fault s f).far || some_far fs
      split true e = rw (with_near s f e, e)
      split false e = rw (with_far s f e, e) (or-true s.far)

-- Once a fault was far, the words say so.
pub far-before : (s : Seen) (f : Fault) → (with_fault s f).far ≡ false → s.far ≡ false
unfolding some_far
far-before s f h = or_left s.far (some_far (f ∷ [])) (far_next s f [] ∙ rw h)

-- The word of a sense with those to come.
words_more : (a b : Bool) (m v : ℕ) (w : Words)
    → bit_or (word_for b w) (elim (same_sense b a) as (λ x. ℕ) [ true ↦ bit_or m v | false ↦ v ]) ≡ bit_or (word_for b (with_bit a m w)) v
unfolding with_bit same_sense
words_more true true m v w = sym (bits_assoc w.absent m v)
words_more true false m v w = refl
words_more false true m v w = refl
words_more false false m v w = sym (bits_assoc w.present m v)

-- One fault of the walk.
pub words-next : (b : Bool) (s : Seen) (f : Fault) (fs : List Fault) → (with_fault s f).far ≡ false
    → bit_or (word_for b s.words) (word_of b (f ∷ fs)) ≡ bit_or (word_for b (with_fault s f).words) (word_of b fs)
unfolding word_of
words-next b s f fs h = split (ltb f.place 64) refl
  where
    split : (x : Bool) → ltb f.place 64 ≡ x
        → bit_or (word_for b s.words) (word_of b (f ∷ fs)) ≡ bit_or (word_for b (with_fault s f).words) (word_of b fs)
    split true e = rw (with_near s f e) (words_more f.absent b (2 ^ f.place) (word_of b fs) s.words)
    split false e = absurd (true≢false (sym (ap (λ (x : Seen). x.far) (with_far s f e)) ∙ h))
