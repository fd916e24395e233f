-- The group of a leaf's first way, grown by sweeps: one turn of a sweep, one sweep, and the end, where the word is the group's faults.
-- Rests on `rules`, Groups: the group's faults are the least word at rest with those of the first way. And on `clauses`, Held, Leaf and Parts.
use mathlib.Core.Path.{◌≡◌, refl, sym, ap, ◌∙◌, subst}
use mathlib.Core.Bool.{Bool, true, false, not, ◌&&◌, true≢false}
use mathlib.Core.List.Memᴰ
use mathlib.Core.List.{List, [], ◌∷◌}
use mathlib.Core.Logic.{◌⊎◌, inl, inr}
use Prim.Native.Nat.{ℕ, zero, suc, ◌≤◌}
use native.Mathlib.Omega.{arith}
use lib.ListN.{length}
use lib.Dec.{eqb}
use lib.Bits.{bit_and, bit_or, and_le_l}
use borrow.Author.Tests.{eqb-true, eq-eqb}
use Rattle.rules.specs.declared.Way.{Way}
use Rattle.rules.specs.Members.{In}
use Rattle.rules.specs.Table.{bit, faults}
use Rattle.rules.specs.Leaf.{sift}
use Rattle.rules.specs.Group.{touches, absorb, pass, passes, group_faults, others}
use Rattle.rules.proofs.Bits.{bit-or, bit-and, bits-ext}
use Rattle.rules.proofs.Booleans.{and-true, and_left, and_right, and_both, or-first, or-second, contra, same_test}
use Rattle.rules.proofs.Groups.{Subword, touches-within, pass-within, AtRest, pass-rests, group-rests, first-faults}
use Rattle.rules.proofs.Minimal.{sift-in, in-sift}
use Rattle.clauses.specs.declared.Clauses.{Clauses}
use Rattle.clauses.specs.declared.sets.Numbers.{Numbers}
use Rattle.clauses.specs.Numbers.{is_in}
use Rattle.clauses.specs.Leaves.{ways_of, Narrows}
use Rattle.clauses.proofs.Held.{reworded}
use Rattle.clauses.proofs.Leaf.{rising, numbers, number_in}
use Rattle.clauses.proofs.Parts.{sift-same, numbered, one_way, untouched-is}
use Rattle.formula.specs.declared.group.Swept.{Swept}
use Rattle.formula.specs.Sweeps.{Joined, Outside, Sweeps}

-- ---- words that grow

-- What has joined a word has joined a larger one.
stays-joined : (m n : ℕ) (v : Way) → Subword m n → Joined m v → Joined n v
stays-joined m n v s h = (touches-within m n v s h.0, λ f b. s f (h.1 f b))

-- A larger word is a larger number.
pub larger : (m n : ℕ) → Subword m n → m ≤ n
larger m n s = omega (arith, and_le_l n m, same)
  where
    same : bit_and n m ≡ m
    same =
        bits-ext (bit_and n m) m
        (λ i. bit-and i n m ∙ same_test (bit i n && bit i m) (bit i m) (and_right (bit i n) (bit i m)) (λ b. and_both (bit i n) (bit i m) (s i b) b))

-- A word joined with another is no smaller.
or-within : (m w : ℕ) → Subword m (bit_or m w)
or-within m w i b = bit-or i m w ∙ or-first (bit i m) (bit i w) b

-- A way that the word touches joins it with its faults.
joins : (m : ℕ) (v : Way) → touches m v ≡ true → Joined (bit_or m (faults v)) v
joins m v h =
    (touches-within m (bit_or m (faults v)) v (or-within m (faults v)) h, λ i b. bit-or i m (faults v) ∙ or-second (bit i m) (bit i (faults v)) b)

-- From within a word that is at rest, any number of passes stay within it.
passes-rest : (k m n : ℕ) (vs : List Way) → AtRest n vs → Subword m n → Subword (passes k m vs) n
passes-rest zero m n vs r s = s
passes-rest (suc k) m n vs r s = passes-rest k (pass m vs) n vs r (pass-rests m n vs r s)

module _ (c : Clauses) where
  -- At first all ways are outside.
  all_outside : (word : ℕ) → Outside c word c.numbers
  all_outside word v p e = absurd (true≢false (sym (number_in c v p) ∙ e))

  -- ---- one sweep

  -- In the midst of a sweep from the word m: the ways ws are yet to be met, and m touches no way outside but those.
  pub record Sweeping (m word : ℕ) (rest : Numbers) (ws : List Way) : Type 0 where
    pub to-come : pass word ws ≡ pass m (ways_of c)
    pub within : (v : Way) → In v ws → In v (ways_of c)
    pub grown : Subword m word
    pub inside : (i : ℕ) → is_in rest i ≡ true → is_in c.numbers i ≡ true
    pub outside : Outside c word rest
    pub untouched : (v : Way) → In v (ways_of c) → is_in rest v.number ≡ true → In v ws ⊎ (touches m v ≡ false)

  -- At first all are yet to be met.
  pub begun : (m : ℕ) → Sweeping m m c.numbers (ways_of c)
  begun m = record {
    to-come = refl;
    within = λ v p. p;
    grown = λ i b. b;
    inside = λ i e. e;
    outside = all_outside m;
    untouched = λ v p e. inl p;
  }

  module _ (m word : ℕ) (rest : Numbers) (ws : List Way) (s : Sweeping m word rest ws) where
    module _ (v : Way) (vs : List Way) (next : ws ≡ v ∷ vs) where
      -- It is one of the ways, and so are those after it.
      here : In v (ways_of c)
      here = s.within v (subst (λ (xs : List Way). In v xs) (sym next) (Memᴰ.head refl))

      after : (u : Way) → In u vs → In u (ways_of c)
      after u p = s.within u (subst (λ (xs : List Way). In u xs) (sym next) (Memᴰ.tail p))

      -- A way yet to be met is met later, unless it is the first of them.
      later : (u : Way) → (u ≡ v → touches m u ≡ false) → In u ws ⊎ (touches m u ≡ false) → In u vs ⊎ (touches m u ≡ false)
      later u f (inr q) = inr q
      later u f (inl p) = by (Memᴰ.cases_cons (subst (λ (xs : List Way). In u xs) next p))
        where
          by : (u ≡ v) ⊎ In u vs → In u vs ⊎ (touches m u ≡ false)
          by (inl q) = inr (f q)
          by (inr q) = inl q

      -- The first of them is not touched, and stays.
      pub passed-by : touches word v ≡ false → Sweeping m word rest vs
      passed-by e =
          record {
            to-come = ap (λ (n : ℕ). pass n vs) (sym same) ∙ sym (ap (pass word) next) ∙ s.to-come;
            within = after;
            grown = s.grown;
            inside = s.inside;
            outside = s.outside;
            untouched = λ u p b. later u (λ q. ap (touches m) q ∙ off) (s.untouched u p b);
          }
        where
          same : absorb word v ≡ word
          same = rw (e, absorb)

          off : touches m v ≡ false
          off = contra (touches m v) (touches word v) (touches-within m word v s.grown) e

      -- It is touched: the word n has its faults too, and its number is taken out.
      pub taken_in : touches word v ≡ true → (n : ℕ) → n ≡ bit_or word (faults v) → (less : Numbers)
          → ((i : ℕ) → is_in less i ≡ (is_in rest i && not (eqb i v.number))) → Sweeping m n less vs
      taken_in e n z less k =
          record {
            to-come = ap (λ (n : ℕ). pass n vs) (z ∙ sym same) ∙ sym (ap (pass word) next) ∙ s.to-come;
            within = after;
            grown = λ i b. more i (s.grown i b);
            inside = λ i h. s.inside i (and_left (is_in rest i) _ (sym (k i) ∙ h));
            outside = λ u p h. out u p (eqb u.number v.number) refl (sym (k u.number) ∙ h);
            untouched = λ u p h. let both = sym (k u.number) ∙ h in
                later u
                (λ q. absurd (true≢false (sym (and_right (is_in rest u.number) _ both) ∙ ap not (eq-eqb u.number v.number (ap (λ (w : Way). w.number) q)))))
                (s.untouched u p (and_left (is_in rest u.number) _ both));
          }
        where
          same : absorb word v ≡ bit_or word (faults v)
          same = rw (e, absorb)

          more : Subword word n
          more = subst (Subword word) (sym z) (or-within word (faults v))

          out : (u : Way) → In u (ways_of c) → (b : Bool) → eqb u.number v.number ≡ b → (is_in rest u.number && not b) ≡ false → Joined n u
          out u p true q h =
              subst (λ (w : Way). Joined n w) (one_way 0 (ways_of c) (rising c) v u here p (sym (eqb-true u.number v.number q)))
              (subst (λ (x : ℕ). Joined x v) (sym z) (joins word v e))
          out u p false q h = stays-joined word n u more (s.outside u p (sym (and-true (is_in rest u.number)) ∙ h))

    -- At the end none is left to be met.
    pub swept : ws ≡ [] → Sweeps c m (record { word = word; rest = rest })
    swept z =
        record {
          word_is = sym (ap (pass word) z) ∙ s.to-come;
          inside = s.inside;
          outside = s.outside;
          untouched = λ v p b. by v (s.untouched v p b);
        }
      where
        by : (v : Way) → In v ws ⊎ (touches m v ≡ false) → touches m v ≡ false
        by v (inl p) = absurd (Memᴰ.not-nil (subst (λ (xs : List Way). In v xs) z p))
        by v (inr q) = q

  -- ---- sweep after sweep

  -- The group's faults.
  abbrev whole : ℕ
  whole = group_faults (ways_of c)

  -- Between two sweeps: the word is within the group's faults, and they are within any word at rest that it is within.
  pub record Growing (word : ℕ) (rest : Numbers) : Type 0 where
    pub inside : Subword word whole
    pub least : (n : ℕ) → AtRest n (ways_of c) → Subword word n → Subword whole n
    pub outside : Outside c word rest

  -- At first the word has the faults of the first way.
  pub started : (v : Way) (vs : List Way) → ways_of c ≡ v ∷ vs → (word : ℕ) → word ≡ faults v → Growing word c.numbers
  started v vs first word e = record {
    inside = subst (λ (us : List Way). Subword word (group_faults us)) (sym first)
        (subst (λ (n : ℕ). Subword n (group_faults (v ∷ vs))) (sym e) (first-faults v vs));
    least = subst (λ (us : List Way). (n : ℕ) → AtRest n us → Subword word n → Subword (group_faults us) n) (sym first)
        (λ n r s. passes-rest (suc (length vs)) (faults v) n (v ∷ vs) r (subst (λ (x : ℕ). Subword x n) e s));
    outside = all_outside word;
  }

  module _ (word : ℕ) (rest : Numbers) (g : Growing word rest) (r : Clauses) (narrow : Narrows c (sift (λ v. is_in rest v.number) (ways_of c)) r)
      (s : Swept) (h : Sweeps r word s) where
    -- The sweep goes over the ways that were outside before.
    in_rest : (v : Way) → In v (ways_of c) → is_in rest v.number ≡ true → In v (ways_of r)
    in_rest v p e = subst (λ (vs : List Way). In v vs) (sym narrow.ways_are) (sift-in (λ u. is_in rest u.number) (ways_of c) v p e)

    of-leaf : (v : Way) → In v (ways_of r) → In v (ways_of c)
    of-leaf v p = (in-sift (λ u. is_in rest u.number) (ways_of c) v (subst (λ (vs : List Way). In v vs) narrow.ways_are p)).0

    -- A way that is outside after it was one of them.
    swept-way : (v : Way) → In v (ways_of c) → is_in s.rest v.number ≡ true → In v (ways_of r)
    swept-way v p e =
        let n = numbered (ways_of r) v.number (numbers r v.number ∙ h.inside v.number e) in
        subst (λ (u : Way). In u (ways_of r)) (one_way 0 (ways_of c) (rising c) n.0 v (of-leaf n.0 n.1) p n.2) n.1

    -- The word keeps its faults.
    pub wider : Subword word s.word
    wider = subst (Subword word) (sym h.word_is) (pass-within word (ways_of r))

    -- Every way that is not outside has joined it.
    still-outside : Outside c s.word s.rest
    still-outside v p e = by (is_in rest v.number) refl
      where
        by : (b : Bool) → is_in rest v.number ≡ b → Joined s.word v
        by true q = h.outside v (in_rest v p q) e
        by false q = stays-joined word s.word v wider (g.outside v p q)

    -- So the next sweep may begin.
    pub again : Growing s.word s.rest
    again = record {
      inside = subst (λ (n : ℕ). Subword n whole) (sym h.word_is)
          (pass-rests word whole (ways_of r) (λ v p. group-rests (ways_of c) v (of-leaf v p)) g.inside);
      least = λ n t b. g.least n t (λ i x. b i (wider i x));
      outside = still-outside;
    }

    module _ (e : s.word ≡ word) where
      -- A word that the sweep does not change touches just the ways that are not outside.
      tells : (v : Way) → In v (ways_of c) → is_in s.rest v.number ≡ not (touches word v)
      tells v p = by (is_in s.rest v.number) refl
        where
          by : (b : Bool) → is_in s.rest v.number ≡ b → b ≡ not (touches word v)
          by true q = sym (ap not (h.untouched v (swept-way v p q) q))
          by false q = sym (ap not (subst (λ (n : ℕ). touches n v ≡ true) e (still-outside v p q).0))

      -- So it is at rest.
      rests : AtRest word (ways_of c)
      rests v p b = subst (λ (n : ℕ). Subword (faults v) n) e (still-outside v p (tells v p ∙ ap not b)).1

      -- And it is the group's faults.
      is_whole : word ≡ whole
      is_whole = bits-ext word whole (λ i. same_test (bit i word) (bit i whole) (g.inside i) (g.least word rests (λ j b. b) i))

      -- So the ways left are those outside the group.
      pub all_left : (o : Clauses) → Narrows c (sift (λ v. is_in s.rest v.number) (ways_of c)) o → Narrows c (others (ways_of c)) o
      all_left o n =
          reworded n refl
          (sift-same _ _ (ways_of c) (λ v p. tells v p ∙ ap (λ (x : ℕ). not (touches x v)) is_whole) ∙ sym (untouched-is whole (ways_of c)))
