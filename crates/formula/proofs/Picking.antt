-- Picking ways with one word of the faults already taken. After every way it holds exactly the faults that the kept ways name (`held-exactly`,
-- `held-is`), and a way is kept exactly if it names none of them (`kept_if`).
-- Rests on the definitions of `rules`, Leaf and Group, and on its laws of bits (Bits) and of Boolean tests (Booleans).
use mathlib.Core.Path.{◌≡◌, refl, sym, ap, ap₂, ◌∙◌}
use mathlib.Core.Bool.{and-or_distrib_right, Bool, true, false, not, ◌||◌, true≢false}
use mathlib.Core.List.{List, [], ◌∷◌, ◌++◌}
use Prim.Native.Nat.{ℕ, ◌+◌, ◌-◌, min}
use native.Mathlib.Nat.{mul-zero, zero-mul}
use native.Mathlib.Omega.{arith}
use lib.Bits.{bit_and, bit_or, and_zero_l, and_zero_r, or_zero_l, or_zero_r, and_comm}
use lib.Dec.{eqb}
use borrow.Author.Tests.{eqb-true}
use Rattle.rules.specs.declared.Way.{Way}
use Rattle.rules.specs.Rounding.{S, over}
use Rattle.rules.specs.declared.Direction.TheVariants.{Down, Up}
use Rattle.rules.specs.Table.{bit, faults}
use Rattle.rules.specs.Leaf.{any, shares_any, shares, keep, kept, chance, chance_from, either, either_all, leaf_low, chances, leaf_high, is_empty}
use Rattle.rules.specs.Group.{touches}
use Rattle.rules.proofs.Bits.{bit-zero, bit-and, bit-or, bits-ext, or_assoc, or-zero}
use Rattle.rules.proofs.Booleans.{or_cases}
use Rattle.rules.proofs.Remaining.{nonzero-or}
use Rattle.formula.specs.declared.Picked.{Picked}
use Rattle.formula.specs.Picking.{union, held, picked}

-- ---- the word of several ways

-- What two words have in common with a third.
and-or : (x y w : ℕ) → bit_and (bit_or x y) w ≡ bit_or (bit_and x w) (bit_and y w)
and-or x y w = bits-ext _ _ (λ i. simp (bit-and, bit-or) (and-or_distrib_right (bit i x) (bit i y) (bit i w)))

-- Two words joined touch what one of them touches.
touches-or : (x y : ℕ) (v : Way) → touches (bit_or x y) v ≡ touches x v || touches y v
touches-or x y v = ap (λ (w : ℕ). not (eqb w 0)) (and-or x y (faults v)) ∙ nonzero-or (bit_and x (faults v)) (bit_and y (faults v))

-- A way shares a fault with one of the ways just if the word of them all touches it.
shares-word : (v : Way) (us : List Way) → shares_any v us ≡ touches (union us) v
shares-word v [] = sym (ap (λ (w : ℕ). not (eqb w 0)) (and_zero_l (faults v)))
shares-word v (u ∷ us) =
    ap₂ (λ (x y : Bool). x || y) (ap (λ (w : ℕ). not (eqb w 0)) (and_comm (faults v) (faults u))) (shares-word v us)
    ∙ sym (touches-or (faults u) (union us) v)

-- The word of ways and more ways.
union_more : (us vs : List Way) → union (us ++ vs) ≡ bit_or (union us) (union vs)
union_more [] vs = sym (or_zero_l (union vs))
union_more (u ∷ us) vs = ap (bit_or (faults u)) (union_more us vs) ∙ sym (or_assoc (faults u) (union us) (union vs))

-- It has the faults that one of them names, present or absent, and no other.
union-exactly : (us : List Way) (i : ℕ) → bit i (union us) ≡ any (λ v. bit i v.present || bit i v.absent) us
unfolding any
union-exactly [] i = bit-zero i
union-exactly (u ∷ us) i = bit-or i (faults u) (union us) ∙ ap₂ (λ (x y : Bool). x || y) (bit-or i u.present u.absent) (union-exactly us i)

-- ---- one way more

-- What is kept of one way: it, unless it is passed over.
abbrev unless : Bool → Way → List Way
unless true v = []
unless false v = v ∷ []

-- A test on two lists and a way between them, in two orders.
or-between : (x y z : Bool) → (x || y) || z ≡ y || (x || z)
or-between true true z = refl
or-between true false z = refl
or-between false y z = refl

-- Of one way more at the end, after `before`.
keep-more : (before us : List Way) (v : Way) → keep before (us ++ (v ∷ [])) ≡ keep before us ++ unless (shares_any v before || shares_any v (keep before us)) v
keep-more before [] v = go (shares_any v before)
  where
    go : (t : Bool) → ◌≡◌ {A = List Way} (elim t as (λ b. List Way) [ true ↦ [] | false ↦ v ∷ [] ]) (unless (t || false) v)
    go true = refl
    go false = refl
keep-more before (u ∷ us) v = go (shares_any u before) (keep-more before us v) (keep-more (u ∷ before) us v)
  where
    go : (t : Bool) → keep before (us ++ (v ∷ [])) ≡ keep before us ++ unless (shares_any v before || shares_any v (keep before us)) v
        → keep (u ∷ before) (us ++ (v ∷ [])) ≡ keep (u ∷ before) us ++ unless (shares_any v (u ∷ before) || shares_any v (keep (u ∷ before) us)) v
        → ◌≡◌ {A = List Way} (elim t as (λ b. List Way) [ true ↦ keep before (us ++ (v ∷ [])) | false ↦ u ∷ keep (u ∷ before) (us ++ (v ∷ [])) ])
        ((elim t as (λ b. List Way) [ true ↦ keep before us | false ↦ u ∷ keep (u ∷ before) us ])
        ++ unless (shares_any v before || shares_any v (elim t as (λ b. List Way) [ true ↦ keep before us | false ↦ u ∷ keep (u ∷ before) us ])) v)
    go true p q = p
    go false p q =
        ap (λ (ks : List Way). u ∷ ks) q
        ∙ ap (λ (b : Bool). u ∷ (keep (u ∷ before) us ++ unless b v)) (or-between (shares v u) (shares_any v before) (shares_any v (keep (u ∷ before) us)))

-- A FAULT IS HELD EXACTLY IF A KEPT WAY NAMES IT, PRESENT OR ABSENT.
pub held-exactly : (us : List Way) (i : ℕ) → bit i (held us) ≡ any (λ v. bit i v.present || bit i v.absent) (kept us)
held-exactly us i = union-exactly (kept us) i

-- A WAY IS KEPT EXACTLY IF IT NAMES NONE OF THE FAULTS THAT ARE HELD.
pub kept_if : (us : List Way) (v : Way) → kept (us ++ (v ∷ [])) ≡ kept us ++ unless (touches (held us) v) v
kept_if us v = keep-more [] us v ∙ ap (λ (b : Bool). kept us ++ unless b v) (shares-word v (kept us))

-- SO ONE WAY MORE LEAVES THE WORD AS IT IS, WHERE IT IS PASSED OVER, OR ADDS ITS FAULTS.
pub held-is : (us : List Way) (v : Way)
    → held (us ++ (v ∷ [])) ≡ elim (touches (held us) v) as (λ b. ℕ) [ true ↦ held us | false ↦ bit_or (held us) (faults v) ]
held-is us v = ap union (kept_if us v) ∙ union_more (kept us) (unless (touches (held us) v) v) ∙ go (touches (held us) v)
  where
    go : (t : Bool) → bit_or (held us) (union (unless t v)) ≡ elim t as (λ b. ℕ) [ true ↦ held us | false ↦ bit_or (held us) (faults v) ]
    go true = or_zero_r (held us)
    go false = ap (bit_or (held us)) (or_zero_r (faults v))

-- ---- the ends with one way more

module _ (ws : List ℕ) where
  -- Leaf low, made of ways and more ways.
  either_more : (us vs : List Way) (a : ℕ) → either_all ws (us ++ vs) a ≡ either_all ws vs (either_all ws us a)
  either_more [] vs a = refl
  either_more (u ∷ us) vs a = either_more us vs (either Down a (chance Down ws u))

  -- The sum of the high chances of ways and one more.
  chances_more : (us : List Way) (v : Way) → chances ws (us ++ (v ∷ [])) ≡ chances ws us + chance Up ws v
  chances_more [] v = omega arith
  chances_more (u ∷ us) v = omega (arith, chances_more us v)

  module _ (us : List Way) (v : Way) where
    -- What is held then, by whether the word touched the way.
    abbrev by-test : Bool → ℕ
    by-test b = elim b as (λ b. ℕ) [ true ↦ held us | false ↦ bit_or (held us) (faults v) ]

    -- Leaf low, where the way is passed over and where it is kept.
    low-passed : touches (held us) v ≡ true → leaf_low ws (us ++ (v ∷ [])) ≡ leaf_low ws us
    low-passed h = ap (λ (ks : List Way). either_all ws ks 0) (kept_if us v ∙ ap (λ (b : Bool). kept us ++ unless b v) h) ∙ either_more (kept us) [] 0

    low-kept : touches (held us) v ≡ false → leaf_low ws (us ++ (v ∷ [])) ≡ either Down (leaf_low ws us) (chance Down ws v)
    low-kept h = ap (λ (ks : List Way). either_all ws ks 0) (kept_if us v ∙ ap (λ (b : Bool). kept us ++ unless b v) h) ∙ either_more (kept us) (v ∷ []) 0

    -- The high end.
    high-more : leaf_high ws (us ++ (v ∷ [])) ≡ min S (leaf_high ws us + chance Up ws v)
    high-more = omega (arith, chances_more us v)

    -- The word and both ends, where the way is passed over: the high end alone rises, to h.
    pub passed : (p : Picked) (h : ℕ) → p ≡ picked ws us → touches p.held v ≡ true → h ≡ min S (p.high + chance Up ws v)
        → ◌≡◌ {A = Picked} (record { held = p.held; low = p.low; high = h }) (picked ws (us ++ (v ∷ [])))
    passed p h e t q =
        let t' : touches (held us) v ≡ true = rw e at t in
        rw (q, e)
        (λ i. record { held = sym (held-is us v ∙ ap by-test t') i; low = sym (low-passed t') i; high = sym high-more i })

    -- And where it is kept: m is the word with its faults, x its low chance, y the low end with it.
    pub taken_up : (p : Picked) (h m x y : ℕ) → p ≡ picked ws us → touches p.held v ≡ false → h ≡ min S (p.high + chance Up ws v)
        → m ≡ bit_or p.held (faults v) → x ≡ chance Down ws v → y ≡ either Down p.low x
        → ◌≡◌ {A = Picked} (record { held = m; low = y; high = h }) (picked ws (us ++ (v ∷ [])))
    taken_up p h m x y e t q f k l =
        let t' : touches (held us) v ≡ false = rw e at t in
        rw (q, l, k, f, e)
        (λ i. record { held = sym (held-is us v ∙ ap by-test t') i; low = sym (low-kept t') i; high = sym high-more i })

-- ---- a way that names no fault

-- Its chance is S.
chance-empty : (ws : List ℕ) (c : ℕ) → chance_from Down ws 0 0 c ≡ c
chance-empty [] c = refl
chance-empty (w ∷ ws) c = chance-empty ws c

module _ (ws : List ℕ) where
  -- Either of an event and a certain one is certain.
  certain_second : (a : ℕ) → either Down a S ≡ S
  certain_second a = ap (λ (x : ℕ). S - over Up x) (mul-zero (S - a))

  certain_first : (y : ℕ) → either Down S y ≡ S
  certain_first y = ap (λ (x : ℕ). S - over Up x) (zero-mul (S - y))

  -- So a low end of S stays.
  low_full : (vs : List Way) → either_all ws vs S ≡ S
  low_full [] = refl
  low_full (v ∷ vs) = ap (either_all ws vs) (certain_first (chance Down ws v)) ∙ low_full vs

  module _ (v : Way) (e : faults v ≡ 0) where
    -- It is kept, whatever was kept before.
    never-shares : (before : List Way) → shares_any v before ≡ false
    never-shares before = shares-word v before ∙ ap (λ (w : ℕ). not (eqb w 0)) (ap (bit_and (union before)) e ∙ and_zero_r (union before))

    certain : chance Down ws v ≡ S
    certain =
        let z = or-zero v.present v.absent e in
        ap₂ (λ (p q : ℕ). chance_from Down ws p q S) z.0 z.1 ∙ chance-empty ws S

    -- And then the low end is S.
    keeps-full : (before vs : List Way) (a : ℕ) → either_all ws (keep before (v ∷ vs)) a ≡ S
    keeps-full before vs a =
        ap (λ (b : Bool). either_all ws (elim b as (λ b. List Way) [ true ↦ keep before vs | false ↦ v ∷ keep (v ∷ before) vs ]) a) (never-shares before)
        ∙ ap (either_all ws (keep (v ∷ before) vs)) (ap (either Down a) certain ∙ certain_second a) ∙ low_full (keep (v ∷ before) vs)

  -- With such a way among those that are picked after `before`, the low end is S.
  keep_full : (before vs : List Way) (a : ℕ) → any is_empty vs ≡ true → either_all ws (keep before vs) a ≡ S
  unfolding any
  keep_full before [] a h = absurd (true≢false (sym h))
  keep_full before (v ∷ vs) a h =
      or_cases (is_empty v) (any is_empty vs) (λ e. keeps-full v (eqb-true (faults v) 0 e) before vs a)
      (λ e. go (shares_any v before) (keep_full before vs a e) (keep_full (v ∷ before) vs (either Down a (chance Down ws v)) e)) h
    where
      go : (t : Bool) → either_all ws (keep before vs) a ≡ S → either_all ws (keep (v ∷ before) vs) (either Down a (chance Down ws v)) ≡ S
          → either_all ws (elim t as (λ b. List Way) [ true ↦ keep before vs | false ↦ v ∷ keep (v ∷ before) vs ]) a ≡ S
      go true p q = p
      go false p q = q

  -- WITH A WAY THAT NAMES NO FAULT, LEAF LOW IS S.
  pub empty_full : (vs : List Way) → any is_empty vs ≡ true → leaf_low ws vs ≡ S
  empty_full vs h = keep_full [] vs 0 h
