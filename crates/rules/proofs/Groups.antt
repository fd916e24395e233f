-- Groups: growing the word of faults comes to rest, and the group is the connected component of the lowest numbered way under
-- "shares a fault"; it shares no fault with the other ways.
-- Rests on the laws of bits (Bits) and of Boolean tests (Booleans).
use mathlib.Core.Path.{◌≡◌, refl, sym, ap, ◌∙◌}
use mathlib.Core.Bool.{Bool, true, false, not, ◌&&◌, ◌||◌, true≢false, beq}
use mathlib.Core.List.Memᴰ
use mathlib.Core.List.{List, [], ◌∷◌, Memᴰ}
use mathlib.Core.Logic.{◌⊎◌, inl, inr, ◌↔◌}
use Prim.Native.Nat.{ℕ, zero, suc, ◌^◌, ◌≤◌, ◌<◌}
use native.Mathlib.Nat.{pow-suc}
use native.Mathlib.Decide.{dec_lt}
use native.Mathlib.Omega.{arith}
use lib.ListN.{length}
use lib.Dec.{eqb}
use lib.Bits.{bit_and, bit_or, and_comm}
use borrow.Author.Tests.{eqb-false, not-true}
use Rattle.rules.proofs.Members.{In}
use Rattle.rules.specs.Table.{bit, Way, faults, Assignment, satisfies, happens}
use Rattle.rules.specs.Leaf.{any, shares, is_empty}
use Rattle.rules.specs.Group.{touches, absorb, pass, passes, group_faults, part, group, others, nonempty, fall_apart}
use Rattle.rules.specs.Tree.{occurs}
use Rattle.rules.proofs.Booleans.{and_left, and_right, and_both, or-first, or-second, or_cases, contra, any_head, any-tail, any-cons}
use Rattle.rules.proofs.Bits.{bit-and, bit-or, bit_high, bit-nonzero, apart-bit, apart-test, some-bit}

-- ---- ways of a list

-- Where no way of a list passes a test, each fails it.
pub none_passes : (f : Way → Bool) (vs : List Way) (v : Way) → any f vs ≡ false → In v vs → f v ≡ false
none_passes f [] v h x'' = elim x'' [ ]
none_passes f (u ∷ vs) v h (Memᴰ.head e) = rw e (any_head f u vs h)
none_passes f (u ∷ vs) v h (Memᴰ.tail i) = none_passes f vs v (any-tail f u vs h) i

-- The other way: where each way of a list fails a test, none passes it.
pub each-fails : (f : Way → Bool) (vs : List Way) → ((v : Way) → In v vs → f v ≡ false) → any f vs ≡ false
unfolding any
each-fails f [] h = refl
each-fails f (v ∷ vs) h = any-cons f v vs (h v (Memᴰ.head refl)) (each-fails f vs (λ u i. h u (Memᴰ.tail i)))

-- ---- common faults of two words

-- A word that is not 0 has a fault.
some_fault : (w : ℕ) → eqb w 0 ≡ false → (i : ℕ) × (bit i w ≡ true)
some_fault w h = let r = some-bit w w (eqb-false w 0 h) (λ i l. bit_high w i w l (below_power w)) in (r.0, r.2)
  where
    below_power : (n : ℕ) → n < 2 ^ n
    below_power zero = omega arith
    below_power (suc n) = omega (arith, pow-suc 2 n, below_power n)

-- Two words that the test finds to have a common fault: one of those.
common-fault : (x y : ℕ) → not (eqb (bit_and x y) 0) ≡ true → (i : ℕ) × (bit i x ≡ true) × (bit i y ≡ true)
common-fault x y h =
    let r = some_fault (bit_and x y) (not-true (eqb (bit_and x y) 0) h) in
    let e : bit r.0 x && bit r.0 y ≡ true = sym (bit-and r.0 x y) ∙ r.1 in
    (r.0, and_left (bit r.0 x) (bit r.0 y) e, and_right (bit r.0 x) (bit r.0 y) e)

-- The other way: the test finds two words with a common fault.
common-test : (i x y : ℕ) → bit i x ≡ true → bit i y ≡ true → not (eqb (bit_and x y) 0) ≡ true
common-test i x y h k = ap not (bit-nonzero i (bit_and x y) (bit-and i x y ∙ and_both (bit i x) (bit i y) h k))

-- Sharing a fault is symmetric.
pub shares-sym : (v u : Way) → shares v u ≡ shares u v
shares-sym v u = ap (λ (x : ℕ). not (eqb x 0)) (and_comm (faults v) (faults u))

-- Every fault of the one word is one of the other.
abbrev pub Subword : ℕ → ℕ → Type 0
Subword x y = (i : ℕ) → bit i x ≡ true → bit i y ≡ true

-- What a word touches, a larger one touches.
pub touches-within : (m n : ℕ) (v : Way) → Subword m n → touches m v ≡ true → touches n v ≡ true
touches-within m n v s h = let c = common-fault m (faults v) h in common-test c.0 n (faults v) (s c.0 c.1) c.2

-- ---- a part of a list

-- Booleans that are found equal are equal.
beq-true : (b c : Bool) → beq b c ≡ true → c ≡ b
beq-true true true h = refl
beq-true true false h = h
beq-true false true h = sym h
beq-true false false h = refl

-- And the other way.
beq_same : (b c : Bool) → c ≡ b → beq b c ≡ true
beq_same true c h = rw h
beq_same false c h = rw h

-- A way of a part is one of the list, and the word touches it or does not, as the part says.
pub part_in : (b : Bool) (m : ℕ) (vs : List Way) (v : Way) → In v (part b m vs) → In v vs × (touches m v ≡ b)
part_in b m [] v h = elim h [ ]
part_in b m (u ∷ vs) v h = go (beq b (touches m u)) refl h (part_in b m vs v)
  where
    go : (c : Bool) → beq b (touches m u) ≡ c → In v (elim c as (λ c. List Way) [ true ↦ u ∷ part b m vs | false ↦ part b m vs ])
        → (In v (part b m vs) → In v vs × (touches m v ≡ b)) → In v (u ∷ vs) × (touches m v ≡ b)
    go true e (Memᴰ.head p) below = (Memᴰ.head p, rw p (beq-true b (touches m u) e))
    go true e (Memᴰ.tail i) below = (Memᴰ.tail (below i).0, (below i).1)
    go false e i below = (Memᴰ.tail (below i).0, (below i).1)

-- The converse: a way of the list that the word touches, or does not, as the part says, is in the part.
pub in-part : (b : Bool) (m : ℕ) (vs : List Way) (v : Way) → In v vs → touches m v ≡ b → In v (part b m vs)
in-part b m [] v x'' h = elim x'' [ ]
in-part b m (u ∷ vs) v (Memᴰ.head p) h = rw (beq_same b (touches m u) (rw p at h), part) (Memᴰ.head p)
in-part b m (u ∷ vs) v (Memᴰ.tail i) h = go (beq b (touches m u)) (in-part b m vs v i h)
  where
    go : (c : Bool) → In v (part b m vs) → In v (elim c as (λ c. List Way) [ true ↦ u ∷ part b m vs | false ↦ part b m vs ])
    go true i = Memᴰ.tail i
    go false i = i

-- A test that no way of a list passes, none of a part passes.
pub part-any : (h : Way → Bool) (b : Bool) (m : ℕ) (vs : List Way) → any h vs ≡ false → any h (part b m vs) ≡ false
part-any h b m vs e = each-fails h (part b m vs) (λ v i. none_passes h vs v e (part_in b m vs v i).0)

-- A list of ways happens where one of its two parts does.
pub part-happens : (m : ℕ) (vs : List Way) (a : Assignment) → happens vs a ≡ happens (part true m vs) a || happens (part false m vs) a
part-happens m [] a = refl
part-happens m (v ∷ vs) a = go (touches m v) (part-happens m vs a)
  where
    to-first : (x y z r : Bool) → r ≡ y || z → x || r ≡ (x || y) || z
    to-first true y z r e = refl
    to-first false y z r e = e

    to-second : (x y z r : Bool) → r ≡ y || z → x || r ≡ y || (x || z)
    to-second true true z r e = refl
    to-second true false z r e = refl
    to-second false y z r e = e

    go : (t : Bool) → happens vs a ≡ happens (part true m vs) a || happens (part false m vs) a
        → satisfies v a || happens vs a
        ≡ happens (elim (beq true t) as (λ c. List Way) [ true ↦ v ∷ part true m vs | false ↦ part true m vs ]) a
        || happens (elim (beq false t) as (λ c. List Way) [ true ↦ v ∷ part false m vs | false ↦ part false m vs ]) a
    go true e = to-first (satisfies v a) (happens (part true m vs) a) (happens (part false m vs) a) (happens vs a) e
    go false e = to-second (satisfies v a) (happens (part true m vs) a) (happens (part false m vs) a) (happens vs a) e

-- A fault of the word occurs in no way that the word does not touch.
pub others-off : (m g : ℕ) (vs : List Way) → bit g m ≡ true → occurs g (part false m vs) ≡ false
unfolding occurs
others-off m g vs h = each-fails (λ v. bit g (faults v)) (part false m vs) (λ v i. apart-bit m (faults v) g (part_in false m vs v i).1 h)

-- ---- growing the word

-- A word keeps its faults when it takes in a way.
absorb-within : (m : ℕ) (v : Way) → Subword m (absorb m v)
absorb-within m v i h = go (touches m v)
  where
    go : (t : Bool) → bit i (elim t as (λ b. ℕ) [ true ↦ bit_or m (faults v) | false ↦ m ]) ≡ true
    go true = bit-or i m (faults v) ∙ or-first (bit i m) (bit i (faults v)) h
    go false = h

-- A way that the word touches adds its faults.
absorb-adds : (m : ℕ) (v : Way) → touches m v ≡ true → Subword (faults v) (absorb m v)
absorb-adds m v h i b = rw (h, absorb) (bit-or i m (faults v) ∙ or-second (bit i m) (bit i (faults v)) b)

-- A fault of the word that has taken in a way is one of the word before, or one of the way that the word touches.
absorb-cases : {P : Type 0} (m : ℕ) (v : Way) (i : ℕ) → (bit i m ≡ true → P) → (touches m v ≡ true → bit i (faults v) ≡ true → P)
    → bit i (absorb m v) ≡ true → P
absorb-cases {P} m v i f g = go (touches m v) refl
  where
    go : (t : Bool) → touches m v ≡ t → bit i (elim t as (λ b. ℕ) [ true ↦ bit_or m (faults v) | false ↦ m ]) ≡ true → P
    go true e h = or_cases (bit i m) (bit i (faults v)) f (g e) (sym (bit-or i m (faults v)) ∙ h)
    go false e h = f h

-- A pass keeps the faults of the word.
pub pass-within : (m : ℕ) (vs : List Way) → Subword m (pass m vs)
pass-within m [] i h = h
pass-within m (v ∷ vs) i h = pass-within (absorb m v) vs i (absorb-within m v i h)

-- So do any number of passes.
passes-within : (k m : ℕ) (vs : List Way) → Subword m (passes k m vs)
passes-within zero m vs i h = h
passes-within (suc k) m vs i h = passes-within k (pass m vs) vs i (pass-within m vs i h)

-- A pass adds the faults of every way that the word touches at its start, or that a smaller word touches.
pass-adds : (m n : ℕ) (vs : List Way) (v : Way) → Subword m n → In v vs → touches m v ≡ true → Subword (faults v) (pass n vs)
pass-adds m n [] v s x4 h i b = elim x4 [ ]
pass-adds m n (u ∷ vs) v s (Memᴰ.head p) h i b =
    pass-within (absorb n u) vs i (absorb-adds n u (touches-within m n u s (rw p at h)) i (rw p at b))
pass-adds m n (u ∷ vs) v s (Memᴰ.tail p) h i b = pass-adds m (absorb n u) vs v (λ j c. absorb-within n u j (s j c)) p h i b

-- ---- coming to rest

-- A word is at rest: it holds the faults of every way that it touches.
abbrev pub AtRest : ℕ → List Way → Type 0
AtRest m vs = (v : Way) → In v vs → touches m v ≡ true → Subword (faults v) m

-- From within a word that is at rest, a pass stays within it.
pub pass-rests : (m n : ℕ) (vs : List Way) → AtRest n vs → Subword m n → Subword (pass m vs) n
pass-rests m n [] r s = s
pass-rests m n (v ∷ vs) r s =
    pass-rests (absorb m v) n vs (λ u p. r u (Memᴰ.tail p))
    (λ i. absorb-cases m v i (s i) (λ h. r v (Memᴰ.head refl) (touches-within m n v s h) i))

-- At rest, a word stays at rest.
stays-at-rest : (k m : ℕ) (vs : List Way) → AtRest m vs → AtRest (passes k m vs) vs
stays-at-rest zero m vs r = r
stays-at-rest (suc k) m vs r =
    stays-at-rest k (pass m vs) vs
    (λ v p h i b. pass-within m vs i (r v p (touches-within (pass m vs) m v (pass-rests m m vs r (λ j c. c)) h) i b))

-- The number of ways that a word does not touch.
abbrev untouched : ℕ → List Way → ℕ
untouched m vs = length (part false m vs)

-- A way that the word touches does not count.
untouched-yes : (m : ℕ) (v : Way) (vs : List Way) → touches m v ≡ true → untouched m (v ∷ vs) ≡ untouched m vs
untouched-yes m v vs h = rw (h, part)

-- One that it does not touch counts.
untouched-no : (m : ℕ) (v : Way) (vs : List Way) → touches m v ≡ false → untouched m (v ∷ vs) ≡ suc (untouched m vs)
untouched-no m v vs h = rw (h, part)

-- At most all ways are untouched.
untouched-all : (m : ℕ) (vs : List Way) → untouched m vs ≤ length vs
untouched-all m [] = omega arith
untouched-all m (v ∷ vs) = go (touches m v) refl (untouched-all m vs)
  where
    go : (t : Bool) → touches m v ≡ t → untouched m vs ≤ length vs → untouched m (v ∷ vs) ≤ suc (length vs)
    go true e h = omega (arith, untouched-yes m v vs e, h)
    go false e h = omega (arith, untouched-no m v vs e, h)

-- A larger word leaves no more ways untouched.
untouched-within : (m n : ℕ) (vs : List Way) → Subword m n → untouched n vs ≤ untouched m vs
untouched-within m n [] s = omega arith
untouched-within m n (v ∷ vs) s = go (touches m v) (touches n v) refl refl (untouched-within m n vs s)
  where
    go : (t u : Bool) → touches m v ≡ t → touches n v ≡ u → untouched n vs ≤ untouched m vs → untouched n (v ∷ vs) ≤ untouched m (v ∷ vs)
    go true true e f h = omega (arith, untouched-yes m v vs e, untouched-yes n v vs f, h)
    go true false e f h = absurd (true≢false (sym (touches-within m n v s e) ∙ f))
    go false true e f h = omega (arith, untouched-no m v vs e, untouched-yes n v vs f, h)
    go false false e f h = omega (arith, untouched-no m v vs e, untouched-no n v vs f, h)

-- If it leaves no fewer either, it touches nothing new.
nothing_new : (m n : ℕ) (vs : List Way) → Subword m n → untouched m vs ≤ untouched n vs → (v : Way) → In v vs → touches n v ≡ true → touches m v ≡ true
nothing_new m n [] s l v p h = elim p [ ]
nothing_new m n (u ∷ vs) s l v p h = go (touches m u) (touches n u) refl refl (Memᴰ.cases_cons p) (λ k q. nothing_new m n vs s k v q h)
  where
    less : untouched n vs ≤ untouched m vs
    less = untouched-within m n vs s

    go : (t t' : Bool) → touches m u ≡ t → touches n u ≡ t' → (v ≡ u) ⊎ In v vs → (untouched m vs ≤ untouched n vs → In v vs → touches m v ≡ true)
        → touches m v ≡ true
    go true t' e f (inl q) below = rw q e
    go true true e f (inr q) below = below (omega (arith, l, untouched-yes m u vs e, untouched-yes n u vs f)) q
    go true false e f (inr q) below = absurd (true≢false (sym (touches-within m n u s e) ∙ f))
    go false true e f q below = absurd (omega (arith, l, less, untouched-no m u vs e, untouched-yes n u vs f))
    go false false e f (inl q) below = absurd (true≢false (sym h ∙ ap (touches n) q ∙ f))
    go false false e f (inr q) below = below (omega (arith, l, untouched-no m u vs e, untouched-no n u vs f)) q

-- More passes than there are untouched ways come to rest.
passes-rest : (k m : ℕ) (vs : List Way) → untouched m vs < k → AtRest (passes k m vs) vs
passes-rest zero m vs h = absurd (omega arith)
passes-rest (suc k) m vs h = go (dec_lt (untouched n vs) (untouched m vs)) (λ l. passes-rest k n vs (omega (arith, h, l)))
  where
    n : ℕ
    n = pass m vs

    rest : untouched m vs ≤ untouched n vs → AtRest n vs
    rest l v p t = pass-adds m m vs v (λ i b. b) p (nothing_new m n vs (pass-within m vs) l v p t)

    go : Dec (untouched n vs < untouched m vs) → (untouched n vs < untouched m vs → AtRest (passes k n vs) vs) → AtRest (passes k n vs) vs
    go (yes l) f = f l
    go (no l) f = stays-at-rest k n vs (rest (omega arith))

-- The passes that make the group's faults have come to rest.
pub group-rests : (vs : List Way) → AtRest (group_faults vs) vs
group-rests [] = λ v p. absurd (Memᴰ.not-nil p)
group-rests (v ∷ vs) = go (touches (faults v) v) refl
  where
    go : (t : Bool) → touches (faults v) v ≡ t → AtRest (group_faults (v ∷ vs)) (v ∷ vs)
    go true e =
        passes-rest (suc (length vs)) (faults v) (v ∷ vs) (omega (arith, untouched-yes (faults v) v vs e, untouched-all (faults v) vs))
    go false e =
        stays-at-rest (suc (length vs)) (faults v) (v ∷ vs)
        (λ u p h. let c = common-fault (faults v) (faults u) h in absurd (true≢false (sym c.1 ∙ apart-bit (faults v) (faults v) c.0 e c.1)))

-- ---- the group and the others

-- The faults of the first way are among the group's.
pub first-faults : (v : Way) (vs : List Way) (i : ℕ) → bit i (faults v) ≡ true → bit i (group_faults (v ∷ vs)) ≡ true
first-faults v vs i h = passes-within (suc (length vs)) (faults v) (v ∷ vs) i h

-- A way of the group names only faults of the group.
group-within : (vs : List Way) (v : Way) → In v (group vs) → Subword (faults v) (group_faults vs)
group-within vs v h = let p = part_in true (group_faults vs) vs v h in group-rests vs v p.0 p.1

-- A fault outside the group's faults occurs in no way of the group.
pub group-off : (g : ℕ) (vs : List Way) → bit g (group_faults vs) ≡ false → occurs g (group vs) ≡ false
unfolding occurs
group-off g vs h =
    each-fails (λ v. bit g (faults v)) (group vs) (λ v p. contra (bit g (faults v)) (bit g (group_faults vs)) (group-within vs v p g) h)

-- A way of the group and one of the others share no fault.
pub nothing-shared : (vs : List Way) (v u : Way) → In v (group vs) → In u (others vs) → shares v u ≡ false
nothing-shared vs v u p q =
    apart-test (faults v) (faults u)
    (λ i b. apart-bit (group_faults vs) (faults u) i (part_in false (group_faults vs) vs u q).1 (group-within vs v p i b))

-- ---- chains of shared faults

-- A chain of ways of the list leads from v to another, each sharing a fault with the one before.
pub data Chained (vs : List Way) (v : Way) : Way → Type 0 where
  single : Chained vs v v
  further : {u w : Way} → Chained vs v u → In w vs → shares u w ≡ true → Chained vs v w

-- Every fault of the word is named by a way that is linked to v.
abbrev Reached : List Way → Way → ℕ → Type 0
Reached vs v m = (i : ℕ) → bit i m ≡ true → (u : Way) × Chained vs v u × (bit i (faults u) ≡ true)

-- A way of the list that such a word touches is linked to v.
touched-linked : (vs : List Way) (v : Way) (m : ℕ) (w : Way) → Reached vs v m → In w vs → touches m w ≡ true → Chained vs v w
touched-linked vs v m w r p h =
    let c = common-fault m (faults w) h in
    let u = r c.0 c.1 in
    further u.1 p (common-test c.0 (faults u.0) (faults w) u.2 c.2)

-- Taking in a way of the list keeps to faults of linked ways.
absorb-reached : (vs : List Way) (v : Way) (m : ℕ) (w : Way) → In w vs → Reached vs v m → Reached vs v (absorb m w)
absorb-reached vs v m w p r i = absorb-cases m w i (r i) (λ h b. (w, touched-linked vs v m w r p h, b))

-- So does a pass over ways of the list.
pass-reached : (vs : List Way) (v : Way) (m : ℕ) (us : List Way) → ((u : Way) → In u us → In u vs) → Reached vs v m → Reached vs v (pass m us)
pass-reached vs v m [] p r = r
pass-reached vs v m (u ∷ us) p r =
    pass-reached vs v (absorb m u) us (λ w q. p w (Memᴰ.tail q)) (absorb-reached vs v m u (p u (Memᴰ.head refl)) r)

-- So do any number of passes.
passes-reached : (vs : List Way) (v : Way) (k m : ℕ) → Reached vs v m → Reached vs v (passes k m vs)
passes-reached vs v zero m r = r
passes-reached vs v (suc k) m r = passes-reached vs v k (pass m vs) (pass-reached vs v m vs (λ u p. p) r)

-- Every way of the group is reached from the lowest numbered way by a chain of shared faults.
pub group-linked : (v : Way) (vs : List Way) (u : Way) → In u (group (v ∷ vs)) → Chained (v ∷ vs) v u
group-linked v vs u h =
    let p = part_in true (group_faults (v ∷ vs)) (v ∷ vs) u h in
    touched-linked (v ∷ vs) v (group_faults (v ∷ vs)) u
    (passes-reached (v ∷ vs) v (suc (length vs)) (faults v) (λ i b. (v, single, b))) p.0 p.1

-- Conversely, a way that a chain leads to names only faults of the group.
linked-within : (v : Way) (vs : List Way) (u : Way) → Chained (v ∷ vs) v u → Subword (faults u) (group_faults (v ∷ vs))
linked-within v vs u single = first-faults v vs
linked-within v vs u (further {u = w} l p h) =
    group-rests (v ∷ vs) u p (touches-within (faults w) (group_faults (v ∷ vs)) u (linked-within v vs w l) h)

-- Where the lowest numbered way names a fault, every way that a chain leads to is in the group.
pub linked-group : (v : Way) (vs : List Way) (u : Way) → is_empty v ≡ false → Chained (v ∷ vs) v u → In u (v ∷ vs) → In u (group (v ∷ vs))
linked-group v vs u e l p = in-part true (group_faults (v ∷ vs)) (v ∷ vs) u p (touched u l)
  where
    touched : (u : Way) → Chained (v ∷ vs) v u → touches (group_faults (v ∷ vs)) u ≡ true
    touched u single = let c = some_fault (faults v) e in common-test c.0 (group_faults (v ∷ vs)) (faults v) (first-faults v vs c.0 c.1) c.1
    touched u (further {u = w} l p h) = touches-within (faults w) (group_faults (v ∷ vs)) u (linked-within v vs w l) h

-- The group cannot be split: a set that holds the lowest numbered way, and with each way those that share a fault with it, holds the whole group.
pub cannot-split : (v : Way) (vs : List Way) (f : Way → Bool) → f v ≡ true
    → ((u w : Way) → In u (v ∷ vs) → In w (v ∷ vs) → f u ≡ true → shares u w ≡ true → f w ≡ true)
    → (u : Way) → In u (group (v ∷ vs)) → f u ≡ true
cannot-split v vs f h k u p = (along u (group-linked v vs u p)).1
  where
    along : (u : Way) → Chained (v ∷ vs) v u → In u (v ∷ vs) × (f u ≡ true)
    along u single = (Memᴰ.head refl, h)
    along u (further {u = w} l p e) = (p, k w u (along w l).0 p (along w l).1 e)

-- ---- falling apart

-- A part with a way in it has a first one.
some_way : (vs : List Way) → nonempty vs ≡ true → (v : Way) × In v vs
unfolding nonempty
some_way [] h = absurd (true≢false (sym h))
some_way (v ∷ vs) h = (v, Memᴰ.head refl)

way-some : (vs : List Way) (v : Way) → In v vs → nonempty vs ≡ true
unfolding nonempty
way-some [] v i = elim i [ ]
way-some (u ∷ vs) v i = refl

-- The ways fall apart exactly if some way is reached from the lowest numbered one by no chain of shared faults.
pub falls-apart : (v : Way) (vs : List Way) → is_empty v ≡ false
    → (fall_apart (v ∷ vs) ≡ true) ↔ ((u : Way) × In u (v ∷ vs) × (Chained (v ∷ vs) v u → ⊥))
unfolding fall_apart
falls-apart v vs e = (there, back)
  where
    there : nonempty (others (v ∷ vs)) ≡ true → (u : Way) × In u (v ∷ vs) × (Chained (v ∷ vs) v u → ⊥)
    there h =
        let r = some_way (others (v ∷ vs)) h in
        let p = part_in false (group_faults (v ∷ vs)) (v ∷ vs) r.0 r.1 in
        (r.0, p.0, λ l. true≢false (sym (part_in true (group_faults (v ∷ vs)) (v ∷ vs) r.0 (linked-group v vs r.0 e l p.0)).1 ∙ p.1))

    back : (u : Way) × In u (v ∷ vs) × (Chained (v ∷ vs) v u → ⊥) → nonempty (others (v ∷ vs)) ≡ true
    back r = by (touches (group_faults (v ∷ vs)) r.0) refl
      where
        by : (b : Bool) → touches (group_faults (v ∷ vs)) r.0 ≡ b → nonempty (others (v ∷ vs)) ≡ true
        by true h = absurd (r.2 (group-linked v vs r.0 (in-part true (group_faults (v ∷ vs)) (v ∷ vs) r.0 r.1 h)))
        by false h = way-some (others (v ∷ vs)) r.0 (in-part false (group_faults (v ∷ vs)) (v ∷ vs) r.0 r.1 h)
