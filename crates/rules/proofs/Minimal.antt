-- What stays of a list of ways once the redundant ones are left out: the same assignments satisfy it, it is just the ways that no other outdoes,
-- and leaving out again changes nothing. Rests on Bits.antt, Ways.antt and Groups.antt.
use mathlib.Core.Path.{◌≡◌, refl, sym, ap, ◌∙◌, subst}
use mathlib.Core.Bool.{Bool, true, false, not, ◌&&◌, ◌||◌, true≢false}
use mathlib.Core.Logic.{◌↔◌}
use mathlib.Core.List.Memᴰ
use mathlib.Core.List.{List, [], ◌∷◌}
use Prim.Native.Nat.{ℕ, zero, suc, ◌+◌, ◌≤◌, ◌<◌}
use native.Mathlib.Decide.{dec_lt}
use native.Mathlib.Omega.{arith}
use lib.Dec.{eqb, ltb}
use lib.Bits.{and_le_r}
use borrow.Author.Tests.{eqb-true, eq-eqb, ltb-true, le-ltb, not-true}
use Rattle.rules.specs.Table.{bit, Way, Assignment, satisfies, happens, exact}
use Rattle.rules.specs.Leaf.{any, without, sift, subsumes, outdoes, redundant, minimal, Lean}
use Rattle.rules.proofs.Booleans.{and_left, and_right, and_both, is_true, same_test}
use Rattle.rules.proofs.Bits.{bit-zero, bit-without, bits-zero}
use Rattle.rules.proofs.Ways.{satisfied-asks, asks-satisfied}
use Rattle.rules.proofs.Members.{In}
use Rattle.rules.proofs.Groups.{Subword, none_passes, each-fails}
use Rattle.rules.proofs.Sum.{mass-weigh, mass-cong}

-- ---- words within words

-- Where nothing of a word lies outside another, every bit of it is one of the other's.
none_within : (m w : ℕ) → eqb (without m w) 0 ≡ true → Subword w m
none_within m w h i b = by (bit i m) (sym (bit-without i m w) ∙ ap (bit i) (eqb-true (without m w) 0 h) ∙ bit-zero i)
  where
    by : (c : Bool) → bit i w && not c ≡ false → c ≡ true
    by true e = refl
    by false e = absurd (true≢false (sym (and_both (bit i w) true b refl) ∙ e))

-- And back.
within_none : (m w : ℕ) → Subword w m → eqb (without m w) 0 ≡ true
within_none m w h = eq-eqb (without m w) 0 (bits-zero (without m w) (λ i. bit-without i m w ∙ by i (bit i w) refl))
  where
    by : (i : ℕ) (c : Bool) → bit i w ≡ c → c && not (bit i m) ≡ false
    by i true e = ap not (h i e)
    by i false e = refl

-- A word within another is no larger as a number.
within-le : (m w : ℕ) → Subword w m → w ≤ m
within-le m w h = omega (arith, eqb-true (without m w) 0 (within_none m w h), and_le_r w m)

module _ (m : ℕ) where
  -- A word of which bits are dropped has no bit besides.
  pub less : (w : ℕ) → Subword (without m w) w
  less w i h = and_left (bit i w) (not (bit i m)) (sym (bit-without i m w) ∙ h)

  -- The bits that one word lost, the other may lose too.
  pub drop_both : (x y : ℕ) → Subword (without m x) y → Subword (without m x) (without m y)
  drop_both x y k i h =
      bit-without i m y ∙ and_both (bit i y) (not (bit i m)) (k i h) (and_right (bit i x) (not (bit i m)) (sym (bit-without i m x) ∙ h))

  -- And back, where of what is dropped the second has what the first has.
  pub undrop : (x y : ℕ) → ((i : ℕ) → bit i m ≡ true → bit i x ≡ true → bit i y ≡ true) → Subword (without m x) (without m y) → Subword x y
  undrop x y c k i h = by (bit i m) refl
    where
      by : (b : Bool) → bit i m ≡ b → bit i y ≡ true
      by true e = c i e h
      by false e = less y i (k i (bit-without i m x ∙ and_both (bit i x) (not (bit i m)) h (ap not e)))

-- ---- subsuming, fault by fault

-- What the first way says of a fault, the second says too.
abbrev pub PartOf : Way → Way → Type 0
PartOf u v = Subword u.present v.present × Subword u.absent v.absent

-- That is what subsuming says.
pub subsumes-inside : (u v : Way) → subsumes u v ≡ true → PartOf u v
subsumes-inside u v h =
    let p : Bool = eqb (without v.present u.present) 0 in
    let q : Bool = eqb (without v.absent u.absent) 0 in
    (none_within v.present u.present (and_left p q h), none_within v.absent u.absent (and_right p q h))

-- And all that it says.
pub inside-subsumes : (u v : Way) → PartOf u v → subsumes u v ≡ true
inside-subsumes u v k = and_both _ _ (within_none v.present u.present k.0) (within_none v.absent u.absent k.1)

-- A way subsumes one of the same words.
subsumes-self : (u v : Way) → u.present ≡ v.present → u.absent ≡ v.absent → subsumes u v ≡ true
subsumes-self u v e f = inside-subsumes u v (λ i b. ap (bit i) (sym e) ∙ b, λ i b. ap (bit i) (sym f) ∙ b)

-- Subsuming goes through a third way.
pub subsumes-through : (w u v : Way) → subsumes w u ≡ true → subsumes u v ≡ true → subsumes w v ≡ true
subsumes-through w u v h k =
    let x = subsumes-inside w u h in
    let y = subsumes-inside u v k in
    inside-subsumes w v (λ i b. y.0 i (x.0 i b), λ i b. y.1 i (x.1 i b))

-- What falls from a way to one that subsumes it and is not equal to it.
abbrev size : Way → ℕ
size v = v.present + v.absent

-- It does fall.
smaller : (u v : Way) → subsumes u v ≡ true → subsumes v u ≡ false → size u < size v
smaller u v h k = by (dec_lt (u.present + u.absent) (v.present + v.absent))
  where
    p : u.present ≤ v.present
    p = within-le v.present u.present (subsumes-inside u v h).0

    q : u.absent ≤ v.absent
    q = within-le v.absent u.absent (subsumes-inside u v h).1

    by : Dec (u.present + u.absent < v.present + v.absent) → u.present + u.absent < v.present + v.absent
    by (yes l) = l
    by (no l) = absurd (true≢false (sym (subsumes-self v u (omega (arith, p, q, l)) (omega (arith, p, q, l))) ∙ k))

-- And never rises.
no-larger : (u v : Way) → subsumes u v ≡ true → size u ≤ size v
no-larger u v h =
    let k = subsumes-inside u v h in
    omega (arith, within-le v.present u.present k.0, within-le v.absent u.absent k.1)

-- ---- below every way there is one that stays

-- Of a test that some way passes, the way.
some-passes : (f : Way → Bool) (vs : List Way) → any f vs ≡ true → (u : Way) × In u vs × (f u ≡ true)
unfolding any
some-passes f [] h = absurd (true≢false (sym h))
some-passes f (v ∷ vs) h = by (f v) refl (λ k. some-passes f vs k) h
  where
    by : (b : Bool) → f v ≡ b → (any f vs ≡ true → (u : Way) × In u vs × (f u ≡ true)) → b || any f vs ≡ true → (u : Way) × In u (v ∷ vs) × (f u ≡ true)
    by true e ih k = (v, Memᴰ.head refl, e)
    by false e ih k = let r = ih k in (r.0, Memᴰ.tail r.1, r.2)

-- A way of the list that stays and subsumes v.
record Least (vs : List Way) (v : Way) : Type 0 where
  one : Way
  is_in : In one vs
  stays : redundant vs one ≡ false
  below : subsumes one v ≡ true

-- One for a way that subsumes v is one for v.
shift : (vs : List Way) (u v : Way) → subsumes u v ≡ true → Least vs u → Least vs v
shift vs u v h r = record { one = r.one; is_in = r.is_in; stays = r.stays; below = subsumes-through r.one u v r.below h }

-- A way that outdoes another subsumes it.
pub outdone : (u v : Way) → outdoes u v ≡ true → subsumes u v ≡ true
outdone u v o = and_left (subsumes u v) (not (subsumes v u) || ltb u.number v.number) o

-- There is one: a way that is outdone has another that is smaller, or equal and lower numbered; both come to an end.
least : (m n : ℕ) (vs : List Way) (v : Way) → In v vs → size v < m → v.number < n → Least vs v
unfolding redundant
least zero n vs v i l k = absurd (omega arith)
least (suc m) zero vs v i l k = absurd (omega arith)
least (suc m) (suc n) vs v i l k =
    by (redundant vs v) refl (λ u j a. least m (suc u.number) vs u j a (omega arith)) (λ u j a b. least (suc m) n vs u j a b)
  where
    step : (u : Way) → In u vs → outdoes u v ≡ true → ((u : Way) → In u vs → size u < m → Least vs u)
        → ((u : Way) → In u vs → size u < suc m → u.number < n → Least vs u) → (c : Bool) → subsumes v u ≡ c → Least vs v
    step u j o less lower true e =
        let x : not (subsumes v u) || ltb u.number v.number ≡ true = and_right (subsumes u v) (not (subsumes v u) || ltb u.number v.number) o in
        let y : ltb u.number v.number ≡ true = ap (λ (b : Bool). not b || ltb u.number v.number) (sym e) ∙ x in
        shift vs u v (outdone u v o) (lower u j (omega (arith, l, no-larger u v (outdone u v o))) (omega (arith, k, ltb-true u.number v.number y)))
    step u j o less lower false e = shift vs u v (outdone u v o) (less u j (omega (arith, l, smaller u v (outdone u v o) e)))

    by : (b : Bool) → redundant vs v ≡ b → ((u : Way) → In u vs → size u < m → Least vs u)
        → ((u : Way) → In u vs → size u < suc m → u.number < n → Least vs u) → Least vs v
    by false e less lower = record { one = v; is_in = i; stays = e; below = subsumes-self v v refl refl }
    by true e less lower = let r = some-passes (λ u. outdoes u v) vs e in step r.0 r.1 r.2 less lower (subsumes v r.0) refl

-- ---- parts of a list

-- A way that passes is in the part.
pub sift-in : (g : Way → Bool) (vs : List Way) (v : Way) → In v vs → g v ≡ true → In v (sift g vs)
unfolding sift
sift-in g [] v x'' h = elim x'' [ ]
sift-in g (u ∷ vs) v (Memᴰ.head e) h = rw (ap g (sym e) ∙ h, sift) (Memᴰ.head e)
sift-in g (u ∷ vs) v (Memᴰ.tail i) h = by (g u) (sift-in g vs v i h)
  where
    by : (b : Bool) → In v (sift g vs) → In v (elim b as (λ b. List Way) [ true ↦ u ∷ sift g vs | false ↦ sift g vs ])
    by true k = Memᴰ.tail k
    by false k = k

-- A way of the part is one of the list, and passes.
pub in-sift : (g : Way → Bool) (vs : List Way) (v : Way) → In v (sift g vs) → In v vs × (g v ≡ true)
unfolding sift
in-sift g [] v i = elim i [ ]
in-sift g (u ∷ vs) v i = by (g u) refl (λ k. in-sift g vs v k) i
  where
    later : In v vs × (g v ≡ true) → In v (u ∷ vs) × (g v ≡ true)
    later k = (Memᴰ.tail k.0, k.1)

    by : (b : Bool) → g u ≡ b → (In v (sift g vs) → In v vs × (g v ≡ true)) → In v (elim b as (λ b. List Way) [ true ↦ u ∷ sift g vs | false ↦ sift g vs ])
        → In v (u ∷ vs) × (g v ≡ true)
    by true e ih (Memᴰ.head q) = (Memᴰ.head q, ap g q ∙ e)
    by true e ih (Memᴰ.tail k) = later (ih k)
    by false e ih k = later (ih k)

-- A test that no way passes, none of a part passes.
pub sift-any : (h g : Way → Bool) (vs : List Way) → any h vs ≡ false → any h (sift g vs) ≡ false
sift-any h g vs e = each-fails h (sift g vs) (λ v i. none_passes h vs v e (in-sift g vs v i).0)

-- A part by a test that all pass is the whole.
pub sift-whole : (g : Way → Bool) (vs : List Way) → ((v : Way) → In v vs → g v ≡ true) → sift g vs ≡ vs
unfolding sift
sift-whole g [] h = refl
sift-whole g (v ∷ vs) h = rw (h v (Memᴰ.head refl), sift) (ap (λ (r : List Way). v ∷ r) (sift-whole g vs (λ u i. h u (Memᴰ.tail i))))

-- A test that no way passes, none that stays passes.
pub minimal-any : (h : Way → Bool) (vs : List Way) → any h vs ≡ false → any h (minimal vs) ≡ false
unfolding minimal
minimal-any h vs e = sift-any h (λ v. not (redundant vs v)) vs e

-- ---- the same assignments

-- What satisfies a way satisfies one that subsumes it.
subsumed-satisfies : (u v : Way) (a : Assignment) → subsumes u v ≡ true → satisfies v a ≡ true → satisfies u a ≡ true
subsumed-satisfies u v a h s =
    let k = subsumes-inside u v h in
    asks-satisfied u.present u.absent a
    (λ i l. (
      λ b. (satisfied-asks v.present v.absent a s i l).0 (k.0 i b),
      λ b. (satisfied-asks v.present v.absent a s i l).1 (k.1 i b),
    ))

-- A list happens where some way of it is satisfied.
happens-any : (vs : List Way) (a : Assignment) → happens vs a ≡ any (λ v. satisfies v a) vs
unfolding any
happens-any [] a = refl
happens-any (v ∷ vs) a = ap (λ (b : Bool). satisfies v a || b) (happens-any vs a)

-- THE SAME ASSIGNMENTS satisfy what stays as satisfy the whole list (RULES 3.7).
pub minimal-happens : (vs : List Way) (a : Assignment) → happens (minimal vs) a ≡ happens vs a
unfolding minimal
minimal-happens vs a = happens-any (minimal vs) a ∙ same_test (any f (minimal vs)) (any f vs) fewer all ∙ sym (happens-any vs a)
  where
    f : Way → Bool
    f v = satisfies v a

    fewer : any f (minimal vs) ≡ true → any f vs ≡ true
    fewer h = is_true (any f vs) (λ e. true≢false (sym h ∙ minimal-any f vs e))

    all : any f vs ≡ true → any f (minimal vs) ≡ true
    all h =
        let r = some-passes f vs h in
        let k = least (suc (size r.0)) (suc r.0.number) vs r.0 r.1 (omega arith) (omega arith) in
        is_true (any f (minimal vs))
        (λ e. true≢false (sym (subsumed-satisfies k.one r.0 a k.below r.2)
        ∙ none_passes f (minimal vs) k.one e (sift-in _ vs k.one k.is_in (ap not k.stays))))

-- The same exact sum.
pub minimal-exact : (ws : List ℕ) (vs : List Way) → exact ws (minimal vs) ≡ exact ws vs
minimal-exact ws vs =
    sym (mass-weigh ws (happens (minimal vs))) ∙ mass-cong ws (happens (minimal vs)) (happens vs) (λ a l. minimal-happens vs a) ∙ mass-weigh ws (happens vs)

-- ---- lean lists

-- A part of which no way is redundant in the whole list is lean.
part-lean : (g : Way → Bool) (vs : List Way) → ((v : Way) → In v (sift g vs) → redundant vs v ≡ false) → Lean (sift g vs)
unfolding minimal redundant
part-lean g vs h =
    sift-whole _ (sift g vs) (λ v i. ap not (sift-any (λ u. outdoes u v) g vs (h v i)))

-- No way of a lean list is redundant.
pub lean-none : (vs : List Way) → Lean vs → (v : Way) → In v vs → redundant vs v ≡ false
unfolding minimal
lean-none vs e v i = not-true (redundant vs v) (in-sift (λ u. not (redundant vs u)) vs v (subst (In v) (sym e) i)).1

-- A part of a lean list is lean.
pub sift-lean : (g : Way → Bool) (vs : List Way) → Lean vs → Lean (sift g vs)
sift-lean g vs e = part-lean g vs (λ v i. lean-none vs e v (in-sift g vs v i).0)

-- One way by itself is lean.
pub one-lean : (v : Way) → Lean (v ∷ [])
unfolding minimal redundant
one-lean v = sift-whole _ (v ∷ []) (λ u i. ap not (each-fails (λ w. outdoes w u) (v ∷ []) (λ w j. alone w u (one w j) (one u i))))
  where
    one : (u : Way) → In u (v ∷ []) → u ≡ v
    one u (Memᴰ.head e) = e
    one u (Memᴰ.tail k) = absurd (Memᴰ.not-nil k)

    alone : (w u : Way) → w ≡ v → u ≡ v → outdoes w u ≡ false
    alone w u e f = rw (e, f, subsumes-self v v refl refl) (le-ltb v.number v.number (omega arith))

-- Leaving out again changes nothing.
pub minimal-twice : (vs : List Way) → Lean (minimal vs)
unfolding minimal
minimal-twice vs = part-lean (λ v. not (redundant vs v)) vs (λ v i. not-true (redundant vs v) (in-sift (λ v. not (redundant vs v)) vs v i).1)

-- WHAT STAYS, in words: a way of the list stays exactly if no way of the list outdoes it.
pub stays-exactly : (vs : List Way) (v : Way) → In v vs → In v (minimal vs) ↔ ((u : Way) → In u vs → outdoes u v ≡ false)
unfolding minimal redundant
stays-exactly vs v i = (
  λ j u k. none_passes (λ u. outdoes u v) vs u (not-true (redundant vs v) (in-sift (λ v. not (redundant vs v)) vs v j).1) k,
  λ h. sift-in (λ v. not (redundant vs v)) vs v i (ap not (each-fails (λ u. outdoes u v) vs h)),
)
