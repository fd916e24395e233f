-- What the theorems about trees need of each kind of inner node: one record of laws, and its proof for each kind.
-- Everything about whole trees (enclosure, no widening, levels, demand 3) uses these laws only, so that a further kind brings its laws and no more.
-- Rests on Sum and Rounding for the bounds, on Groups, Common and Remaining for each kind's children, on Minimal and Sets for what stays and what numbers
-- tell.
use mathlib.Core.Path.{◌≡◌, refl, sym, ap, ap₂, ◌∙◌, subst}
use mathlib.Core.Bool.{Bool, true, false, not, ◌&&◌, ◌||◌, true≢false}
use mathlib.Core.List.Memᴰ
use mathlib.Core.List.{List, [], ◌∷◌}
use mathlib.Core.Logic.{◌⊎◌, inl, inr}
use Prim.Native.Nat.{ℕ, ◌+◌, ◌-◌, ◌*◌, ◌^◌, ◌≤◌, ◌<◌}
use native.Mathlib.Decide.{dec_lt}
use native.Mathlib.Omega.{arith}
use lib.ListN.{length, set, get_or}
use lib.Dec.{eqb, leb}
use lib.Bits.{bit_and, bit_or, or_zero_l, or_zero_r}
use borrow.Author.Tests.{leb-false, lt-leb, eqb-false, eq-eqb, ne_eqb, not-true}
use Rattle.rules.specs.Rounding.{S, Le}
use Rattle.rules.specs.declared.Direction.{Direction}
use Rattle.rules.specs.Table.{bit, Way, faults, Assignment, happens}
use Rattle.rules.specs.Leaf.{any, has_number, of_set, without, dropped, remaining, drop_all, sift, minimal, Lean, is_empty}
use Rattle.rules.specs.Group.{group_faults, part, group, others, nonempty, fall_apart}
use Rattle.rules.specs.Common.{shared, lowest, spare}
use Rattle.rules.specs.Tree.{Side, left, right, occurs, possible, child, combine, Node, remains, child_set, child_fixed, child_out, child_node}
use Rattle.rules.specs.Refusals.{names_beyond, names_both}
use Rattle.rules.specs.declared.Kind.{Kind}
use Rattle.rules.specs.declared.Kind.TheVariants.{IndependentOr, IndependentAnd, Shannon}
use Rattle.rules.proofs.Booleans.{or_left, or_right, or-neither, or-first, is_true, is_false, any_head, any-tail}
use Rattle.rules.proofs.Bits.{bit-or, bit_high, bit-pow, apart-test, some-bit}
use Rattle.rules.proofs.Sum.{mass, Weights, mass-not, mass-and, mass-neither, mass-split, mass-cong, pow-S-pos}
use Rattle.rules.proofs.Rounding.{product-bound, either-bound, mean-bound, either-mono, product-mono, mean-mono}
use Rattle.rules.proofs.Ways.{independent}
use Rattle.rules.proofs.Remaining.{remaining-any, fixed-gone, unnamed-stays, fix-present, fix-absent, fix-again}
use Rattle.rules.proofs.Remaining.{drop-any, drop-gone, drop-twice, drop-fixed}
use Rattle.rules.proofs.Sets.{Rising, select-rising, remaining-rising, drop-rising, sift-rising, part-told, part-sift, drop-set, lowest-sift}
use Rattle.rules.proofs.Minimal.{minimal-happens, minimal-any, sift-any, sift-lean, one-lean, minimal-twice}
use Rattle.rules.proofs.Common.{shared-named, both-happen, left-off, rest-lean, right-full}
use Rattle.rules.proofs.Groups.{group-off, others-off, part-happens, part-any, first-faults}

-- ---- faults that occur

-- What 12 lets through: the words of a way lie below 2 ^ n, so it names no fault at or above n.
beyond-off : (n i : ℕ) (v : Way) (vs : List Way) → names_beyond n (v ∷ vs) ≡ false → n ≤ i → bit i (faults v) ≡ false
unfolding names_beyond
beyond-off n i v vs h l =
    let e = any_head _ v vs h in
    bit-or i v.present v.absent
    ∙ or-neither _ _ (bit_high n i v.present l (leb-false (2 ^ n) v.present (or_left (leb (2 ^ n) v.present) _ e)))
    (bit_high n i v.absent l (leb-false (2 ^ n) v.absent (or_right (leb (2 ^ n) v.present) _ e)))

-- What 12 lets through of a list, it lets through of the ways after the first.
beyond-tail : (n : ℕ) (v : Way) (vs : List Way) → names_beyond n (v ∷ vs) ≡ false → names_beyond n vs ≡ false
unfolding names_beyond
beyond-tail n v vs h = any-tail _ v vs h

-- No fault at or above n occurs.
none-beyond : (n i : ℕ) (vs : List Way) → names_beyond n vs ≡ false → n ≤ i → occurs i vs ≡ false
unfolding occurs any
none-beyond n i [] h l = refl
none-beyond n i (v ∷ vs) h l = or-neither (bit i (faults v)) _ (beyond-off n i v vs h l) (none-beyond n i vs (beyond-tail n v vs h) l)

-- A fault that occurs is one of the table's.
pub occurs-below : (n f : ℕ) (vs : List Way) → names_beyond n vs ≡ false → occurs f vs ≡ true → f < n
occurs-below n f vs h o = by (dec_lt f n)
  where
    by : Dec (f < n) → f < n
    by (yes l) = l
    by (no l) = absurd (true≢false (sym o ∙ none-beyond n f vs h (omega arith)))

-- A way that is not empty names a fault of the table.
names-some : (n : ℕ) (v : Way) (vs : List Way) → names_beyond n (v ∷ vs) ≡ false → is_empty v ≡ false → (i : ℕ) × (i < n) × (bit i (faults v) ≡ true)
names-some n v vs h e = some-bit n (faults v) (eqb-false (faults v) 0 e) (λ i l. beyond-off n i v vs h l)

-- So some fault occurs in ways that are not empty.
pub some-occurs : (n : ℕ) (vs : List Way) → names_beyond n vs ≡ false → any is_empty vs ≡ false → nonempty vs ≡ true → (g : ℕ) × (g < n) × (occurs g vs ≡ true)
unfolding nonempty occurs any
some-occurs n [] h e o = absurd (true≢false (sym o))
some-occurs n (v ∷ vs) h e o =
    let r = names-some n v vs h (any_head is_empty v vs e) in
    (r.0, r.1, or-first (bit r.0 (faults v)) _ r.2)

-- ---- the laws of a kind

-- A node's ways by their own numbers, as a record tells them, whatever the table.
abbrev pub ByNumbers : List Way → Node → Type 0
ByNumbers all x = remains all x x.ways ≡ x.ways

-- A node's ways by its set (RULES 3.2 to 3.5, 4.16): what stays of what remains of the table's ways in the set.
abbrev pub Handed : List Way → Node → Type 0
Handed all x = x.ways ≡ minimal (remains all x x.set)

-- A test that dropping faults from a way does not bring about.
abbrev pub Stable : (Way → Bool) → Type 0
Stable h = (m : ℕ) (v : Way) → h v ≡ false → h (dropped m v) ≡ false

-- Dropping faults brings no fault beyond the table's.
pub beyond-stable : (n : ℕ) → Stable (λ v. leb (2 ^ n) v.present || leb (2 ^ n) v.absent)
beyond-stable n m v h =
    or-neither _ _ (less v.present (or_left (leb (2 ^ n) v.present) _ h)) (less v.absent (or_right (leb (2 ^ n) v.present) _ h))
  where
    less : (w : ℕ) → leb (2 ^ n) w ≡ false → leb (2 ^ n) (without m w) ≡ false
    less w e = lt-leb (2 ^ n) (without m w) (omega (arith, leb-false (2 ^ n) w e))

-- What holds of the ways at every place of an accepted table: no fault at or above n (12), none in both senses (13), lean, in number order.
pub record Settled (n : ℕ) (vs : List Way) : Type 0 where
  pub inside : names_beyond n vs ≡ false
  pub one_sense : names_both vs ≡ false
  pub lean : Lean vs
  pub rising : Rising 0 vs

-- The laws of a kind.
pub record Laws (k : Kind) : Type 0 where
  -- Bounds on the exact sums of the children combine to a bound on the node's.
  pub bound : (d : Direction) (ws : List ℕ) → Weights ws → (vs : List Way) → names_beyond (length ws) vs ≡ false → names_both vs ≡ false
      → possible k vs ≡ true → (x y : ℕ)
      → Le d (x * S ^ length ws) (S * mass ws (happens (child k left vs))) → Le d (y * S ^ length ws) (S * mass ws (happens (child k right vs)))
      → Le d (combine k d ws x y * S ^ length ws) (S * mass ws (happens vs))
  -- No end moves outwards when those of the children do not.
  pub monotone : (d : Direction) (ws : List ℕ) (x x' y y' : ℕ) → Le d x x' → Le d y y' → Le d (combine k d ws x y) (combine k d ws x' y')
  -- A stable test that no way of the node passes, no way of a child passes.
  pub keeps : (h : Way → Bool) → Stable h → (b : Side) (vs : List Way) → any h vs ≡ false → any h (child k b vs) ≡ false
  -- Some fault that occurs in a node of two ways or more, none of them empty, does not occur in a child. That the node is lean is needed for the common
  -- part: of the ways {0} and {0} its left child would lose no fault.
  pub removes : (n : ℕ) (b : Side) (vs : List Way) → Settled n vs → any is_empty vs ≡ false → 2 ≤ length vs → possible k vs ≡ true
      → (g : ℕ) × (g < n) × (occurs g vs ≡ true) × (occurs g (child k b vs) ≡ false)
  -- The children of a lean node are lean.
  pub lean : (b : Side) (vs : List Way) → names_both vs ≡ false → Lean vs → Lean (child k b vs)
  -- The ways of a child stand in number order.
  pub rises : (b : Side) (vs : List Way) → Rising 0 vs → Rising 0 (child k b vs)
  -- Where a node's own numbers tell its ways, so do a child's.
  pub told : (all : List Way) → Rising 0 all → (b : Side) (x : Node) → ByNumbers all x → possible k x.ways ≡ true → ByNumbers all (child_node k b x)
  -- The ways handed down to a child are the remaining ways of its set.
  pub handed : (all : List Way) → Rising 0 all → (b : Side) (x : Node) → ByNumbers all x → Lean x.ways → names_both x.ways ≡ false
      → possible k x.ways ≡ true → Handed all (child_node k b x)

-- The ways of a node that numbers tell stand in number order.
pub told-rising : (all : List Way) → Rising 0 all → (x : Node) → ByNumbers all x → Rising 0 x.ways
told-rising all r x e =
    subst (Rising 0) e
    (drop-rising 0 x.out _ (remaining-rising 0 x.present x.absent (of_set x.ways all) (select-rising 0 (has_number x.ways) all r)))

-- A part of them, numbers tell too.
part-by-numbers : (all : List Way) → Rising 0 all → (x : Node) → ByNumbers all x → (g : Way → Bool) → remains all x (sift g x.ways) ≡ sift g x.ways
part-by-numbers all r x e g = part-told all r (has_number x.ways) x.present x.absent x.out x.ways (sym e) g

-- Two ways are some.
two-some : (vs : List Way) → 2 ≤ length vs → nonempty vs ≡ true
unfolding nonempty
two-some [] l = absurd (omega arith)
two-some (v ∷ vs) l = refl

-- ---- independent-or

-- The group and the other ways share no fault, so they are independent events.
group-bound : (d : Direction) (ws : List ℕ) → Weights ws → (vs : List Way) (x y : ℕ)
    → Le d (x * S ^ length ws) (S * mass ws (happens (group vs))) → Le d (y * S ^ length ws) (S * mass ws (happens (others vs)))
    → Le d (combine IndependentOr d ws x y * S ^ length ws) (S * mass ws (happens vs))
unfolding combine
group-bound d ws k vs x y p q =
    rw (mass-cong ws (happens vs) (λ a. F a || G a) (λ a e. part-happens (group_faults vs) vs a))
    (either-bound d x y (S ^ length ws) (mass ws F) (mass ws G) (mass ws (λ a. F a || G a))
    (mass ws (λ a. not (F a))) (mass ws (λ a. not (G a))) (mass ws (λ a. not (F a || G a)))
    (pow-S-pos (length ws)) (mass-not ws k F) (mass-not ws k G) (mass-not ws k (λ a. F a || G a))
    (mass-neither ws k F G (independent (group vs) (others vs) apart)) p q)
  where
    F : Assignment → Bool
    F = happens (group vs)

    G : Assignment → Bool
    G = happens (others vs)

    apart : (i : ℕ) → (occurs i (group vs) ≡ false) ⊎ (occurs i (others vs) ≡ false)
    apart i = by (bit i (group_faults vs)) refl
      where
        by : (b : Bool) → bit i (group_faults vs) ≡ b → (occurs i (group vs) ≡ false) ⊎ (occurs i (others vs) ≡ false)
        by true e = inr (others-off (group_faults vs) i vs e)
        by false e = inl (group-off i vs e)

-- A fault that occurs in a part occurs in the whole.
part-occurs : (g : ℕ) (b : Bool) (m : ℕ) (vs : List Way) → occurs g (part b m vs) ≡ true → occurs g vs ≡ true
unfolding occurs
part-occurs g b m vs o = is_true _ (λ e. true≢false (sym o ∙ part-any (λ v. bit g (faults v)) b m vs e))

-- A fault of the other ways is gone from the group.
group-removes : (n : ℕ) (vs : List Way) → names_beyond n vs ≡ false → any is_empty vs ≡ false → fall_apart vs ≡ true
    → (g : ℕ) × (g < n) × (occurs g vs ≡ true) × (occurs g (group vs) ≡ false)
unfolding fall_apart names_beyond
group-removes n vs h e a =
    let r = some-occurs n (others vs) (part-any _ false (group_faults vs) vs h) (part-any is_empty false (group_faults vs) vs e) a in
    (r.0, r.1, part-occurs r.0 false (group_faults vs) vs r.2, group-off r.0 vs (off r.0 r.2))
  where
    off : (g : ℕ) → occurs g (others vs) ≡ true → bit g (group_faults vs) ≡ false
    off g o = is_false _ (λ b. true≢false (sym o ∙ others-off (group_faults vs) g vs b))

-- A fault of the first way is gone from the others.
others-removes : (n : ℕ) (vs : List Way) → names_beyond n vs ≡ false → any is_empty vs ≡ false → nonempty vs ≡ true
    → (g : ℕ) × (g < n) × (occurs g vs ≡ true) × (occurs g (others vs) ≡ false)
unfolding nonempty occurs any
others-removes n [] h e o = absurd (true≢false (sym o))
others-removes n (v ∷ vs) h e o =
    let r = names-some n v vs h (any_head is_empty v vs e) in
    (r.0, r.1, or-first (bit r.0 (faults v)) _ r.2, others-off (group_faults (v ∷ vs)) r.0 (v ∷ vs) (first-faults v vs r.0 r.2))

-- Either child is a part of the ways, by a test.
or-sift : (b : Side) (vs : List Way) → (g : Way → Bool) × (child IndependentOr b vs ≡ sift g vs)
unfolding child
or-sift left vs = (_, part-sift true (group_faults vs) vs)
or-sift right vs = (_, part-sift false (group_faults vs) vs)

-- The laws of independent-or.
independent-or-laws : Laws IndependentOr
unfolding child child_set child_fixed child_out combine possible
independent-or-laws =
    record {
      bound = λ d ws k vs f c p x y. group-bound d ws k vs x y;
      monotone = λ d ws x x' y y'. either-mono d x x' y y';
      keeps = keeps;
      removes = removes;
      lean = lean;
      rises = λ b vs k. let s = or-sift b vs in rw s.1 (sift-rising 0 s.0 vs k);
      told = told;
      handed = λ all r b x e l c p. sym (lean b x.ways c l) ∙ ap minimal (sym (told all r b x e p));
    }
  where
    keeps : (h : Way → Bool) → Stable h → (b : Side) (vs : List Way) → any h vs ≡ false → any h (child IndependentOr b vs) ≡ false
    keeps h k b vs e = let s = or-sift b vs in rw s.1 (sift-any h s.0 vs e)

    lean : (b : Side) (vs : List Way) → names_both vs ≡ false → Lean vs → Lean (child IndependentOr b vs)
    lean b vs c e = let s = or-sift b vs in rw s.1 (sift-lean s.0 vs e)

    told : (all : List Way) → Rising 0 all → (b : Side) (x : Node) → ByNumbers all x → possible IndependentOr x.ways ≡ true
        → ByNumbers all (child_node IndependentOr b x)
    told all r b x e p = let s = or-sift b x.ways in rw s.1 (part-by-numbers all r x e s.0)

    removes : (n : ℕ) (b : Side) (vs : List Way) → Settled n vs → any is_empty vs ≡ false → 2 ≤ length vs → possible IndependentOr vs ≡ true
        → (g : ℕ) × (g < n) × (occurs g vs ≡ true) × (occurs g (child IndependentOr b vs) ≡ false)
    removes n left vs s e l p = group-removes n vs s.inside e p
    removes n right vs s e l p = others-removes n vs s.inside e (two-some vs l)

-- ---- independent-and

-- The common part and the ways without it share no fault, so they are independent events.
common-bound : (d : Direction) (ws : List ℕ) → Weights ws → (vs : List Way) → names_both vs ≡ false → (x y : ℕ)
    → Le d (x * S ^ length ws) (S * mass ws (happens (child IndependentAnd left vs)))
    → Le d (y * S ^ length ws) (S * mass ws (happens (child IndependentAnd right vs)))
    → Le d (combine IndependentAnd d ws x y * S ^ length ws) (S * mass ws (happens vs))
unfolding combine child
common-bound d ws k vs c x y p q =
    rw (mass-cong ws (happens vs) (λ a. F a && G a) (λ a e. both-happen vs c a))
    (product-bound d x y (S ^ length ws) (mass ws F) (mass ws G) (mass ws (λ a. F a && G a)) (pow-S-pos (length ws))
    (mass-and ws k F G (independent (child IndependentAnd left vs) (child IndependentAnd right vs) apart)) p q)
  where
    F : Assignment → Bool
    F = happens (child IndependentAnd left vs)

    G : Assignment → Bool
    G = happens (child IndependentAnd right vs)

    apart : (i : ℕ) → (occurs i (child IndependentAnd left vs) ≡ false) ⊎ (occurs i (child IndependentAnd right vs) ≡ false)
    apart i = by (bit i (shared vs)) refl
      where
        by : (b : Bool) → bit i (shared vs) ≡ b → (occurs i (child IndependentAnd left vs) ≡ false) ⊎ (occurs i (child IndependentAnd right vs) ≡ false)
        by true e = inr (drop-gone i (shared vs) vs e)
        by false e = inl (left-off i vs e)

-- A fault of the ways without the common part is gone from the common part.
left-removes : (n : ℕ) (vs : List Way) → Settled n vs → 2 ≤ length vs
    → (g : ℕ) × (g < n) × (occurs g vs ≡ true) × (occurs g (child IndependentAnd left vs) ≡ false)
unfolding names_beyond occurs nonempty drop_all
left-removes n vs s l =
    let m = shared vs in
    let full = right-full 0 vs s.rising l s.one_sense s.lean in
    let r = some-occurs n (drop_all m vs) (drop-any _ (beyond-stable n) m vs s.inside) full (some vs l) in (
      r.0,
      r.1,
      is_true _ (λ z. true≢false (sym r.2 ∙ drop-any _ (unnamed-stays r.0) m vs z)),
      left-off r.0 vs (is_false _ (λ b. true≢false (sym r.2 ∙ drop-gone r.0 m vs b))),
    )
  where
    some : (us : List Way) → 2 ≤ length us → nonempty (drop_all (shared vs) us) ≡ true
    some [] l = absurd (omega arith)
    some (u ∷ us) l = refl

-- A fault of the common part is gone from the ways without it.
right-removes : (n : ℕ) (vs : List Way) → names_beyond n vs ≡ false → nonempty vs ≡ true → not (eqb (shared vs) 0) ≡ true
    → (g : ℕ) × (g < n) × (occurs g vs ≡ true) × (occurs g (drop_all (shared vs) vs) ≡ false)
unfolding nonempty occurs any
right-removes n [] h o p = absurd (true≢false (sym o))
right-removes n (v ∷ vs) h o p =
    let m = shared (v ∷ vs) in
    let named : (i : ℕ) → bit i m ≡ true → bit i (faults v) ≡ true = λ i b. shared-named i (v ∷ vs) b v (Memᴰ.head refl) in
    let r = some-bit n m (eqb-false m 0 (not-true (eqb m 0) p)) (λ i l. is_false _ (λ b. true≢false (sym (named i b) ∙ beyond-off n i v vs h l))) in
    (r.0, r.1, or-first (bit r.0 (faults v)) _ (named r.0 r.2), drop-gone r.0 m (v ∷ vs) r.2)

-- Ways that numbers tell, with further faults left out.
drop_more : (all : List Way) (x : Node) (m : ℕ) (us : List Way) → remains all x us ≡ us
    → drop_all (bit_or x.out m) (remaining x.present x.absent (of_set (drop_all m us) all)) ≡ drop_all m us
drop_more all x m us e =
    let rest : List Way → List Way = remaining x.present x.absent in
    ap (λ (vs : List Way). drop_all (bit_or x.out m) (rest vs)) (drop-set m us all) ∙ sym (drop-twice x.out m (rest (of_set us all)))
    ∙ ap (drop_all m) e

-- A test that no way passes, the lowest numbered does not pass.
lowest-any : (h : Way → Bool) (vs : List Way) → any h vs ≡ false → any h (lowest vs) ≡ false
unfolding lowest any
lowest-any h [] e = refl
lowest-any h (v ∷ vs) e = or-neither (h v) false (any_head h v vs e) refl

-- It is lean, whatever is left out.
lowest-lean : (m : ℕ) (vs : List Way) → Lean (drop_all m (lowest vs))
unfolding lowest drop_all minimal sift
lowest-lean m [] = refl
lowest-lean m (v ∷ vs) = one-lean (dropped m v)

-- The laws of independent-and.
independent-and-laws : Laws IndependentAnd
unfolding child child_set child_fixed child_out combine possible
independent-and-laws =
    record {
      bound = λ d ws k vs f c p x y. common-bound d ws k vs c x y;
      monotone = λ d ws x x' y y'. product-mono d x x' y y';
      keeps = keeps;
      removes = removes;
      lean = lean;
      rises = rises;
      told = told;
      handed = λ all r b x e l c p. sym (lean b x.ways c l) ∙ ap minimal (sym (told all r b x e p));
    }
  where
    keeps : (h : Way → Bool) → Stable h → (b : Side) (vs : List Way) → any h vs ≡ false → any h (child IndependentAnd b vs) ≡ false
    keeps h s left vs e = drop-any h s (spare vs) (lowest vs) (lowest-any h vs e)
    keeps h s right vs e = drop-any h s (shared vs) vs e

    lean : (b : Side) (vs : List Way) → names_both vs ≡ false → Lean vs → Lean (child IndependentAnd b vs)
    lean left vs c e = lowest-lean (spare vs) vs
    lean right vs c e = rest-lean vs c e

    rises : (b : Side) (vs : List Way) → Rising 0 vs → Rising 0 (child IndependentAnd b vs)
    rises left vs k = let s = lowest-sift 0 vs k in drop-rising 0 (spare vs) (lowest vs) (rw s.1 (sift-rising 0 s.0 vs k))
    rises right vs k = drop-rising 0 (shared vs) vs k

    told : (all : List Way) → Rising 0 all → (b : Side) (x : Node) → ByNumbers all x → possible IndependentAnd x.ways ≡ true
        → ByNumbers all (child_node IndependentAnd b x)
    told all r left x e p =
        let s = lowest-sift 0 x.ways (told-rising all r x e) in
        drop_more all x (spare x.ways) (lowest x.ways) (rw s.1 (part-by-numbers all r x e s.0))
    told all r right x e p = drop_more all x (shared x.ways) x.ways e

    removes : (n : ℕ) (b : Side) (vs : List Way) → Settled n vs → any is_empty vs ≡ false → 2 ≤ length vs → possible IndependentAnd vs ≡ true
        → (g : ℕ) × (g < n) × (occurs g vs ≡ true) × (occurs g (child IndependentAnd b vs) ≡ false)
    removes n left vs s e l p = left-removes n vs s l
    removes n right vs s e l p = right-removes n vs s.inside (two-some vs l) p

-- ---- Shannon expansion

-- The exact sum is the weighted mean of those with the fault present and with it absent, and leaving ways out changes neither.
fault-bound : (d : Direction) (ws : List ℕ) → Weights ws → (vs : List Way) (f : ℕ) → f < length ws → (x y : ℕ)
    → Le d (x * S ^ length ws) (S * mass ws (happens (minimal (remaining (2 ^ f) 0 vs))))
    → Le d (y * S ^ length ws) (S * mass ws (happens (minimal (remaining 0 (2 ^ f) vs))))
    → Le d (combine (Shannon f) d ws x y * S ^ length ws) (S * mass ws (happens vs))
unfolding combine
fault-bound d ws k vs f l x y p q =
    mean-bound d (get_or ws f 0) x y (S ^ length ws)
    (mass ws (happens (remaining (2 ^ f) 0 vs))) (mass ws (happens (remaining 0 (2 ^ f) vs))) (mass ws (happens vs))
    (mass-split ws k f l (happens vs)
    ∙ ap₂ (λ (m n : ℕ). get_or ws f 0 * m + (S - get_or ws f 0) * n)
    (sym (mass-cong ws (happens (remaining (2 ^ f) 0 vs)) (λ a. happens vs (set a f true)) (λ a e. fix-present f vs a (omega (arith, l, e)))))
    (sym (mass-cong ws (happens (remaining 0 (2 ^ f) vs)) (λ a. happens vs (set a f false)) (λ a e. fix-absent f vs a (omega (arith, l, e))))))
    (rw (mass-cong ws (happens (minimal (remaining (2 ^ f) 0 vs))) (happens (remaining (2 ^ f) 0 vs))
    (λ a e. minimal-happens (remaining (2 ^ f) 0 vs) a)) at p)
    (rw (mass-cong ws (happens (minimal (remaining 0 (2 ^ f) vs))) (happens (remaining 0 (2 ^ f) vs))
    (λ a e. minimal-happens (remaining 0 (2 ^ f) vs) a)) at q)

-- A fault that occurs is neither fixed nor left out yet, so fixing it is fixing one fault more.
fix-more : (all : List Way) (x : Node) (f P A : ℕ) → ByNumbers all x → occurs f x.ways ≡ true → bit_or P A ≡ 2 ^ f
    → remaining P A x.ways ≡ drop_all x.out (remaining (bit_or x.present P) (bit_or x.absent A) (of_set x.ways all))
unfolding occurs
fix-more all x f P A e o q =
    ap (remaining P A) (sym e) ∙ drop-fixed x.out P A (rw q (elsewhere x.out kept)) us
    ∙ ap (drop_all x.out) (fix-again x.present x.absent P A (rw q (elsewhere (bit_or x.present x.absent) free)) (of_set x.ways all))
  where
    us : List Way
    us = remaining x.present x.absent (of_set x.ways all)

    there : occurs f (drop_all x.out us) ≡ true
    there = ap (occurs f) e ∙ o

    kept : bit f x.out ≡ false
    kept = is_false _ (λ b. true≢false (sym there ∙ drop-gone f x.out us b))

    before : occurs f us ≡ true
    before = is_true _ (λ z. true≢false (sym there ∙ drop-any _ (unnamed-stays f) x.out us z))

    free : bit f (bit_or x.present x.absent) ≡ false
    free = is_false _ (λ b. true≢false (sym before ∙ fixed-gone f x.present x.absent (of_set x.ways all) b))

    elsewhere : (m : ℕ) → bit f m ≡ false → not (eqb (bit_and m (2 ^ f)) 0) ≡ false
    elsewhere m z = apart-test m (2 ^ f) (λ i b. bit-pow i f ∙ ne_eqb i f (λ y. true≢false (sym b ∙ rw y z)))

-- The laws of Shannon expansion, of any fault.
shannon-laws : (f : ℕ) → Laws (Shannon f)
unfolding child child_set child_fixed child_out combine possible occurs minimal
shannon-laws f =
    record {
      bound = λ d ws k vs h c p x y. fault-bound d ws k vs f (occurs-below (length ws) f vs h p) x y;
      monotone = λ d ws x x' y y'. mean-mono d (get_or ws f 0) x x' y y';
      keeps = keeps;
      removes = removes;
      lean = lean;
      rises = rises;
      told = told;
      handed = λ all r b x e l c p. handed all b x e p;
    }
  where
    -- The child's set is the node's own ways, so that these are told by number is enough.
    handed : (all : List Way) (b : Side) (x : Node) → ByNumbers all x → possible (Shannon f) x.ways ≡ true → Handed all (child_node (Shannon f) b x)
    handed all left x e p = ap minimal (rw or_zero_r at (fix-more all x f (2 ^ f) 0 e p (or_zero_r (2 ^ f))))
    handed all right x e p = ap minimal (rw or_zero_r at (fix-more all x f 0 (2 ^ f) e p (or_zero_l (2 ^ f))))

    told : (all : List Way) → Rising 0 all → (b : Side) (x : Node) → ByNumbers all x → possible (Shannon f) x.ways ≡ true
        → ByNumbers all (child_node (Shannon f) b x)
    told all r b x e p = rw (handed all b x e p) (part-told all r (has_number x.ways) _ _ _ _ refl _)

    itself : bit f (2 ^ f) ≡ true
    itself = bit-pow f f ∙ eq-eqb f f refl

    keeps : (h : Way → Bool) → Stable h → (b : Side) (vs : List Way) → any h vs ≡ false → any h (child (Shannon f) b vs) ≡ false
    keeps h s left vs e = minimal-any h (remaining (2 ^ f) 0 vs) (remaining-any h s (2 ^ f) 0 vs e)
    keeps h s right vs e = minimal-any h (remaining 0 (2 ^ f) vs) (remaining-any h s 0 (2 ^ f) vs e)

    lean : (b : Side) (vs : List Way) → names_both vs ≡ false → Lean vs → Lean (child (Shannon f) b vs)
    lean left vs c e = minimal-twice (remaining (2 ^ f) 0 vs)
    lean right vs c e = minimal-twice (remaining 0 (2 ^ f) vs)

    rises : (b : Side) (vs : List Way) → Rising 0 vs → Rising 0 (child (Shannon f) b vs)
    rises left vs k = sift-rising 0 _ _ (remaining-rising 0 (2 ^ f) 0 vs k)
    rises right vs k = sift-rising 0 _ _ (remaining-rising 0 0 (2 ^ f) vs k)

    removes : (n : ℕ) (b : Side) (vs : List Way) → Settled n vs → any is_empty vs ≡ false → 2 ≤ length vs → possible (Shannon f) vs ≡ true
        → (g : ℕ) × (g < n) × (occurs g vs ≡ true) × (occurs g (child (Shannon f) b vs) ≡ false)
    removes n left vs s e l p =
        let gone = fixed-gone f (2 ^ f) 0 vs (ap (bit f) (or_zero_r (2 ^ f)) ∙ itself) in
        (f, occurs-below n f vs s.inside p, p, minimal-any _ (remaining (2 ^ f) 0 vs) gone)
    removes n right vs s e l p =
        let gone = fixed-gone f 0 (2 ^ f) vs (ap (bit f) (or_zero_l (2 ^ f)) ∙ itself) in
        (f, occurs-below n f vs s.inside p, p, minimal-any _ (remaining 0 (2 ^ f) vs) gone)

-- Every kind has the laws.
pub laws : (k : Kind) → Laws k
laws IndependentOr = independent-or-laws
laws IndependentAnd = independent-and-laws
laws (Shannon f) = shannon-laws f
