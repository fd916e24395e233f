-- AT MOST 64 LEVELS (RULES 4.9): a child names fewer faults than its parent, so an open leaf lies above level n, the number of faults.
-- Counted by the faults that occur in the remaining ways; rests on the laws of each kind (KindLaws.antt).
use mathlib.Core.Path.{◌≡◌, refl, sym, ap, ◌∙◌, subst}
use mathlib.Core.Bool.{Bool, true, false, not, true≢false}
use mathlib.Core.List.{List, [], ◌∷◌}
use mathlib.Core.Option.{some, some-injective, none-ne-some}
use Prim.Native.Nat.{ℕ, zero, suc, ◌+◌, ◌≤◌, ◌<◌}
use native.Mathlib.Decide.{ℕ_discrete}
use native.Mathlib.Omega.{arith}
use lib.ListN.{length}
use lib.Dec.{leb}
use borrow.Author.Tests.{leb-true, not-true}
use Rattle.rules.specs.Table.{bit, Way, Table, faults}
use Rattle.rules.specs.Leaf.{any, is_empty, is_open}
use Rattle.rules.specs.Group.{nonempty}
use Rattle.rules.specs.Tree.{root_ways, Side, left, right, Place, DTree, leaf, inner, occurs, possible}
use Rattle.rules.specs.Tree.{child, nodes, Refinement, tree, has_at, leaf_ways, acceptable, series}
use Rattle.rules.specs.Refusals.{names_beyond, Accepted}
use Rattle.rules.specs.declared.Kind.{Kind}
use Rattle.rules.proofs.Booleans.{and_left, and_right}
use Rattle.rules.proofs.Remaining.{unnamed-stays}
use Rattle.rules.proofs.KindLaws.{laws, Settled, some-occurs}
use Rattle.rules.proofs.Settled.{child-settled, root-settled}
use Rattle.rules.proofs.Places.{nodes-inners}
use Rattle.rules.proofs.Series.{Sound, series-sound, acceptable-found, series-room}
use Rattle.rules.proofs.Accepted.{few_faults}

-- ---- how many of the faults below n occur

-- 1 for a fault that occurs.
abbrev one : Bool → ℕ
one true = 1
one false = 0

unfoldable pub span : ℕ → List Way → ℕ
span zero vs = 0
span (suc n) vs = one (occurs n vs) + span n vs

-- No fault occurs in the first that does not occur in the second.
abbrev Fewer : List Way → List Way → Type 0
Fewer us vs = (g : ℕ) → occurs g vs ≡ false → occurs g us ≡ false

one-le : (x y : Bool) → (y ≡ false → x ≡ false) → one x ≤ one y
one-le true true f = omega arith
one-le true false f = absurd (true≢false (f refl))
one-le false true f = omega arith
one-le false false f = omega arith

span-le : (n : ℕ) (us vs : List Way) → Fewer us vs → span n us ≤ span n vs
unfolding span
span-le zero us vs f = omega arith
span-le (suc n) us vs f = omega (arith, one-le (occurs n us) (occurs n vs) (f n), span-le n us vs f)

span-lt : (n : ℕ) (us vs : List Way) (g : ℕ) → Fewer us vs → g < n → occurs g vs ≡ true → occurs g us ≡ false → span n us < span n vs
unfolding span
span-lt zero us vs g f l h e = absurd (omega arith)
span-lt (suc n) us vs g f l h e = by (ℕ_discrete g n) (λ m. span-lt n us vs g f m h e)
  where
    by : Dec (g ≡ n) → (g < n → span n us < span n vs) → one (occurs n us) + span n us < one (occurs n vs) + span n vs
    by (yes q) ih = rw (ap (λ (x : ℕ). occurs x us) (sym q) ∙ e, ap (λ (x : ℕ). occurs x vs) (sym q) ∙ h) (omega (arith, span-le n us vs f))
    by (no q) ih = omega (arith, ih (omega arith), one-le (occurs n us) (occurs n vs) (f n))

span-most : (n : ℕ) (vs : List Way) → span n vs ≤ n
unfolding span
span-most zero vs = omega arith
span-most (suc n) vs = by (occurs n vs) (span-most n vs)
  where
    by : (b : Bool) → span n vs ≤ n → one b + span n vs ≤ suc n
    by true h = omega arith
    by false h = omega arith

-- ---- an open leaf

open_full : (ws : List ℕ) (vs : List Way) → is_open ws vs ≡ true → any is_empty vs ≡ false
unfolding is_open
open_full ws vs h = not-true _ (and_left (not (any is_empty vs)) _ (and_right (leb 2 (length vs)) _ h))

open-some : (ws : List ℕ) (vs : List Way) → is_open ws vs ≡ true → nonempty vs ≡ true
unfolding is_open nonempty
open-some ws [] h = absurd (true≢false (sym h))
open-some ws (v ∷ vs) h = refl

open-two : (ws : List ℕ) (vs : List Way) → is_open ws vs ≡ true → 2 ≤ length vs
unfolding is_open
open-two ws vs h = leb-true 2 (length vs) (and_left (leb 2 (length vs)) _ h)

-- Some fault occurs in an open leaf.
pub open-occurs : (n : ℕ) (ws : List ℕ) (vs : List Way) → names_beyond n vs ≡ false → is_open ws vs ≡ true → (g : ℕ) × (g < n) × (occurs g vs ≡ true)
open-occurs n ws vs h o = some-occurs n vs h (open_full ws vs o) (open-some ws vs o)

-- No fault occurs in a child that does not occur in the node.
child-fewer : (k : Kind) (b : Side) (vs : List Way) → Fewer (child k b vs) vs
unfolding occurs
child-fewer k b vs g e = (laws k).keeps (λ v. bit g (faults v)) (λ m v. unnamed-stays g m v) b vs e

-- A REFINEMENT REMOVES A FAULT FROM BOTH SIDES: fewer faults occur in either child. For the common part this rests on what stays (RULES 3.4): were the
-- ways {0} and {0} both to stay, the left child would lose no fault.
pub child-less : (k : Kind) (n : ℕ) (b : Side) (ws : List ℕ) (vs : List Way) → Settled n vs → is_open ws vs ≡ true → possible k vs ≡ true
    → span n (child k b vs) < span n vs
child-less k n b ws vs h o p =
    let r = (laws k).removes n b vs h (open_full ws vs o) (open-two ws vs o) p in
    span-lt n (child k b vs) vs r.0 (child-fewer k b vs) r.1 r.2 r.3

-- ---- the depth of a place

depth : (n : ℕ) (ws : List ℕ) (p : Place) (vs : List Way) (s : DTree) → Settled n vs → Sound ws vs s → has_at p s ≡ true → length p ≤ span n vs
unfolding has_at Sound
depth n ws [] vs s f o h = omega arith
depth n ws (b ∷ p) vs leaf f o h = absurd (true≢false (sym h))
depth n ws (left ∷ p) vs (inner k l r) f o h =
    omega (arith, depth n ws p (child k left vs) l (child-settled k n left vs f) o.2 h, child-less k n left ws vs f o.0 o.1)
depth n ws (right ∷ p) vs (inner k l r) f o h =
    omega (arith, depth n ws p (child k right vs) r (child-settled k n right vs f) o.3 h, child-less k n right ws vs f o.0 o.1)

-- NO PLACE IS DEEPER than the number of faults, so none is deeper than 64.
pub levels : (t : Table) → Accepted t → (ns : List Refinement) → series t ns ≡ true → (p : Place) → has_at p (tree ns) ≡ true → length p ≤ 64
levels t ok ns h p e =
    let n : ℕ = length t.weights in
    omega (arith, depth n t.weights p (root_ways t) (tree ns) (root-settled t ok) (series-sound t ns h) e, span-most n (root_ways t), few_faults t ok)

depth-open : (n : ℕ) (ws : List ℕ) (p : Place) (vs : List Way) (s : DTree) (us : List Way) → Settled n vs → Sound ws vs s
    → leaf_ways p vs s ≡ some us → is_open ws us ≡ true → length p < span n vs
unfolding leaf_ways Sound occurs any
depth-open n ws [] vs leaf us f o e q =
    let z = some-injective vs us e in
    let r = open-occurs n ws vs f.inside (subst (λ (x : List Way). is_open ws x ≡ true) (sym z) q) in
    omega (arith, span-lt n [] vs r.0 (λ g h. refl) r.1 r.2 refl)
depth-open n ws [] vs (inner k l r) us f o e q = absurd (none-ne-some _ e)
depth-open n ws (b ∷ p) vs leaf us f o e q = absurd (none-ne-some _ e)
depth-open n ws (left ∷ p) vs (inner k l r) us f o e q =
    omega (arith, depth-open n ws p (child k left vs) l us (child-settled k n left vs f) o.2 e q, child-less k n left ws vs f o.0 o.1)
depth-open n ws (right ∷ p) vs (inner k l r) us f o e q =
    omega (arith, depth-open n ws p (child k right vs) r us (child-settled k n right vs f) o.3 e q, child-less k n right ws vs f o.0 o.1)

-- An acceptable refinement is made above level 64: the length of a place never decides.
pub refined-above : (t : Table) → Accepted t → (ns : List Refinement) → series t ns ≡ true → (n : Refinement) → acceptable t (tree ns) n ≡ true
    → length n.place < 64
refined-above t ok ns h n a =
    let f = acceptable-found t (tree ns) n a in
    let c : ℕ = length t.weights in
    omega (
      arith,
      depth-open c t.weights n.place (root_ways t) (tree ns) f.found (root-settled t ok) (series-sound t ns h) f.there f.opened,
      span-most c (root_ways t),
      few_faults t ok,
    )

-- At most 511 nodes.
pub few-nodes : (t : Table) (ns : List Refinement) → series t ns ≡ true → nodes (tree ns) ≤ 511
few-nodes t ns h = omega (arith, nodes-inners (tree ns), series-room t ns h)
