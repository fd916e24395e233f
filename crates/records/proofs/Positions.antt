-- Places and their positions in the list of places: which record a place has, that no place has two, and what lies above it.
-- Rests on the rules' Places.antt and Series.antt.
use mathlib.Core.Path.{◌≡◌, refl, sym, ap, ◌∙◌, subst}
use mathlib.Core.Bool.{Bool, true, false, true≢false}
use mathlib.Core.List.Memᴰ
use mathlib.Core.List.{List, [], ◌∷◌, ◌++◌, Memᴰ}
use mathlib.Core.Option.{none, some, none-ne-some}
use mathlib.Core.Logic.{◌⊎◌, inl, inr}
use Prim.Native.Nat.{ℕ, zero, suc, ◌+◌, ◌*◌, ◌<◌}
use native.Mathlib.Omega.{arith}
use lib.ListN.{length, get_or, length-append}
use Rattle.rules.specs.Table.{Table}
use Rattle.rules.specs.Tree.{Side, left, right, Place, DTree, leaf, inner, refine_at, Refinement}
use Rattle.rules.specs.Tree.{refine, grow, tree, has_at, kind_at, on_path, acceptable, series_from, series}
use Rattle.rules.specs.declared.Kind.{Kind}
use Rattle.rules.proofs.Booleans.{and_left, and_right, is_false, same_test}
use Rattle.rules.proofs.Places.{leaf-undone, refined-kind, has-child, has-no-child, has-stays, has-only}
use Rattle.rules.proofs.Members.{In}
use Rattle.rules.proofs.Series.{acceptable-leaf}
use Rattle.records.specs.Records.{children, places, same_place, position, above}

-- The place is one of the list.
abbrev pub Held : Place → List Place → Type 0
Held p ps = Memᴰ p ps

-- ---- equal places

pub same-equal : (p q : Place) → same_place p q ≡ true → p ≡ q
unfolding same_place
same-equal [] [] h = refl
same-equal [] (c ∷ q) h = absurd (true≢false (sym h))
same-equal (b ∷ p) [] h = absurd (true≢false (sym h))
same-equal (left ∷ p) (left ∷ q) h = ap (λ (r : Place). left ∷ r) (same-equal p q h)
same-equal (left ∷ p) (right ∷ q) h = absurd (true≢false (sym h))
same-equal (right ∷ p) (left ∷ q) h = absurd (true≢false (sym h))
same-equal (right ∷ p) (right ∷ q) h = ap (λ (r : Place). right ∷ r) (same-equal p q h)

pub same_self : (p : Place) → same_place p p ≡ true
unfolding same_place
same_self [] = refl
same_self (left ∷ p) = same_self p
same_self (right ∷ p) = same_self p

-- ---- children

-- The parent of a child.
pub above-child : (p : Place) (b : Side) → above (p ++ (b ∷ [])) ≡ p
unfolding above
above-child [] b = refl
above-child (c ∷ []) b = refl
above-child (c ∷ d ∷ p) b = ap (λ (r : Place). c ∷ r) (above-child (d ∷ p) b)

child-parent : (q p : Place) (b c : Side) → q ++ (b ∷ []) ≡ p ++ (c ∷ []) → p ≡ q
child-parent q p b c e = sym (above-child p c) ∙ ap above (sym e) ∙ above-child q b

-- The last step of a place is to the left.
abbrev ends_left : Place → Bool
ends_left [] = false
ends_left (left ∷ []) = true
ends_left (right ∷ []) = false
ends_left (left ∷ c ∷ p) = ends_left (c ∷ p)
ends_left (right ∷ c ∷ p) = ends_left (c ∷ p)

ends-left : (p : Place) → ends_left (p ++ (left ∷ [])) ≡ true
ends-left [] = refl
ends-left (left ∷ []) = refl
ends-left (right ∷ []) = refl
ends-left (left ∷ c ∷ p) = ends-left (c ∷ p)
ends-left (right ∷ c ∷ p) = ends-left (c ∷ p)

ends-right : (p : Place) → ends_left (p ++ (right ∷ [])) ≡ false
ends-right [] = refl
ends-right (left ∷ []) = refl
ends-right (right ∷ []) = refl
ends-right (left ∷ c ∷ p) = ends-right (c ∷ p)
ends-right (right ∷ c ∷ p) = ends-right (c ∷ p)

-- A left child is no right child, at whatever places.
sides-differ : (q p : Place) → q ++ (left ∷ []) ≡ p ++ (right ∷ []) → ⊥
sides-differ q p e = true≢false (sym (ends-left q) ∙ ap ends_left e ∙ ends-right p)

-- ---- positions in a list

-- A held place is found in the list, and what is behind the list does not matter.
abbrev Stands : Place → List Place → List Place → Type 0
Stands p ps qs = (position p ps < length ps) × (get_or ps (position p ps) [] ≡ p) × (position p (ps ++ qs) ≡ position p ps)

stands : (p : Place) (ps qs : List Place) → Held p ps → Stands p ps qs
unfolding position
stands p [] qs h = elim h [ ]
stands p (q ∷ ps) qs h = by (same_place p q) refl h (λ k. stands p ps qs k)
  where
    by : (b : Bool) → same_place p q ≡ b → Held p (q ∷ ps) → (Held p ps → Stands p ps qs) → Stands p (q ∷ ps) qs
    by true e h ih = rw (e, position) (omega arith, sym (same-equal p q e), refl)
    by false e (Memᴰ.head i) ih = absurd (true≢false (sym (same_self p) ∙ ap (same_place p) i ∙ e))
    by false e (Memᴰ.tail i) ih = rw (e, position) (omega (arith, (ih i).0), (ih i).1, ap suc (ih i).2)

-- So it has the same position in a longer list.
pub position-append : (p : Place) (ps qs : List Place) → Held p ps → position p (ps ++ qs) ≡ position p ps
position-append p ps qs h = (stands p ps qs h).2

-- A list holds what stands in it.
pub held_at : (ps : List Place) (i : ℕ) → i < length ps → Held (get_or ps i []) ps
held_at [] i h = absurd (omega arith)
held_at (q ∷ ps) zero h = Memᴰ.head refl
held_at (q ∷ ps) (suc i) h = Memᴰ.tail (held_at ps i (omega arith))

-- No place is in the list twice.
unfoldable pub Once : List Place → Type 0
Once [] = Unit {0}
Once (q ∷ qs) = (Held q qs → ⊥) × Once qs

-- Then the place at a position has that position.
pub position-of : (ps : List Place) (i : ℕ) → Once ps → i < length ps → position (get_or ps i []) ps ≡ i
unfolding Once position
position-of [] i o h = absurd (omega arith)
position-of (q ∷ ps) zero o h = rw (same_self q, position)
position-of (q ∷ ps) (suc i) o h = by (same_place (get_or ps i []) q) refl (position-of ps i o.1 (omega arith)) (held_at ps i (omega arith))
  where
    by : (b : Bool) → same_place (get_or ps i []) q ≡ b → position (get_or ps i []) ps ≡ i → Held (get_or ps i []) ps
        → ◌≡◌ {A = ℕ} (elim b as (λ b. ℕ) [ true ↦ 0 | false ↦ suc (position (get_or ps i []) ps) ]) (suc i)
    by true e ih k = absurd (o.0 (subst (λ (r : Place). Held r ps) (same-equal (get_or ps i []) q e) k))
    by false e ih k = ap suc ih

-- ---- the places of a series

pub children-append : (ns ms : List Refinement) → children (ns ++ ms) ≡ children ns ++ children ms
unfolding children
children-append [] ms = refl
children-append (n ∷ ns) ms = ap (λ (r : List Place). (n.place ++ (left ∷ [])) ∷ (n.place ++ (right ∷ [])) ∷ r) (children-append ns ms)

pub places-append : (ns ms : List Refinement) → places (ns ++ ms) ≡ places ns ++ children ms
unfolding places
places-append ns ms = ap (λ (r : List Place). [] ∷ r) (children-append ns ms)

length-children : (ns : List Refinement) → length (children ns) ≡ 2 * length ns
unfolding children
length-children [] = refl
length-children (n ∷ ns) = omega (arith, length-children ns)

pub length_places : (ns : List Refinement) → length (places ns) ≡ 2 * length ns + 1
unfolding places
length_places ns = omega (arith, length-children ns)

pub position-lt : (ns : List Refinement) (p : Place) → Held p (places ns) → position p (places ns) < length (places ns)
position-lt ns p h = (stands p (places ns) [] h).0

pub position-get : (ns : List Refinement) (p : Place) → Held p (places ns) → get_or (places ns) (position p (places ns)) [] ≡ p
position-get ns p h = (stands p (places ns) [] h).1

-- A refined place has its children in the list.
pub child-held : (q : Place) (k : Kind) (b : Side) (ns : List Refinement) → In (record { place = q; kind = k }) ns → Held (q ++ (b ∷ [])) (children ns)
unfolding children
child-held q k b [] x' = elim x' [ ]
child-held q k left (n ∷ ns) (Memᴰ.head h) = Memᴰ.head (ap (λ (m : Refinement). m.place ++ (left ∷ [])) h)
child-held q k right (n ∷ ns) (Memᴰ.head h) = Memᴰ.tail (Memᴰ.head (ap (λ (m : Refinement). m.place ++ (right ∷ [])) h))
child-held q k b (n ∷ ns) (Memᴰ.tail h) = Memᴰ.tail (Memᴰ.tail (child-held q k b ns h))

-- The places of the tree are in the list.
has-children : (ns : List Refinement) (s : DTree) (q : Place) → has_at q (grow s ns) ≡ true → (has_at q s ≡ true) ⊎ Held q (children ns)
unfolding grow children
has-children [] s q h = inl h
has-children (n ∷ ns) s q h = by (has-children ns (refine n s) q h)
  where
    child : (b : Side) → q ≡ n.place ++ (b ∷ []) → Held q (children (n ∷ ns))
    child left e = Memᴰ.head e
    child right e = Memᴰ.tail (Memᴰ.head e)

    on : (has_at q s ≡ true) ⊎ ((b : Side) × (q ≡ n.place ++ (b ∷ []))) → (has_at q s ≡ true) ⊎ Held q (children (n ∷ ns))
    on (inl e) = inl e
    on (inr e) = inr (child e.0 e.1)

    by : (has_at q (refine n s) ≡ true) ⊎ Held q (children ns) → (has_at q s ≡ true) ⊎ Held q (children (n ∷ ns))
    by (inl e) = on (has-only q n.place n.kind s e)
    by (inr i) = inr (Memᴰ.tail (Memᴰ.tail i))

pub has-held : (ns : List Refinement) (q : Place) → has_at q (tree ns) ≡ true → Held q (places ns)
unfolding places has_at
has-held ns q h = by (has-children ns leaf q h)
  where
    root : (q : Place) → has_at q leaf ≡ true → q ≡ []
    root [] e = refl
    root (b ∷ q) e = absurd (true≢false (sym e))

    by : (has_at q leaf ≡ true) ⊎ Held q (children ns) → Held q ([] ∷ children ns)
    by (inl e) = Memᴰ.head (root q e)
    by (inr i) = Memᴰ.tail i

-- A place that the tree has it keeps.
stays : (ns : List Refinement) (s : DTree) (r : Place) → has_at r s ≡ true → has_at r (grow s ns) ≡ true
unfolding grow
stays [] s r h = h
stays (n ∷ ns) s r h = stays ns (refine n s) r (has-stays r n.place n.kind s h)

children-has : (t : Table) (ns : List Refinement) (s : DTree) → series_from t s ns ≡ true → (r : Place) → Held r (children ns) → has_at r (grow s ns) ≡ true
unfolding children grow series_from
children-has t [] s h r i = elim i [ ]
children-has t (n ∷ ns) s h r i = by i (children-has t ns (refine n s) (and_right (acceptable t s n) _ h) r)
  where
    here : (b : Side) → has_at (n.place ++ (b ∷ [])) (grow (refine n s) ns) ≡ true
    here b =
        stays ns (refine n s) (n.place ++ (b ∷ []))
        (has-child n.place b n.kind (refine n s) (refined-kind n.place n.kind s (acceptable-leaf t s n (and_left (acceptable t s n) _ h))))

    by : Held r ((n.place ++ (left ∷ [])) ∷ (n.place ++ (right ∷ [])) ∷ children ns) → (Held r (children ns) → has_at r (grow (refine n s) ns) ≡ true)
        → has_at r (grow (refine n s) ns) ≡ true
    by (Memᴰ.head e) ih = ap (λ (x : Place). has_at x (grow (refine n s) ns)) e ∙ here left
    by (Memᴰ.tail (Memᴰ.head e)) ih = ap (λ (x : Place). has_at x (grow (refine n s) ns)) e ∙ here right
    by (Memᴰ.tail (Memᴰ.tail i)) ih = ih i

-- The places in the list are those of the tree.
pub held-has : (t : Table) (ns : List Refinement) → series t ns ≡ true → (r : Place) → Held r (places ns) → has_at r (tree ns) ≡ true
unfolding places has_at
held-has t ns h r (Memᴰ.head e) = ap (λ (x : Place). has_at x (tree ns)) e
held-has t ns h r (Memᴰ.tail i) = children-has t ns leaf h r i

-- ---- no place of a series is in the list twice

not-has : (q p : Place) (k : Kind) (s : DTree) → has_at q (refine_at p k s) ≡ false → has_at q s ≡ false
not-has q p k s h = by (has_at q s) refl
  where
    by : (b : Bool) → has_at q s ≡ b → has_at q s ≡ false
    by true e = absurd (true≢false (sym (has-stays q p k s e) ∙ h))
    by false e = e

record Apart (s : DTree) (qs : List Place) : Type 0 where
  once : Once qs
  new : (q : Place) → Held q qs → has_at q s ≡ false

children-once : (t : Table) (ns : List Refinement) (s : DTree) → series_from t s ns ≡ true → Apart s (children ns)
unfolding series_from children Once
children-once t [] s h = record { once = tt; new = λ q i. none-held q i }
  where
    none-held : (q : Place) → Held q [] → has_at q s ≡ false
    none-held q i = elim i [ ]
children-once t (n ∷ ns) s h =
    let l = acceptable-leaf t s n (and_left (acceptable t s n) _ h) in
    by (children-once t ns (refine n s) (and_right (acceptable t s n) _ h)) (leaf-undone n.place s l) (refined-kind n.place n.kind s l)
  where
    by : Apart (refine n s) (children ns) → kind_at n.place s ≡ none → kind_at n.place (refine n s) ≡ some n.kind → Apart s (children (n ∷ ns))
    by ih d d' =
        record {
          once = (λ i. differs (Memᴰ.cases_cons i), (later right, ih.once));
          new = λ q i. fresh q (Memᴰ.cases_cons i);
        }
      where
        later : (b : Side) → Held (n.place ++ (b ∷ [])) (children ns) → ⊥
        later b i = true≢false (sym (has-child n.place b n.kind (refine n s) d') ∙ ih.new _ i)

        differs : (n.place ++ (left ∷ []) ≡ n.place ++ (right ∷ [])) ⊎ Held (n.place ++ (left ∷ [])) (children ns) → ⊥
        differs (inl e) = sides-differ n.place n.place e
        differs (inr i) = later left i

        second : (q : Place) → (q ≡ n.place ++ (right ∷ [])) ⊎ Held q (children ns) → has_at q s ≡ false
        second q (inl e) = ap (λ (r : Place). has_at r s) e ∙ has-no-child n.place right s d
        second q (inr i) = not-has q n.place n.kind s (ih.new q i)

        fresh : (q : Place) → (q ≡ n.place ++ (left ∷ [])) ⊎ Held q ((n.place ++ (right ∷ [])) ∷ children ns) → has_at q s ≡ false
        fresh q (inl e) = ap (λ (r : Place). has_at r s) e ∙ has-no-child n.place left s d
        fresh q (inr i) = second q (Memᴰ.cases_cons i)

pub places-once : (t : Table) (ns : List Refinement) → series t ns ≡ true → Once (places ns)
unfolding Once places has_at
places-once t ns h = let k = children-once t ns leaf h in (λ i. true≢false (k.new [] i), k.once)

-- ---- a right child follows its left child

-- The root comes first, so a child's position is one further among all places.
pub position-child : (q : Place) (b : Side) (ns : List Refinement) → position (q ++ (b ∷ [])) (places ns) ≡ suc (position (q ++ (b ∷ [])) (children ns))
unfolding position places
position-child q b ns = rw (not_root q b, position)
  where
    not_root : (q : Place) (b : Side) → same_place (q ++ (b ∷ [])) [] ≡ false
    not_root q b = is_false _ (λ h. omega (arith, ap length (same-equal (q ++ (b ∷ [])) [] h), length-append q (b ∷ [])))

same-child : (q p : Place) (b : Side) → same_place (q ++ (b ∷ [])) (p ++ (b ∷ [])) ≡ same_place q p
same-child q p b =
    same_test _ _
    (λ h. ap (same_place q) (child-parent q p b b (same-equal (q ++ (b ∷ [])) (p ++ (b ∷ [])) h)) ∙ same_self q)
    (λ h. ap (λ (r : Place). same_place (q ++ (b ∷ [])) (r ++ (b ∷ []))) (sym (same-equal q p h)) ∙ same_self (q ++ (b ∷ [])))

other-child : (q p : Place) → same_place (q ++ (left ∷ [])) (p ++ (right ∷ [])) ≡ false
other-child q p = is_false _ (λ h. sides-differ q p (same-equal (q ++ (left ∷ [])) (p ++ (right ∷ [])) h))

other-child' : (q p : Place) → same_place (q ++ (right ∷ [])) (p ++ (left ∷ [])) ≡ false
other-child' q p = is_false _ (λ h. sides-differ p q (sym (same-equal (q ++ (right ∷ [])) (p ++ (left ∷ [])) h)))

next_of : (q : Place) (k : Kind) (ns : List Refinement) → In (record { place = q; kind = k }) ns
    → position (q ++ (right ∷ [])) (children ns) ≡ suc (position (q ++ (left ∷ [])) (children ns))
unfolding position children
next_of q k [] i = elim i [ ]
next_of q k (n ∷ ns) i = by (same_place q n.place) refl i (next_of q k ns)
  where
    by : (b : Bool) → same_place q n.place ≡ b → In (record { place = q; kind = k }) (n ∷ ns)
        → (In (record { place = q; kind = k }) ns → position (q ++ (right ∷ [])) (children ns) ≡ suc (position (q ++ (left ∷ [])) (children ns)))
        → position (q ++ (right ∷ [])) (children (n ∷ ns)) ≡ suc (position (q ++ (left ∷ [])) (children (n ∷ ns)))
    by true e i ih = rw (same-child q n.place left ∙ e, other-child' q n.place, same-child q n.place right ∙ e, position)
    by false e (Memᴰ.head h) ih = absurd (true≢false (sym (same_self q) ∙ ap (λ (m : Refinement). same_place q m.place) h ∙ e))
    by false e (Memᴰ.tail h) ih =
        rw (same-child q n.place left ∙ e, other-child q n.place, other-child' q n.place, same-child q n.place right ∙ e, position)
        (ap (λ (m : ℕ). suc (suc m)) (ih h))

-- Among all places the right child follows the left.
pub right-next : (q : Place) (k : Kind) (ns : List Refinement) → In (record { place = q; kind = k }) ns
    → position (q ++ (right ∷ [])) (places ns) ≡ suc (position (q ++ (left ∷ [])) (places ns))
right-next q k ns i = position-child q right ns ∙ ap suc (next_of q k ns i) ∙ ap suc (sym (position-child q left ns))

-- ---- the place above

pub above-length : (c : Side) (q : Place) → length (above (c ∷ q)) ≡ length q
unfolding above
above-length c [] = refl
above-length c (d ∷ q) = ap suc (above-length d q)

-- What stands above a refined place was refined.
pub done-above : (c : Side) (q : Place) (s : DTree) (k : Kind) → kind_at (c ∷ q) s ≡ some k → (j : Kind) × (kind_at (above (c ∷ q)) s ≡ some j)
unfolding above kind_at
done-above c q leaf k h = absurd (none-ne-some _ h)
done-above c [] (inner j l r) k h = (j, refl)
done-above left (d ∷ q) (inner j l r) k h = done-above d q l k h
done-above right (d ∷ q) (inner j l r) k h = done-above d q r k h

pub has_above : (q : Place) (s : DTree) → has_at q s ≡ true → has_at (above q) s ≡ true
unfolding above has_at
has_above [] s h = refl
has_above (c ∷ []) s h = refl
has_above (c ∷ d ∷ q) leaf h = absurd (true≢false (sym h))
has_above (left ∷ d ∷ q) (inner j l r) h = has_above (d ∷ q) l h
has_above (right ∷ d ∷ q) (inner j l r) h = has_above (d ∷ q) r h

-- ---- on the path

pub path-self : (q : Place) → on_path q q ≡ true
unfolding on_path
path-self [] = refl
path-self (left ∷ q) = path-self q
path-self (right ∷ q) = path-self q

-- A child is not on the path to its parent.
pub path-child : (q : Place) (b : Side) → on_path (q ++ (b ∷ [])) q ≡ false
unfolding on_path
path-child [] b = refl
path-child (left ∷ q) b = path-child q b
path-child (right ∷ q) b = path-child q b

-- What is on the path to a place, but not to its parent, is the place.
pub path-above : (r : Place) (c : Side) (q : Place) → on_path r (c ∷ q) ≡ true → on_path r (above (c ∷ q)) ≡ false → r ≡ c ∷ q
unfolding on_path above
path-above [] c q h k = absurd (true≢false k)
path-above (left ∷ []) left [] h k = refl
path-above (right ∷ []) right [] h k = refl
path-above (left ∷ []) right [] h k = absurd (true≢false (sym h))
path-above (right ∷ []) left [] h k = absurd (true≢false (sym h))
path-above (left ∷ d ∷ r) left [] h k = absurd (true≢false (sym h))
path-above (left ∷ d ∷ r) right [] h k = absurd (true≢false (sym h))
path-above (right ∷ d ∷ r) left [] h k = absurd (true≢false (sym h))
path-above (right ∷ d ∷ r) right [] h k = absurd (true≢false (sym h))
path-above (left ∷ r) left (d ∷ q) h k = ap (λ (x : Place). left ∷ x) (path-above r d q h k)
path-above (left ∷ r) right (d ∷ q) h k = absurd (true≢false (sym h))
path-above (right ∷ r) left (d ∷ q) h k = absurd (true≢false (sym h))
path-above (right ∷ r) right (d ∷ q) h k = ap (λ (x : Place). right ∷ x) (path-above r d q h k)

-- ---- one place for each position

-- Two places with one record are one.
pub one_place : (ns : List Refinement) (q r : Place) → Held q (places ns) → Held r (places ns) → position q (places ns) ≡ position r (places ns) → q ≡ r
one_place ns q r h k e = sym (position-get ns q h) ∙ ap (λ (i : ℕ). get_or (places ns) i []) e ∙ position-get ns r k
