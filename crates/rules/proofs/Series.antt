-- Series of acceptable refinements: what each found, that every inner node was open when it was refined, and that the tree depends on the
-- set of refinements alone, not on their order. Rests on Places.antt.
use mathlib.Core.Path.{◌≡◌, refl, sym, ap, ◌∙◌, subst}
use mathlib.Core.Bool.{Bool, true, false, ◌&&◌, true≢false}
use mathlib.Core.List.Memᴰ
use mathlib.Core.List.{List, [], ◌∷◌, ◌++◌}
use mathlib.Core.Option.{Option, none, some, some-injective, none-ne-some}
use mathlib.Core.Logic.{◌⊎◌, inl, inr}
use Prim.Native.Nat.{ℕ, ◌+◌, ◌≤◌, ◌<◌}
use native.Mathlib.Omega.{arith}
use lib.ListN.{length}
use borrow.Author.Tests.{ltb-true}
use Rattle.rules.proofs.Members.{In}
use Rattle.rules.specs.Table.{Way, Table}
use Rattle.rules.specs.Leaf.{is_open}
use Rattle.rules.specs.Tree.{root_ways, left, right, Place, DTree, leaf, inner, possible, child, refine_at, inners, Refinement}
use Rattle.rules.specs.Tree.{refine, grow, tree, leaf_at, kind_at, leaf_ways, roomy, acceptable, series_from, series}
use Rattle.rules.specs.declared.Kind.{Kind}
use Rattle.rules.proofs.Booleans.{and_left, and_right, and_both}
use Rattle.rules.proofs.Places.{tree-ext, leaf-undone, ways-leaf, refined-kind, refined-inners, done-stays, done-only}

-- ---- an acceptable refinement

-- What an acceptable refinement finds: an open leaf with these ways, room in the tree, and a kind that is possible there.
pub record Found (t : Table) (s : DTree) (n : Refinement) : Type 0 where
  pub found : List Way
  pub there : leaf_ways n.place (root_ways t) s ≡ some found
  pub opened : is_open t.weights found ≡ true
  pub room : inners s < 255
  pub fitting : possible n.kind found ≡ true

pub acceptable-found : (t : Table) (s : DTree) (n : Refinement) → acceptable t s n ≡ true → Found t s n
unfolding acceptable
acceptable-found t s n h = go (leaf_ways n.place (root_ways t) s) refl h
  where
    go : (o : Option (List Way)) → leaf_ways n.place (root_ways t) s ≡ o
        → (elim o as (λ o. Bool) [ none ↦ false | some vs ↦ is_open t.weights vs && (roomy s && possible n.kind vs) ]) ≡ true → Found t s n
    go none e h = absurd (true≢false (sym h))
    go (some vs) e h =
        let k = and_right (is_open t.weights vs) _ h in
        record {
          found = vs;
          there = e;
          opened = and_left (is_open t.weights vs) _ h;
          room = ltb-true (inners s) 255 (and_left (roomy s) _ k);
          fitting = and_right (roomy s) _ k;
        }

pub acceptable-leaf : (t : Table) (s : DTree) (n : Refinement) → acceptable t s n ≡ true → leaf_at n.place s ≡ true
acceptable-leaf t s n h = let k = acceptable-found t s n h in ways-leaf n.place (root_ways t) s k.found k.there

-- ---- series, cut and joined

pub grow-append : (ns ms : List Refinement) (s : DTree) → grow s (ns ++ ms) ≡ grow (grow s ns) ms
unfolding grow
grow-append [] ms s = refl
grow-append (n ∷ ns) ms s = grow-append ns ms (refine n s)

pub series-append : (t : Table) (ns ms : List Refinement) (s : DTree) → series_from t s ns ≡ true → series_from t (grow s ns) ms ≡ true
    → series_from t s (ns ++ ms) ≡ true
unfolding grow series_from
series-append t [] ms s h k = k
series-append t (n ∷ ns) ms s h k =
    and_both (acceptable t s n) _ (and_left (acceptable t s n) _ h) (series-append t ns ms (refine n s) (and_right (acceptable t s n) _ h) k)

pub series-front : (t : Table) (ns ms : List Refinement) (s : DTree) → series_from t s (ns ++ ms) ≡ true → series_from t s ns ≡ true
unfolding series_from
series-front t [] ms s h = refl
series-front t (n ∷ ns) ms s h =
    and_both (acceptable t s n) _ (and_left (acceptable t s n) _ h) (series-front t ns ms (refine n s) (and_right (acceptable t s n) _ h))

pub series-back : (t : Table) (ns ms : List Refinement) (s : DTree) → series_from t s (ns ++ ms) ≡ true → series_from t (grow s ns) ms ≡ true
unfolding series_from grow
series-back t [] ms s h = h
series-back t (n ∷ ns) ms s h = series-back t ns ms (refine n s) (and_right (acceptable t s n) _ h)

-- ---- every inner node was open, and what was done there could be done

unfoldable pub Sound : List ℕ → List Way → DTree → Type 0
Sound ws vs leaf = Unit {0}
Sound ws vs (inner k l r) = (is_open ws vs ≡ true) × (possible k vs ≡ true) × Sound ws (child k left vs) l × Sound ws (child k right vs) r

sound-refine : (ws : List ℕ) (p : Place) (k : Kind) (vs : List Way) (s : DTree) (us : List Way) → Sound ws vs s → leaf_ways p vs s ≡ some us
    → is_open ws us ≡ true → possible k us ≡ true → Sound ws vs (refine_at p k s)
unfolding Sound leaf_ways refine_at
sound-refine ws [] k vs leaf us h e o f =
    let q = sym (some-injective vs us e) in
    (subst (λ (x : List Way). is_open ws x ≡ true) q o, subst (λ (x : List Way). possible k x ≡ true) q f, tt, tt)
sound-refine ws [] k vs (inner j l r) us h e o f = absurd (none-ne-some _ e)
sound-refine ws (b ∷ p) k vs leaf us h e o f = absurd (none-ne-some _ e)
sound-refine ws (left ∷ p) k vs (inner j l r) us h e o f = (h.0, h.1, sound-refine ws p k (child j left vs) l us h.2 e o f, h.3)
sound-refine ws (right ∷ p) k vs (inner j l r) us h e o f = (h.0, h.1, h.2, sound-refine ws p k (child j right vs) r us h.3 e o f)

sound-grow : (t : Table) (ns : List Refinement) (s : DTree) → Sound t.weights (root_ways t) s → series_from t s ns ≡ true
    → Sound t.weights (root_ways t) (grow s ns)
unfolding series_from grow
sound-grow t [] s k h = k
sound-grow t (n ∷ ns) s k h =
    let f = acceptable-found t s n (and_left (acceptable t s n) _ h) in
    sound-grow t ns (refine n s) (sound-refine t.weights n.place n.kind (root_ways t) s f.found k f.there f.opened f.fitting)
    (and_right (acceptable t s n) _ h)

-- The tree of a series is sound.
pub series-sound : (t : Table) (ns : List Refinement) → series t ns ≡ true → Sound t.weights (root_ways t) (tree ns)
unfolding Sound
series-sound t ns h = sound-grow t ns leaf tt h

-- ---- every refinement of a series is done, and nothing else

stays-done : (ns : List Refinement) (s : DTree) (q : Place) (k : Kind) → kind_at q s ≡ some k → kind_at q (grow s ns) ≡ some k
unfolding grow
stays-done [] s q k h = h
stays-done (n ∷ ns) s q k h = stays-done ns (refine n s) q k (done-stays q n.place n.kind k s h)

pub all_done : (t : Table) (ns : List Refinement) (s : DTree) → series_from t s ns ≡ true → (n : Refinement) → In n ns
    → kind_at n.place (grow s ns) ≡ some n.kind
unfolding series_from grow
all_done t [] s h n x'' = elim x'' [ ]
all_done t (m ∷ ns) s h n (Memᴰ.head e) =
    rw e (stays-done ns (refine m s) m.place m.kind (refined-kind m.place m.kind s (acceptable-leaf t s m (and_left (acceptable t s m) _ h))))
all_done t (m ∷ ns) s h n (Memᴰ.tail i) = all_done t ns (refine m s) (and_right (acceptable t s m) _ h) n i

grown-only : (ns : List Refinement) (s : DTree) (q : Place) (k : Kind) → kind_at q (grow s ns) ≡ some k
    → (kind_at q s ≡ some k) ⊎ In (record { place = q; kind = k }) ns
unfolding grow
grown-only [] s q k h = inl h
grown-only (n ∷ ns) s q k h = go (grown-only ns (refine n s) q k h)
  where
    on : (kind_at q s ≡ some k) ⊎ ((q ≡ n.place) × (k ≡ n.kind)) → (kind_at q s ≡ some k) ⊎ In (record { place = q; kind = k }) (n ∷ ns)
    on (inl e) = inl e
    on (inr e) = inr (Memᴰ.head (λ i. record { place = e.0 i; kind = e.1 i }))

    go : (kind_at q (refine n s) ≡ some k) ⊎ In (record { place = q; kind = k }) ns → (kind_at q s ≡ some k) ⊎ In (record { place = q; kind = k }) (n ∷ ns)
    go (inl e) = on (done-only q n.place n.kind k s e)
    go (inr i) = inr (Memᴰ.tail i)

nothing-done : (q : Place) (k : Kind) → kind_at q leaf ≡ some k → ⊥
unfolding kind_at
nothing-done [] k h = none-ne-some _ h
nothing-done (c ∷ q) k h = none-ne-some _ h

pub only-done : (ns : List Refinement) (q : Place) (k : Kind) → kind_at q (tree ns) ≡ some k → In (record { place = q; kind = k }) ns
only-done ns q k h = go (grown-only ns leaf q k h)
  where
    go : (kind_at q leaf ≡ some k) ⊎ In (record { place = q; kind = k }) ns → In (record { place = q; kind = k }) ns
    go (inl e) = absurd (nothing-done q k e)
    go (inr i) = i

-- ---- the same refinements, in any order

-- The same places refined, and the same thing done at each.
pub record Same (ns ns' : List Refinement) : Type 0 where
  pub there : (n : Refinement) → In n ns → In n ns'
  pub back : (n : Refinement) → In n ns' → In n ns

-- Two series of the same refinements grow one tree.
pub same-tree : (t : Table) (ns ns' : List Refinement) → series t ns ≡ true → series t ns' ≡ true → Same ns ns' → tree ns ≡ tree ns'
same-tree t ns ns' h h' e = tree-ext (tree ns) (tree ns') (λ p. at p (kind_at p (tree ns)) refl (kind_at p (tree ns')) refl)
  where
    carry : (ms ms' : List Refinement) → series t ms' ≡ true → ((n : Refinement) → In n ms → In n ms') → (p : Place) (k : Kind)
        → kind_at p (tree ms) ≡ some k → kind_at p (tree ms') ≡ some k
    carry ms ms' g f p k d = all_done t ms' leaf g (record { place = p; kind = k }) (f _ (only-done ms p k d))

    at : (p : Place) (x : Option Kind) → kind_at p (tree ns) ≡ x → (y : Option Kind) → kind_at p (tree ns') ≡ y → kind_at p (tree ns) ≡ kind_at p (tree ns')
    at p (some k) d y d' = d ∙ sym (carry ns ns' h' e.there p k d)
    at p none d (some k) d' = carry ns' ns h e.back p k d' ∙ sym d'
    at p none d none d' = d ∙ sym d'

-- ---- counting

-- The number of inner nodes after a series less the number before is the number of its refinements.
pub grown-inners : (t : Table) (ns : List Refinement) (s : DTree) → series_from t s ns ≡ true → inners (grow s ns) ≡ inners s + length ns
unfolding series_from grow
grown-inners t [] s h = omega arith
grown-inners t (n ∷ ns) s h =
    omega (
      arith,
      grown-inners t ns (refine n s) (and_right (acceptable t s n) _ h),
      refined-inners n.place n.kind s (acceptable-leaf t s n (and_left (acceptable t s n) _ h)),
    )

-- Refinements in a tree are its inner nodes.
pub series-inners : (t : Table) (ns : List Refinement) → series t ns ≡ true → inners (tree ns) ≡ length ns
unfolding inners
series-inners t ns h = go (grown-inners t ns leaf h)
  where
    go : inners (tree ns) ≡ 0 + length ns → inners (tree ns) ≡ length ns
    go e = omega arith

-- At most 255 refinements.
grown-room : (t : Table) (ns : List Refinement) (s : DTree) → inners s ≤ 255 → series_from t s ns ≡ true → inners (grow s ns) ≤ 255
unfolding series_from grow
grown-room t [] s l h = l
grown-room t (n ∷ ns) s l h =
    let f = acceptable-found t s n (and_left (acceptable t s n) _ h) in
    let e = refined-inners n.place n.kind s (acceptable-leaf t s n (and_left (acceptable t s n) _ h)) in
    grown-room t ns (refine n s) (omega (arith, f.room, e)) (and_right (acceptable t s n) _ h)

pub series-room : (t : Table) (ns : List Refinement) → series t ns ≡ true → inners (tree ns) ≤ 255
unfolding inners
series-room t ns h = grown-room t ns leaf (omega arith) h

-- No place is refined twice: so the length of a series is the number of its places.
pub places-differ : (t : Table) (ns a b : List Refinement) (n m : Refinement) → series t ns ≡ true → ns ≡ a ++ n ∷ b → In m a → m.place ≡ n.place → ⊥
unfolding series_from
places-differ t ns a b n m h e i q =
    let k = ap (series t) (sym e) ∙ h in
    let l = acceptable-leaf t (tree a) n (and_left (acceptable t (tree a) n) _ (series-back t a (n ∷ b) leaf k)) in
    let d = all_done t a leaf (series-front t a (n ∷ b) leaf k) m i in
    none-ne-some _ (sym (leaf-undone n.place (tree a) l) ∙ ap (λ (p : Place). kind_at p (tree a)) (sym q) ∙ d)
