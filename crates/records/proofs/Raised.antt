-- LOCAL AGREEMENT: an inner record's interval follows from its own as a leaf and from its children's records.
-- And RAISING: records that are right but for the intervals on one path become right when these are joined anew, from below up to the root.
-- Rests on Positions.antt and InPlace.antt.
use mathlib.Core.Path.{◌≡◌, refl, sym, ap, ap₂, ◌∙◌}
use mathlib.Core.Bool.{true, false}
use mathlib.Core.List.{List, [], ◌∷◌, ◌++◌}
use mathlib.Core.Option.{Option, some, none-ne-some, some-injective}
use mathlib.Core.Logic.{◌⊎◌, inl, inr}
use Prim.Native.Nat.{ℕ, zero, suc, ◌<◌, ◌≤◌}
use native.Mathlib.Omega.{arith}
use native.Mathlib.Decide.{dec_lt, ℕ_discrete}
use lib.ListN.{length, get_or, length-set}
use lib.Seq.{get_or-set_same, get_or-set_other, ext_get_or}
use borrow.Author.Tests.{ne_eqb}
use Rattle.rules.specs.declared.Direction.{Direction}
use Rattle.rules.specs.declared.Direction.TheVariants.{Down, Up}
use Rattle.rules.specs.Table.{Table}
use Rattle.rules.specs.declared.Way.{Way}
use Rattle.rules.specs.Leaf.{leaf_end}
use Rattle.rules.specs.Tree.{Side, left, right, Place, DTree, leaf, inner, child, combine, overlap, end}
use Rattle.rules.specs.Tree.{Refinement, tree, on_path, kind_at, Subtree, child_node, descend, root, subtree, series}
use Rattle.rules.specs.declared.Kind.{Kind}
use Rattle.rules.proofs.Booleans.{is_false}
use Rattle.rules.proofs.Places.{done-has, has-child, has-subtree, subtree-kind, subtree-child, branch}
use Rattle.rules.proofs.Series.{only-done}
use Rattle.records.specs.Records.{tree_records, blank, places, same_place, position, above, left_code, subtree_or, record_at, records_of, kind_of}
use Rattle.records.specs.Growing.{with_ends, joined, join_at, raise}
use Rattle.records.specs.declared.Node.{Node}
use Rattle.records.proofs.Positions.{Held, held_at, position-of, position-lt, has-held, places-once}
use Rattle.records.proofs.Positions.{right-next, above-length, done-above, path-child, path-above, one_place}
use Rattle.records.proofs.InPlace.{few-places, records-long, record_of, record-rest, kind-at, parent_of}

-- ---- local agreement

-- The end of an inner node is the overlap of its own with those of its two branches.
end-inner : (d : Direction) (ws : List ℕ) (vs : List Way) (s : DTree) (k : Kind) → kind_at [] s ≡ some k
    → end d ws vs s ≡ overlap d (leaf_end d ws vs) (combine k d ws (end d ws (child k left vs) (branch left s)) (end d ws (child k right vs) (branch right s)))
unfolding kind_at end
end-inner d ws vs leaf k e = absurd (none-ne-some _ e)
end-inner d ws vs (inner j l r) k e =
    ap (λ (i : Kind). overlap d (leaf_end d ws vs) (combine i d ws (end d ws (child i left vs) l) (end d ws (child i right vs) r)))
    (some-injective j k e)

-- LOCAL AGREEMENT: joining an inner record with its children's records changes nothing.
pub agrees : (t : Table) (ns : List Refinement) (q : Place) (k : Kind) → kind_at q (tree ns) ≡ some k
    → joined t.weights (record_at t ns q) (record_at t ns (q ++ (left ∷ []))) (record_at t ns (q ++ (right ∷ []))) ≡ record_at t ns q
unfolding joined record_at subtree_or subtree
agrees t ns q k d = λ i. with_ends (record_at t ns q) (ends Down i) (ends Up i)
  where
    there : Place → Subtree
    there p = subtree_or (subtree t p (tree ns))

    end_at : Direction → Subtree → ℕ
    end_at d x = end d t.weights x.node.ways x.below

    found : (x : Subtree) × (descend q (root t) (tree ns) ≡ some x)
    found = has-subtree q (root t) (tree ns) (done-has q k (tree ns) d)

    self : there q ≡ found.0
    self = ap subtree_or found.1

    side : (b : Side) → there (q ++ (b ∷ [])) ≡ record { node = child_node k b found.0.node; below = branch b found.0.below }
    side b = ap subtree_or (subtree-child q b k (root t) (tree ns) found.0 d found.1)

    ends : (d : Direction)
        → overlap d (leaf_end d t.weights (there q).node.ways)
        (combine (kind_of (record_at t ns q)) d t.weights (end_at d (there (q ++ (left ∷ [])))) (end_at d (there (q ++ (right ∷ [])))))
        ≡ end_at d (there q)
    ends e =
        (λ i. overlap e (leaf_end e t.weights (self i).node.ways)
        (combine (kind-at t ns q k d i) e t.weights (end_at e (side left i)) (end_at e (side right i))))
        ∙ sym (end-inner e t.weights found.0.node.ways found.0.below k (sym (subtree-kind q (root t) (tree ns) found.0 found.1) ∙ d))
        ∙ ap (end_at e) (sym self)

-- ---- raising: from intervals that are right off a path to all right

-- A record without its interval.
abbrev pub bare : Node → Node
bare x = with_ends x 0 0

-- The old interval does not count in a join.
joined-bare : (ws : List ℕ) (x l r : Node) → joined ws (bare x) l r ≡ joined ws x l r
unfolding joined kind_of
joined-bare ws x l r = refl

-- The root alone is in record 0.
root-first : (ns : List Refinement) → position [] (places ns) ≡ 0
unfolding position places same_place
root-first ns = refl

others-later : (b : Side) (q : Place) (ns : List Refinement) → position (b ∷ q) (places ns) ≡ 0 → ⊥
unfolding position places same_place
others-later b q ns e = omega arith

module _ (t : Table) (ns : List Refinement) (whole : series t ns ≡ true) where
  -- The records are those of the series, but for the intervals on the path to q.
  pub record Close (q : Place) (xs : List Node) : Type 0 where
    pub long : length xs ≡ tree_records
    pub exact : (r : Place) → Held r (places ns) → on_path r q ≡ false → get_or xs (position r (places ns)) blank ≡ record_at t ns r
    pub bared : (r : Place) → Held r (places ns) → bare (get_or xs (position r (places ns)) blank) ≡ bare (record_at t ns r)
    pub rest : (i : ℕ) → length (places ns) ≤ i → get_or xs i blank ≡ blank

  -- Joining the record at the end of the path.
  module _ (q : Place) (xs : List Node) (k : Kind) (c : Close q xs) (d : kind_at q (tree ns) ≡ some k) where
    abbrev at-q : ℕ
    at-q = position q (places ns)

    abbrev after : List Node
    after = join_at t.weights xs at-q

    held : Held q (places ns)
    held = has-held ns q (done-has q k (tree ns) d)

    -- What is joined is the right record.
    join_is : joined t.weights (get_or xs at-q blank) (get_or xs (get_or xs at-q blank).left blank) (get_or xs (suc (get_or xs at-q blank).left) blank)
        ≡ record_at t ns q
    unfolding record_at left_code
    join_is =
        ap₂ (joined t.weights x) (ap (λ (i : ℕ). get_or xs i blank) left_is ∙ child_is left) (ap (λ (i : ℕ). get_or xs i blank) right_is ∙ child_is right)
        ∙ sym (joined-bare t.weights x (child-record left) (child-record right))
        ∙ ap (λ (y : Node). joined t.weights y (child-record left) (child-record right)) (c.bared q held)
        ∙ joined-bare t.weights (record_at t ns q) (child-record left) (child-record right) ∙ agrees t ns q k d
      where
        x : Node
        x = get_or xs at-q blank

        child-record : Side → Node
        child-record b = record_at t ns (q ++ (b ∷ []))

        left_is : x.left ≡ position (q ++ (left ∷ [])) (places ns)
        left_is = ap (λ (y : Node). y.left) (c.bared q held) ∙ ap (λ (o : Option Kind). left_code o q (places ns)) d

        right_is : suc x.left ≡ position (q ++ (right ∷ [])) (places ns)
        right_is = ap suc left_is ∙ sym (right-next q k ns (only-done ns q k d))

        child_is : (b : Side) → get_or xs (position (q ++ (b ∷ [])) (places ns)) blank ≡ child-record b
        child_is b = c.exact (q ++ (b ∷ [])) (has-held ns (q ++ (b ∷ [])) (has-child q b k (tree ns) d)) (path-child q b)

    join-long : length after ≡ tree_records
    unfolding join_at
    join-long = length-set xs _ _ ∙ c.long

    join-here : get_or after at-q blank ≡ record_at t ns q
    unfolding join_at
    join-here = get_or-set_same xs at-q _ blank (omega (arith, c.long, position-lt ns q held, few-places t ns whole)) ∙ join_is

    join-else : (i : ℕ) → (i ≡ at-q → ⊥) → get_or after i blank ≡ get_or xs i blank
    unfolding join_at
    join-else i other = get_or-set_other xs at-q i _ blank other

    -- Another place's record is as it was.
    join-cases : (r : Place) → Held r (places ns)
        → (get_or after (position r (places ns)) blank ≡ record_at t ns r) ⊎
        ((r ≡ q → ⊥) × (get_or after (position r (places ns)) blank ≡ get_or xs (position r (places ns)) blank))
    join-cases r h = by (ℕ_discrete (position r (places ns)) at-q)
      where
        by : Dec (position r (places ns) ≡ at-q)
            → (get_or after (position r (places ns)) blank ≡ record_at t ns r) ⊎
            ((r ≡ q → ⊥) × (get_or after (position r (places ns)) blank ≡ get_or xs (position r (places ns)) blank))
        by (yes e) = inl (ap (λ (i : ℕ). get_or after i blank) e ∙ join-here ∙ ap (record_at t ns) (sym (one_place ns r q h held e)))
        by (no other) = inr (λ e. other (ap (λ (p : Place). position p (places ns)) e), join-else (position r (places ns)) other)

    join-exact : (r : Place) → Held r (places ns) → ((r ≡ q → ⊥) → on_path r q ≡ false) → get_or after (position r (places ns)) blank ≡ record_at t ns r
    join-exact r h off = elim (join-cases r h) [ inl e ↦ e | inr o ↦ o.1 ∙ c.exact r h (off o.0) ]

    join-bared : (r : Place) → Held r (places ns) → bare (get_or after (position r (places ns)) blank) ≡ bare (record_at t ns r)
    join-bared r h = elim (join-cases r h) [ inl e ↦ ap bare e | inr o ↦ ap bare o.1 ∙ c.bared r h ]

    join-rest : (i : ℕ) → length (places ns) ≤ i → get_or after i blank ≡ blank
    join-rest i l = join-else i (λ e. beyond (position-lt ns q held) e) ∙ c.rest i l
      where
        beyond : at-q < length (places ns) → i ≡ at-q → ⊥
        beyond h e = omega arith

  -- After it what is left to do lies above.
  step_up : (b : Side) (q : Place) (xs : List Node) (k : Kind) → Close (b ∷ q) xs → kind_at (b ∷ q) (tree ns) ≡ some k
      → Close (above (b ∷ q)) (join_at t.weights xs (position (b ∷ q) (places ns)))
  step_up b q xs k c d =
      record {
        long = join-long (b ∷ q) xs k c d;
        exact = λ r h off. join-exact (b ∷ q) xs k c d r h (λ other. is_false (on_path r (b ∷ q)) (λ on. other (path-above r b q on off)));
        bared = join-bared (b ∷ q) xs k c d;
        rest = join-rest (b ∷ q) xs k c d;
      }

  -- At the root nothing is.
  root_done : (xs : List Node) (k : Kind) → Close [] xs → kind_at [] (tree ns) ≡ some k → join_at t.weights xs (position [] (places ns)) ≡ records_of t ns
  unfolding on_path
  root_done xs k c d =
      ext_get_or blank (join_at t.weights xs (position [] (places ns))) (records_of t ns) (join-long [] xs k c d ∙ sym (records-long t ns whole))
      (λ i l. by i (dec_lt i (length (places ns))))
    where
      off : (r : Place) → (r ≡ [] → ⊥) → on_path r [] ≡ false
      off [] other = absurd (other refl)
      off (b ∷ r) other = refl

      behind : (i : ℕ) → (i < length (places ns) → ⊥) → length (places ns) ≤ i
      behind i l = omega arith

      by : (i : ℕ) → Dec (i < length (places ns)) → get_or (join_at t.weights xs (position [] (places ns))) i blank ≡ get_or (records_of t ns) i blank
      by i (yes l) =
          let r : Place = get_or (places ns) i [] in
          ap (λ (m : ℕ). get_or (join_at t.weights xs (position [] (places ns))) m blank) (sym (position-of (places ns) i (places-once t ns whole) l))
          ∙ join-exact [] xs k c d r (held_at (places ns) i l) (off r) ∙ sym (record_of t ns i l)
      by i (no l) = join-rest [] xs k c d i (behind i l) ∙ sym (record-rest t ns i (behind i l))

  -- RAISING: joining from the end of the path up to the root gives the records of the series.
  pub raised : (m : ℕ) (q : Place) (xs : List Node) (k : Kind) → Close q xs → kind_at q (tree ns) ≡ some k → length q < m
      → raise t.weights m xs (position q (places ns)) ≡ records_of t ns
  unfolding raise
  raised zero q xs k c d l = absurd (omega arith)
  raised (suc m) [] xs k c d l = rw (root-first ns, raise) (root_done xs k c d)
  raised (suc m) (b ∷ q) xs k c d l =
      let e = done-above b q (tree ns) k d in
      rw (ne_eqb (position (b ∷ q) (places ns)) 0 (others-later b q ns), raise)
      (ap (raise t.weights m ys) parent_is ∙ raised m (above (b ∷ q)) ys e.0 (step_up b q xs k c d) e.1 (omega (arith, above-length b q)))
    where
      ys : List Node
      ys = join_at t.weights xs (position (b ∷ q) (places ns))

      parent_is : (get_or xs (position (b ∷ q) (places ns)) blank).parent ≡ position (above (b ∷ q)) (places ns)
      parent_is = ap (λ (x : Node). x.parent) (c.bared (b ∷ q) (has-held ns (b ∷ q) (done-has (b ∷ q) k (tree ns) d))) ∙ parent_of t ns (b ∷ q)
