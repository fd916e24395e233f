-- ONE REFINEMENT ON THE RECORDS: refining a leaf's record, adding two and joining the intervals up to the root gives the records of the longer series.
-- What one refinement changes in a tree is in the rules' Places.antt. Rests on Words.antt, for the two new leaves, and on Raised.antt.
use mathlib.Core.Path.{◌≡◌, refl, sym, ap, ◌∙◌, subst}
use mathlib.Core.Bool.{true, false, true≢false}
use mathlib.Core.List.Memᴰ
use mathlib.Core.List.{List, [], ◌∷◌, ◌++◌}
use mathlib.Core.Option.{Option, none, some}
use mathlib.Core.Logic.{◌⊎◌, inl, inr}
use Prim.Native.Nat.{ℕ, suc, ◌<◌, ◌≤◌}
use native.Mathlib.Omega.{arith}
use native.Mathlib.Decide.{ℕ_discrete}
use lib.ListN.{length, get_or, set, length-append, length-set}
use lib.Seq.{get_or-set_same, get_or-set_other, get_or-append_seam}
use Rattle.rules.specs.Table.{Table}
use Rattle.rules.specs.Tree.{Side, left, right, Place, DTree, leaf, refine_at, Refinement, grow, tree, has_at}
use Rattle.rules.specs.Tree.{leaf_at, on_path, kind_at, Subtree, child_node, root, subtree, acceptable, series_from, series}
use Rattle.rules.specs.Tree.{Node as Spot}
use Rattle.rules.specs.Refusals.{Accepted}
use Rattle.rules.specs.declared.Kind.{Kind}
use Rattle.rules.proofs.Booleans.{and_both}
use Rattle.rules.proofs.Places.{leaf-has, has-child, has-subtree, subtree-new, off-path, node_only, node_stays, refined-kind, done-elsewhere, new-undone}
use Rattle.rules.proofs.Series.{acceptable-leaf, grow-append, series-append, only-done}
use Rattle.rules.proofs.Levels.{refined-above}
use Rattle.records.specs.Records.{tree_records, blank, children, places, position, above, live_code}
use Rattle.records.specs.Records.{left_code, record_from, subtree_or, record_at, records_of, record_ways}
use Rattle.records.specs.Growing.{raise, refined_record, fresh_record, spot_of, refined_at, grown_at}
use Rattle.records.specs.declared.Node.{Node}
use Rattle.records.proofs.Positions.{Held, above-child, position-append, position-of, places-append, position-lt, has-held}
use Rattle.records.proofs.Positions.{held-has, places-once, right-next, has_above, path-self, one_place}
use Rattle.records.proofs.InPlace.{few-places, records-long, record-at, record-rest}
use Rattle.records.proofs.Words.{record-ways}
use Rattle.records.proofs.Raised.{bare, Close, raised}

-- Three records replaced, at j and at the two from u on.
module _ (xs : List Node) (j u : ℕ) (x y z : Node) where
  abbrev three : List Node
  three = set (set (set xs j x) u y) (suc u) z

  three_long : length three ≡ length xs
  three_long = length-set (set (set xs j x) u y) (suc u) z ∙ length-set (set xs j x) u y ∙ length-set xs j x

  three_first : j < u → j < length xs → get_or three j blank ≡ x
  three_first k l =
      get_or-set_other (set (set xs j x) u y) (suc u) j z blank (λ e. omega arith) ∙ get_or-set_other (set xs j x) u j y blank (λ e. omega arith)
      ∙ get_or-set_same xs j x blank l

  three_second : u < length xs → get_or three u blank ≡ y
  three_second l =
      get_or-set_other (set (set xs j x) u y) (suc u) u z blank (λ e. omega arith) ∙ get_or-set_same (set xs j x) u y blank (rw (length-set xs j x) l)

  three_third : suc u < length xs → get_or three (suc u) blank ≡ z
  three_third l = get_or-set_same (set (set xs j x) u y) (suc u) z blank (rw (length-set (set xs j x) u y, length-set xs j x) l)

  three_else : (i : ℕ) → (i ≡ j → ⊥) → (i ≡ u → ⊥) → (i ≡ suc u → ⊥) → get_or three i blank ≡ get_or xs i blank
  three_else i a b c =
      get_or-set_other (set (set xs j x) u y) (suc u) i z blank c ∙ get_or-set_other (set xs j x) u i y blank b ∙ get_or-set_other xs j i x blank a

-- A node with nothing below it, or an empty one.
abbrev alone : Option Spot → Subtree
alone none = subtree_or none
alone (some x) = record { node = x; below = leaf }

-- What hangs below a place shows in its record's interval alone.
bare-alone : (t : Table) (o : Option Kind) (x : Option Subtree) (u l : ℕ)
    → bare (record_from t o (subtree_or x) u l) ≡ bare (record_from t o (alone (node_only x)) u l)
unfolding subtree_or
bare-alone t o none u l = refl
bare-alone t o (some x) u l = refl

-- ---- a series and one refinement more

module _ (t : Table) (ns : List Refinement) (whole : series t ns ≡ true) (n : Refinement) (fit : acceptable t (tree ns) n ≡ true) where
  abbrev ms : List Refinement
  ms = ns ++ (n ∷ [])

  abbrev p : Place
  p = n.place

  abbrev used : ℕ
  used = length (places ns)

  abbrev at_p : ℕ
  at_p = position p (places ns)

  -- The longer series, its tree and its places.
  whole' : series t ms ≡ true
  unfolding series_from
  whole' = series-append t ns (n ∷ []) leaf whole (and_both (acceptable t (tree ns) n) _ fit refl)

  tree' : tree ms ≡ refine_at p n.kind (tree ns)
  unfolding grow
  tree' = grow-append ns (n ∷ []) leaf

  places' : places ms ≡ places ns ++ ((p ++ (left ∷ [])) ∷ (p ++ (right ∷ [])) ∷ [])
  unfolding children
  places' = places-append ns (n ∷ [])

  used' : length (places ms) ≡ suc (suc used)
  used' = omega (arith, ap length places', length-append (places ns) ((p ++ (left ∷ [])) ∷ (p ++ (right ∷ [])) ∷ []))

  -- The refined place.
  a_leaf : leaf_at p (tree ns) ≡ true
  a_leaf = acceptable-leaf t (tree ns) n fit

  here : has_at p (tree ns) ≡ true
  here = leaf-has p (tree ns) a_leaf

  p_held : Held p (places ns)
  p_held = has-held ns p here

  p_lt : at_p < used
  p_lt = position-lt ns p p_held

  p_done : kind_at p (tree ms) ≡ some n.kind
  p_done = ap (kind_at p) tree' ∙ refined-kind p n.kind (tree ns) a_leaf

  -- What the old places keep.
  position_old : (r : Place) → Held r (places ns) → position r (places ms) ≡ position r (places ns)
  position_old r h = ap (position r) places' ∙ position-append r (places ns) _ h

  parent_old : (r : Place) → Held r (places ns) → position (above r) (places ms) ≡ position (above r) (places ns)
  parent_old r h = position_old (above r) (has-held ns (above r) (has_above r (tree ns) (held-has t ns whole r h)))

  kind_old : (r : Place) → (r ≡ p → ⊥) → kind_at r (tree ms) ≡ kind_at r (tree ns)
  kind_old r other = ap (kind_at r) tree' ∙ done-elsewhere r p n.kind (tree ns) other

  left_old : (r : Place) → (r ≡ p → ⊥) → left_code (kind_at r (tree ms)) r (places ms) ≡ left_code (kind_at r (tree ns)) r (places ns)
  unfolding left_code
  left_old r other = ap (λ (o : Option Kind). left_code o r (places ms)) (kind_old r other) ∙ by (kind_at r (tree ns)) refl
    where
      by : (o : Option Kind) → kind_at r (tree ns) ≡ o → left_code o r (places ms) ≡ left_code o r (places ns)
      by none d = refl
      by (some k) d = position_old (r ++ (left ∷ [])) (has-held ns (r ++ (left ∷ [])) (has-child r left k (tree ns) d))

  node_old : (r : Place) → Held r (places ns) → node_only (subtree t r (tree ms)) ≡ node_only (subtree t r (tree ns))
  unfolding subtree
  node_old r h = ap (λ (s : DTree). node_only (subtree t r s)) tree' ∙ node_stays r p n.kind (root t) (tree ns) (held-has t ns whole r h)

  -- Off the path a record stays as it was.
  kept : (r : Place) → Held r (places ns) → on_path r p ≡ false → (r ≡ p → ⊥) → record_at t ms r ≡ record_at t ns r
  unfolding record_at subtree
  kept r h off other =
      let d = kind_old r other in
      let x : subtree t r (tree ms) ≡ subtree t r (tree ns) =
      ap (subtree t r) tree' ∙ off-path r p n.kind (root t) (tree ns) off (held-has t ns whole r h) a_leaf in
      let u = parent_old r h in
      let l = left_old r other in
      λ i. record_from t (d i) (subtree_or (x i)) (u i) (l i)

  -- On the path all but the interval does.
  kept_bare : (r : Place) → Held r (places ns) → (r ≡ p → ⊥) → bare (record_at t ms r) ≡ bare (record_at t ns r)
  unfolding record_at
  kept_bare r h other =
      let d = kind_old r other in
      let x = node_old r h in
      let u = parent_old r h in
      let l = left_old r other in
      bare-alone t _ (subtree t r (tree ms)) _ _ ∙ (λ i. bare (record_from t (d i) (alone (x i)) (u i) (l i)))
      ∙ sym (bare-alone t _ (subtree t r (tree ns)) _ _)

  -- The two new places.
  left_new : position (p ++ (left ∷ [])) (places ms) ≡ used
  left_new =
      ap (λ (r : Place). position r (places ms)) (sym (ap (λ (ps : List Place). get_or ps used []) places' ∙ get_or-append_seam (places ns) _ _ []))
      ∙ position-of (places ms) used (places-once t ms whole') (omega (arith, used'))

  right_new : position (p ++ (right ∷ [])) (places ms) ≡ suc used
  right_new = right-next p n.kind ms (only-done ms p n.kind p_done) ∙ ap suc left_new

  -- The refined record, but for its interval.
  refined_bare : bare (record_at t ms p) ≡ bare (refined_record (record_at t ns p) n.kind used)
  unfolding record_at left_code live_code
  refined_bare =
      let d = p_done in
      let x = node_old p p_held in
      let u = parent_old p p_held in
      let l : left_code (kind_at p (tree ms)) p (places ms) ≡ used = ap (λ (o : Option Kind). left_code o p (places ms)) d ∙ left_new in
      bare-alone t _ (subtree t p (tree ms)) _ _ ∙ (λ i. bare (record_from t (d i) (alone (x i)) (u i) (l i)))
      ∙ sym (bare-alone t (some n.kind) (subtree t p (tree ns)) _ _)

  -- The records of the two new leaves are made from what the refined one tells.
  fresh_is : (b : Side) → fresh_record t (child_node n.kind b (spot_of t (record_at t ns p))) at_p ≡ record_at t ms (p ++ (b ∷ []))
  unfolding record_at subtree subtree_or left_code
  fresh_is b =
      (λ i. fresh_record t (child_node n.kind b
      (record { set = []; present = (told i).node.present; absent = (told i).node.absent; out = (told i).node.out; ways = ways-told i }))
      at_p)
      ∙ sym (λ i. record_from t (undone i) (subtree_or (stands i)) (up-link i) (down-link i))
    where
      q : Place
      q = p ++ (b ∷ [])

      found : (x : Subtree) × (subtree t p (tree ns) ≡ some x)
      found = has-subtree p (root t) (tree ns) here

      told : subtree_or (subtree t p (tree ns)) ≡ found.0
      told = ap subtree_or found.1

      ways-told : record_ways t (record_at t ns p) ≡ found.0.node.ways
      ways-told = record-ways t ns whole p found.0 found.1

      undone : kind_at q (tree ms) ≡ none
      undone = ap (kind_at q) tree' ∙ new-undone p b n.kind (tree ns) a_leaf

      stands : subtree t q (tree ms) ≡ some (record { node = child_node n.kind b found.0.node; below = leaf })
      stands = ap (subtree t q) tree' ∙ subtree-new p b n.kind (root t) (tree ns) found.0 a_leaf found.1

      up-link : position (above q) (places ms) ≡ at_p
      up-link = ap (λ (r : Place). position r (places ms)) (above-child p b) ∙ position_old p p_held

      down-link : left_code (kind_at q (tree ms)) q (places ms) ≡ 0
      down-link = ap (λ (o : Option Kind). left_code o q (places ms)) undone

  -- ---- the leaf's record refined and two added

  abbrev start : List Node
  start = refined_at t (records_of t ns) used at_p n.kind

  abbrev p-record : Node
  p-record = refined_record (get_or (records_of t ns) at_p blank) n.kind used

  abbrev new-record : Side → Node
  new-record b = fresh_record t (child_node n.kind b (spot_of t (get_or (records_of t ns) at_p blank))) at_p

  room : suc used < length (records_of t ns)
  room = omega (arith, few-places t ms whole', used', records-long t ns whole)

  new_is : (b : Side) → new-record b ≡ record_at t ms (p ++ (b ∷ []))
  new_is b = ap (λ (x : Node). fresh_record t (child_node n.kind b (spot_of t x)) at_p) (record-at t ns p p_held) ∙ fresh_is b

  start_long : length start ≡ tree_records
  unfolding refined_at
  start_long = three_long (records_of t ns) at_p used p-record (new-record left) (new-record right) ∙ records-long t ns whole

  start_here : get_or start at_p blank ≡ refined_record (record_at t ns p) n.kind used
  unfolding refined_at
  start_here =
      three_first (records_of t ns) at_p used p-record (new-record left) (new-record right) p_lt (omega (arith, p_lt, room))
      ∙ ap (λ (x : Node). refined_record x n.kind used) (record-at t ns p p_held)

  start_left : get_or start used blank ≡ record_at t ms (p ++ (left ∷ []))
  unfolding refined_at
  start_left = three_second (records_of t ns) at_p used p-record (new-record left) (new-record right) (omega (arith, room)) ∙ new_is left

  start_right : get_or start (suc used) blank ≡ record_at t ms (p ++ (right ∷ []))
  unfolding refined_at
  start_right = three_third (records_of t ns) at_p used p-record (new-record left) (new-record right) room ∙ new_is right

  start_else : (i : ℕ) → (i ≡ at_p → ⊥) → (i ≡ used → ⊥) → (i ≡ suc used → ⊥) → get_or start i blank ≡ get_or (records_of t ns) i blank
  unfolding refined_at
  start_else i a b c = three_else (records_of t ns) at_p used p-record (new-record left) (new-record right) i a b c

  -- What raising asks of each place's record.
  record Fits (r : Place) : Type 0 where
    exact : on_path r p ≡ false → get_or start (position r (places ms)) blank ≡ record_at t ms r
    bared : bare (get_or start (position r (places ms)) blank) ≡ bare (record_at t ms r)

  fits : (r : Place) → Held r (places ms) → Fits r
  fits r h = by (Memᴰ.append_cases (places ns) (subst (Held r) places' h))
    where
      wholly : (r : Place) → get_or start (position r (places ms)) blank ≡ record_at t ms r → Fits r
      wholly r e = record { exact = λ off. e; bared = ap bare e }

      new : (b : Side) → Fits (p ++ (b ∷ []))
      new left = wholly (p ++ (left ∷ [])) (ap (λ (i : ℕ). get_or start i blank) left_new ∙ start_left)
      new right = wholly (p ++ (right ∷ [])) (ap (λ (i : ℕ). get_or start i blank) right_new ∙ start_right)

      refined : Fits p
      refined =
          record {
            exact = λ off. absurd (true≢false (sym (path-self p) ∙ off));
            bared = ap bare (ap (λ (i : ℕ). get_or start i blank) (position_old p p_held) ∙ start_here) ∙ sym refined_bare;
          }

      untouched : Held r (places ns) → (position r (places ns) ≡ at_p → ⊥) → get_or start (position r (places ms)) blank ≡ record_at t ns r
      untouched i apart =
          let l = position-lt ns r i in
          ap (λ (m : ℕ). get_or start m blank) (position_old r i)
          ∙ start_else (position r (places ns)) apart (λ e. omega arith) (λ e. omega arith) ∙ record-at t ns r i

      old : Held r (places ns) → Dec (position r (places ns) ≡ at_p) → Fits r
      old i (yes e) = subst Fits (sym (one_place ns r p i p_held e)) refined
      old i (no apart) =
          let other : r ≡ p → ⊥ = λ e. apart (ap (λ (q : Place). position q (places ns)) e) in
          record { exact = λ off. untouched i apart ∙ sym (kept r i off other); bared = ap bare (untouched i apart) ∙ sym (kept_bare r i other) }

      added : (r ≡ p ++ (left ∷ [])) ⊎ Held r ((p ++ (right ∷ [])) ∷ []) → Fits r
      added (inl e) = subst Fits (sym e) (new left)
      added (inr i) = subst Fits (sym (Memᴰ.eq_of_singleton i)) (new right)

      by : Held r (places ns) ⊎ Held r ((p ++ (left ∷ [])) ∷ (p ++ (right ∷ [])) ∷ []) → Fits r
      by (inl i) = old i (ℕ_discrete (position r (places ns)) at_p)
      by (inr i) = added (Memᴰ.cases_cons i)

  -- These records are right but for the intervals on the path.
  start_close : Close t ms whole' p start
  start_close = record { long = start_long; exact = λ r h. (fits r h).exact; bared = λ r h. (fits r h).bared; rest = behind }
    where
      behind : (i : ℕ) → length (places ms) ≤ i → get_or start i blank ≡ blank
      behind i l =
          let k : suc (suc used) ≤ i = omega (arith, used') in
          let j = p_lt in
          start_else i (λ e. omega arith) (λ e. omega arith) (λ e. omega arith) ∙ record-rest t ns i (omega arith)

-- ONE REFINEMENT on the records of a series gives those of the series with it.
pub grows : (t : Table) → Accepted t → (ns : List Refinement) → series t ns ≡ true → (n : Refinement) → acceptable t (tree ns) n ≡ true
    → grown_at t (records_of t ns) (length (places ns)) (position n.place (places ns)) n.kind ≡ records_of t (ns ++ (n ∷ []))
unfolding grown_at
grows t ok ns h n fit =
    ap (raise t.weights 64 (start t ns h n fit)) (sym (position_old t ns h n fit n.place (p_held t ns h n fit)))
    ∙ raised t (ns ++ (n ∷ [])) (whole' t ns h n fit) 64 n.place (start t ns h n fit) n.kind (start_close t ns h n fit) (p_done t ns h n fit)
    (refined-above t ok ns h n fit)
