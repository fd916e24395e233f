-- The records of a layout, position by position: the record of each place, blanks behind them, as many in all as a tree has; and what they say of
-- one refinement of the series. Rests on Positions.antt and on the rules' Places.antt and Series.antt.
use mathlib.Core.Path.{◌≡◌, refl, sym, ap, ◌∙◌, subst}
use mathlib.Core.Bool.{true}
use mathlib.Core.List.Memᴰ
use mathlib.Core.List.{List, [], ◌∷◌, ◌++◌, map}
use mathlib.Core.Option.{some}
use Prim.Native.Nat.{ℕ, zero, suc, ◌+◌, ◌-◌, ◌<◌, ◌≤◌}
use native.Mathlib.Omega.{arith}
use lib.ListN.{length, get_or, replicate, length-append, length-map, length-replicate, get_or-append}
use lib.Seq.{get_or-append-add}
use Rattle.rules.specs.Table.{Table}
use Rattle.rules.specs.Tree.{Place, leaf, Refinement, tree, kind_at, acceptable, series_from, series}
use Rattle.rules.specs.declared.Kind.{Kind}
use Rattle.rules.specs.declared.Kind.TheVariants.{IndependentOr, IndependentAnd, Shannon}
use Rattle.rules.proofs.Booleans.{and_left}
use Rattle.rules.proofs.Places.{leaf-has}
use Rattle.rules.proofs.Members.{In}
use Rattle.rules.proofs.Series.{acceptable-leaf, series-inners, series-back, series-room, all_done}
use Rattle.records.specs.Records.{tree_records, blank, children, places, position, above, kind_code, fault_code, kind_of, record_at, records_of}
use Rattle.records.specs.declared.Node.{Node}
use Rattle.records.proofs.Positions.{Held, position-append, places-append, length_places, position-lt, position-get, has-held}

-- A series has no more places than a tree has records.
pub few-places : (t : Table) (ns : List Refinement) → series t ns ≡ true → length (places ns) ≤ tree_records
few-places t ns h = omega (arith, length_places ns, series-inners t ns h, series-room t ns h)

-- There are as many records as a tree has.
pub records-long : (t : Table) (ns : List Refinement) → series t ns ≡ true → length (records_of t ns) ≡ tree_records
unfolding records_of
records-long t ns h =
    omega (
      arith,
      few-places t ns h,
      length-append (map (record_at t ns) (places ns)) (replicate (tree_records - length (places ns)) blank),
      length-map (places ns) (record_at t ns),
      length-replicate (tree_records - length (places ns)) blank,
    )

get-map {ℓ κ} : {A : Type ℓ} {B : Type κ} (f : A → B) (l : List A) (i : ℕ) (a : A) (b : B) → i < length l → get_or (map f l) i b ≡ f (get_or l i a)
get-map f [] i a b h = absurd (omega arith)
get-map f (x ∷ l) zero a b h = refl
get-map f (x ∷ l) (suc i) a b h = get-map f l i a b (omega arith)

-- Each position in use holds the record of its place.
pub record_of : (t : Table) (ns : List Refinement) (i : ℕ) → i < length (places ns)
    → get_or (records_of t ns) i blank ≡ record_at t ns (get_or (places ns) i [])
unfolding records_of
record_of t ns i l =
    get_or-append (map (record_at t ns) (places ns)) (replicate (tree_records - length (places ns)) blank) blank i
    (rw (length-map (places ns) (record_at t ns)) l)
    ∙ get-map (record_at t ns) (places ns) i [] blank l

-- So the record at a place's position is that place's.
pub record-at : (t : Table) (ns : List Refinement) (p : Place) → Held p (places ns)
    → get_or (records_of t ns) (position p (places ns)) blank ≡ record_at t ns p
record-at t ns p h = record_of t ns (position p (places ns)) (position-lt ns p h) ∙ ap (record_at t ns) (position-get ns p h)

-- The others are blank.
pub record-rest : (t : Table) (ns : List Refinement) (i : ℕ) → length (places ns) ≤ i → get_or (records_of t ns) i blank ≡ blank
unfolding records_of
record-rest t ns i l =
    let e : i ≡ length (map (record_at t ns) (places ns)) + (i - length (places ns)) = omega (arith, length-map (places ns) (record_at t ns)) in
    ap (λ (k : ℕ). get_or (records_of t ns) k blank) e
    ∙ get_or-append-add (map (record_at t ns) (places ns)) (replicate (tree_records - length (places ns)) blank) (i - length (places ns)) blank
    ∙ all-blank (tree_records - length (places ns)) (i - length (places ns))
  where
    all-blank : (m j : ℕ) → get_or (replicate m blank) j blank ≡ blank
    all-blank zero j = refl
    all-blank (suc m) zero = refl
    all-blank (suc m) (suc j) = all-blank m j

-- A record tells what was done at its place.
pub kind-at : (t : Table) (ns : List Refinement) (q : Place) (k : Kind) → kind_at q (tree ns) ≡ some k → kind_of (record_at t ns q) ≡ k
unfolding record_at kind_code fault_code kind_of
kind-at t ns q k d = by k (record_at t ns q) (ap kind_code d) (ap fault_code d)
  where
    by : (k : Kind) (x : Node) → x.kind ≡ kind_code (some k) → x.fault ≡ fault_code (some k) → kind_of x ≡ k
    by IndependentOr x c f = rw c
    by IndependentAnd x c f = rw c
    by (Shannon g) x c f = rw (c, f)

-- A record's parent link.
pub parent_of : (t : Table) (ns : List Refinement) (q : Place) → (record_at t ns q).parent ≡ position (above q) (places ns)
unfolding record_at
parent_of t ns q = refl

-- ---- one refinement of a series, by those before it

module _ (t : Table) (ns before todo : List Refinement) (n : Refinement) (h : series t ns ≡ true) (e : ns ≡ before ++ n ∷ todo) where
  -- They leave it acceptable,
  pub next_fit : acceptable t (tree before) n ≡ true
  unfolding series_from
  next_fit = and_left (acceptable t (tree before) n) _ (series-back t before (n ∷ todo) leaf (rw e at h))

  -- so its place is one of theirs.
  pub next_held : Held n.place (places before)
  next_held = has-held before n.place (leaf-has n.place (tree before) (acceptable-leaf t (tree before) n next_fit))

  -- The places are theirs and those that it and the others add.
  split : places ns ≡ places before ++ children (n ∷ todo)
  split = ap places e ∙ places-append before (n ∷ todo)

  -- It has the position that it has among theirs,
  pub next_position : position n.place (places ns) ≡ position n.place (places before)
  next_position = ap (position n.place) split ∙ position-append n.place (places before) (children (n ∷ todo)) next_held

  -- and the record there says what was done.
  pub next_kind : kind_of (get_or (records_of t ns) (position n.place (places ns)) blank) ≡ n.kind
  next_kind =
      ap kind_of (record-at t ns n.place (subst (Held n.place) (sym split) (Memᴰ.append_left (children (n ∷ todo)) next_held)))
      ∙ kind-at t ns n.place n.kind (all_done t ns leaf h n (subst (In n) (sym e) (Memᴰ.append_right before (Memᴰ.head refl))))
