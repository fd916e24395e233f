-- 16 BY BUILDING AGAIN: refining anew what the records say was refined, and comparing, tells the good trees as the definition does.
-- Rests on Grown.antt, since each step is one refinement on the records, on InPlace.antt and Live.antt, and on the test by its definition
-- (Sixteen.antt).
use mathlib.Core.Path.{◌≡◌, refl, sym, ap, ap₂, ◌∙◌}
use mathlib.Core.Bool.{Bool, true, false, ◌&&◌, true≢false}
use mathlib.Core.List.{List, [], ◌∷◌, ◌++◌, append-nil, append_assoc}
use mathlib.Core.Option.{Option, none, some, none-ne-some, some-injective}
use Prim.Native.Nat.{ℕ, zero, suc, ◌+◌, ◌-◌, ◌*◌, ◌/◌, ◌<◌}
use native.Mathlib.Omega.{arith}
use lib.ListN.{length, get_or, length-append}
use lib.Seq.{get_or-append_seam}
use lib.Dec.{eqb, ltb}
use borrow.Author.Tests.{eqb-true, eq-eqb, ltb-true, lt-ltb}
use Rattle.rules.specs.Table.{Table}
use Rattle.rules.specs.Tree.{left, right, Place, leaf, possible, inners, Refinement, tree, roomy, acceptable, series_from, series}
use Rattle.rules.specs.Refusals.{Accepted}
use Rattle.rules.specs.declared.Kind.{Kind}
use Rattle.rules.proofs.Booleans.{and_left, and_right, and_both, same_test}
use Rattle.rules.proofs.Series.{series-append, series-front, series-inners}
use Rattle.records.specs.Records.{tree_records, blank, children, places, position, record_ways, record_at}
use Rattle.records.specs.Records.{records_of, layout, kind_of, tree_count, is_good, Good}
use Rattle.records.specs.Growing.{grown_at, may_at, rebuild, same_as, is_good_rebuilt}
use Rattle.records.specs.declared.Node.{Node}
use Rattle.records.specs.declared.Tree.{Tree}
use Rattle.records.proofs.Positions.{Held, above-child, held_at, position-of}
use Rattle.records.proofs.Positions.{places-append, length_places, position-lt, places-once}
use Rattle.records.proofs.InPlace.{record_of, record-at, parent_of, next_fit, next_held, next_position, next_kind}
use Rattle.records.proofs.Grown.{grows}
use Rattle.records.proofs.Live.{Holds, refined, unrefined, holds}
use Rattle.records.proofs.Sixteen.{same-nodes, nodes-self, good-sure, good-all}

-- There is room for two records more exactly if there is room for a refinement.
pub room-is : (t : Table) (ns : List Refinement) → series t ns ≡ true → ltb (length (places ns)) tree_records ≡ roomy (tree ns)
room-is t ns h =
    let k = length_places ns in
    let m = series-inners t ns h in
    same_test _ _ (λ e. lt-ltb (inners (tree ns)) 255 (omega (arith, k, m, ltb-true (length (places ns)) tree_records e)))
    (λ e. lt-ltb (length (places ns)) tree_records (omega (arith, k, m, ltb-true (inners (tree ns)) 255 e)))

-- THE RECORDS TELL whether a refinement is acceptable.
pub may_is : (t : Table) (ns : List Refinement) → series t ns ≡ true → (p : Place) (k : Kind) → Held p (places ns)
    → may_at t (records_of t ns) (length (places ns)) (position p (places ns)) k ≡ acceptable t (tree ns) (record { place = p; kind = k })
unfolding may_at acceptable
may_is t ns h p k i =
    ap (λ (x : Node). eqb x.live 1 && (ltb (length (places ns)) tree_records && possible k (record_ways t x))) (record-at t ns p i) ∙ by (holds t ns h p i)
  where
    by : Holds t ns p
        → eqb (record_at t ns p).live 1 && (ltb (length (places ns)) tree_records && possible k (record_ways t (record_at t ns p)))
        ≡ acceptable t (tree ns) (record { place = p; kind = k })
    by (refined dead none-there) = rw (dead, none-there, acceptable)
    by (unrefined us there live ways_are wide) = rw (live, ways_are, room-is t ns h, there, acceptable)

-- One refinement adds two records.
two_more : (ns : List Refinement) (n : Refinement) → suc (suc (length (places ns))) ≡ length (places (ns ++ (n ∷ [])))
two_more ns n = omega (arith, length_places ns, length_places (ns ++ (n ∷ [])), length-append ns (n ∷ []))

module _ (t : Table) (ok : Accepted t) where
  -- ---- a layout is built again

  -- With the first refinements made, those that the records of the series tell make the rest.
  again : (ns : List Refinement) → series t ns ≡ true → (before todo : List Refinement) → ns ≡ before ++ todo
      → rebuild t (length todo) (records_of t ns) (records_of t before) (length (places before)) ≡ some (records_of t ns)
  unfolding rebuild series_from children
  again ns h before [] e = ap (λ (x : List Refinement). some (records_of t x)) (sym (append-nil before) ∙ sym e)
  again ns h before (n ∷ todo) e =
      rw (ap₂ (λ (i : ℕ) (k : Kind). ltb i used && may_at t (records_of t before) used i k) j-is kind_is ∙ goes_on, rebuild)
      (ap₂ (λ (i : ℕ) (k : Kind). rebuild t (length todo) (records_of t ns) (grown_at t (records_of t before) used i k) (suc (suc used))) j-is kind_is
      ∙ ap₂ (rebuild t (length todo) (records_of t ns)) (grows t ok before front n (next_fit t ns before todo n h e)) (two_more before n)
      ∙ again ns h (before ++ (n ∷ [])) todo (e ∙ sym (append_assoc before (n ∷ []) todo)))
    where
      used : ℕ
      used = length (places before)

      j : ℕ
      j = (get_or (records_of t ns) used blank).parent

      front : series t before ≡ true
      front = series-front t before (n ∷ todo) leaf (rw e at h)

      first : get_or (places ns) used [] ≡ n.place ++ (left ∷ [])
      first =
          ap (λ (ps : List Place). get_or ps used []) (ap places e ∙ places-append before (n ∷ todo))
          ∙ get_or-append_seam (places before) (n.place ++ (left ∷ [])) ((n.place ++ (right ∷ [])) ∷ children todo) []

      inside : used < length (places ns)
      inside = omega (arith, length_places ns, length_places before, ap length e, length-append before (n ∷ todo))

      j-there : j ≡ position n.place (places ns)
      j-there =
          ap (λ (x : Node). x.parent) (record_of t ns used inside ∙ ap (record_at t ns) first) ∙ parent_of t ns (n.place ++ (left ∷ []))
          ∙ ap (λ (q : Place). position q (places ns)) (above-child n.place left)

      j-is : j ≡ position n.place (places before)
      j-is = j-there ∙ next_position t ns before todo n h e

      kind_is : kind_of (get_or (records_of t ns) j blank) ≡ n.kind
      kind_is = ap (λ (i : ℕ). kind_of (get_or (records_of t ns) i blank)) j-there ∙ next_kind t ns before todo n h e

      goes_on : ltb (position n.place (places before)) used && may_at t (records_of t before) used (position n.place (places before)) n.kind ≡ true
      goes_on =
          and_both (ltb (position n.place (places before)) used) _
          (lt-ltb (position n.place (places before)) used (position-lt before n.place (next_held t ns before todo n h e)))
          (may_is t before front n.place n.kind (next_held t ns before todo n h e) ∙ next_fit t ns before todo n h e)

  -- ---- whatever is built again is a layout

  -- One refinement more on the records of a series, which the records say can be made.
  record Next (before : List Refinement) (j : ℕ) (k : Kind) : Type 0 where
    fits : acceptable t (tree before) (record { place = get_or (places before) j []; kind = k }) ≡ true
    grown : grown_at t (records_of t before) (length (places before)) j k
        ≡ records_of t (before ++ (record { place = get_or (places before) j []; kind = k } ∷ []))

  next : (before : List Refinement) → series t before ≡ true → (j : ℕ) (k : Kind)
      → ltb j (length (places before)) && may_at t (records_of t before) (length (places before)) j k ≡ true → Next before j k
  next before h j k q = record { fits = fit; grown = ap (λ (i : ℕ). grown_at t (records_of t before) used i k) (sym there) ∙ grows t ok before h n fit }
    where
      used : ℕ
      used = length (places before)

      n : Refinement
      n = record { place = get_or (places before) j []; kind = k }

      inside : j < used
      inside = ltb-true j used (and_left (ltb j used) _ q)

      there : position n.place (places before) ≡ j
      there = position-of (places before) j (places-once t before h) inside

      fit : acceptable t (tree before) n ≡ true
      fit =
          sym (may_is t before h n.place k (held_at (places before) j inside)) ∙ ap (λ (i : ℕ). may_at t (records_of t before) used i k) there
          ∙ and_right (ltb j used) _ q

  -- So it makes a good tree of a good tree.
  pub good_next : (x : Tree) → Good t x → (j : ℕ) (k : Kind) → ltb j x.used && may_at t x.nodes x.used j k ≡ true
      → (y : Tree) → y.nodes ≡ grown_at t x.nodes x.used j k → y.used ≡ x.used + 2 → Good t y
  unfolding layout series_from
  good_next x g j k q y e u =
      record { made = ms; accepted = longer; is = λ i. record { nodes = nodes_are i; used = used_is i } }
    where
      ns : List Refinement
      ns = g.made

      s : Next ns j k
      s = next ns g.accepted j k (ap (λ (z : Tree). ltb j z.used && may_at t z.nodes z.used j k) (sym g.is) ∙ q)

      n : Refinement
      n = record { place = get_or (places ns) j []; kind = k }

      ms : List Refinement
      ms = ns ++ (n ∷ [])

      longer : series t ms ≡ true
      longer = series-append t ns (n ∷ []) leaf g.accepted (and_both (acceptable t (tree ns) n) _ s.fits refl)

      nodes_are : y.nodes ≡ records_of t ms
      nodes_are = e ∙ ap (λ (z : Tree). grown_at t z.nodes z.used j k) g.is ∙ s.grown

      used_is : y.used ≡ length (places ms)
      used_is = omega (arith, u, ap (λ (z : Tree). z.used) g.is, two_more ns n)

  -- The records of a series of so many refinements.
  record Built (xs : List Node) (size : ℕ) : Type 0 where
    made : List Refinement
    accepted : series t made ≡ true
    is : xs ≡ records_of t made
    many : length made ≡ size

  -- So are the records that come out, whatever the records that were read.
  built : (m : ℕ) (all : List Node) (before : List Refinement) → series t before ≡ true → (xs : List Node)
      → rebuild t m all (records_of t before) (length (places before)) ≡ some xs → Built xs (length before + m)
  unfolding rebuild series_from
  built zero all before h xs e =
      record { made = before; accepted = h; is = sym (some-injective (records_of t before) xs e); many = omega arith }
  built (suc m) all before h xs e =
      by (ltb j used && may_at t (records_of t before) used j k) refl e
      (λ fit r. built m all (before ++ (n ∷ [])) (series-append t before (n ∷ []) leaf h (and_both (acceptable t (tree before) n) _ fit refl)) xs r)
    where
      used : ℕ
      used = length (places before)

      j : ℕ
      j = (get_or all used blank).parent

      k : Kind
      k = kind_of (get_or all j blank)

      n : Refinement
      n = record { place = get_or (places before) j []; kind = k }

      longer : Built xs (length (before ++ (n ∷ [])) + m) → Built xs (length before + suc m)
      longer b = record { made = b.made; accepted = b.accepted; is = b.is; many = omega (arith, b.many, length-append before (n ∷ [])) }

      by : (b : Bool) → ltb j used && may_at t (records_of t before) used j k ≡ b
          → (elim b as (λ b. Option (List Node)) [ true ↦ rebuild t m all (grown_at t (records_of t before) used j k) (suc (suc used)) | false ↦ none ])
          ≡ some xs
          → (acceptable t (tree before) n ≡ true → rebuild t m all (records_of t (before ++ (n ∷ []))) (length (places (before ++ (n ∷ [])))) ≡ some xs
          → Built xs (length (before ++ (n ∷ [])) + m)) → Built xs (length before + suc m)
      by false q e ih = absurd (none-ne-some _ e)
      by true q e ih = longer (ih s.fits (sym (ap₂ (rebuild t m all) s.grown (two_more before n)) ∙ e))
        where
          s : Next before j k
          s = next before h j k q

  -- ---- both directions

  -- A tree that passes is good.
  rebuilt_sure : (x : Tree) → is_good_rebuilt t x ≡ true → Good t x
  unfolding is_good_rebuilt same_as layout series_from places children
  rebuilt_sure x h = by (rebuild t (tree_count x) x.nodes (records_of t []) 1) refl (and_right (eqb x.used (2 * tree_count x + 1)) _ h)
    where
      odd-used : x.used ≡ 2 * tree_count x + 1
      odd-used = eqb-true x.used (2 * tree_count x + 1) (and_left (eqb x.used (2 * tree_count x + 1)) _ h)

      by : (o : Option (List Node)) → rebuild t (tree_count x) x.nodes (records_of t []) 1 ≡ o → same_as x.nodes o ≡ true → Good t x
      by none e s = absurd (true≢false (sym s))
      by (some xs) e s =
          let b = built (tree_count x) x.nodes [] refl xs e in
          let y = same-nodes x.nodes xs s ∙ b.is in
          let z : x.used ≡ length (places b.made) = omega (arith, odd-used, b.many, length_places b.made) in
          record { made = b.made; accepted = b.accepted; is = λ i. record { nodes = y i; used = z i } }

  -- A good tree passes.
  rebuilt_all : (x : Tree) → Good t x → is_good_rebuilt t x ≡ true
  unfolding is_good_rebuilt same_as layout places children tree_count
  rebuilt_all x g = ap (is_good_rebuilt t) g.is ∙ of-layout g.made g.accepted
    where
      of-layout : (ns : List Refinement) → series t ns ≡ true → is_good_rebuilt t (layout t ns) ≡ true
      of-layout ns h =
          let l = length_places ns in
          let e : (length (places ns) - 1) / 2 ≡ length ns = omega (arith, l) in
          and_both (eqb (length (places ns)) (2 * ((length (places ns) - 1) / 2) + 1)) _
          (eq-eqb (length (places ns)) (2 * ((length (places ns) - 1) / 2) + 1) (omega (arith, l)))
          (ap (λ (m : ℕ). same_as (records_of t ns) (rebuild t m (records_of t ns) (records_of t []) 1)) e
          ∙ ap (same_as (records_of t ns)) (again ns h [] ns refl) ∙ nodes-self (records_of t ns))

  -- 16 BY BUILDING AGAIN is 16, for every tree.
  pub rebuilt_is : (x : Tree) → is_good_rebuilt t x ≡ is_good t x
  rebuilt_is x = same_test _ _ (λ h. good-all t x (rebuilt_sure x h)) (λ h. rebuilt_all x (good-sure t x h))
