-- What a run has made so far, and each way on from there: it stops, it is spent, or it makes one refinement more.
-- Rests on `rules`, Runs, and on `records`, Grown.
use mathlib.Core.Path.{◌≡◌, refl, sym, ap, ◌∙◌}
use mathlib.Core.Bool.{true}
use mathlib.Core.List.{List, [], ◌∷◌, ◌++◌, append-nil, append_assoc}
use Prim.Native.Nat.{ℕ, zero, suc, ◌+◌, ◌<◌}
use native.Mathlib.Omega.{arith}
use lib.ListN.{length, get_or, length-append}
use Rattle.rules.specs.Table.{Table}
use Rattle.rules.specs.Tree.{DTree, leaf, Refinement, refine, grow, tree, acceptable, series_from, series}
use Rattle.rules.specs.Run.{choice, aim_of, stop, go, turn, picks, verdict}
use Rattle.rules.specs.Refusals.{Accepted}
use Rattle.rules.specs.declared.Kind.{Kind}
use Rattle.rules.specs.declared.Limits.{Limits}
use Rattle.rules.specs.declared.Aim.{Aim}
use Rattle.rules.specs.declared.Verdict.{Verdict}
use Rattle.rules.specs.declared.Verdict.TheVariants.{Spent}
use Rattle.rules.proofs.Booleans.{and_left}
use Rattle.rules.proofs.Series.{grow-append, series-append}
use Rattle.rules.proofs.Runs.{picks-series}
use Rattle.records.specs.Records.{tree_records, blank, places, record_ways, records_of, layout, history, Good}
use Rattle.records.specs.Growing.{grown_at}
use Rattle.records.specs.declared.Tree.{Tree}
use Rattle.records.proofs.Positions.{position-of, length_places, places-once}
use Rattle.records.proofs.InPlace.{few-places}
use Rattle.records.proofs.Grown.{grows}
use Rattle.running.specs.Ran.{Ran}
use Rattle.running.proofs.Turns.{Goes, own, whole, is}

-- ---- one turn of the rules' run

module _ (t : Table) (a : Aim) (s : DTree) where
  module _ (v : Verdict) (e : turn t a s ≡ stop v) where
    no_more : (b : ℕ) → picks t a b s ≡ []
    unfolding picks
    no_more zero = refl
    no_more (suc b) = rw (e, picks)

    stops_so : (b : ℕ) → verdict t a b s ≡ v
    unfolding verdict
    stops_so zero = rw (e, verdict)
    stops_so (suc b) = rw (e, verdict)

  module _ (n : Refinement) (e : turn t a s ≡ go n) where
    one_more : (b : ℕ) → picks t a (suc b) s ≡ n ∷ picks t a b (refine n s)
    unfolding picks
    one_more b = rw (e, picks)

    ends-later : (b : ℕ) → verdict t a (suc b) s ≡ verdict t a b (refine n s)
    unfolding verdict
    ends-later b = rw (e, verdict)

    ends-spent : verdict t a 0 s ≡ Spent
    unfolding verdict
    ends-spent = rw (e, verdict)

    -- The refinement that a turn makes is acceptable.
    fits-there : Accepted t → series_from t s (n ∷ []) ≡ true
    unfolding picks
    fits-there ok = ap (series_from t s) (sym (one_more 0)) ∙ picks-series t ok a 1 s

-- ---- what a run has made

-- x is the tree of the series ns and of the refinements ps that were made since. What the rules' run makes of it with the rest of the
-- budget comes, with ps, to what it makes of ns with the whole.
pub record Going (t : Table) (ns : List Refinement) (a : Aim) (b : ℕ) (x : Tree) (made : ℕ) : Type 0 where
  pub good : Good t x
  pub ps : List Refinement
  pub rest : ℕ
  pub split : history x ≡ ns ++ ps
  pub many : made ≡ length ps
  pub sum : made + rest ≡ b
  pub makes : picks t a b (tree ns) ≡ ps ++ picks t a rest (tree (history x))
  pub ends : verdict t a b (tree ns) ≡ verdict t a rest (tree (history x))

pub start : (t : Table) (a : Aim) (b : ℕ) (x : Tree) → Good t x → Going t (history x) a b x 0
start t a b x g =
    record {
      good = g;
      ps = [];
      rest = b;
      split = sym (append-nil (history x));
      many = refl;
      sum = omega arith;
      makes = refl;
      ends = refl;
    }

module _ (t : Table) (ns : List Refinement) (m : Limits) (x : Tree) (made : ℕ) (w : Going t ns (aim_of m) m.budget x made) where
  abbrev a : Aim
  a = aim_of m

  abbrev s : DTree
  s = tree (history x)

  -- It ends where nothing more is made.
  ended : (v : Verdict) → picks t a w.rest s ≡ [] → verdict t a w.rest s ≡ v → Ran t ns m x (record { verdict = v; made = made })
  ended v e h =
      let all : picks t a m.budget (tree ns) ≡ w.ps = w.makes ∙ ap (λ (qs : List Refinement). w.ps ++ qs) e ∙ append-nil w.ps in
      record {
        leaves = is t x w.good ∙ ap (layout t) (w.split ∙ ap (λ (qs : List Refinement). ns ++ qs) (sym all));
        says = sym (w.ends ∙ h);
        counts = w.many ∙ ap length (sym all);
      }

  pub stopped : (v : Verdict) → turn t a s ≡ stop v → Ran t ns m x (record { verdict = v; made = made })
  stopped v e = ended v (no_more t a s v e w.rest) (stops_so t a s v e w.rest)

  -- The rules refine the leaf in record j.
  module _ (j : ℕ) (goes : Goes t a x j) where
    abbrev k : Kind
    k = choice t.weights (record_ways t (get_or x.nodes j blank))

    abbrev n : Refinement
    n = record { place = get_or (places (history x)) j []; kind = k }

    pub spent : made ≡ m.budget → Ran t ns m x (record { verdict = Spent; made = made })
    unfolding picks
    spent e =
        let z : w.rest ≡ 0 = omega (arith, e, w.sum) in
        ended Spent (ap (λ (i : ℕ). picks t a i s) z) (ap (λ (i : ℕ). verdict t a i s) z ∙ ends-spent t a s n goes.taken)

    module _ (ok : Accepted t) where
      abbrev ms : List Refinement
      ms = history x ++ (n ∷ [])

      longer : series t ms ≡ true
      longer = series-append t (history x) (n ∷ []) leaf (whole t x w.good) (fits-there t a s n goes.taken ok)

      two_more : length (places ms) ≡ x.used + 2
      unfolding layout
      two_more =
          omega (
            arith,
            ap (λ (y : Tree). y.used) (is t x w.good),
            length_places ms,
            length_places (history x),
            length-append (history x) (n ∷ []),
          )

      -- There is room for it.
      pub room : (j < tree_records) × (x.used + 1 < tree_records)
      room = (
        omega (arith, goes.inside, few-places t (history x) (whole t x w.good)),
        omega (arith, few-places t ms longer, two_more),
      )

      module _ (y : Tree) (grown : y.nodes ≡ grown_at t x.nodes x.used j k) (used : y.used ≡ x.used + 2) where
        fit : acceptable t s n ≡ true
        unfolding series_from
        fit = and_left (acceptable t s n) _ (fits-there t a s n goes.taken ok)

        -- One refinement on the records.
        nodes_are : y.nodes ≡ records_of t ms
        unfolding layout
        nodes_are =
            grown ∙ ap (λ (z : Tree). grown_at t z.nodes z.used j k) (is t x w.good)
            ∙ ap (λ (i : ℕ). grown_at t (records_of t (history x)) (length (places (history x))) i k)
            (sym (position-of (places (history x)) j (places-once t (history x) (whole t x w.good)) goes.inside))
            ∙ grows t ok (history x) (whole t x w.good) n fit

        good-then : Good t y
        unfolding layout
        good-then =
            let u : y.used ≡ length (places ms) = used ∙ sym two_more in
            record { made = ms; accepted = longer; is = λ i. record { nodes = nodes_are i; used = u i } }

        history-then : history y ≡ ms
        unfolding good-then
        history-then = own t y good-then

        tree-then : tree (history y) ≡ refine n s
        unfolding grow
        tree-then = ap tree history-then ∙ grow-append (history x) (n ∷ []) leaf

        pub goes_on : (made ≡ m.budget → ⊥) → Going t ns a m.budget y (made + 1)
        goes_on q = by w.rest refl
          where
            by : (r : ℕ) → w.rest ≡ r → Going t ns a m.budget y (made + 1)
            by zero e = absurd (q (omega (arith, e, w.sum)))
            by (suc r) e =
                record {
                  good = good-then;
                  ps = w.ps ++ (n ∷ []);
                  rest = r;
                  split = history-then ∙ ap (λ (qs : List Refinement). qs ++ (n ∷ [])) w.split ∙ append_assoc ns w.ps (n ∷ []);
                  many = omega (arith, w.many, length-append w.ps (n ∷ []));
                  sum = omega (arith, e, w.sum);
                  makes = w.makes
                      ∙ ap (λ (qs : List Refinement). w.ps ++ qs)
                      (ap (λ (i : ℕ). picks t a i s) e ∙ one_more t a s n goes.taken r ∙ ap (λ (z : DTree). n ∷ picks t a r z) (sym tree-then))
                      ∙ sym (append_assoc w.ps (n ∷ []) (picks t a r (tree (history y))));
                  ends = w.ends ∙ ap (λ (i : ℕ). verdict t a i s) e ∙ ends-later t a s n goes.taken r ∙ ap (verdict t a r) (sym tree-then);
                }
