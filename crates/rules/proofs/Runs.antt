-- Runs: what a run makes is a series of acceptable refinements, two runs in a row are one run, and what each verdict says.
-- Rests on Widest.antt for the leaf, on Levels.antt for the fault, on Series.antt for counting.
use mathlib.Core.Path.{◌≡◌, refl, sym, ap, ◌∙◌, subst}
use mathlib.Core.Bool.{Bool, true, false, not, true≢false}
use mathlib.Core.List.{List, [], ◌∷◌, ◌++◌}
use mathlib.Core.Option.{Option, none, some, some-injective, none-ne-some}
use mathlib.Core.Logic.{◌↔◌}
use Prim.Native.Nat.{ℕ, zero, suc, ◌+◌, ◌≤◌, ◌<◌}
use native.Mathlib.Nat.{suc-add, zero-add}
use native.Mathlib.Omega.{arith}
use lib.ListN.{length, length-append}
use lib.Dec.{eqb}
use borrow.Author.Tests.{ltb-true, ltb-false, lt-ltb}
use Rattle.rules.specs.Table.{Way, Table}
use Rattle.rules.specs.Leaf.{is_open}
use Rattle.rules.specs.Group.{fall_apart}
use Rattle.rules.specs.Common.{shared}
use Rattle.rules.specs.Tree.{root_ways, left, right, Place, DTree, leaf, inner, possible, child, low, high}
use Rattle.rules.specs.Tree.{inners, Refinement, refine, grow, leaf_ways, roomy, acceptable, series_from}
use Rattle.rules.specs.Run.{Candidate, widest, most_named, choice, next, narrow, Turn, stop, go, turn, picks, verdict, ran}
use Rattle.rules.specs.Refusals.{names_beyond, Accepted}
use Rattle.rules.specs.declared.Kind.{Kind}
use Rattle.rules.specs.declared.Kind.TheVariants.{IndependentOr, IndependentAnd, Shannon}
use Rattle.rules.specs.declared.Aim.{Aim}
use Rattle.rules.specs.declared.Verdict.{Verdict}
use Rattle.rules.specs.declared.Verdict.TheVariants.{Met, Done, Full, Spent}
use Rattle.rules.proofs.Booleans.{and_both}
use Rattle.rules.proofs.Settled.{child-inside}
use Rattle.rules.proofs.Levels.{open-occurs}
use Rattle.rules.proofs.Series.{grow-append, grown-inners}
use Rattle.rules.proofs.Widest.{NoneOpen, Law, nothing, the, widest-law, widest-none, named-occurs, occurs-named, most-named}
use Rattle.rules.proofs.Accepted.{root_inside}

-- ---- what the rule picks can be made

-- The chosen kind is possible at an open leaf.
choice-possible : (ws : List ℕ) (vs : List Way) → names_beyond (length ws) vs ≡ false → is_open ws vs ≡ true → possible (choice ws vs) vs ≡ true
unfolding choice possible
choice-possible ws vs h o = by (fall_apart vs) refl (not (eqb (shared vs) 0)) refl
  where
    by : (b : Bool) → fall_apart vs ≡ b → (c : Bool) → not (eqb (shared vs) 0) ≡ c
        → possible
        (elim b as (λ b. Kind)
        [ true ↦ IndependentOr | false ↦ elim c as (λ b. Kind) [ true ↦ IndependentAnd | false ↦ Shannon (most_named (length ws) vs) ] ])
        vs
        ≡ true
    by true e c d = e
    by false e true d = d
    by false e false d =
        let r = open-occurs (length ws) ws vs h o in
        named-occurs _ vs (omega (arith, occurs-named r.0 vs r.2, most-named (length ws) r.0 vs r.1))

-- The ways of a leaf name no fault beyond the table's.
pub leaf-inside : (n : ℕ) (p : Place) (vs : List Way) (s : DTree) (us : List Way) → names_beyond n vs ≡ false → leaf_ways p vs s ≡ some us
    → names_beyond n us ≡ false
unfolding leaf_ways
leaf-inside n [] vs leaf us h e = subst (λ (x : List Way). names_beyond n x ≡ false) (some-injective vs us e) h
leaf-inside n [] vs (inner k l r) us h e = absurd (none-ne-some _ e)
leaf-inside n (b ∷ p) vs leaf us h e = absurd (none-ne-some _ e)
leaf-inside n (left ∷ p) vs (inner k l r) us h e = leaf-inside n p (child k left vs) l us (child-inside k n left vs h) e
leaf-inside n (right ∷ p) vs (inner k l r) us h e = leaf-inside n p (child k right vs) r us (child-inside k n right vs h) e

next-acceptable : (t : Table) → Accepted t → (s : DTree) (n : Refinement) → inners s < 255 → next t s ≡ some n → acceptable t s n ≡ true
unfolding next acceptable
next-acceptable t ok s n room e = by (widest t.weights (root_ways t) s) (widest-law t.weights (root_ways t) s) e
  where
    by : (o : Option Candidate) → Law t.weights (root_ways t) s o
        → (elim o as (λ o. Option Refinement) [ none ↦ none | some x ↦ some (record { place = x.place; kind = choice t.weights x.ways }) ]) ≡ some n
        → acceptable t s n ≡ true
    by none h e = absurd (none-ne-some _ e)
    by (some x) (the x₁ h) e =
        let inside = leaf-inside (length t.weights) x.place (root_ways t) s x.ways (root_inside t ok) h.there in
        subst (λ (m : Refinement). acceptable t s m ≡ true) (some-injective _ n e)
        (rw (h.there, acceptable)
        (and_both (is_open t.weights x.ways) _ h.opened
        (and_both (roomy s) _ (lt-ltb (inners s) 255 room)
        (choice-possible t.weights x.ways inside h.opened))))

-- ---- a turn, read backwards

-- The interval at the root is as narrow as is aimed at. What that says of its ends, Aims.antt tells: `distance-exactly`, `share-exactly`.
abbrev pub NarrowEnough : Table → Aim → DTree → Type 0
NarrowEnough t a s = narrow a (low t s) (high t s) ≡ true

-- It is not.
abbrev pub TooWide : Table → Aim → DTree → Type 0
TooWide t a s = narrow a (low t s) (high t s) ≡ false

-- It cannot be both.
never_both : (t : Table) (a : Aim) (s : DTree) → NarrowEnough t a s → TooWide t a s → ⊥
never_both t a s h w = true≢false (sym h ∙ w)

-- What each turn says of the tree, in the order in which the reasons are tried.
pub data Reason (t : Table) (a : Aim) (s : DTree) : Turn → Type 0 where
  met : NarrowEnough t a s → Reason t a s (stop Met)
  done : TooWide t a s → next t s ≡ none → Reason t a s (stop Done)
  full : TooWide t a s → (n : Refinement) → next t s ≡ some n → 255 ≤ inners s → Reason t a s (stop Full)
  more : TooWide t a s → (n : Refinement) → next t s ≡ some n → inners s < 255 → Reason t a s (go n)

pub reason : (t : Table) (a : Aim) (s : DTree) → Reason t a s (turn t a s)
unfolding turn
reason t a s = by (narrow a (low t s) (high t s)) refl (next t s) refl (roomy s) refl
  where
    by : (b : Bool) → narrow a (low t s) (high t s) ≡ b → (o : Option Refinement) → next t s ≡ o → (c : Bool) → roomy s ≡ c
        → Reason t a s
        (elim b as (λ b. Turn) [
          | true ↦ stop Met
          | false ↦ elim o as (λ o. Turn) [ none ↦ stop Done | some n ↦ elim c as (λ b. Turn) [ true ↦ go n | false ↦ stop Full ] ]
        ])
    by true e o q c r = met e
    by false e none q c r = done e q
    by false e (some n) q true r = more e n q (ltb-true (inners s) 255 r)
    by false e (some n) q false r = full e n q (ltb-false (inners s) 255 r)

turn-acceptable : (t : Table) → Accepted t → (a : Aim) (s : DTree) (n : Refinement) → Reason t a s (go n) → acceptable t s n ≡ true
turn-acceptable t ok a s n (more w n₁ e r) = next-acceptable t ok s n r e

-- ---- what a run makes is a series of acceptable refinements

pub picks-series : (t : Table) → Accepted t → (a : Aim) (b : ℕ) (s : DTree) → series_from t s (picks t a b s) ≡ true
unfolding picks series_from
picks-series t ok a zero s = refl
picks-series t ok a (suc b) s = by (turn t a s) (reason t a s) (λ n. picks-series t ok a b (refine n s))
  where
    by : (x : Turn) → Reason t a s x → ((n : Refinement) → series_from t (refine n s) (picks t a b (refine n s)) ≡ true)
        → series_from t s (elim x as (λ x. List Refinement) [ stop v ↦ [] | go n ↦ n ∷ picks t a b (refine n s) ]) ≡ true
    by (stop v) e ih = refl
    by (go n) e ih = and_both (acceptable t s n) _ (turn-acceptable t ok a s n e) (ih n)

-- A run makes at most as many as its budget.
pub picks-budget : (t : Table) (a : Aim) (b : ℕ) (s : DTree) → length (picks t a b s) ≤ b
unfolding picks
picks-budget t a zero s = omega arith
picks-budget t a (suc b) s = by (turn t a s) (λ n. picks-budget t a b (refine n s))
  where
    by : (x : Turn) → ((n : Refinement) → length (picks t a b (refine n s)) ≤ b)
        → length {A = Refinement} (elim x as (λ x. List Refinement) [ stop v ↦ [] | go n ↦ n ∷ picks t a b (refine n s) ]) ≤ suc b
    by (stop v) ih = omega arith
    by (go n) ih = omega (arith, ih n)

-- A RUN REPORTS the inner nodes after it less those before.
pub report-inners : (t : Table) → Accepted t → (a : Aim) (b : ℕ) (s : DTree) → inners (ran t a b s) ≡ inners s + length (picks t a b s)
report-inners t ok a b s = grown-inners t (picks t a b s) s (picks-series t ok a b s)

-- ---- two runs in a row

-- A run that has stopped makes nothing more.
stopped : (t : Table) (a : Aim) (c : ℕ) (s : DTree) (v : Verdict) → turn t a s ≡ stop v → [] ≡ picks t a c s
unfolding picks
stopped t a zero s v e = refl
stopped t a (suc c) s v e = rw (e, picks)

stays-stopped : (t : Table) (a : Aim) (c : ℕ) (s : DTree) (v : Verdict) → turn t a s ≡ stop v → v ≡ verdict t a c s
unfolding verdict
stays-stopped t a zero s v e = rw (e, verdict)
stays-stopped t a (suc c) s v e = rw (e, verdict)

-- A run with b + c makes what one with b makes and then what one with c makes.
pub picks-add : (t : Table) (a : Aim) (b c : ℕ) (s : DTree) → picks t a (b + c) s ≡ picks t a b s ++ picks t a c (ran t a b s)
unfolding picks grow
picks-add t a zero c s = rw zero-add
picks-add t a (suc b) c s = rw suc-add (by (turn t a s) refl (λ n. picks-add t a b c (refine n s)))
  where
    by : (x : Turn) → turn t a s ≡ x → ((n : Refinement) → picks t a (b + c) (refine n s) ≡ picks t a b (refine n s) ++ picks t a c (ran t a b (refine n s)))
        → (elim x as (λ x. List Refinement) [ stop v ↦ [] | go n ↦ n ∷ picks t a (b + c) (refine n s) ])
        ≡ (elim x as (λ x. List Refinement) [ stop v ↦ [] | go n ↦ n ∷ picks t a b (refine n s) ])
        ++ picks t a c (grow s (elim x as (λ x. List Refinement) [ stop v ↦ [] | go n ↦ n ∷ picks t a b (refine n s) ]))
    by (stop v) e ih = stopped t a c s v e
    by (go n) e ih = ap (λ (z : List Refinement). n ∷ z) (ih n)

verdict-add : (t : Table) (a : Aim) (b c : ℕ) (s : DTree) → verdict t a (b + c) s ≡ verdict t a c (ran t a b s)
unfolding picks grow verdict
verdict-add t a zero c s = rw zero-add
verdict-add t a (suc b) c s = rw suc-add (by (turn t a s) refl (λ n. verdict-add t a b c (refine n s)))
  where
    by : (x : Turn) → turn t a s ≡ x → ((n : Refinement) → verdict t a (b + c) (refine n s) ≡ verdict t a c (ran t a b (refine n s)))
        → (elim x as (λ x. Verdict) [ stop v ↦ v | go n ↦ verdict t a (b + c) (refine n s) ])
        ≡ verdict t a c (grow s (elim x as (λ x. List Refinement) [ stop v ↦ [] | go n ↦ n ∷ picks t a b (refine n s) ]))
    by (stop v) e ih = stays-stopped t a c s v e
    by (go n) e ih = ih n

-- TWO RUNS in a row, with one aim and the budgets b and c, are one run with b + c: tree, verdict and the sum of the reports (RULES 5.12).
pub record OneRun (t : Table) (a : Aim) (b c : ℕ) (s : DTree) : Type 0 where
  pub tree : ran t a c (ran t a b s) ≡ ran t a (b + c) s
  pub verdicts : verdict t a c (ran t a b s) ≡ verdict t a (b + c) s
  pub report : length (picks t a b s) + length (picks t a c (ran t a b s)) ≡ length (picks t a (b + c) s)

pub two_runs : (t : Table) (a : Aim) (b c : ℕ) (s : DTree) → OneRun t a b c s
two_runs t a b c s =
    let e = picks-add t a b c s in
    record {
      tree = sym (ap (grow s) e ∙ grow-append (picks t a b s) (picks t a c (ran t a b s)) s);
      verdicts = sym (verdict-add t a b c s);
      report = sym (ap length e ∙ length-append (picks t a b s) (picks t a c (ran t a b s)));
    }

-- ---- the verdict

-- Where the rule picks nothing no leaf is open.
next-none : (t : Table) (s : DTree) → next t s ≡ none → NoneOpen t.weights (root_ways t) s
unfolding next
next-none t s e = by (widest t.weights (root_ways t) s) (widest-law t.weights (root_ways t) s) e
  where
    by : (o : Option Candidate) → Law t.weights (root_ways t) s o
        → ◌≡◌ {A = Option Refinement}
        (elim o as (λ o. Option Refinement) [ none ↦ none | some x ↦ some (record { place = x.place; kind = choice t.weights x.ways }) ])
        none
        → NoneOpen t.weights (root_ways t) s
    by none (nothing f) e = f
    by (some x) h e = absurd (none-ne-some _ (sym e))

-- Where no leaf is open it picks nothing.
none_next : (t : Table) (s : DTree) → NoneOpen t.weights (root_ways t) s → next t s ≡ none
unfolding next
none_next t s f = rw (widest-none t.weights (root_ways t) s f, next)

-- Some leaf is open: the rule picks a refinement.
abbrev pub SomeOpen : Table → DTree → Type 0
SomeOpen t s = (n : Refinement) × (next t s ≡ some n)

-- What a verdict says of the tree that a run leaves, with the refinements it made.
pub data Says (t : Table) (a : Aim) (budget made : ℕ) (s : DTree) : Verdict → Type 0 where
  is_met : NarrowEnough t a s → Says t a budget made s Met
  is_done : TooWide t a s → NoneOpen t.weights (root_ways t) s → Says t a budget made s Done
  is-full : TooWide t a s → SomeOpen t s → 255 ≤ inners s → Says t a budget made s Full
  is_spent : TooWide t a s → SomeOpen t s → inners s < 255 → made ≡ budget → Says t a budget made s Spent

-- A reason to stop says what its verdict says, whatever was made.
stop-says : (t : Table) (a : Aim) (b m : ℕ) (s : DTree) (v : Verdict) → Reason t a s (stop v) → Says t a b m s v
stop-says t a b m s v (met w) = is_met w
stop-says t a b m s v (done w e) = is_done w (next-none t s e)
stop-says t a b m s v (full w n e r) = is-full w (n, e) r

-- One refinement more, made of one budget more.
one_more : (t : Table) (a : Aim) (b m : ℕ) (s : DTree) (v : Verdict) → Says t a b m s v → Says t a (suc b) (suc m) s v
one_more t a b m s v (is_met w) = is_met w
one_more t a b m s v (is_done w f) = is_done w f
one_more t a b m s v (is-full w o r) = is-full w o r
one_more t a b m s v (is_spent w o r e) = is_spent w o r (ap suc e)

-- THE VERDICT of every run says this.
pub verdict-says : (t : Table) (a : Aim) (b : ℕ) (s : DTree) → Says t a b (length (picks t a b s)) (ran t a b s) (verdict t a b s)
unfolding picks verdict grow
verdict-says t a zero s = by (turn t a s) (reason t a s)
  where
    by : (x : Turn) → Reason t a s x → Says t a zero zero s (elim x as (λ x. Verdict) [ stop v ↦ v | go n ↦ Spent ])
    by (stop v) r = stop-says t a zero zero s v r
    by (go n) (more w n₁ e r) = is_spent w (n, e) r refl
verdict-says t a (suc b) s = by (turn t a s) (reason t a s) (λ n. verdict-says t a b (refine n s))
  where
    by : (x : Turn) → Reason t a s x
        → ((n : Refinement) → Says t a b (length (picks t a b (refine n s))) (ran t a b (refine n s)) (verdict t a b (refine n s)))
        → Says t a (suc b) (length {A = Refinement} (elim x as (λ x. List Refinement) [ stop v ↦ [] | go n ↦ n ∷ picks t a b (refine n s) ]))
        (grow s (elim x as (λ x. List Refinement) [ stop v ↦ [] | go n ↦ n ∷ picks t a b (refine n s) ]))
        (elim x as (λ x. Verdict) [ stop v ↦ v | go n ↦ verdict t a b (refine n s) ])
    by (stop v) r ih = stop-says t a (suc b) zero s v r
    by (go n) r ih = one_more t a b _ _ _ (ih n)

-- What the verdict is, exactly, of a tree s that a run leaves: met before done before full before spent.
pub record Exactly (t : Table) (a : Aim) (s : DTree) (v : Verdict) : Type 0 where
  pub met : (v ≡ Met) ↔ NarrowEnough t a s
  pub done : (v ≡ Done) ↔ (TooWide t a s × NoneOpen t.weights (root_ways t) s)
  pub full : (v ≡ Full) ↔ (TooWide t a s × SomeOpen t s × (255 ≤ inners s))
  pub spent : (v ≡ Spent) ↔ (TooWide t a s × SomeOpen t s × (inners s < 255))

-- A leaf that is open is not nothing.
not-both : (t : Table) (s : DTree) → NoneOpen t.weights (root_ways t) s → SomeOpen t s → ⊥
not-both t s f o = none-ne-some _ (sym (none_next t s f) ∙ o.1)

-- The verdicts differ: they are tried one after the other.
abbrev rank : Verdict → ℕ
rank Met = 0
rank Done = 1
rank Full = 2
rank Spent = 3

other : {P : Type 0} (u v : Verdict) → (rank u ≡ rank v → ⊥) → u ≡ v → P
other u v f e = absurd (f (ap rank e))

exactly : (t : Table) (a : Aim) (b m : ℕ) (s : DTree) (v : Verdict) → Says t a b m s v → Exactly t a s v
exactly t a b m s v (is_met w) =
    record {
      met = (λ e. w, λ h. refl);
      done = (other Met Done (omega arith), λ h. absurd (never_both t a s w h.0));
      full = (other Met Full (omega arith), λ h. absurd (never_both t a s w h.0));
      spent = (other Met Spent (omega arith), λ h. absurd (never_both t a s w h.0));
    }
exactly t a b m s v (is_done w f) =
    record {
      met = (other Done Met (omega arith), λ h. absurd (never_both t a s h w));
      done = (λ e. (w, f), λ h. refl);
      full = (other Done Full (omega arith), λ h. absurd (not-both t s f h.1));
      spent = (other Done Spent (omega arith), λ h. absurd (not-both t s f h.1));
    }
exactly t a b m s v (is-full w o r) =
    record {
      met = (other Full Met (omega arith), λ h. absurd (never_both t a s h w));
      done = (other Full Done (omega arith), λ h. absurd (not-both t s h.1 o));
      full = (λ e. (w, o, r), λ h. refl);
      spent = (other Full Spent (omega arith), λ h. absurd (omega (arith, r, h.2)));
    }
exactly t a b m s v (is_spent w o r q) =
    record {
      met = (other Spent Met (omega arith), λ h. absurd (never_both t a s h w));
      done = (other Spent Done (omega arith), λ h. absurd (not-both t s h.1 o));
      full = (other Spent Full (omega arith), λ h. absurd (omega (arith, r, h.2)));
      spent = (λ e. (w, o, r), λ h. refl);
    }

-- THE VERDICT: met exactly if the root is as narrow as is aimed at; done exactly if not met and no leaf is open; full exactly if neither and 255; else spent.
pub verdict-exactly : (t : Table) (a : Aim) (b : ℕ) (s : DTree) → Exactly t a (ran t a b s) (verdict t a b s)
verdict-exactly t a b s = exactly t a b (length (picks t a b s)) (ran t a b s) (verdict t a b s) (verdict-says t a b s)

-- A spent run has used its whole budget.
pub spent_all : (t : Table) (a : Aim) (b : ℕ) (s : DTree) → verdict t a b s ≡ Spent → length (picks t a b s) ≡ b
spent_all t a b s e = by (verdict t a b s) (verdict-says t a b s) e
  where
    by : (v : Verdict) → Says t a b (length (picks t a b s)) (ran t a b s) v → v ≡ Spent → length (picks t a b s) ≡ b
    by v (is_met w) e = other Met Spent (omega arith) e
    by v (is_done w f) e = other Done Spent (omega arith) e
    by v (is-full w o r) e = other Full Spent (omega arith) e
    by v (is_spent w o r q) e = q

turn-go : (t : Table) (a : Aim) (s : DTree) (n : Refinement) → TooWide t a s → next t s ≡ some n → inners s < 255 → turn t a s ≡ go n
turn-go t a s n w e r = by (turn t a s) (reason t a s)
  where
    by : (x : Turn) → Reason t a s x → x ≡ go n
    by x (met h) = absurd (never_both t a s h w)
    by x (done h q) = absurd (none-ne-some _ (sym q ∙ e))
    by x (full h m q k) = absurd (omega (arith, r, k))
    by x (more h m q k) = ap go (some-injective m n (sym q ∙ e))

-- A RUN OF BUDGET 1 that does not start out met, done or full makes the one refinement that the rule picks, and no more.
pub one-step : (t : Table) (a : Aim) (s : DTree) (n : Refinement) → TooWide t a s → next t s ≡ some n → inners s < 255 → picks t a 1 s ≡ n ∷ []
unfolding picks
one-step t a s n w e r = rw (turn-go t a s n w e r, picks)

-- So it adds one inner node.
pub one-step-inners : (t : Table) → Accepted t → (a : Aim) (s : DTree) (n : Refinement) → TooWide t a s → next t s ≡ some n → inners s < 255
    → inners (ran t a 1 s) ≡ suc (inners s)
one-step-inners t ok a s n w e r = omega (arith, report-inners t ok a 1 s, ap length (one-step t a s n w e r))
