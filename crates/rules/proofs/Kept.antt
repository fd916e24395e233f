-- The kept ways, of which leaf low is made: a subsequence of the ways, pairwise without a common fault, and maximal so.
-- Rests on the laws of Boolean tests (Booleans), and on Groups for `In` and for `shares` being symmetric.
use mathlib.Core.Path.{◌≡◌, refl, sym, ◌∙◌}
use mathlib.Core.Bool.{Bool, true, false, true≢false}
use mathlib.Core.List.Memᴰ
use mathlib.Core.List.{List, [], ◌∷◌}
use mathlib.Core.Logic.{◌⊎◌, inl, inr, ⊎_elim}
use Rattle.rules.specs.Table.{Way}
use Rattle.rules.specs.Leaf.{shares, shares_any, keep, kept}
use Rattle.rules.proofs.Booleans.{or_left, or_right, or-first, or-second, or_cases}
use Rattle.rules.proofs.Members.{In}
use Rattle.rules.proofs.Groups.{shares-sym}

-- What is kept of one way more: the way is passed over if it shares a fault with one kept before, and kept if not.
keep-cases : (P : List Way → Type 0) (before : List Way) (v : Way) (vs : List Way)
    → (shares_any v before ≡ true → P (keep before vs)) → (shares_any v before ≡ false → P (v ∷ keep (v ∷ before) vs)) → P (keep before (v ∷ vs))
keep-cases P before v vs f g = go (shares_any v before) refl
  where
    go : (t : Bool) → shares_any v before ≡ t → P (elim t as (λ b. List Way) [ true ↦ keep before vs | false ↦ v ∷ keep (v ∷ before) vs ])
    go true e = f e
    go false e = g e

-- ---- in number order

-- The first list is the second with some ways left out.
pub data Subsequence : List Way → List Way → Type 0 where
  ends : Subsequence [] []
  takes : {v : Way} {us vs : List Way} → Subsequence us vs → Subsequence (v ∷ us) (v ∷ vs)
  skips : {v : Way} {us vs : List Way} → Subsequence us vs → Subsequence us (v ∷ vs)

-- A way of a subsequence is one of the list.
pub subsequence-in : (us vs : List Way) (v : Way) → Subsequence us vs → In v us → In v vs
subsequence-in _ _ v ends i = elim i [ ]
subsequence-in us vs v (takes s) (Memᴰ.head e) = Memᴰ.head e
subsequence-in us vs v (takes {us = us'} {vs = vs'} s) (Memᴰ.tail i) = Memᴰ.tail (subsequence-in us' vs' v s i)
subsequence-in us vs v (skips {vs = vs'} s) i = Memᴰ.tail (subsequence-in us vs' v s i)

-- What is kept after `before` is a subsequence.
keep-subsequence : (before vs : List Way) → Subsequence (keep before vs) vs
keep-subsequence before [] = ends
keep-subsequence before (v ∷ vs) =
    keep-cases (λ ks. Subsequence ks (v ∷ vs)) before v vs (λ e. skips (keep-subsequence before vs)) (λ e. takes (keep-subsequence (v ∷ before) vs))

-- The kept ways are a subsequence of the ways: they stay in number order.
pub kept-subsequence : (vs : List Way) → Subsequence (kept vs) vs
kept-subsequence vs = keep-subsequence [] vs

-- A kept way is one of the ways.
pub kept_in : (vs : List Way) (v : Way) → In v (kept vs) → In v vs
kept_in vs v i = subsequence-in (kept vs) vs v (kept-subsequence vs) i

-- ---- pairwise apart

-- No two ways of the list share a fault.
abbrev pub PairwiseApart : List Way → Type 0
PairwiseApart [] = Unit {0}
PairwiseApart (v ∷ vs) = ((u : Way) → In u vs → shares v u ≡ false) × PairwiseApart vs

-- A way that is kept after `before` shares no fault with those.
keep-apart-before : (before vs : List Way) (v : Way) → In v (keep before vs) → shares_any v before ≡ false
keep-apart-before before [] v = λ i. absurd (Memᴰ.not-nil i)
keep-apart-before before (w ∷ vs) v =
    keep-cases (λ ks. In v ks → shares_any v before ≡ false) before w vs (λ e. keep-apart-before before vs v)
    (λ e i. ⊎_elim (λ p. rw p e) (λ j. or_right (shares v w) (shares_any v before) (keep-apart-before (w ∷ before) vs v j)) (Memᴰ.cases_cons i))

-- What is kept after `before` is pairwise apart.
keep_apart : (before vs : List Way) → PairwiseApart (keep before vs)
keep_apart before [] = tt
keep_apart before (v ∷ vs) =
    keep-cases PairwiseApart before v vs (λ e. keep_apart before vs)
    (λ e. (λ u i. shares-sym v u ∙ or_left (shares u v) (shares_any u before) (keep-apart-before (v ∷ before) vs u i), keep_apart (v ∷ before) vs))

-- The kept ways pairwise share no fault.
pub kept-apart : (vs : List Way) → PairwiseApart (kept vs)
kept-apart vs = keep_apart [] vs

-- ---- maximal

-- A way that shares a fault with one of a list: which one.
shares-with : (v : Way) (us : List Way) → shares_any v us ≡ true → (u : Way) × In u us × (shares v u ≡ true)
shares-with v [] h = absurd (true≢false (sym h))
shares-with v (u ∷ us) h = or_cases (shares v u) (shares_any v us) (λ e. (u, Memᴰ.head refl, e)) (λ e. later (shares-with v us e)) h
  where
    later : (w : Way) × In w us × (shares v w ≡ true) → (w : Way) × In w (u ∷ us) × (shares v w ≡ true)
    later r = (r.0, Memᴰ.tail r.1, r.2)

-- The way is one of `ks`, or shares a fault with one of `before`, or with one of `ks`.
abbrev Settled : Way → List Way → List Way → Type 0
Settled v before ks = In v ks ⊎ (shares_any v before ≡ true) ⊎ (shares_any v ks ≡ true)

-- A way stays settled when w moves from `before` to the front of `ks`.
settled-cons : (v w : Way) (before ks : List Way) → Settled v (w ∷ before) ks → Settled v before (w ∷ ks)
settled-cons v w before ks (inl i) = inl (Memᴰ.tail i)
settled-cons v w before ks (inr (inl h)) =
    or_cases (shares v w) (shares_any v before) (λ e. inr (inr (or-first (shares v w) (shares_any v ks) e))) (λ e. inr (inl e)) h
settled-cons v w before ks (inr (inr h)) = inr (inr (or-second (shares v w) (shares_any v ks) h))

-- Every way is kept, or shares a fault with one of `before`, or with a kept one.
keep-maximal : (before vs : List Way) (v : Way) → In v vs → Settled v before (keep before vs)
keep-maximal before [] v x' = elim x' [ ]
keep-maximal before (w ∷ vs) v (Memᴰ.head p) = keep-cases (Settled v before) before w vs (λ e. inr (inl (rw p e))) (λ e. inl (Memᴰ.head p))
keep-maximal before (w ∷ vs) v (Memᴰ.tail i) =
    keep-cases (Settled v before) before w vs (λ e. keep-maximal before vs v i)
    (λ e. settled-cons v w before (keep (w ∷ before) vs) (keep-maximal (w ∷ before) vs v i))

-- A way that is not kept shares a fault with a kept one.
pub kept-maximal : (vs : List Way) (v : Way) → In v vs → In v (kept vs) ⊎ ((u : Way) × In u (kept vs) × (shares v u ≡ true))
kept-maximal vs v i = go (keep-maximal [] vs v i)
  where
    go : Settled v [] (kept vs) → In v (kept vs) ⊎ ((u : Way) × In u (kept vs) × (shares v u ≡ true))
    go (inl j) = inl j
    go (inr (inl h)) = absurd (true≢false (sym h))
    go (inr (inr h)) = inr (shares-with v (kept vs) h)
