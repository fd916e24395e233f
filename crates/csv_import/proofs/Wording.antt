-- The words of one way more, behind those of the ways before it.
-- Rests on specs, Gather, on `csv_rows`, Fronts, and on the laws of tests (`rules`, Booleans, and the library).
use Rattle.std.proofs.Common.{◌≡◌, refl, sym, ap, ap₂, ◌∙◌, ℕ, Bool, true, false, ◌||◌, if◌then◌else◌, ltb, List, [], ◌∷◌, ◌++◌, take, Option, Some, None, is_some, true≢false}
use mathlib.Core.Bool.{or-false, or-true, or_assoc}
use Rattle.std.proofs.Math.Seq.{take-nil}
use Rattle.rules.specs.Refusals.{some_above}
use Rattle.rules.proofs.Booleans.{or-four}
use Rattle.csv_rows.specs.declared.Named.TheVariants.{Near, Far}
use Rattle.rules.specs.declared.Words.{Words}
use Rattle.csv_rows.specs.Told.{named_by}
use Rattle.csv_rows.proofs.Fronts.{kept-next}
use Rattle.csv_import.specs.declared.ways.Ways.{Ways}
use Rattle.csv_import.specs.Gather.{wide_words, Worded}

-- ---- words that are too wide

-- A number above a limit is one of the first, or the last.
above-last : (m : ℕ) (xs : List ℕ) (y : ℕ) → some_above m (xs ++ y ∷ []) ≡ some_above m xs || ltb m y
unfolding some_above
above-last m [] y = or-false (ltb m y)
above-last m (x ∷ xs) y = ap (λ (b : Bool). ltb m x || b) (above-last m xs y) ∙ sym (or_assoc (ltb m x) (some_above m xs) (ltb m y))

-- A word is none of 64 bits.
abbrev wide : ℕ → Bool
wide p = ltb 18446744073709551615 p

-- Two words more: one of them is too wide, or one of those before.
wide-more : (ps qs : List ℕ) (p q : ℕ) → wide_words (ps ++ p ∷ []) (qs ++ q ∷ []) ≡ wide_words ps qs || (wide p || wide q)
unfolding wide_words
wide-more ps qs p q =
    ap₂ (λ (x y : Bool). x || y) (above-last _ ps p) (above-last _ qs q) ∙ or-four (some_above _ ps) (wide p) (some_above _ qs) (wide q)

-- ---- what two words name

module _ (p q : ℕ) where
  -- Near faults: the words are as they are told, and none is too wide.
  near-words : (w : Words) → Near w ≡ named_by p q → (wide p || wide q ≡ false) × (w.present ≡ p) × (w.absent ≡ q)
  unfolding named_by
  near-words w h = split (wide p || wide q) refl h
    where
      split : (b : Bool) → wide p || wide q ≡ b → Near w ≡ (if b then Far else Near (record { present = p; absent = q }))
          → (wide p || wide q ≡ false) × (w.present ≡ p) × (w.absent ≡ q)
      split true e h = absurd cc
      split false e h = let same : w ≡ record { present = p; absent = q } = cc in (e, ap (λ (w : Words). w.present) same, ap (λ (w : Words). w.absent) same)

  -- A far one: one of the words is too wide.
  far-words : Far ≡ named_by p q → wide p || wide q ≡ true
  unfolding named_by
  far-words h = split (wide p || wide q) refl h
    where
      split : (b : Bool) → wide p || wide q ≡ b → Far ≡ (if b then Far else Near (record { present = p; absent = q })) → wide p || wide q ≡ true
      split true e h = e
      split false e h = absurd cc

-- ---- the words so far

-- At first, none.
pub words-none : (w : Ways) → w.present.items ≡ [] → w.absent.items ≡ [] → Worded [] [] (Some w)
unfolding wide_words some_above
words-none w p q = (refl, p ∙ sym (take-nil 3072), q ∙ sym (take-nil 3072))

module _ (ps qs : List ℕ) (p q : ℕ) where
  -- Those of a way with near faults, where none was too wide;
  pub words-near : {w : Ways} → Worded ps qs (Some w) → (two : Words) → Near two ≡ named_by p q → (v : Ways)
      → v.present.items ≡ take 3072 (w.present.items ++ two.present ∷ []) → v.absent.items ≡ take 3072 (w.absent.items ++ two.absent ∷ [])
      → Worded (ps ++ p ∷ []) (qs ++ q ∷ []) (Some v)
  words-near h two e v k l =
      let same = near-words p q two e in (
        wide-more ps qs p q ∙ ap₂ (λ (a b : Bool). a || b) h.0 same.0,
        k ∙ kept-next 3072 ps two.present h.1 ∙ ap (λ (v : ℕ). take 3072 (ps ++ v ∷ [])) same.1,
        l ∙ kept-next 3072 qs two.absent h.2 ∙ ap (λ (v : ℕ). take 3072 (qs ++ v ∷ [])) same.2,
      )

  -- and where one was.
  pub words-wide : Worded ps qs None → Worded (ps ++ p ∷ []) (qs ++ q ∷ []) None
  words-wide h = wide-more ps qs p q ∙ ap (λ (b : Bool). b || (wide p || wide q)) h

  -- They stay let go.
  pub words-gone : (o : Option Ways) → is_some o ≡ false → Worded ps qs o → Worded (ps ++ p ∷ []) (qs ++ q ∷ []) o
  words-gone None e h = words-wide h
  words-gone (Some w) e h = absurd (true≢false e)

  -- Of one with a far fault there are none.
  pub words-far : (o : Option Ways) → Worded ps qs o → Far ≡ named_by p q → Worded (ps ++ p ∷ []) (qs ++ q ∷ []) None
  words-far o h e = wide-more ps qs p q ∙ ap (λ (b : Bool). wide_words ps qs || b) (far-words p q e) ∙ or-true (wide_words ps qs)
