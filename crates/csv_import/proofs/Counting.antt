-- The cues so far, with the record of one way more: what is counted, and whether it may follow.
-- Rests on Joining.antt and on `csv_rows`, Fronts.
use Rattle.std.proofs.Common.{◌≡◌, refl, sym, ap, ap₂, ◌∙◌, ℕ, ◌⊎◌, inl, inr, ◌+◌, min, Bool, true, false, ◌&&◌, ltb, lt-ltb, ne_eqb, eq-eqb, List, [], ◌∷◌, ◌++◌, length, length-append, take, Some, None, arith, Option}
use Rattle.std.specs.Int.{from_bool}
use Rattle.std.proofs.lemmas.List.{map-append}
use Rattle.std.proofs.Math.Seq.{take-nil}
use Rattle.arrayvec.specs.ArrayVec.{ArrayVec}
use Rattle.rules.specs.Table.{indicator}
use Rattle.rules.specs.Sheet.{Cue, numbers_of, counts_of}
use Rattle.rules.proofs.Booleans.{and-false}
use Rattle.csv_text.specs.Shapes.{follows}
use Rattle.csv_rows.specs.Told.{cut_all}
use Rattle.csv_rows.proofs.Fronts.{kept-next}
use Rattle.csv_import.specs.declared.cues.Cues.{Cues}
use Rattle.csv_import.specs.declared.cues.Last.{Last}
use Rattle.csv_import.specs.Gather.{last_of, joined, Counted, last_as, Latest, Counting}
use Rattle.csv_import.proofs.Joining.{both, last-is, joined-same, joined-other, numbers_more, counts-more}

-- At first, no cue is there.
pub counting-none : (k : Cues) → k.numbers.items ≡ [] → k.counts.items ≡ [] → k.last ≡ None → Counting [] k
unfolding numbers_of counts_of cut_all
counting-none k n m l =
    record { front = []; latest = rw l (refl, refl); counted = record { numbers = n ∙ sym (take-nil 25); counts = m ∙ sym (take-nil 25) } }

module _ {cs : List Cue} {k : Cues} (h : Counting cs k) where
  -- The last cue, where there is one.
  latest-some : {l : Last} → k.last ≡ Some l → Latest cs h.front (Some l)
  latest-some e = rw e at h.latest

  -- It is counted with those in front of it.
  pub closed : {l : Last} → k.last ≡ Some l → (numbers counts : ArrayVec ℕ) (last : Option Last)
      → numbers.items ≡ take 25 (k.numbers.items ++ l.number ∷ []) → counts.items ≡ take 25 (k.counts.items ++ l.ways ∷ [])
      → Counted cs (record { numbers = numbers; counts = counts; last = last })
  unfolding cut_all
  closed {l} e numbers counts last n m =
      let d = latest-some e in
      record {
        numbers =
            n
            ∙ kept-next 25 (numbers_of h.front) l.number h.counted.numbers
            ∙ ap (λ (l : Last). take 25 (numbers_of h.front ++ l.number ∷ [])) d.2
            ∙ ap (take 25) (sym (ap numbers_of d.1 ∙ numbers_more h.front d.0));
        counts =
            m
            ∙ kept-next 25 (cut_all 65535 (counts_of h.front)) l.ways h.counted.counts
            ∙ ap (λ (l : Last). take 25 (cut_all 65535 (counts_of h.front) ++ l.ways ∷ [])) d.2
            ∙ ap (take 25)
            (sym
            (ap (λ (cs : List Cue). cut_all 65535 (counts_of cs)) d.1
            ∙ ap (cut_all 65535) (counts-more h.front d.0)
            ∙ map-append (λ x. min x 65535) (counts_of h.front) (length d.0.present ∷ [])));
      }

  -- The last cue is the last of them.
  last-some : {l : Last} (e : k.last ≡ Some l) → last_of cs ≡ Some (latest-some e).0
  last-some e = ap last_of (latest-some e).1 ∙ last-is h.front (latest-some e).0

-- A way or none, as a number.
pub as-number : (b : Bool) → from_bool b ≡ indicator b
as-number true = refl
as-number false = refl

-- There is a way if there is a word.
some_way : (n : ℕ) (b : Bool) → n ≡ indicator b → ltb 0 n ≡ b
some_way n true e = ap (ltb 0) e
some_way n false e = ap (ltb 0) e

module _ {cs : List Cue} {k : Cues} (h : Counting cs k) (c : Cue) (b : Bool) (ways : length c.present ≡ indicator b) where
  module _ {l : Last} (e : k.last ≡ Some l) (same : l.number ≡ c.number) where
    -- The last cue.
    abbrev d : Cue
    d = (latest-some h e).0

    told : l ≡ last_as d
    told = (latest-some h e).2

    number : d.number ≡ c.number
    number = ap (λ (l : Last). l.number) (sym told) ∙ same

    -- A record of its number may follow if both have a way.
    follows-both : follows (last_of cs) c ≡ ltb 0 (length d.present) && b
    unfolding follows
    follows-both = rw (last-some h e, eq-eqb d.number c.number number, some_way (length c.present) b ways)

    -- One of them has none.
    pub stays : (l.ways ≡ 0) ⊎ (b ≡ false) → follows (last_of cs) c ≡ false
    stays (inl z) =
        let none : length d.present ≡ 0 = omega (arith, z, ap (λ (l : Last). l.ways) told) in
        follows-both ∙ rw none
    stays (inr f) = follows-both ∙ rw f (and-false (ltb 0 (length d.present)))

    -- Both have: the record joins the cue.
    pub joins : (l.ways ≡ 0 → ⊥) → b ≡ true → (n ways : ℕ) → n ≡ c.number → ways ≡ min (l.ways + 1) 65535
        → (follows (last_of cs) c ≡ true) × Counting (joined cs c) (record { numbers = k.numbers; counts = k.counts; last = Some (record { number = n; ways = ways }) })
    joins z t n more f g =
        let before : l.ways ≡ min (length d.present) 65535 = ap (λ (l : Last). l.ways) told in
        let one : length c.present ≡ 1 = ways ∙ ap indicator t in
        let sum : more ≡ min (length (d.present ++ c.present)) 65535 = omega (arith, g, before, one, length-append d.present c.present) in (
          follows-both ∙ rw (t, lt-ltb 0 (length d.present) (omega (arith, z, before))),
          record {
            front = h.front;
            latest = (
              both d c,
              ap (λ (l : List Cue). joined l c) (latest-some h e).1 ∙ joined-same h.front d c number,
              ap₂ (λ (m p : ℕ). record { number = m; ways = p }) (f ∙ sym number) sum,
            );
            counted = record { numbers = h.counted.numbers; counts = h.counted.counts };
          },
        )

  -- A record of another number may follow, and stands alone behind the others.
  apart : ((l : Last) → k.last ≡ Some l → l.number ≡ c.number → ⊥) → (follows (last_of cs) c ≡ true) × (joined cs c ≡ cs ++ c ∷ [])
  unfolding follows last_of joined
  apart other = split k.last refl
    where
      split : (o : Option Last) → k.last ≡ o → (follows (last_of cs) c ≡ true) × (joined cs c ≡ cs ++ c ∷ [])
      split None e = let empty : cs ≡ [] = (rw e at h.latest).0 in rw empty (refl, refl)
      split (Some l) e =
          let d : Cue = (latest-some h e).0 in
          let whole : cs ≡ h.front ++ d ∷ [] = (latest-some h e).1 in
          let differs : d.number ≡ c.number → ⊥ = λ q. other l e (ap (λ (l : Last). l.number) (latest-some h e).2 ∙ q) in (
            rw (last-some h e, ne_eqb d.number c.number differs),
            ap (λ (l : List Cue). joined l c) whole ∙ joined-other h.front d c differs ∙ ap (λ (l : List Cue). l ++ c ∷ []) (sym whole),
          )

  -- It begins a cue.
  pub begins : ((l : Last) → k.last ≡ Some l → l.number ≡ c.number → ⊥) → {k' : Cues} → Counted cs k' → (n ways : ℕ) → n ≡ c.number → ways ≡ indicator b
      → (follows (last_of cs) c ≡ true) × Counting (joined cs c) (record { numbers = k'.numbers; counts = k'.counts; last = Some (record { number = n; ways = ways }) })
  begins other counted n w f g =
      let told = apart other in (
        told.0,
        record {
          front = cs;
          latest = (c, told.1, ap₂ (λ (m p : ℕ). record { number = m; ways = p }) f (g ∙ sym (few b) ∙ ap (λ (p : ℕ). min p 65535) (sym ways)));
          counted = record { numbers = counted.numbers; counts = counted.counts };
        },
      )
    where
      few : (x : Bool) → min (indicator x) 65535 ≡ indicator x
      few true = refl
      few false = refl
