-- Cues joined to groups, one more at the end: it joins the last one, or begins another. What that makes of their lists, and what may follow.
-- Rests on specs, Gather, and on `csv_text`, Shapes.
use Rattle.std.proofs.Common.{◌≡◌, refl, sym, ap, ap₂, ◌∙◌, ℕ, ◌<◌, Bool, true, false, ◌&&◌, eqb, ltb, lt-ltb, ne_eqb, eq-eqb, eqb-true, ltb-true, List, [], ◌∷◌, ◌++◌, length, length-append, get_or, append_assoc, append-nil, arith, Some}
use Rattle.std.proofs.lemmas.Bool.{eqb-false}
use Rattle.rules.specs.Sheet.{Cue, numbers_of, counts_of, present_of, absent_of}
use Rattle.rules.proofs.Booleans.{and_right}
use Rattle.csv_text.specs.Shapes.{follows, attach, grouped}
use Rattle.csv_import.specs.Gather.{last_of, joined}

-- Two cues of one number as one.
abbrev pub both : Cue → Cue → Cue
both c d = record { number = c.number; present = c.present ++ d.present; absent = c.absent ++ d.absent }

-- ---- a cue in front

-- Two cues of one number in front of others are one in front of them.
attach-both : (c d : Cue) (cs : List Cue) → c.number ≡ d.number → attach c (attach d cs) ≡ attach (both c d) cs
unfolding attach
attach-both c d [] e = rw (eq-eqb c.number d.number e, attach)
attach-both c d (x ∷ xs) e = split (eqb d.number x.number) refl
  where
    split : (y : Bool) → eqb d.number x.number ≡ y → attach c (attach d (x ∷ xs)) ≡ attach (both c d) (x ∷ xs)
    split true q =
        let q' : eqb c.number x.number ≡ true = ap (λ (m : ℕ). eqb m x.number) e ∙ q in
        rw (q, q', attach)
        (rw (eq-eqb c.number d.number e, attach)
        (λ i. record {
          number = c.number;
          present = sym (append_assoc c.present d.present x.present) i;
          absent = sym (append_assoc c.absent d.absent x.absent) i;
        } ∷ xs))
    split false q =
        let q' : eqb c.number x.number ≡ false = ap (λ (m : ℕ). eqb m x.number) e ∙ q in
        rw (q, q', attach) (rw (eq-eqb c.number d.number e, attach))

-- The first of the cues behind has the number of the one that was put there.
attach-head : (d : Cue) (cs : List Cue) → get_or (numbers_of (attach d cs)) 0 0 ≡ d.number
unfolding attach numbers_of
attach-head d [] = refl
attach-head d (x ∷ xs) = split (eqb d.number x.number) refl
  where
    split : (y : Bool) → eqb d.number x.number ≡ y → get_or (numbers_of (attach d (x ∷ xs))) 0 0 ≡ d.number
    split true q = rw (q, attach)
    split false q = rw (q, attach)

-- There is a first one.
attach-some : (d : Cue) (cs : List Cue) → 0 < length (attach d cs)
unfolding attach
attach-some d [] = omega arith
attach-some d (x ∷ xs) = split (eqb d.number x.number) refl
  where
    split : (y : Bool) → eqb d.number x.number ≡ y → 0 < length (attach d (x ∷ xs))
    split true q = rw (q, attach) (omega arith)
    split false q = rw (q, attach) (omega arith)

-- A cue that has another number than the first of the others.
attach-first : (c : Cue) (xs : List Cue) → 0 < length xs → (c.number ≡ get_or (numbers_of xs) 0 0 → ⊥) → attach c xs ≡ c ∷ xs
unfolding attach numbers_of
attach-first c [] l h = absurd (omega arith)
attach-first c (x ∷ xs) l h = rw (ne_eqb c.number x.number h, attach)

-- A cue of another number stays alone.
attach-other : (c d : Cue) (cs : List Cue) → (c.number ≡ d.number → ⊥) → attach c (attach d cs) ≡ c ∷ attach d cs
attach-other c d cs h = attach-first c (attach d cs) (attach-some d cs) (λ e. h (e ∙ attach-head d cs))

-- ---- a cue at the end

-- It makes no difference whether the one in front or the one at the end comes first.
attach-joined : (r : Cue) (gs : List Cue) (c : Cue) → attach r (joined gs c) ≡ joined (attach r gs) c
unfolding joined attach
attach-joined r [] c = refl
attach-joined r (d ∷ []) c = split (eqb r.number d.number) refl
  where
    split : (y : Bool) → eqb r.number d.number ≡ y → attach r (attach d (c ∷ [])) ≡ joined (attach r (d ∷ [])) c
    split true q = attach-both r d (c ∷ []) (eqb-true r.number d.number q) ∙ rw (q, attach)
    split false q = attach-other r d (c ∷ []) (eqb-false r.number d.number q) ∙ rw (q, attach)
attach-joined r (d ∷ e ∷ ds) c = split (eqb r.number d.number) refl
  where
    split : (y : Bool) → eqb r.number d.number ≡ y → attach r (d ∷ joined (e ∷ ds) c) ≡ joined (attach r (d ∷ e ∷ ds)) c
    split true q = rw (q, attach)
    split false q = rw (q, attach)

-- So one record more is one cue more at the end of the groups.
pub grouped-joined : (rs : List Cue) (c : Cue) → grouped (rs ++ c ∷ []) ≡ joined (grouped rs) c
unfolding grouped joined attach
grouped-joined [] c = refl
grouped-joined (r ∷ rs) c = ap (attach r) (grouped-joined rs c) ∙ attach-joined r (grouped rs) c

-- Only the last cue is looked at.
joined-last : (front : List Cue) (d c : Cue) → joined (front ++ d ∷ []) c ≡ front ++ attach d (c ∷ [])
unfolding joined
joined-last [] d c = refl
joined-last (f ∷ []) d c = refl
joined-last (f ∷ g ∷ fs) d c = ap (λ (l : List Cue). f ∷ l) (joined-last (g ∷ fs) d c)

-- The last of cues is the one that stands behind the others.
pub last-is : (front : List Cue) (d : Cue) → last_of (front ++ d ∷ []) ≡ Some d
unfolding last_of
last-is [] d = refl
last-is (f ∷ []) d = refl
last-is (f ∷ g ∷ fs) d = last-is (g ∷ fs) d

-- Cues are none, or one behind others.
data Ends : List Cue → Type 0 where
  none-yet : Ends []
  ends-in : (front : List Cue) (d : Cue) → Ends (front ++ d ∷ [])

ends : (cs : List Cue) → Ends cs
ends [] = none-yet
ends (c ∷ cs) = behind (ends cs)
  where
    behind : {ds : List Cue} → Ends ds → Ends (c ∷ ds)
    behind none-yet = ends-in [] c
    behind (ends-in front d) = ends-in (c ∷ front) d

module _ (front : List Cue) (d c : Cue) where
  -- A record of the last cue's number joins that cue.
  pub joined-same : d.number ≡ c.number → joined (front ++ d ∷ []) c ≡ front ++ both d c ∷ []
  unfolding attach
  joined-same e = joined-last front d c ∙ ap (λ (l : List Cue). front ++ l) (rw (eq-eqb d.number c.number e, attach))

  -- Any other begins a cue.
  pub joined-other : (d.number ≡ c.number → ⊥) → joined (front ++ d ∷ []) c ≡ (front ++ d ∷ []) ++ c ∷ []
  unfolding attach
  joined-other h =
      joined-last front d c
      ∙ ap (λ (l : List Cue). front ++ l) (rw (ne_eqb d.number c.number h, attach))
      ∙ sym (append_assoc front (d ∷ []) (c ∷ []))

-- What may follow the last cue, once a record is joined, is what may follow that record.
pub follows-alike : (cs : List Cue) (c : Cue) → follows (last_of cs) c ≡ true → (e : Cue) → follows (last_of (joined cs c)) e ≡ follows (Some c) e
unfolding follows last_of joined
follows-alike cs c h e = split (ends cs) h
  where
    last : (front : List Cue) (d : Cue) → follows (Some d) c ≡ true → (x : Bool) → eqb d.number c.number ≡ x
        → follows (last_of (joined (front ++ d ∷ []) c)) e ≡ follows (Some c) e
    last front d h true q =
        let same : d.number ≡ c.number = eqb-true d.number c.number q in
        let ways : ltb 0 (length d.present) && ltb 0 (length c.present) ≡ true = rw q at h in
        let some-way : ltb 0 (length c.present) ≡ true = and_right (ltb 0 (length d.present)) _ ways in
        let more : ltb 0 (length (d.present ++ c.present)) ≡ true =
        lt-ltb 0 _ (omega (arith, length-append d.present c.present, ltb-true 0 (length c.present) some-way)) in
        rw (joined-same front d c same, last-is front (both d c), same, more, some-way)
    last front d h false q =
        rw (joined-other front d c (eqb-false d.number c.number q), last-is (front ++ d ∷ []) c)

    split : {cs : List Cue} → Ends cs → follows (last_of cs) c ≡ true → follows (last_of (joined cs c)) e ≡ follows (Some c) e
    split none-yet h = refl
    split (ends-in front d) h = last front d (ap (λ o. follows o c) (sym (last-is front d)) ∙ h) (eqb d.number c.number) refl

-- ---- the lists of cues with one more at the end

-- A number more.
pub numbers_more : (cs : List Cue) (c : Cue) → numbers_of (cs ++ c ∷ []) ≡ numbers_of cs ++ c.number ∷ []
unfolding numbers_of
numbers_more [] c = refl
numbers_more (d ∷ cs) c = ap (λ (l : List ℕ). d.number ∷ l) (numbers_more cs c)

-- A count more.
pub counts-more : (cs : List Cue) (c : Cue) → counts_of (cs ++ c ∷ []) ≡ counts_of cs ++ length c.present ∷ []
unfolding counts_of
counts-more [] c = refl
counts-more (d ∷ cs) c = ap (λ (l : List ℕ). length d.present ∷ l) (counts-more cs c)

-- ---- joining moves no word

-- The present words of a record stand behind those of the cues.
pub present-joined : (cs : List Cue) (c : Cue) → present_of (joined cs c) ≡ present_of cs ++ c.present
unfolding joined attach present_of
present-joined [] c = append-nil c.present
present-joined (d ∷ []) c = split (eqb d.number c.number) refl
  where
    split : (x : Bool) → eqb d.number c.number ≡ x → present_of (attach d (c ∷ [])) ≡ (d.present ++ []) ++ c.present
    split true e = rw (e, attach) (append-nil (d.present ++ c.present) ∙ ap (λ (l : List ℕ). l ++ c.present) (sym (append-nil d.present)))
    split false e = rw (e, attach) (ap₂ (λ (k l : List ℕ). k ++ l) (sym (append-nil d.present)) (append-nil c.present))
present-joined (d ∷ e ∷ ds) c =
    ap (λ (l : List ℕ). d.present ++ l) (present-joined (e ∷ ds) c) ∙ sym (append_assoc d.present (present_of (e ∷ ds)) c.present)

-- So with absent words. One lemma over both would ask for three facts of each, and be as long.
pub absent-joined : (cs : List Cue) (c : Cue) → absent_of (joined cs c) ≡ absent_of cs ++ c.absent
unfolding joined attach absent_of
absent-joined [] c = append-nil c.absent
absent-joined (d ∷ []) c = split (eqb d.number c.number) refl
  where
    split : (x : Bool) → eqb d.number c.number ≡ x → absent_of (attach d (c ∷ [])) ≡ (d.absent ++ []) ++ c.absent
    split true e = rw (e, attach) (append-nil (d.absent ++ c.absent) ∙ ap (λ (l : List ℕ). l ++ c.absent) (sym (append-nil d.absent)))
    split false e = rw (e, attach) (ap₂ (λ (k l : List ℕ). k ++ l) (sym (append-nil d.absent)) (append-nil c.absent))
absent-joined (d ∷ e ∷ ds) c =
    ap (λ (l : List ℕ). d.absent ++ l) (absent-joined (e ∷ ds) c) ∙ sym (append_assoc d.absent (absent_of (e ∷ ds)) c.absent)
