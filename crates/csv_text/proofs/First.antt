-- THE RECORD THAT 23 TELLS, in plain words (RULES 13.11): it is the first that is due and not fine. The first two records are due, and so is every
-- further one that is there; a record is fine if it is there and of its shape after the record before it.
-- Rests on the shapes alone (specs/Shapes.antt).
use mathlib.Core.Path.{◌≡◌, refl, sym, ◌∙◌}
use mathlib.Core.Logic.{◌↔◌}
use mathlib.Core.Bool.{Bool, true, false, not, ◌&&◌, true≢false}
use mathlib.Core.List.{List, [], ◌∷◌}
use Rattle.std.specs.Prelude.{Option, Some, None}
use Prim.Native.Nat.{ℕ, zero, suc, ◌+◌, ◌<◌, max}
use native.Mathlib.Decide.{dec_lt, ℕ_discrete}
use native.Mathlib.Omega.{arith}
use lib.ListN.{length, get_or}
use lib.Dec.{eqb, ltb}
use borrow.Author.Tests.{lt-ltb, ltb-true, ne_eqb, eq-eqb}
use Rattle.rules.specs.Sheet.{Cue}
use Rattle.rules.proofs.Booleans.{and_both, and_split, or-first, or-second, or_cases}
use Rattle.csv_text.specs.Cut.{records_in}
use Rattle.csv_text.specs.Shapes.{is_run, is_weights, is_row, row_in, follows, misread_rows, misread_weights, misread_records, misread}

-- ---- what is fine, and which record is the first that is not

-- Two records of ways that stand together: if they are of one cue, both have a way.
abbrev pub Joins : Cue → Cue → Type 0
Joins b c = b.number ≡ c.number → (0 < length b.present) × (0 < length c.present)

-- The record at place j, counted from 0, is of its shape, and stands well behind the one before it.
abbrev pub Shaped : List (List (List ℕ)) → ℕ → Type 0
Shaped rs zero = is_run (get_or rs 0 []) ≡ true
Shaped rs (suc zero) = is_weights (get_or rs 1 []) ≡ true
Shaped rs (suc (suc zero)) = is_row (get_or rs 2 []) ≡ true
Shaped rs (suc (suc (suc j))) =
    (is_row (get_or rs (suc (suc (suc j))) []) ≡ true) × Joins (row_in (get_or rs (suc (suc j)) [])) (row_in (get_or rs (suc (suc (suc j))) []))

-- It is there, too.
abbrev pub Fine : List (List (List ℕ)) → ℕ → Type 0
Fine rs j = (j < length rs) × Shaped rs j

-- The first two records are due, and every further one that is there.
abbrev pub due : List (List (List ℕ)) → ℕ
due rs = max 2 (length rs)

-- The record at place k is the first of those due that is not fine.
pub record FirstAmiss (rs : List (List (List ℕ))) (k : ℕ) : Type 0 where
  pub asked : k < due rs
  pub before : (j : ℕ) → j < k → Fine rs j
  pub amiss : Fine rs k → ⊥

-- ---- the records of ways

-- What stands before place j: a cue, or nothing.
abbrev previous : Option Cue → List (List (List ℕ)) → ℕ → Option Cue
previous b rs zero = b
previous b rs (suc j) = Some (row_in (get_or rs j []))

-- The record at place j is there, is a row, and follows what stands before.
record Row (b : Option Cue) (rs : List (List (List ℕ))) (j : ℕ) : Type 0 where
  there : j < length rs
  row : is_row (get_or rs j []) ≡ true
  after : follows (previous b rs j) (row_in (get_or rs j [])) ≡ true

-- One record more in front: every place moves by one.
row-down : (b : Option Cue) (r : List (List ℕ)) (rs : List (List (List ℕ))) (j : ℕ) → Row (Some (row_in r)) rs j → Row b (r ∷ rs) (suc j)
row-down b r rs zero h = record { there = omega (arith, h.there); row = h.row; after = h.after }
row-down b r rs (suc j) h = record { there = omega (arith, h.there); row = h.row; after = h.after }

-- And back.
row_up : (b : Option Cue) (r : List (List ℕ)) (rs : List (List (List ℕ))) (j : ℕ) → Row b (r ∷ rs) (suc j) → Row (Some (row_in r)) rs j
row_up b r rs zero h = record { there = omega (arith, h.there); row = h.row; after = h.after }
row_up b r rs (suc j) h = record { there = omega (arith, h.there); row = h.row; after = h.after }

-- The first record of some.
row_first : (b : Option Cue) (r : List (List ℕ)) (rs : List (List (List ℕ))) → is_row r && follows b (row_in r) ≡ true → Row b (r ∷ rs) 0
row_first b r rs e = let both = and_split (is_row r) (follows b (row_in r)) e in record { there = omega arith; row = both.0; after = both.1 }

-- Where none is told, each is a row and follows the one before.
rows_none : (k : ℕ) (b : Option Cue) (rs : List (List (List ℕ))) → misread_rows (suc k) b rs ≡ 0 → (j : ℕ) → j < length rs → Row b rs j
unfolding misread_rows
rows_none k b [] e = λ j h. absurd (omega arith)
rows_none k b (r ∷ rs) e = split (is_row r && follows b (row_in r)) refl (rows_none (suc k) (Some (row_in r)) rs)
  where
    split : (x : Bool) → is_row r && follows b (row_in r) ≡ x
        → (misread_rows (suc (suc k)) (Some (row_in r)) rs ≡ 0 → (j : ℕ) → j < length rs → Row (Some (row_in r)) rs j)
        → (j : ℕ) → j < length (r ∷ rs) → Row b (r ∷ rs) j
    split true x rest zero h = row_first b r rs x
    split true x rest (suc j) h = row-down b r rs j (rest (rw (x, misread_rows) at e) j (omega arith))
    split false x rest j h = absurd (let z : suc k ≡ 0 = rw (x, misread_rows) at e in omega arith)

-- The record at place i is amiss, and those before it are not.
record Told (b : Option Cue) (rs : List (List (List ℕ))) (i : ℕ) : Type 0 where
  there : i < length rs
  before : (j : ℕ) → j < i → Row b rs j
  amiss : Row b rs i → ⊥

-- Where one is told, it is the first that is no row or does not follow the one before.
rows_told : (k n : ℕ) (b : Option Cue) (rs : List (List (List ℕ))) → misread_rows (suc k) b rs ≡ suc n → (i : ℕ) × (n ≡ k + i) × Told b rs i
unfolding misread_rows
rows_told k n b [] e = absurd (omega arith)
rows_told k n b (r ∷ rs) e = split (is_row r && follows b (row_in r)) refl (rows_told (suc k) n (Some (row_in r)) rs)
  where
    split : (x : Bool) → is_row r && follows b (row_in r) ≡ x
        → (misread_rows (suc (suc k)) (Some (row_in r)) rs ≡ suc n → (i : ℕ) × (n ≡ suc k + i) × Told (Some (row_in r)) rs i)
        → (i : ℕ) × (n ≡ k + i) × Told b (r ∷ rs) i
    split true x rest =
        let found = rest (rw (x, misread_rows) at e) in
        let told = found.2 in (
          suc found.0,
          omega (arith, found.1),
          record {
            there = omega (arith, told.there);
            before = λ j. elim j as (λ m. m < suc found.0 → Row b (r ∷ rs) m) [ zero ↦ λ h. row_first b r rs x | suc m ↦ λ h. row-down b r rs m (told.before m (omega arith)) ];
            amiss = λ h. told.amiss (row_up b r rs found.0 h);
          },
        )
    split false x rest =
        let z : suc k ≡ suc n = rw (x, misread_rows) at e in (
          0,
          omega arith,
          record {
            there = omega arith;
            before = λ j h. absurd (omega arith);
            amiss = λ h. true≢false (sym (and_both (is_row r) (follows b (row_in r)) h.row h.after) ∙ x);
          },
        )

-- ---- a row, in the plain words

-- To follow is to join.
pub follows-joins : (b c : Cue) → follows (Some b) c ≡ true → Joins b c
unfolding follows
follows-joins b c e same =
    or_cases (not (eqb b.number c.number)) (ltb 0 (length b.present) && ltb 0 (length c.present))
    (λ h. absurd (true≢false (sym h ∙ rw (eq-eqb b.number c.number same))))
    (λ h. let both = and_split (ltb 0 (length b.present)) (ltb 0 (length c.present)) h in (ltb-true 0 _ both.0, ltb-true 0 _ both.1)) e

-- And to join is to follow.
joins-follows : (b c : Cue) → Joins b c → follows (Some b) c ≡ true
unfolding follows
joins-follows b c h = split (ℕ_discrete b.number c.number)
  where
    split : Dec (b.number ≡ c.number) → follows (Some b) c ≡ true
    split (yes same) =
        or-second (not (eqb b.number c.number)) _
        (and_both _ _ (lt-ltb 0 (length b.present) (h same).0) (lt-ltb 0 (length c.present) (h same).1))
    split (no other) = or-first (not (eqb b.number c.number)) _ (rw (ne_eqb b.number c.number other))

module _ (r w : List (List ℕ)) (rs : List (List (List ℕ))) where
  -- A row that follows is a fine record behind the first two.
  row_fine : (j : ℕ) → Row None rs j → Fine (r ∷ w ∷ rs) (suc (suc j))
  row_fine zero h = (omega (arith, h.there), h.row)
  row_fine (suc j) h = (omega (arith, h.there), (h.row, follows-joins (row_in (get_or rs j [])) (row_in (get_or rs (suc j) [])) h.after))

  -- And back.
  fine_row : (j : ℕ) → Fine (r ∷ w ∷ rs) (suc (suc j)) → Row None rs j
  unfolding follows
  fine_row zero h = record { there = omega (arith, h.0); row = h.1; after = refl }
  fine_row (suc j) h =
      record { there = omega (arith, h.0); row = h.1.0; after = joins-follows (row_in (get_or rs j [])) (row_in (get_or rs (suc j) [])) h.1.1 }

-- ---- all records

-- The first record is amiss.
head-told : (r : List (List ℕ)) (rs : List (List (List ℕ))) (k : ℕ) → is_run r ≡ false → 1 ≡ suc k → FirstAmiss (r ∷ rs) k
head-told r rs zero x e = record { asked = omega arith; before = λ j h. absurd (omega arith); amiss = λ h. true≢false (sym h.1 ∙ x) }
head-told r rs (suc k) x e = absurd (omega arith)

module _ (r w : List (List ℕ)) (rs : List (List (List ℕ))) where
  -- The second is.
  weights_told : (k : ℕ) → is_run r ≡ true → is_weights w ≡ false → 2 ≡ suc k → FirstAmiss (r ∷ w ∷ rs) k
  weights_told zero x y e = absurd (omega arith)
  weights_told (suc zero) x y e =
      record {
        asked = omega arith;
        before = λ j. elim j as (λ m. m < 1 → Fine (r ∷ w ∷ rs) m) [ zero ↦ λ h. (omega arith, x) | suc m ↦ λ h. absurd (omega arith) ];
        amiss = λ h. true≢false (sym h.1 ∙ y);
      }
  weights_told (suc (suc k)) x y e = absurd (omega arith)

  -- A further one is.
  rows_amiss : (k : ℕ) → is_run r ≡ true → is_weights w ≡ true → (i : ℕ) × (k ≡ 2 + i) × Told None rs i → FirstAmiss (r ∷ w ∷ rs) k
  rows_amiss zero x y t = absurd (omega (arith, t.1))
  rows_amiss (suc zero) x y t = absurd (omega (arith, t.1))
  rows_amiss (suc (suc k)) x y t =
      let e : t.0 ≡ k = omega (arith, t.1) in
      let told : Told None rs k = rw e at t.2 in
      record {
        asked = omega (arith, told.there);
        before = λ j h. fine j h told.before;
        amiss = λ h. told.amiss (fine_row r w rs k h);
      }
    where
      fine : (j : ℕ) → j < suc (suc k) → ((i : ℕ) → i < k → Row None rs i) → Fine (r ∷ w ∷ rs) j
      fine zero h rest = (omega arith, x)
      fine (suc zero) h rest = (omega arith, y)
      fine (suc (suc j)) h rest = row_fine r w rs j (rest j (omega arith))

-- Where none is told, every record that is due is fine.
all-fine : (rs : List (List (List ℕ))) → misread_records rs ≡ 0 → (j : ℕ) → j < due rs → Fine rs j
unfolding misread_records misread_weights
all-fine [] e = absurd (omega arith)
all-fine (r ∷ []) e = split (is_run r) refl
  where
    split : (x : Bool) → is_run r ≡ x → (j : ℕ) → j < due (r ∷ []) → Fine (r ∷ []) j
    split true x = absurd (let z : ◌≡◌ {A = ℕ} 2 0 = rw (x, misread_records) at e in omega arith)
    split false x = absurd (let z : ◌≡◌ {A = ℕ} 1 0 = rw (x, misread_records) at e in omega arith)
all-fine (r ∷ w ∷ rs) e = split (is_run r) (is_weights w) refl refl
  where
    split : (x y : Bool) → is_run r ≡ x → is_weights w ≡ y → (j : ℕ) → j < due (r ∷ w ∷ rs) → Fine (r ∷ w ∷ rs) j
    split true true x y zero h = (omega arith, x)
    split true true x y (suc zero) h = (omega arith, y)
    split true true x y (suc (suc j)) h =
        row_fine r w rs j (rows_none 2 None rs (rw (y, misread_weights) at (rw (x, misread_records) at e)) j (omega arith))
    split true false x y j h = absurd (let z : ◌≡◌ {A = ℕ} 2 0 = rw (y, misread_weights) at (rw (x, misread_records) at e) in omega arith)
    split false y' x y j h = absurd (let z : ◌≡◌ {A = ℕ} 1 0 = rw (x, misread_records) at e in omega arith)

-- Where one is told, it is the first of those due that is not fine.
first-told : (k : ℕ) (rs : List (List (List ℕ))) → misread_records rs ≡ suc k → FirstAmiss rs k
unfolding misread_records misread_weights
first-told k [] e = record { asked = omega arith; before = λ j h. absurd (omega arith); amiss = λ h. omega (arith, h.0) }
first-told k (r ∷ []) e = split (is_run r) refl
  where
    split : (x : Bool) → is_run r ≡ x → FirstAmiss (r ∷ []) k
    split true x =
        let z : 2 ≡ suc k = rw (x, misread_records) at e in
        record {
          asked = omega arith;
          before = λ j. elim j as (λ m. m < k → Fine (r ∷ []) m) [ zero ↦ λ h. (omega arith, x) | suc m ↦ λ h. absurd (omega arith) ];
          amiss = λ h. omega (arith, h.0);
        }
    split false x = head-told r [] k x (rw (x, misread_records) at e)
first-told k (r ∷ w ∷ rs) e = split (is_run r) (is_weights w) refl refl
  where
    split : (x y : Bool) → is_run r ≡ x → is_weights w ≡ y → FirstAmiss (r ∷ w ∷ rs) k
    split true true x y = rows_amiss r w rs k x y (rows_told 2 k None rs (rw (y, misread_weights) at (rw (x, misread_records) at e)))
    split true false x y = weights_told r w rs k x y (rw (y, misread_weights) at (rw (x, misread_records) at e))
    split false y' x y = head-told r (w ∷ rs) k x (rw (x, misread_records) at e)

-- There is one such record at most, and none where all that are due are fine: so what is told is that record.
first-only : (rs : List (List (List ℕ))) (j k : ℕ) → FirstAmiss rs j → FirstAmiss rs k → j ≡ k
first-only rs j k a b = split (dec_lt j k) (dec_lt k j)
  where
    split : Dec (j < k) → Dec (k < j) → j ≡ k
    split (yes l) d = absurd (a.amiss (b.before j l))
    split (no n) (yes l) = absurd (b.amiss (a.before k l))
    split (no n) (no m) = omega arith

-- NONE OF SOME RECORDS IS MISREAD exactly if every record that is due is fine.
pub records-none : (rs : List (List (List ℕ))) → (misread_records rs ≡ 0) ↔ ((j : ℕ) → j < due rs → Fine rs j)
records-none rs = (all-fine rs, λ h. back (misread_records rs) refl h)
  where
    back : (n : ℕ) → misread_records rs ≡ n → ((j : ℕ) → j < due rs → Fine rs j) → misread_records rs ≡ 0
    back zero e h = e
    back (suc k) e h = let a = first-told k rs e in absurd (a.amiss (h k a.asked))

-- RECORD k + 1 IS TOLD exactly if it is the first of those due that is not fine.
pub records-first : (rs : List (List (List ℕ))) (k : ℕ) → (misread_records rs ≡ suc k) ↔ FirstAmiss rs k
records-first rs k = (first-told k rs, λ a. back (misread_records rs) refl a)
  where
    back : (n : ℕ) → misread_records rs ≡ n → FirstAmiss rs k → misread_records rs ≡ suc k
    back zero e a = absurd (a.amiss (all-fine rs e k a.asked))
    back (suc m) e a = let same : m ≡ k = first-only rs m k (first-told m rs e) a in omega arith

-- So it is of the records of a text.
pub misread-none : (t : List ℕ) → (misread t ≡ 0) ↔ ((j : ℕ) → j < due (records_in t) → Fine (records_in t) j)
unfolding misread
misread-none t = records-none (records_in t)

-- And so is the record that is told.
pub misread_first : (t : List ℕ) (k : ℕ) → (misread t ≡ suc k) ↔ FirstAmiss (records_in t) k
unfolding misread
misread_first t = records-first (records_in t)
