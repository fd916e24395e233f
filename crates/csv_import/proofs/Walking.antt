-- The walk over the records of ways, record by record, and with the first two the whole text: laws on plain lists.
-- Rests on Joining.antt and on `csv_rows`, Scanning.
use Rattle.std.proofs.Common.{◌≡◌, refl, sym, ap, ◌∙◌, subst, ℕ, suc, ◌+◌, ◌<◌, ◌≤◌, true, false, true≢false, ◌&&◌, eqb, List, [], ◌∷◌, ◌++◌, map, length, append_assoc, append-nil, None, arith, Option, Some}
use native.Mathlib.Numerals.{add-one}
use Rattle.rules.specs.Sheet.{Cue}
use Rattle.rules.proofs.Booleans.{and_both, and-false}
use Rattle.csv_text.specs.Cut.{lines_in, fields_in, records_in}
use Rattle.csv_text.specs.declared.ImportError.{ImportError}
use Rattle.csv_text.specs.Shapes.{is_row, row_in, follows, misread_rows, grouped}
use Rattle.csv_rows.specs.Scan.{first_line, next_lines}
use Rattle.csv_rows.specs.Told.{row_said}
use Rattle.csv_rows.proofs.Reading.{said-false}
use Rattle.csv_rows.proofs.Scanning.{records-next}
use Rattle.csv_import.specs.declared.rows.Rows.{Rows}
use Rattle.csv_import.specs.Gather.{last_of, joined, Gathers, Misreads}
use Rattle.csv_import.proofs.Joining.{grouped-joined, follows-alike}

-- ---- one record

-- It is of no way or does not follow, so that it is misread.
rows-stop : (k : ℕ) (o : Option Cue) (r : List (List ℕ)) (rs : List (List (List ℕ))) → is_row r && follows o (row_in r) ≡ false
    → misread_rows k o (r ∷ rs) ≡ k
unfolding misread_rows
rows-stop k o r rs h = rw (h, misread_rows)

-- It is and does, so that the others decide.
rows_on : (k : ℕ) (o : Option Cue) (r : List (List ℕ)) (rs : List (List (List ℕ))) → is_row r && follows o (row_in r) ≡ true
    → misread_rows k o (r ∷ rs) ≡ misread_rows (suc k) (Some (row_in r)) rs
unfolding misread_rows
rows_on k o r rs h = rw (h, misread_rows)

-- No byte is no record.
records-none : (t : List ℕ) → length t ≡ 0 → records_in t ≡ []
unfolding records_in lines_in
records-none [] h = refl
records-none (b ∷ t) h = absurd (omega (arith, h))

-- Bytes are left where the text is not empty.
pub left : (t : List ℕ) → false ≡ eqb (length t) 0 → 0 < length t
left [] e = absurd (true≢false (sym e))
left (b ∷ t) e = omega arith

-- ---- the walk

-- Records are gathered: the last of them, and that those of the rest decide what is misread.
pub record Walk (rs : List (List (List ℕ))) (rest : List ℕ) (k : ℕ) (g : Rows) : Type 0 where
  pub rows : List Cue
  pub before : Option Cue
  pub alike : (c : Cue) → follows (last_of (grouped rows)) c ≡ follows before c
  pub decides : misread_rows k before (records_in rest) ≡ misread_rows 3 None rs
  pub whole : rows ++ map row_in (records_in rest) ≡ map row_in rs
  pub gathers : Gathers (grouped rows) g
  pub third : 3 ≤ k

-- At first, none is gathered.
pub walk-start : (t : List ℕ) (g : Rows) → Gathers [] g → Walk (records_in t) t 3 g
unfolding grouped last_of
walk-start t g h =
    record { rows = []; before = None; alike = λ c. refl; decides = refl; whole = refl; gathers = h; third = omega arith }

module _ {rs : List (List (List ℕ))} {rest : List ℕ} {k : ℕ} {g : Rows} (w : Walk rs rest k g) where
  -- No record is left: none is misread, and all are gathered.
  pub walk-ended : length rest ≡ 0 → (misread_rows 3 None rs ≡ 0) × Gathers (grouped (map row_in rs)) g
  unfolding misread_rows
  walk-ended h =
      let past : records_in rest ≡ [] = records-none rest h in
      let all : w.rows ≡ map row_in rs =
      sym (append-nil w.rows) ∙ ap (λ (l : List (List (List ℕ))). w.rows ++ map row_in l) (sym past) ∙ w.whole in
      (sym w.decides ∙ ap (misread_rows k w.before) past, subst (λ (l : List Cue). Gathers (grouped l) g) all w.gathers)

  module _ (more : 0 < length rest) where
    -- The record's fields, and those behind it.
    abbrev here : List (List ℕ)
    here = fields_in (first_line rest)

    abbrev behind : List (List (List ℕ))
    behind = records_in (next_lines rest)

    -- What is misread, with this record in front.
    turn : misread_rows k w.before (here ∷ behind) ≡ misread_rows 3 None rs
    turn = ap (misread_rows k w.before) (sym (records-next rest more)) ∙ w.decides

    -- It is misread.
    stopped : is_row here && follows w.before (row_in here) ≡ false → Misreads (misread_rows 3 None rs) (ImportError.Misread k)
    stopped h =
        let this : misread_rows 3 None rs ≡ k = sym turn ∙ rows-stop k w.before here behind h in
        (λ z. omega (arith, w.third, this, z), ap ImportError.Misread (sym this))

    -- It is of no way.
    pub walk-bad : row_said here ≡ None → Misreads (misread_rows 3 None rs) (ImportError.Misread k)
    walk-bad h = stopped (rw (said-false (is_row here) _ h))

    -- It does not follow.
    pub walk-apart : follows (last_of (grouped w.rows)) (row_in here) ≡ false → Misreads (misread_rows 3 None rs) (ImportError.Misread k)
    walk-apart h = stopped (rw (sym (w.alike (row_in here)) ∙ h) (and-false (is_row here)))

    -- It is gathered.
    pub walk-next : is_row here ≡ true → (g' : Rows) → (follows (last_of (grouped w.rows)) (row_in here) ≡ true) × Gathers (joined (grouped w.rows) (row_in here)) g'
        → Walk rs (next_lines rest) (k + 1) g'
    walk-next good g' adds =
        let c : Cue = row_in here in
        let one : grouped (w.rows ++ c ∷ []) ≡ joined (grouped w.rows) c = grouped-joined w.rows c in
        record {
          rows = w.rows ++ c ∷ [];
          before = Some c;
          alike = λ e. rw one (follows-alike (grouped w.rows) c adds.0 e);
          decides =
              rw add-one (sym (rows_on k w.before here behind (and_both _ _ good (sym (w.alike c) ∙ adds.0))) ∙ turn);
          whole =
              append_assoc w.rows (c ∷ []) (map row_in behind)
              ∙ ap (λ (l : List (List (List ℕ))). w.rows ++ map row_in l) (sym (records-next rest more))
              ∙ w.whole;
          gathers = rw one adds.1;
          third = omega (arith, w.third);
        }
