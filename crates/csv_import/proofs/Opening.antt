-- The first two records of a text, and with what its other records say, the whole: laws on plain lists.
-- Rests on `csv_rows`, Reading and Scanning.
use Rattle.std.proofs.Common.{◌≡◌, ◌≢◌, refl, sym, ap, ◌∙◌, subst, ℕ, true, false, true≢false, List, [], ◌∷◌, map, take, get_or, drop, Some, None, Result, Ok, Err, arith}
use Rattle.rules.specs.declared.Limits.{Limits}
use Rattle.rules.specs.Sheet.{same_numbers}
use Rattle.rules.specs.Text.{bytes}
use Rattle.csv_text.specs.Cut.{lines_in, raw_fields, quoted, unquoted, fields_in, records_in}
use Rattle.csv_text.specs.declared.ImportError.{ImportError}
use Rattle.csv_text.specs.Shapes.{is_run, limits_said, is_weights, weights_said, row_in, misread_rows, misread_weights, misread_records, misread, grouped, sheet_said, sheet_in}
use Rattle.csv_rows.specs.Scan.{line_span, first_line, next_lines}
use Rattle.csv_rows.specs.declared.heads.WeightsKept.{WeightsKept}
use Rattle.csv_rows.specs.Told.{run_said, cut_all, weights_kept}
use Rattle.csv_rows.proofs.Reading.{said-true, said-false}
use Rattle.csv_rows.proofs.Scanning.{records-next}
use Rattle.csv_import.specs.declared.rows.Rows.{Rows}
use Rattle.csv_import.specs.Gather.{Holds, Misreads, ReadsRows, Said, ReadsText}

-- The fields of the first record, and those of the records behind it.
abbrev first : List ℕ → List (List ℕ)
first t = fields_in (first_line t)

abbrev behind : List ℕ → List (List (List ℕ))
behind t = records_in (next_lines t)

-- A byte is the first record's.
begun : (b : ℕ) (t : List ℕ) → records_in (b ∷ t) ≡ first (b ∷ t) ∷ behind (b ∷ t)
begun b t = records-next (b ∷ t) (omega arith)

-- ---- the record of the limits

-- A first record that is not that of the limits, or is missing.
not-run : (t : List ℕ) → is_run (first t) ≡ false → misread t ≡ 1
unfolding misread misread_records records_in lines_in
not-run [] h = refl
not-run (b ∷ t) h = ap misread_records (begun b t) ∙ rw (h, misread_records)

-- One that is it.
run-first : (t : List ℕ) → is_run (first t) ≡ true → (records_in t ≡ first t ∷ behind t) × (misread t ≡ misread_weights (behind t))
unfolding misread misread_records is_run same_numbers bytes fields_in raw_fields unquoted quoted first_line line_span
run-first [] h = absurd (true≢false (sym h))
run-first (b ∷ t) h = (begun b t, ap misread_records (begun b t) ∙ rw (h, misread_records))

-- ---- the record of the weights

-- A second record that is not that of the weights, or is missing.
not-weights : (t : List ℕ) → is_weights (first t) ≡ false → misread_weights (records_in t) ≡ 2
unfolding misread_weights records_in lines_in
not-weights [] h = refl
not-weights (b ∷ t) h = ap misread_weights (begun b t) ∙ rw (h, misread_weights)

-- One that is it.
weights-first : (t : List ℕ) → is_weights (first t) ≡ true
    → (records_in t ≡ first t ∷ behind t) × (misread_weights (records_in t) ≡ misread_rows 3 None (behind t))
unfolding misread_weights is_weights same_numbers bytes fields_in raw_fields unquoted quoted first_line line_span
weights-first [] h = absurd (true≢false (sym h))
weights-first (b ∷ t) h = (begun b t, ap misread_weights (begun b t) ∙ rw (h, misread_weights))

-- ---- the whole text

-- Record k is misread, whatever follows.
misreads : (t : List ℕ) (k : ℕ) → k ≢ 0 → misread t ≡ k → Misreads (misread t) (ImportError.Misread k)
misreads t k h e = (λ z. h (sym e ∙ z), ap ImportError.Misread (sym e))

-- The first record.
pub misread_first : (t : List ℕ) → run_said (first t) ≡ None → Misreads (misread t) (ImportError.Misread 1)
misread_first t h = misreads t 1 (λ z. omega (arith, z)) (not-run t (said-false (is_run (first t)) _ h))

module _ (t : List ℕ) {m : Limits} (s : List ℕ) (run : (run_said (first t) ≡ Some m) × (s ≡ next_lines t)) where
  -- The first record is that of the limits.
  opened : (is_run (first t) ≡ true) × (limits_said (first t) ≡ m)
  opened = said-true (is_run (first t)) (limits_said (first t)) m run.0

  started : (records_in t ≡ first t ∷ records_in s) × (misread t ≡ misread_weights (records_in s))
  started = rw run.1 (run-first t opened.0)

  -- The second record is misread.
  pub misread-second : weights_kept 65 (first s) ≡ None → Misreads (misread t) (ImportError.Misread 2)
  misread-second h = misreads t 2 (λ z. omega (arith, z)) (started.1 ∙ not-weights s (said-false (is_weights (first s)) _ h))

  module _ {ws : WeightsKept 65} (r : List ℕ) (weights : (weights_kept 65 (first s) ≡ Some ws) × (r ≡ next_lines s)) where
    -- It is that of the weights.
    weighed : (is_weights (first s) ≡ true) × (take 65 (cut_all 4294967295 (weights_said (first s))) ≡ ws.first.items)
    weighed = let both = said-true (is_weights (first s)) _ ws weights.0 in (both.0, ap (λ (w : WeightsKept 65). w.first.items) both.1)

    second : (records_in s ≡ first s ∷ records_in r) × (misread_weights (records_in s) ≡ misread_rows 3 None (records_in r))
    second = rw weights.1 (weights-first s weighed.0)

    -- The records behind it decide.
    after_weights : misread t ≡ misread_rows 3 None (records_in r)
    after_weights = started.1 ∙ second.1

    -- One of them is misread.
    misread-later : {e : ImportError} → Misreads (misread_rows 3 None (records_in r)) e → Misreads (misread t) e
    misread-later h = rw after_weights h

    -- None is: the text says these.
    said : {g : Rows} → (misread_rows 3 None (records_in r) ≡ 0) × Holds (grouped (map row_in (records_in r))) g
        → Said t (record { limits = m; weights = ws.first; rows = g })
    unfolding sheet_in sheet_said
    said {g} rows =
        let whole : records_in t ≡ first t ∷ first s ∷ records_in r = started.0 ∙ ap (λ (l : List (List (List ℕ))). first t ∷ l) second.0 in
        record {
          read = after_weights ∙ rows.0;
          limits = sym (ap (λ (l : List (List (List ℕ))). limits_said (get_or l 0 [])) whole ∙ opened.1);
          weights =
              sym
              (ap (λ (l : List (List (List ℕ))). take 65 (cut_all 4294967295 (weights_said (get_or l 1 [])))) whole
              ∙ weighed.1);
          holds = subst (λ (l : List (List (List ℕ))). Holds (grouped (map row_in (drop 2 l))) g) (sym whole) rows.1;
        }

    -- So the records behind the first two settle what is told of the text.
    pub said-rows : (g : Rows) (o : Result (Unit {0}) ImportError) → ReadsRows (records_in r) g o
        → ReadsText t (record { limits = m; weights = ws.first; rows = g }) o
    said-rows g (Err e) h = misread-later h
    said-rows g (Ok u) h = said h
