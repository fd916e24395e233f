-- The records of the limits, with the mode, and of the weights, field by field.
-- Rests on Pieces.antt for the fields, and on Fronts.antt for the weights that are kept.
use Rattle.std.proofs.Common.{◌≡◌, refl, sym, ap, ◌∙◌, ℕ, suc, ◌+◌, ◌<◌, ◌≤◌, min, true, false, List, [], ◌∷◌, ◌++◌, map, length, get_or, take, drop}
use Rattle.std.proofs.Common.{length-append, length-take, append-nil, Some, None, Result, Ok, Err, arith}
use Rattle.std.proofs.lemmas.List.{map-append, length-map, length-drop}
use Rattle.std.proofs.Math.Seq.{take-nil, append_snoc}
use Rattle.std.specs.Result.{OkIff, result_unwrap_or}
use Rattle.arrayvec.specs.ArrayVec.{ArrayVec}
use Rattle.rules.specs.Sheet.{same_numbers}
use Rattle.rules.specs.Text.{bytes, value_after, decimal_value}
use Rattle.rules.proofs.Booleans.{and-false}
use Rattle.rules.proofs.Sheets.{same-equal}
use Rattle.decimal.specs.Numerals.{is_numeral}
use Rattle.csv_text.specs.Cut.{raw_fields, unquoted, fields_in}
use Rattle.csv_text.specs.Shapes.{all_numerals, is_mode, is_run, limits_said, is_weights, weights_said}
use Rattle.csv_rows.specs.declared.fields.Rest.{Rest}
use Rattle.csv_rows.specs.Scan.{line_span, first_line, next_lines}
use Rattle.csv_rows.specs.Fields.{numeral_said, word_said, first_field, fields_left, lines_left, bytes_left, Passed}
use Rattle.csv_rows.specs.Told.{mode_said, run_said, cut_all, weights_kept}
use Rattle.csv_rows.proofs.Fronts.{kept-next}
use Rattle.csv_rows.proofs.Pieces.{fields-are, raw-count}
use Rattle.csv_rows.proofs.Reading.{said-not, said-true, said-false}

-- ---- the mode

-- No field: a distance.
pub mode-none : mode_said [] ≡ Some 0
unfolding is_mode value_after decimal_value
mode-none = refl

-- Another field than `1`.
pub mode-other : (f : List ℕ) (fs : List (List ℕ)) → word_said (bytes "1") f ≡ None → mode_said (f ∷ fs) ≡ None
unfolding is_mode
mode-other f [] h = rw (said-false (same_numbers f (bytes "1")) tt h)
mode-other f (g ∷ fs) h = refl

-- A field too many.
pub mode-more : (f : List ℕ) (fs : List (List ℕ)) → (fs ≡ [] → ⊥) → mode_said (f ∷ fs) ≡ None
unfolding is_mode
mode-more f [] h = absurd (h refl)
mode-more f (g ∷ fs) h = refl

-- `1` alone: a share.
pub mode-one : (f : List ℕ) → word_said (bytes "1") f ≡ Some tt → mode_said (f ∷ []) ≡ Some 1
unfolding is_mode bytes same_numbers value_after decimal_value
mode-one f h = rw (same-equal f (bytes "1") (said-true (same_numbers f (bytes "1")) tt tt h).0)

-- ---- the limits

-- A record of another word says no limits.
pub run-word : (w : List ℕ) (fs : List (List ℕ)) → word_said (bytes "run") w ≡ None → run_said (w ∷ fs) ≡ None
unfolding is_run
run-word w [] h = refl
run-word w (a ∷ []) h = refl
run-word w (a ∷ b ∷ fs) h = rw (said-false (same_numbers w (bytes "run")) tt h)

-- The word alone;
pub run-alone : (w : List ℕ) → run_said (w ∷ []) ≡ None
unfolding is_run
run-alone w = refl

-- no allowance;
pub run-first : (w a : List ℕ) (fs : List (List ℕ)) → numeral_said a ≡ None → run_said (w ∷ a ∷ fs) ≡ None
unfolding is_run
run-first w a [] h = refl
run-first w a (b ∷ fs) h = rw (said-false (is_numeral a) _ h, and-false (same_numbers w (bytes "run")))

-- no field behind it;
pub run-one : (w a : List ℕ) → run_said (w ∷ a ∷ []) ≡ None
unfolding is_run
run-one w a = refl

-- no budget;
pub run-second : (w a b : List ℕ) (fs : List (List ℕ)) → numeral_said b ≡ None → run_said (w ∷ a ∷ b ∷ fs) ≡ None
unfolding is_run
run-second w a b fs h = rw (said-false (is_numeral b) _ h, and-false (is_numeral a), and-false (same_numbers w (bytes "run")))

-- something else than a mode behind it.
pub run-mode : (w a b : List ℕ) (fs : List (List ℕ)) → mode_said fs ≡ None → run_said (w ∷ a ∷ b ∷ fs) ≡ None
unfolding is_run
run-mode w a b fs h =
    rw (said-false (is_mode fs) _ h, and-false (is_numeral b), and-false (is_numeral a), and-false (same_numbers w (bytes "run")))

-- The record of the limits.
pub run-all : (w a b : List ℕ) (fs : List (List ℕ)) {x y z : ℕ}
    → word_said (bytes "run") w ≡ Some tt → numeral_said a ≡ Some x → numeral_said b ≡ Some y → mode_said fs ≡ Some z
    → run_said (w ∷ a ∷ b ∷ fs) ≡ Some (record { allowance = x; budget = y; mode = z })
unfolding is_run limits_said
run-all w a b fs {x} {y} {z} h k l m =
    let word = said-true (same_numbers w (bytes "run")) tt tt h in
    let first = said-true (is_numeral a) (decimal_value a) x k in
    let second = said-true (is_numeral b) (decimal_value b) y l in
    let third = said-true (is_mode fs) (decimal_value (get_or fs 0 [])) z m in
    rw (word.0, first.0, second.0, third.0, first.1, second.1, third.1)

-- ---- the weights

-- A record of another word says no weights.
pub weights-word : (n : ℕ) (w : List ℕ) (fs : List (List ℕ)) → word_said (bytes "weights") w ≡ None → weights_kept n (w ∷ fs) ≡ None
unfolding is_weights
weights-word n w fs h = rw (said-false (same_numbers w (bytes "weights")) tt h)

-- A number that is converted if it is small enough, and else is the largest that is.
pub cut-fit : {E : Type 0} (r : Result ℕ E) (x m : ℕ) → OkIff r (x < suc m) x → result_unwrap_or r m ≡ min x m
cut-fit (Ok y) x m h = omega (arith, h.0, h.1)
cut-fit (Err e) x m h = omega (arith, h)

-- A record says no more weights than its text has bytes.
pub weights-fit : (t : List ℕ) → length (weights_said (fields_in (first_line t))) ≤ length t
unfolding weights_said fields_in first_line
weights-fit t =
    omega (arith, length-map (drop 1 (fields_in (first_line t))) decimal_value, length-drop 1 (fields_in (first_line t)), length-map (raw_fields (first_line t)) unquoted, raw-count (first_line t), length-take (line_span t) t)

-- The weights up to `rest` are read: they are k, and kept in a list of room n.
pub record Filled (t : List ℕ) (n : ℕ) (list : ArrayVec ℕ) (k : ℕ) (rest : Rest) : Type 0 where
  pub done : List ℕ
  pub counted : k ≡ length done
  pub keeps : list.items ≡ take n (cut_all 4294967295 done)
  pub all : all_numerals (fields_left rest) ≡ is_weights (fields_in (first_line t))
  pub said : done ++ map decimal_value (fields_left rest) ≡ weights_said (fields_in (first_line t))
  pub lines : lines_left rest ≡ next_lines t

-- At first, none.
pub filled-none : (t : List ℕ) (n : ℕ) (list : ArrayVec ℕ) (rest : Rest) → word_said (bytes "weights") (first_field t) ≡ Some tt → Passed t rest
    → list.items ≡ [] → Filled t n list 0 rest
unfolding is_weights weights_said cut_all
filled-none t n list rest h p e =
    record {
      done = [];
      counted = refl;
      keeps = e ∙ sym (take-nil n);
      all = sym (ap is_weights p.fields ∙ rw (said-true (same_numbers (first_field t) (bytes "weights")) tt tt h).0);
      said = sym (ap weights_said p.fields);
      lines = sym p.lines;
    }

module _ {t : List ℕ} {n : ℕ} {list : ArrayVec ℕ} {k : ℕ} {rest : Rest} (f : Filled t n list k rest) where
  -- One weight more can be counted, where a field is left.
  pub filled-fits : (s : List ℕ) → fields_left rest ≡ fields_in (first_line s) → k + 1 ≤ length t
  filled-fits s e =
      omega (arith, f.counted, ap length f.said, length-append f.done (map decimal_value (fields_left rest)), length-map (fields_left rest) decimal_value, ap length (e ∙ fields-are s), weights-fit t)

  -- A field that is no number.
  pub filled-bad : (s : List ℕ) → fields_left rest ≡ fields_in (first_line s) → numeral_said (first_field s) ≡ None
      → weights_kept n (fields_in (first_line t)) ≡ None
  unfolding all_numerals
  filled-bad s e h =
      let bad : all_numerals (fields_left rest) ≡ false = rw (e, fields-are s, said-false (is_numeral (first_field s)) _ h) in
      said-not _ _ (sym f.all ∙ bad)

  -- One weight more.
  pub filled-next : (s : List ℕ) (now : ArrayVec ℕ) (x : ℕ) (behind : Rest)
      → (fields_left rest ≡ fields_in (first_line s)) × (lines_left rest ≡ next_lines s) × (bytes_left rest ≡ s) → numeral_said (first_field s) ≡ Some x → Passed s behind → now.items ≡ take n (list.items ++ min x 4294967295 ∷ []) → Filled t n now (k + 1) behind
  unfolding all_numerals cut_all
  filled-next s now x behind e h p q =
      let is = said-true (is_numeral (first_field s)) (decimal_value (first_field s)) x h in
      let here : fields_left rest ≡ first_field s ∷ fields_left behind = e.0 ∙ p.fields in
      record {
        done = f.done ++ x ∷ [];
        counted = omega (arith, f.counted, length-append f.done (x ∷ []));
        keeps =
            q
            ∙ kept-next n (cut_all 4294967295 f.done) (min x 4294967295) f.keeps
            ∙ ap (take n) (sym (map-append (λ y. min y 4294967295) f.done (x ∷ [])));
        all = sym (ap all_numerals here ∙ rw is.0) ∙ f.all;
        said =
            append_snoc f.done x (map decimal_value (fields_left behind))
            ∙ sym (ap (λ (fs : List (List ℕ)). f.done ++ map decimal_value fs) here ∙ rw is.1)
            ∙ f.said;
        lines = sym p.lines ∙ sym e.1 ∙ f.lines;
      }

  -- None is left.
  pub filled-all : fields_left rest ≡ [] → weights_kept n (fields_in (first_line t)) ≡ Some (record { first = list; count = k })
  unfolding all_numerals
  filled-all e =
      let said : f.done ≡ weights_said (fields_in (first_line t))
      = sym (append-nil f.done) ∙ sym (ap (λ (fs : List (List ℕ)). f.done ++ map decimal_value fs) e) ∙ f.said in
      let good : is_weights (fields_in (first_line t)) ≡ true = sym f.all ∙ ap all_numerals e in
      rw (good, ← said, ← f.keeps, ← f.counted)
