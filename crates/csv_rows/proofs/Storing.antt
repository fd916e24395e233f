-- The record of the weights in a list that is lent: each turn stores one more.
-- Rests on Heading.antt, and on Fronts.antt for the list.
use Rattle.std.proofs.Common.{◌≡◌, refl, sym, ap, ap₂, ◌∙◌, ℕ, ◌+◌, ◌≤◌, ◌<◌, min, true, false, List, [], ◌∷◌, ◌++◌, map, length, set}
use Rattle.std.proofs.Common.{length-append, append-nil, Some, None, Result, arith}
use Rattle.std.proofs.lemmas.Bool.{false≢true}
use Rattle.std.proofs.lemmas.List.{map-append, length-map}
use Rattle.std.proofs.Math.Seq.{append_snoc}
use Rattle.std.specs.Result.{OkIff, result_unwrap_or}
use Rattle.rules.specs.Sheet.{same_numbers}
use Rattle.rules.specs.Text.{bytes, decimal_value}
use Rattle.decimal.specs.Numerals.{is_numeral}
use Rattle.csv_text.specs.Cut.{fields_in}
use Rattle.csv_text.specs.Shapes.{all_numerals, is_weights, weights_said}
use Rattle.csv_rows.specs.declared.fields.Rest.{Rest}
use Rattle.csv_rows.specs.Scan.{first_line, next_lines}
use Rattle.csv_rows.specs.Fields.{numeral_said, word_said, first_field, fields_left, lines_left, bytes_left, Passed}
use Rattle.csv_rows.specs.Told.{cut_all, weights_counted, stored, Stored}
use Rattle.csv_rows.proofs.Fronts.{stored-none, stored-long, stored-next}
use Rattle.csv_rows.proofs.Heading.{cut-fit, weights-fit}
use Rattle.csv_rows.proofs.Pieces.{fields-are}
use Rattle.csv_rows.proofs.Reading.{said-not, said-true, said-false}

-- A record of another word says no weights.
pub counted-word : (w : List ℕ) (fs : List (List ℕ)) → word_said (bytes "weights") w ≡ None → weights_counted (w ∷ fs) ≡ None
unfolding is_weights
counted-word w fs h = rw (said-false (same_numbers w (bytes "weights")) tt h)

-- Nor are any stored where no weights are said.
pub stored-not : (t : List ℕ) (m : ℕ) (old new : List ℕ) → weights_counted (fields_in (first_line t)) ≡ None → Stored t m old new
stored-not t m old new h e = absurd (false≢true (sym (said-false (is_weights (fields_in (first_line t))) _ h) ∙ e))

-- The weights up to `rest` are read: they are k, and stand in a list that was `old`, those above m as m.
pub record Storing (t : List ℕ) (m : ℕ) (old new : List ℕ) (k : ℕ) (rest : Rest) : Type 0 where
  pub done : List ℕ
  pub counted : k ≡ length done
  pub stands : new ≡ stored old (cut_all m done)
  pub all : all_numerals (fields_left rest) ≡ is_weights (fields_in (first_line t))
  pub said : done ++ map decimal_value (fields_left rest) ≡ weights_said (fields_in (first_line t))
  pub lines : lines_left rest ≡ next_lines t

-- At first, none.
pub storing-none : (t : List ℕ) (m : ℕ) (list : List ℕ) (rest : Rest) → word_said (bytes "weights") (first_field t) ≡ Some tt → Passed t rest
    → Storing t m list list 0 rest
unfolding is_weights weights_said cut_all
storing-none t m list rest h p =
    record {
      done = [];
      counted = refl;
      stands = stored-none list;
      all = sym (ap is_weights p.fields ∙ rw (said-true (same_numbers (first_field t) (bytes "weights")) tt tt h).0);
      said = sym (ap weights_said p.fields);
      lines = sym p.lines;
    }

module _ {t : List ℕ} {m : ℕ} {old new : List ℕ} {k : ℕ} {rest : Rest} (f : Storing t m old new k rest) where
  -- The list is as long as it was.
  pub storing-long : length new ≡ length old
  storing-long = ap length f.stands ∙ stored-long old (cut_all m f.done)

  -- One weight more can be counted, where a field is left.
  pub storing-fits : (s : List ℕ) → fields_left rest ≡ fields_in (first_line s) → k + 1 ≤ length t
  storing-fits s e =
      omega (arith, f.counted, ap length f.said, length-append f.done (map decimal_value (fields_left rest)), length-map (fields_left rest) decimal_value, ap length (e ∙ fields-are s), weights-fit t)

  -- A field that is no number.
  pub storing-bad : (s : List ℕ) → fields_left rest ≡ fields_in (first_line s) → numeral_said (first_field s) ≡ None
      → weights_counted (fields_in (first_line t)) ≡ None
  unfolding all_numerals
  storing-bad s e h =
      let bad : all_numerals (fields_left rest) ≡ false = rw (e, fields-are s, said-false (is_numeral (first_field s)) _ h) in
      said-not _ _ (sym f.all ∙ bad)

  -- One weight more.
  pub storing-next : (s : List ℕ) (now : List ℕ) (x : ℕ) (behind : Rest)
      → (fields_left rest ≡ fields_in (first_line s)) × (lines_left rest ≡ next_lines s) × (bytes_left rest ≡ s) → numeral_said (first_field s) ≡ Some x
      → Passed s behind → now ≡ set new k (min x m) → Storing t m old now (k + 1) behind
  unfolding all_numerals cut_all
  storing-next s now x behind e h p q =
      let is = said-true (is_numeral (first_field s)) (decimal_value (first_field s)) x h in
      let here : fields_left rest ≡ first_field s ∷ fields_left behind = e.0 ∙ p.fields in
      let place : k ≡ length (cut_all m f.done) = f.counted ∙ sym (length-map f.done (λ y. min y m)) in
      record {
        done = f.done ++ x ∷ [];
        counted = omega (arith, f.counted, length-append f.done (x ∷ []));
        stands =
            q
            ∙ ap₂ (λ (l : List ℕ) (i : ℕ). set l i (min x m)) f.stands place
            ∙ stored-next old (cut_all m f.done) (min x m)
            ∙ ap (stored old) (sym (map-append (λ y. min y m) f.done (x ∷ [])));
        all = sym (ap all_numerals here ∙ rw is.0) ∙ f.all;
        said =
            append_snoc f.done x (map decimal_value (fields_left behind))
            ∙ sym (ap (λ (fs : List (List ℕ)). f.done ++ map decimal_value fs) here ∙ rw is.1)
            ∙ f.said;
        lines = sym p.lines ∙ sym e.1 ∙ f.lines;
      }

  module _ (e : fields_left rest ≡ []) where
    done-all : f.done ≡ weights_said (fields_in (first_line t))
    done-all = sym (append-nil f.done) ∙ sym (ap (λ (fs : List (List ℕ)). f.done ++ map decimal_value fs) e) ∙ f.said

    -- None is left: they are counted,
    pub storing-all : weights_counted (fields_in (first_line t)) ≡ Some (record { count = k })
    unfolding all_numerals
    storing-all =
        let good : is_weights (fields_in (first_line t)) ≡ true = sym f.all ∙ ap all_numerals e in
        rw (good, ← done-all, ← f.counted)

    -- and stand in the list.
    pub storing-stored : Stored t m old new
    storing-stored h = f.stands ∙ ap (λ (xs : List ℕ). stored old (cut_all m xs)) done-all

-- A number that 32 bits hold, or the most that they hold, and no more than a smaller limit.
pub cut-twice : {E : Type 0} (r : Result ℕ E) (x m : ℕ) → OkIff r (x < 4294967296) x → m ≤ 4294967295 → min (result_unwrap_or r 4294967295) m ≡ min x m
cut-twice r x m h small = let cut = cut-fit r x 4294967295 h in omega (arith, cut)
