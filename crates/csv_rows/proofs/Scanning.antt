-- Where the first line of a text ends, byte by byte, and the records of a text, line by line.
-- Rests on specs, Scan.
use Rattle.std.proofs.Common.{◌≡◌, refl, ap, ◌∙◌, ℕ, suc, ◌+◌, ◌<◌, Bool, true, false, ◌&&◌, eqb, List, [], ◌∷◌, map, length, drop, length-drop, suc-add, arith}
use Rattle.csv_text.specs.Cut.{onto, lines_in, fields_in, records_in}
use Rattle.csv_rows.specs.Scan.{line_span, first_line, next_lines}

-- No CR LF stands at the front of a list, given by its first byte and those behind it.
abbrev pub NoBreak : ℕ → List ℕ → Type 0
NoBreak b [] = Unit {0}
NoBreak b (c ∷ s) = eqb b 13 && eqb c 10 ≡ false

-- ---- where a line ends

-- A line that ends at once.
pub span-break : (b c : ℕ) (s : List ℕ) → eqb b 13 && eqb c 10 ≡ true → line_span (b ∷ c ∷ s) ≡ 0
unfolding line_span
span-break b c s h = ap (λ (x : Bool). elim x as (λ y. ℕ) [ true ↦ 0 | false ↦ suc (line_span (c ∷ s)) ]) h

-- A line that goes on.
pub span-on : (b : ℕ) (s : List ℕ) → NoBreak b s → line_span (b ∷ s) ≡ suc (line_span s)
unfolding line_span
span-on b [] h = refl
span-on b (c ∷ s) h = ap (λ (x : Bool). elim x as (λ y. ℕ) [ true ↦ 0 | false ↦ suc (line_span (c ∷ s)) ]) h

-- The first line goes on over a byte,
pub line-on : (b : ℕ) (s : List ℕ) → NoBreak b s → first_line (b ∷ s) ≡ b ∷ first_line s
unfolding first_line
line-on b s h = rw (span-on b s h)

-- and the lines behind it are the same.
pub lines-on : (b : ℕ) (s : List ℕ) → NoBreak b s → next_lines (b ∷ s) ≡ next_lines s
unfolding next_lines
lines-on b s h = ap (λ (n : ℕ). drop (n + 2) (b ∷ s)) (span-on b s h) ∙ ap (λ (n : ℕ). drop n (b ∷ s)) (suc-add (line_span s) 2)

-- ---- the records of a text

-- The lines of a text by the test at its front.
cut_by : ℕ → ℕ → List ℕ → Bool → List (List ℕ)
cut_by b c s x = elim x as (λ y. List (List ℕ)) [ true ↦ [] ∷ lines_in s | false ↦ onto b (lines_in (c ∷ s)) ]

-- The first line, and those behind its CR LF.
line-cut : (t : List ℕ) → 0 < length t → lines_in t ≡ first_line t ∷ lines_in (next_lines t)
unfolding lines_in line_span onto first_line next_lines cut_by
line-cut [] h = absurd (omega arith)
line-cut (b ∷ []) h = refl
line-cut (b ∷ c ∷ s) h = split (eqb b 13 && eqb c 10) refl (line-cut (c ∷ s) (omega arith))
  where
    split : (x : Bool) → eqb b 13 && eqb c 10 ≡ x → lines_in (c ∷ s) ≡ first_line (c ∷ s) ∷ lines_in (next_lines (c ∷ s))
        → lines_in (b ∷ c ∷ s) ≡ first_line (b ∷ c ∷ s) ∷ lines_in (next_lines (b ∷ c ∷ s))
    split true e rest = ap (cut_by b c s) e ∙ rw (span-break b c s e)
    split false e rest = ap (cut_by b c s) e ∙ ap (onto b) rest ∙ rw (line-on b (c ∷ s) e, lines-on b (c ∷ s) e)

-- The records of a text: that of its first line, and those of the lines behind it.
pub records-next : (t : List ℕ) → 0 < length t → records_in t ≡ fields_in (first_line t) ∷ records_in (next_lines t)
unfolding records_in
records-next t h = ap (map fields_in) (line-cut t h)

-- The lines behind the first are shorter than the text.
pub lines-shorter : (t : List ℕ) → 0 < length t → length (next_lines t) < length t
unfolding next_lines
lines-shorter t h = omega (arith, length-drop (line_span t + 2) t)
