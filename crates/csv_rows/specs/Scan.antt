-- The first line of a text, and the lines behind it (RULES 13.1).
-- Rests on the lists of the library. A line ends in CR LF, the last perhaps at the end of the text.
use Rattle.std.specs.Prelude.{true, false, ◌&&◌, List, [], ◌∷◌, ℕ, suc, ◌+◌, take, drop, eqb}

-- How many bytes stand before the first CR LF, all if there is none.
unfoldable pub line_span : List ℕ → ℕ
line_span [] = 0
line_span (b ∷ []) = 1
line_span (b ∷ c ∷ bs) = elim (eqb b 13 && eqb c 10) as (λ x. ℕ) [ true ↦ 0 | false ↦ suc (line_span (c ∷ bs)) ]

-- The first line.
unfoldable pub first_line : List ℕ → List ℕ
first_line t = take (line_span t) t

-- What stands behind its CR LF.
unfoldable pub next_lines : List ℕ → List ℕ
next_lines t = drop (line_span t + 2) t
