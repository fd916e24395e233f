-- A text cut into records, and a record into its fields, as RFC 4180 has them (RULES 13.1 to 13.3).
-- Rests on the lists of the library. What stands between quotes is not looked at: no field of a sheet's text holds a comma, a quote or a line end,
-- so a text that quotes one is misread in the record where it stands, however that record is cut (proofs/Grammar.antt).
use Rattle.std.specs.Prelude.{Bool, true, false, ◌&&◌, List, [], ◌∷◌, map, ℕ, ◌-◌, length, take, drop, get_or, eqb, leb}

-- A byte in front of the first piece.
unfoldable pub onto : ℕ → List (List ℕ) → List (List ℕ)
onto b [] = (b ∷ []) ∷ []
onto b (l ∷ ls) = (b ∷ l) ∷ ls

-- The lines: each ends in CR LF, the last perhaps at the end of the text.
unfoldable pub lines_in : List ℕ → List (List ℕ)
lines_in [] = []
lines_in (b ∷ []) = (b ∷ []) ∷ []
lines_in (b ∷ c ∷ bs) =
    elim (eqb b 13 && eqb c 10) as (λ x. List (List ℕ)) [ true ↦ [] ∷ lines_in bs | false ↦ onto b (lines_in (c ∷ bs)) ]

-- The pieces between commas: one more than there are commas.
unfoldable pub raw_fields : List ℕ → List (List ℕ)
raw_fields [] = [] ∷ []
raw_fields (b ∷ bs) = elim (eqb b 44) as (λ x. List (List ℕ)) [ true ↦ [] ∷ raw_fields bs | false ↦ onto b (raw_fields bs) ]

-- A piece that begins and ends with a quote.
unfoldable pub quoted : List ℕ → Bool
quoted f = leb 2 (length f) && (eqb (get_or f 0 0) 34 && eqb (get_or f (length f - 1) 0) 34)

-- A field: a bare piece as it is, a quoted one without its quotes.
unfoldable pub unquoted : List ℕ → List ℕ
unquoted f = elim (quoted f) as (λ x. List ℕ) [ true ↦ take (length f - 2) (drop 1 f) | false ↦ f ]

-- The fields of a line.
unfoldable pub fields_in : List ℕ → List (List ℕ)
fields_in l = map unquoted (raw_fields l)

-- The records of a text, each by its fields.
unfoldable pub records_in : List ℕ → List (List (List ℕ))
records_in t = map fields_in (lines_in t)
