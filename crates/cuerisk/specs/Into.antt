-- The report on a sheet into a lent space: the printed text at its front, or 22 where the space is shorter (docs/RULES.md, 9.8).
-- Rests on `rules`, Text, for the text; answer and space are the writer's of `rules`, Sheet, with that text for the output.
use Rattle.std.specs.Prelude.{Result, List, [], ◌∷◌, ℕ, length, ltb}
use Rattle.rules.specs.Refusals.{Test, test, first, answered}
use Rattle.rules.specs.Sheet.{written_by}
use Rattle.rules.specs.Text.{text}
use Rattle.rules.specs.declared.Refusal.{Refusal}

-- Reporting into a space of so many bytes: 22. A sheet that reading refuses has a text too, so that nothing else refuses.
unfoldable pub report_refusals : List ℕ → ℕ → List Test
report_refusals bs space = test Refusal.NoRoom (ltb space (length (text bs))) ∷ []

-- The number of reporting: 22 or 0.
unfoldable pub report_number : List ℕ → ℕ → ℕ
report_number bs space = first (report_refusals bs space)

-- The answer: the bytes of the text.
unfoldable pub report_answer : List ℕ → ℕ → Result ℕ Refusal
report_answer bs space = answered (report_refusals bs space) (length (text bs))

-- What the lent space holds afterwards: accepted, the text at its front and the rest as it was; refused, all as it was.
unfoldable pub reported : List ℕ → List ℕ → List ℕ
reported bs space = written_by (report_number bs (length space)) (text bs) space
