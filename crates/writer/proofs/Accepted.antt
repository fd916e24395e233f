-- What the tests of the writer say of the lists that they let pass: their sizes, the bytes that they give and how many these are.
-- Rests on `rules`, First, Laid, WriterLists and Sheets.
use Rattle.std.proofs.Common.{◌≡◌, ℕ, ◌+◌, ◌*◌, List, [], ◌∷◌, ◌++◌, length, refl, ap, ◌∙◌, ltb}
use Rattle.rules.specs.Table.{rows}
use Rattle.rules.specs.Refusals.{Test, test, first, way_refusals, limit_refusals}
use Rattle.rules.specs.declared.Refusal.{Refusal}
use Rattle.rules.specs.Sheet.{Lists, total, sheet_of, bodies_start, encode, disagree, lists_refusals}
use Rattle.rules.proofs.Laid.{Agree, laid_out, layout_length}
use Rattle.rules.proofs.WriterLists.{lists_kept, kept_agree, kept_ends}
use Rattle.rules.proofs.Sheets.{encode-given}
use Rattle.writer.specs.Given.{Short, front_refusals}

-- ---- the tests in groups, as code tries them

module _ (x : Lists) where
  -- 2, 3, 5, 6 and 10.
  abbrev pub of-front : List Test
  of-front = front_refusals x.limits x.weights x.numbers x.counts

  -- 12 and 13.
  abbrev pub of-ways : List Test
  of-ways = way_refusals (length x.weights) (rows 0 x.present x.absent)

  -- 14 and 15.
  abbrev pub of-limits : List Test
  of-limits = limit_refusals x.limits

  -- 21; with the limits before it; with the ways before those.
  abbrev pub of-lengths : List Test
  of-lengths = test Refusal.Disagree (disagree x) ∷ []

  abbrev pub from-limits : List Test
  from-limits = of-limits ++ of-lengths

  abbrev pub from-ways : List Test
  from-ways = of-ways ++ from-limits

  -- With 2, 3, 5, 6 and 10 before all, these are the tests of the lists.
  pub in_groups : lists_refusals x ≡ of-front ++ from-ways
  unfolding lists_refusals front_refusals way_refusals limit_refusals
  in_groups = refl

  -- 22, for a space of so many bytes.
  abbrev pub of_space : ℕ → List Test
  of_space space = test Refusal.NoRoom (ltb space (length (encode (sheet_of x)))) ∷ []

-- ---- lists that are not refused

module _ (x : Lists) (h : first (lists_refusals x) ≡ 0) where
  -- They agree in length.
  pub agreed : Agree x
  agreed = kept_agree x (lists_kept x h)

  -- Their words end at byte 49612 or before.
  pub short : Short x
  short = kept_ends x (lists_kept x h)

  -- The sheet's bytes are those that the lists give.
  pub laid : encode (sheet_of x) ≡ laid_out x
  laid = encode-given x agreed

  -- There are so many.
  pub laid-length : length (encode (sheet_of x)) ≡ bodies_start (length x.numbers) (length x.weights) + 16 * total x.counts
  laid-length = ap length laid ∙ layout_length x agreed
