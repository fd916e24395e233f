-- A sheet within the limits: the records of its text are found again, none of them is misread, they say the sheet, and import accepts them
-- (RULES 13.13, 13.15). Rests on Written.antt, Names.antt, Rows.antt, RunRecord.antt, Imports.antt, and on `rules`, WriterLists, WithinLimits.
use mathlib.Core.Path.{◌≡◌, refl, sym, ap, ◌∙◌}
use mathlib.Core.Bool.{true}
use mathlib.Core.List.{List, [], ◌∷◌, ◌++◌, append_assoc}
use Prim.Native.Nat.{ℕ, zero, suc, ◌^◌, ◌<◌, ◌≤◌}
use native.Mathlib.Omega.{arith}
use lib.ListN.{length, get_or}
use lib.Dec.{ltb}
use borrow.Author.Tests.{ltb-false, le-ltb, not-false}
use Rattle.rules.specs.Rounding.{S}
use Rattle.rules.specs.declared.Limits.{Limits}
use Rattle.rules.specs.Refusals.{Test, test, overweight, not_rising, rising, way_refusals, limit_refusals}
use Rattle.rules.specs.declared.Refusal.{Refusal}
use Rattle.rules.specs.Sheet.{Cue, Sheet, same_numbers, AllBelow, Within, lists_of, numbers_of, present_of, absent_of, encode, decode}
use Rattle.rules.specs.Sheet.{read_refusals, read_number, written_by}
use Rattle.std.specs.Prelude.{None, Ok}
use Rattle.rules.proofs.Answering.{answered-free}
use Rattle.rules.specs.Text.{bytes, digits, decimal, value_after, decimal_value}
use Rattle.rules.proofs.Booleans.{and_both}
use Rattle.rules.proofs.Bytes.{below-mono}
use Rattle.rules.proofs.Decimal.{decimal-value}
use Rattle.rules.proofs.First.{NoneApplies, none-applies, first-none, first-later, first-after, first-before}
use Rattle.rules.proofs.WriterLists.{Kept, lists_kept, kept_agree, none_above, words-below}
use Rattle.rules.proofs.WithinLimits.{Tested, within-tested}
use Rattle.decimal.proofs.Numerals.{decimal-numeral}
use Rattle.csv_text.specs.Cut.{records_in}
use Rattle.csv_text.specs.Shapes.{is_mode, is_run, limits_said, is_weights, weights_said, misread_weights, misread_records, misread, sheet_said, sheet_in}
use Rattle.csv_text.specs.Texts.{cue_records, mode_fields, run_record, weights_record, sheet_records, record_text, rendered, csv_of}
use Rattle.csv_text.specs.Calls.{import_number, export_refusals, export_number, export_answer, exported}
use Rattle.csv_text.proofs.Written.{Every, Plain, PlainRecord, records-rendered}
use Rattle.csv_text.proofs.Names.{decimal-plain, all-decimal}
use Rattle.csv_text.proofs.Rows.{Worded, Well, cues_well, steps-read}
use Rattle.csv_text.proofs.RunRecord.{ModeSaid, run-mode}
use Rattle.csv_text.proofs.Imports.{AtFront, written-front, import-accepts}

-- ---- what a sheet within the limits has

-- Numbers below a limit, in either part of a list.
below_split : (m : ℕ) (xs ys : List ℕ) → AllBelow m (xs ++ ys) → AllBelow m xs × AllBelow m ys
below_split m [] ys h = (tt, h)
below_split m (x ∷ xs) ys h = let rest = below_split m xs ys h.1 in ((h.0, rest.0), rest.1)

-- All words of a sheet name only its faults: so do those of each cue.
words-cues : (n : ℕ) (cs : List Cue) → AllBelow (2 ^ n) (present_of cs) → AllBelow (2 ^ n) (absent_of cs) → Worded n cs
unfolding present_of absent_of
words-cues n [] h k = tt
words-cues n (c ∷ cs) h k =
    let p = below_split (2 ^ n) c.present (present_of cs) h in
    let q = below_split (2 ^ n) c.absent (absent_of cs) k in
    (p.0, q.0, words-cues n cs p.1 q.1)

-- ---- the first two records

-- What stands for the mode behind the two numbers has its shape, says the mode, and is plain.
mode-read : (k : ℕ) → k ≤ 1 → (is_mode (mode_fields k) ≡ true) × (decimal_value (get_or (mode_fields k) 0 []) ≡ k) × Every Plain (mode_fields k)
unfolding is_mode mode_fields bytes decimal digits decimal_value value_after same_numbers
mode-read zero h = (refl, refl, tt)
mode-read (suc zero) h = (refl, refl, (decimal-plain 1, tt))
mode-read (suc (suc k)) h = absurd (omega arith)

-- The record of the limits has its shape, says them, and is plain.
run-read : (m : Limits) → m.allowance < 10 ^ 10 → m.budget < 10 ^ 10 → m.mode ≤ 1
    → (is_run (run_record m) ≡ true) × (limits_said (run_record m) ≡ m) × PlainRecord (run_record m)
unfolding is_run run_record limits_said bytes same_numbers
run-read m h k l =
    let mode = mode-read m.mode l in (
      and_both _ _ (decimal-numeral m.allowance h) (and_both _ _ (decimal-numeral m.budget k) mode.0),
      (λ i. record { allowance = decimal-value m.allowance i; budget = decimal-value m.budget i; mode = mode.1 i }),
      (omega arith, (omega arith, (decimal-plain m.allowance, (decimal-plain m.budget, mode.2)))),
    )

-- So has that of the weights.
weights-read : (ws : List ℕ) → AllBelow (10 ^ 10) ws
    → (is_weights (weights_record ws) ≡ true) × (weights_said (weights_record ws) ≡ ws) × PlainRecord (weights_record ws)
unfolding is_weights weights_record weights_said bytes same_numbers
weights-read ws h = let all = all-decimal ws h in (all.0, all.1, (omega arith, (omega arith, all.2)))

-- ---- the text of a sheet

module _ (s : Sheet) (w : Within s) where
  -- The tests of its lists let it through.
  tested : Tested s
  tested = within-tested s w

  -- They meet no refusal.
  kept : Kept (lists_of s)
  kept = lists_kept (lists_of s) tested.kept

  -- The record of the limits has its shape, says them, and is plain.
  run_back : (is_run (run_record s.limits) ≡ true) × (limits_said (run_record s.limits) ≡ s.limits) × PlainRecord (run_record s.limits)
  run_back = run-read s.limits (omega (arith, w.allowance)) (omega (arith, w.budget)) w.mode

  -- It has a third number exactly if the allowance is a share.
  pub csv_mode : ModeSaid (run_record s.limits) s.limits.mode
  csv_mode = rw run_back.1 at (run-mode (run_record s.limits) run_back.0)

  -- The record of the weights.
  weights_back : (is_weights (weights_record s.weights) ≡ true) × (weights_said (weights_record s.weights) ≡ s.weights)
      × PlainRecord (weights_record s.weights)
  unfolding lists_of overweight
  weights_back = weights-read s.weights (below-mono (suc S) (10 ^ 10) s.weights (omega arith) (none_above S s.weights kept.weights))

  -- The records of the cues.
  cues_back : Well None (cue_records (length s.weights) s.cues) s.cues
  unfolding lists_of not_rising
  cues_back =
      let n : ℕ = length s.weights in
      let words = words-below n 0 (present_of s.cues) (absent_of s.cues) (kept_agree (lists_of s) kept).paired kept.beyond in
      let up : rising 0 (numbers_of s.cues) ≡ true = not-false (rising 0 (numbers_of s.cues)) kept.rising in
      cues_well n w.few_faults None 0 s.cues tt up tested.numbered w.paired (words-cues n s.cues words.0 words.1)

  -- Its records are plain.
  pub csv_plain : Every PlainRecord (sheet_records s)
  unfolding sheet_records
  csv_plain = (run_back.2, (weights_back.2, cues_back.plain))

  -- The records of its text are those that it was written from.
  pub csv_records : records_in (csv_of s) ≡ sheet_records s
  unfolding csv_of
  csv_records = records-rendered (sheet_records s) csv_plain

  -- None of them is misread.
  pub csv_read : misread (csv_of s) ≡ 0
  unfolding misread misread_records misread_weights sheet_records
  csv_read =
      ap misread_records csv_records
      ∙ rw (run_back.0, misread_records) (rw (weights_back.0, misread_weights) (steps-read 3 None _ cues_back.steps))

  -- They say the sheet.
  pub sheet_csv : sheet_in (csv_of s) ≡ s
  unfolding sheet_in sheet_said sheet_records
  sheet_csv = ap sheet_said csv_records ∙ (λ i. record { limits = run_back.1 i; weights = weights_back.1 i; cues = cues_back.cues i })

  -- Import accepts its text into a space that its bytes fit.
  pub csv_imported : (n : ℕ) → length (encode s) ≤ n → import_number (csv_of s) n ≡ 0
  csv_imported n h = import-accepts (csv_of s) n csv_read (rw sheet_csv w) (rw sheet_csv h)

-- CR LF ends the last record of a text.
rendered-ended : (r : List (List ℕ)) (rs : List (List (List ℕ))) → (u : List ℕ) × (rendered (r ∷ rs) ≡ u ++ 13 ∷ 10 ∷ [])
unfolding rendered
rendered-ended r [] = (record_text r, refl)
rendered-ended r (s ∷ rs) =
    let rest = rendered-ended s rs in
    let line : List ℕ = record_text r ++ 13 ∷ 10 ∷ [] in
    (line ++ rest.0, rw rest.1 (sym (append_assoc (record_text r) (13 ∷ 10 ∷ []) _) ∙ sym (append_assoc line rest.0 (13 ∷ 10 ∷ []))))

-- So of the text of every sheet.
pub csv-ended : (s : Sheet) → (u : List ℕ) × (csv_of s ≡ u ++ 13 ∷ 10 ∷ [])
unfolding csv_of sheet_records
csv-ended s = rendered-ended (run_record s.limits) (weights_record s.weights ∷ cue_records (length s.weights) s.cues)

-- ---- the call

module _ (bs : List ℕ) (n : ℕ) where
  -- The last refusal of an export.
  abbrev room : List Test
  room = test Refusal.NoRoom (ltb n (length (csv_of (decode bs)))) ∷ []

  -- A sheet that reading accepts meets none of its refusals.
  read_free : read_number bs ≡ 0 → NoneApplies (read_refusals bs)
  unfolding read_number read_refusals way_refusals limit_refusals
  read_free h = none-applies (read_refusals bs) h

  -- Accepted: reading accepts the sheet.
  pub export_read : export_number bs n ≡ 0 → read_number bs ≡ 0
  unfolding export_number export_refusals read_number
  export_read h = split (read_number bs) refl
    where
      split : (m : ℕ) → read_number bs ≡ m → read_number bs ≡ 0
      split zero e = e
      split (suc m) e = absurd (omega (arith, h, first-before (read_refusals bs) room m e))

  -- And the text fits the space.
  pub export_room : export_number bs n ≡ 0 → length (csv_of (decode bs)) ≤ n
  unfolding export_number export_refusals
  export_room h =
      ltb-false n (length (csv_of (decode bs)))
      (none-applies room (sym (first-after (read_refusals bs) room (read_free (export_read h))) ∙ h)).0

  -- The other way.
  pub read_export : read_number bs ≡ 0 → length (csv_of (decode bs)) ≤ n → export_number bs n ≡ 0
  unfolding export_number export_refusals
  read_export h fits =
      first-after (read_refusals bs) room (read_free h) ∙ first-later _ _ (le-ltb n (length (csv_of (decode bs))) fits) ∙ first-none

  -- An accepted export answers with the count of the text's bytes.
  pub export_answered : export_number bs n ≡ 0 → export_answer bs n ≡ Ok (length (csv_of (decode bs)))
  unfolding export_answer export_number
  export_answered h = answered-free (export_refusals bs n) (length (csv_of (decode bs))) h

-- An accepted export puts the text to the front of the space.
pub export-put : (bs space : List ℕ) → export_number bs (length space) ≡ 0 → AtFront (csv_of (decode bs)) space (exported bs space)
unfolding exported
export-put bs space h = written-front _ (csv_of (decode bs)) space h

-- A refused one leaves the space as it was.
pub export-refused : (bs space : List ℕ) (k : ℕ) → export_number bs (length space) ≡ suc k → exported bs space ≡ space
unfolding exported written_by
export-refused bs space k h = rw h
