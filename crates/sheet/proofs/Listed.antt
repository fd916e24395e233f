-- The entries that the contents of a sheet state are those of its cues, one after the other.
-- Rests on Entries.antt for the number at a position and on `rules`, Sheets: a stated place is where the body starts.
use Rattle.std.proofs.Common.{◌≡◌, ℕ, zero, suc, ◌+◌, ◌*◌, ◌<◌, List, ◌∷◌, refl, ap, ap₂, ◌∙◌, sym, arith, get_or, take, drop}
use lib.Seq.{drop-drop}
use Rattle.rules.specs.Sheet.{field, cues_in, read_number, entry_in}
use Rattle.rules.proofs.Sheets.{read_kept}
use Rattle.sheet.specs.Parts.{parts, stated, stated_in}
use Rattle.sheet.specs.Reading.{entries_from, entries_in}
use Rattle.sheet.proofs.Entries.{column_get_d}
use Rattle.sheet.proofs.Stated.{part_field}

module _ (bs : List ℕ) (accepted : read_number bs ≡ 0) where
  -- The entry at a position.
  entry_stated : (i : ℕ) → i < cues_in bs → stated (take 8 (drop (12 + 8 * i) bs)) ≡ entry_in bs i
  unfolding entry_in
  entry_stated i inside =
      let n = cues_in bs in
      let here : 12 + 8 * i + 0 ≡ 12 + 8 * i = omega arith in
      let two : 12 + 8 * i + 2 ≡ 14 + 8 * i = omega arith in
      let four : 12 + 8 * i + 4 ≡ 16 + 8 * i = omega arith in
      let place = ap (λ ps. get_or ps i 0) (read_kept bs accepted).1.places in
      λ j. record {
        cue = (part_field 2 8 (12 + 8 * i) 0 bs (omega arith) ∙ ap (λ k. field 2 k bs) here ∙ sym (column_get_d 2 8 bs 12 n i inside)) j;
        ways = (part_field 2 8 (12 + 8 * i) 2 bs (omega arith) ∙ ap (λ k. field 2 k bs) two ∙ sym (column_get_d 2 8 bs 14 n i inside)) j;
        start = (part_field 4 8 (12 + 8 * i) 4 bs (omega arith) ∙ ap (λ k. field 4 k bs) four ∙ sym (column_get_d 4 8 bs 16 n i inside) ∙ place) j;
      }

  -- Those from there on.
  entries_left : (n i : ℕ) → i + n ≡ cues_in bs → parts stated 8 n (drop (12 + 8 * i) bs) ≡ entries_from bs i n
  unfolding parts entries_from
  entries_left zero i e = refl
  entries_left (suc n) i e =
      let next : 12 + 8 * i + 8 ≡ 12 + 8 * suc i = omega arith in
      ap₂ (λ x xs. x ∷ xs) (entry_stated i (omega arith))
      (ap (parts stated 8 n) (drop-drop 8 (12 + 8 * i) bs ∙ ap (λ k. drop k bs) next) ∙ entries_left n (suc i) (omega arith))

  -- All of them.
  pub entries_stated : stated_in (cues_in bs) bs ≡ entries_in bs
  entries_stated = entries_left (cues_in bs) 0 (omega arith)
