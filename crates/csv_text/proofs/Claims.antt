-- WHERE TO LOOK FIRST: what is shown of sheets as text, each claim under the clauses of docs/RULES.md that it settles.
-- Every claim is about the definitions in specs/; the contracts of import and export say that their results equal those definitions.
use mathlib.Core.Path.{◌≡◌, refl, ap, ◌∙◌}
use mathlib.Core.Bool.{true, false}
use mathlib.Core.List.{List, [], ◌∷◌, ◌++◌}
use mathlib.Core.Logic.{◌↔◌}
use Prim.Native.Nat.{ℕ, zero, suc, ◌≤◌, ◌<◌}
use native.Mathlib.Omega.{arith}
use lib.ListN.{length, get_or}
use lib.Dec.{eqb}
use borrow.Author.Tests.{ne_eqb}
use Rattle.rules.specs.Rounding.{S}
use Rattle.rules.specs.Refusals.{way_refusals, limit_refusals}
use Rattle.rules.specs.Sheet.{Sheet, AllBelow, Within, encode, decode, read_refusals, read_number, lists_refusals, write_refusals}
use Rattle.rules.specs.Answers.{Reply}
use Rattle.std.specs.Prelude.{Ok}
use Rattle.rules.proofs.Refused.{numbers_tried}
use Rattle.rules.proofs.Sheets.{within_decoded, encode_decode, encode-bytes}
use Rattle.csv_text.specs.Cut.{records_in}
use Rattle.csv_text.specs.Shapes.{is_run, misread, sheet_in}
use Rattle.csv_text.specs.Texts.{run_record, sheet_records, rendered, csv_of}
use Rattle.csv_text.specs.Calls.{text_lists, import_refusals, import_number, import_answer, import_reply, import_count, imported}
use Rattle.csv_text.specs.Calls.{export_refusals, export_number, export_answer, exported}
use Rattle.csv_text.proofs.Written.{ImportAlike, StandTable, quoting-same, Unended, last-end-same}
use Rattle.csv_text.proofs.Order.{ShuffledRows, order_same}
use Rattle.csv_text.proofs.First.{Fine, due, FirstAmiss, misread-none, misread_first}
use Rattle.csv_text.proofs.RunRecord.{RunForm, run-exactly, run-misread, ModeSaid, text-mode}
use Rattle.csv_text.proofs.Rfc.{Rfc}
use Rattle.csv_text.proofs.Grammar.{ReadsRfc, reads-rfc, accepted-rfc, AnsweredAlike, rfc-alike, csv-rfc}
use Rattle.csv_text.proofs.Longest.{csv-length, csv-attained}
use Rattle.csv_text.proofs.Taken.{import-length, import-attained}
use Rattle.csv_text.proofs.Imports.{AtFront, not_misread, import_within, import_room, import-accepts, import_answered, import-put, import-refused}
use Rattle.csv_text.proofs.Imports.{import_read, import_decoded, import-replies, number-not-3, number-not-21, number_misread, number_read, write-below}
use Rattle.csv_text.proofs.Exports.{csv_mode, csv_records, csv_read, sheet_csv, csv-ended, csv_imported, export_read, export_room, read_export}
use Rattle.csv_text.proofs.Exports.{export_answered, export-put, export-refused}

-- ---- RULES 13.1 to 13.3: texts are read as RFC 4180 has them. Where a text says records by its grammar (Rfc.antt), whatever is quoted in them, the import
-- ---- takes the sheet that these records say or tells the first of them that is not fine; and it takes no text that is not of the grammar.

pub reads-as-rfc : (t : List ℕ) (rs : List (List (List ℕ))) → Rfc t rs → ReadsRfc t rs
reads-as-rfc = reads-rfc

pub takes-only-rfc : (t : List ℕ) → misread t ≡ 0 → Rfc t (records_in t)
takes-only-rfc = accepted-rfc

-- So two texts of the grammar that say the same records import alike: what is quoted in them, and whether CR LF ends the last record, makes no difference.
pub same-records-alike : (t u : List ℕ) (rs : List (List (List ℕ))) → Rfc t rs → Rfc u rs → AnsweredAlike t u
same-records-alike = rfc-alike

-- ---- RULES 13.1: the last CR LF may be there or not. Every text that is not empty and does not end in CR LF imports like the same text with CR LF behind it.

pub with-or-without-end : (t : List ℕ) → 0 < length t → Unended t → ImportAlike (t ++ 13 ∷ 10 ∷ []) t
with-or-without-end = last-end-same

-- ---- RULES 13.3: a field may stand bare or quoted. Two texts of the same table, whatever fields stand bare in one and quoted in the other, import alike.

pub bare-or-quoted : (rs ps qs : List (List (List ℕ))) → StandTable rs ps → StandTable rs qs → ImportAlike (rendered ps) (rendered qs)
bare-or-quoted = quoting-same

-- ---- RULES 13.5: the first record is `run`, allowance and budget, and `1` behind them where the allowance is a share.

-- It is of its shape exactly if it is of one of these two forms (RunRecord.antt), and 23 tells record 1 exactly if it is of neither.
pub first-record : (r : List (List ℕ)) → (is_run r ≡ true) ↔ RunForm r
first-record = run-exactly

pub first-record-misread : (t : List ℕ) → (misread t ≡ 1) ↔ (RunForm (get_or (records_in t) 0 []) → ⊥)
first-record-misread = run-misread

-- A text of which no record is misread says mode 1 exactly if its first record has a third number, and else mode 0.
pub mode-said : (t : List ℕ) → misread t ≡ 0 → ModeSaid (get_or (records_in t) 0 []) (sheet_in t).limits.mode
mode-said = text-mode

-- ---- RULES 13.7: faults in any order. Two texts whose records are equal but for the order of the faults in the records of ways import alike.

pub faults-any-order : (r w : List (List ℕ)) (rs ss : List (List (List ℕ))) → ShuffledRows rs ss → (t u : List ℕ)
    → records_in t ≡ r ∷ w ∷ rs → records_in u ≡ r ∷ w ∷ ss → ImportAlike t u
faults-any-order = order_same

-- ---- RULES 13.11: import's refusals in their order, its number, and what it counts.

-- The record that 23 tells, number k + 1, is the first of those due that is not fine; none is told exactly if all that are due are fine.
pub first-misread : (t : List ℕ) (k : ℕ) → (misread t ≡ suc k) ↔ FirstAmiss (records_in t) k
first-misread = misread_first

pub none_misread : (t : List ℕ) → (misread t ≡ 0) ↔ ((j : ℕ) → j < due (records_in t) → Fine (records_in t) j)
none_misread = misread-none

pub import-order : (t : List ℕ) (n : ℕ) → numbers_tried (import_refusals t n) ≡ 23 ∷ 2 ∷ 3 ∷ 5 ∷ 6 ∷ 10 ∷ 12 ∷ 13 ∷ 14 ∷ 15 ∷ 21 ∷ 22 ∷ []
unfolding import_refusals write_refusals lists_refusals way_refusals limit_refusals
import-order t n = refl

-- But never 3: any third number of the first record but `1` is 23.
pub import-never-3 : (t : List ℕ) (n : ℕ) → import_number t n ≡ 3 → ⊥
import-never-3 = number-not-3

-- And never 21: the lists of a text agree in length.
pub never-gives-21 : (t : List ℕ) (n : ℕ) → import_number t n ≡ 21 → ⊥
never-gives-21 = number-not-21

-- What an import tells.
pub record ImportTells (t : List ℕ) (n : ℕ) (r : Reply) : Type 0 where
  pub number : r.number ≡ import_number t n
  pub low : r.low ≡ 0
  pub high : r.high ≡ S
  -- 23 is given exactly if a record is misread, whatever else applies, and counts the first such record from 1.
  pub given_23 : (import_number t n ≡ 23) ↔ (0 < misread t)
  pub counts_record : import_number t n ≡ 23 → r.count ≡ misread t
  -- Accepted, it counts the bytes of the sheet; refused with any other number, nothing.
  pub counts_bytes : import_number t n ≡ 0 → r.count ≡ length (encode (sheet_in t))
  pub counts_nothing : (k : ℕ) → import_number t n ≡ suc k → (suc k ≡ 23 → ⊥) → r.count ≡ 0

pub import-tells : (t : List ℕ) (n : ℕ) → ImportTells t n (import_reply (import_answer t n))
unfolding import_count
import-tells t n =
    record {
      number = ap (λ (r : Reply). r.number) (import-replies t n);
      low = ap (λ (r : Reply). r.low) (import-replies t n);
      high = ap (λ (r : Reply). r.high) (import-replies t n);
      given_23 = (from-23, to-23 (misread t) refl);
      counts_record = counted 23;
      counts_bytes = counted 0;
      counts_nothing = λ k e other. counted (suc k) e ∙ nothing k (ne_eqb k 22 (λ q. other (ap suc q)));
    }
  where
    counted : (m : ℕ) → import_number t n ≡ m → (import_reply (import_answer t n)).count ≡ import_count m (length (encode (sheet_in t))) (misread t)
    counted m e = ap (λ (r : Reply). r.count) (import-replies t n) ∙ ap (λ (k : ℕ). import_count k (length (encode (sheet_in t))) (misread t)) e

    nothing : (k : ℕ) → eqb k 22 ≡ false → import_count (suc k) (length (encode (sheet_in t))) (misread t) ≡ 0
    nothing k e = rw (e, import_count)

    to-23 : (k : ℕ) → misread t ≡ k → 0 < misread t → import_number t n ≡ 23
    to-23 zero e h = absurd (omega arith)
    to-23 (suc k) e h = number_misread t n k e

    found-23 : (k : ℕ) → misread t ≡ k → import_number t n ≡ 23 → 0 < misread t
    found-23 zero e h = absurd (omega (arith, number_read t n e, write-below (text_lists t) n, h))
    found-23 (suc k) e h = omega arith

    from-23 : import_number t n ≡ 23 → 0 < misread t
    from-23 h = found-23 (misread t) refl h

-- ---- RULES 13.12: which texts import accepts, and what it writes.

-- No record of the text is misread, the sheet that it says is within the limits, and the sheet's bytes fit.
pub record Importable (t : List ℕ) (n : ℕ) : Type 0 where
  pub read : misread t ≡ 0
  pub within : Within (sheet_in t)
  pub room : length (encode (sheet_in t)) ≤ n

pub import-exactly : (t : List ℕ) (n : ℕ) → (import_number t n ≡ 0) ↔ Importable t n
import-exactly t n = (
  (λ h. record { read = not_misread t n h; within = import_within t n h; room = import_room t n h }),
  (λ i. import-accepts t n i.read i.within i.room),
)

-- What an accepted import gives.
pub record Accepts (t space : List ℕ) : Type 0 where
  -- The count of the sheet's bytes, these at the front of the space, and behind them what was there.
  pub answer : import_answer t (length space) ≡ Ok (length (encode (sheet_in t)))
  pub written : AtFront (encode (sheet_in t)) space (imported t space)
  -- Reading accepts those bytes and finds the sheet that the text says.
  pub reads : read_number (encode (sheet_in t)) ≡ 0
  pub finds : decode (encode (sheet_in t)) ≡ sheet_in t

pub accepted-import : (t space : List ℕ) → import_number t (length space) ≡ 0 → Accepts t space
accepted-import t space h =
    record {
      answer = import_answered t (length space) h;
      written = import-put t space h;
      reads = import_read t (length space) h;
      finds = import_decoded t (length space) h;
    }

-- A refused import leaves the space as it was.
pub refused-import : (t space : List ℕ) (k : ℕ) → import_number t (length space) ≡ suc k → imported t space ≡ space
refused-import = import-refused

-- ---- RULES 13.13: the text of a sheet. Its records are those that it is written from, CR LF ends the last of them, and they say the sheet.

pub record TextOf (s : Sheet) : Type 0 where
  pub records : records_in (csv_of s) ≡ sheet_records s
  pub ended : (u : List ℕ) × (csv_of s ≡ u ++ 13 ∷ 10 ∷ [])
  pub read : misread (csv_of s) ≡ 0
  pub says : sheet_in (csv_of s) ≡ s
  -- Its first record has a third number, `1`, exactly if the allowance is a share.
  pub mode : ModeSaid (run_record s.limits) s.limits.mode
  -- It is a text of RFC 4180.
  pub of_rfc : Rfc (csv_of s) (sheet_records s)

pub text_of : (s : Sheet) → Within s → TextOf s
text_of s w =
    record { records = csv_records s w; ended = csv-ended s; read = csv_read s w; says = sheet_csv s w; mode = csv_mode s w; of_rfc = csv-rfc s w }

-- ---- RULES 13.14: export's refusals in their order, which sheets it accepts, and what it writes.

pub export-order : (bs : List ℕ) (n : ℕ) → numbers_tried (export_refusals bs n) ≡ 1 ∷ 2 ∷ 3 ∷ 4 ∷ 5 ∷ 6 ∷ 7 ∷ 8 ∷ 10 ∷ 12 ∷ 13 ∷ 14 ∷ 15 ∷ 22 ∷ []
unfolding export_refusals read_refusals way_refusals limit_refusals
export-order bs n = refl

-- Exactly those that reading accepts, if the text fits.
pub export-exactly : (bs : List ℕ) (n : ℕ) → (export_number bs n ≡ 0) ↔ (read_number bs ≡ 0) × (length (csv_of (decode bs)) ≤ n)
export-exactly bs n = ((λ h. (export_read bs n h, export_room bs n h)), (λ h. read_export bs n h.0 h.1))

-- A refused export leaves the space as it was.
pub refused-export : (bs space : List ℕ) (k : ℕ) → export_number bs (length space) ≡ suc k → exported bs space ≡ space
refused-export = export-refused

-- ---- RULES 13.15: export, then import, gives the same sheet, byte for byte.

-- The bytes of a sheet, exported into one space and from there imported into another.
pub record Returns (bs between space : List ℕ) : Type 0 where
  -- Export answers with the count of the text's bytes and puts them to the front.
  pub export-answer : export_answer bs (length between) ≡ Ok (length (csv_of (decode bs)))
  pub text : AtFront (csv_of (decode bs)) between (exported bs between)
  -- Import of that text answers with the count of the bytes, and puts the same bytes to the front.
  pub import-answer : import_answer (csv_of (decode bs)) (length space) ≡ Ok (length bs)
  pub bytes : AtFront bs space (imported (csv_of (decode bs)) space)

pub export-import : (bs : List ℕ) → AllBelow 256 bs → read_number bs ≡ 0 → (between space : List ℕ)
    → length (csv_of (decode bs)) ≤ length between → length bs ≤ length space → Returns bs between space
export-import bs h accepted between space room long =
    let within : Within (decode bs) = within_decoded bs h accepted in
    let same : encode (sheet_in (csv_of (decode bs))) ≡ bs = ap encode (sheet_csv (decode bs) within) ∙ encode_decode bs h accepted in
    let out : export_number bs (length between) ≡ 0 = read_export bs (length between) accepted room in
    let fits : length (encode (decode bs)) ≤ length space = rw (encode_decode bs h accepted) long in
    let back : import_number (csv_of (decode bs)) (length space) ≡ 0 = csv_imported (decode bs) within (length space) fits in
    record {
      export-answer = export_answered bs (length between) out;
      text = export-put bs between out;
      import-answer = import_answered (csv_of (decode bs)) (length space) back ∙ ap (λ (xs : List ℕ). Ok (length xs)) same;
      bytes = rw same at (import-put (csv_of (decode bs)) space back);
    }

-- And the bytes that an accepted import of any text gives, exported and imported again, are the same bytes.
pub import-export : (t : List ℕ) (n : ℕ) → import_number t n ≡ 0 → (between space : List ℕ)
    → length (csv_of (sheet_in t)) ≤ length between → length (encode (sheet_in t)) ≤ length space → Returns (encode (sheet_in t)) between space
import-export t n h between space room long =
    export-import (encode (sheet_in t)) (encode-bytes (sheet_in t)) (import_read t n h) between space (rw (import_decoded t n h) room) long

-- ---- RULES 13.16: no text of a sheet has more than 781,023 bytes, and that of one sheet has as many.

pub longest-text : ((s : Sheet) → Within s → length (csv_of s) ≤ 781023) × ((s : Sheet) × Within s × (length (csv_of s) ≡ 781023))
longest-text = (csv-length, csv-attained)

-- No text that import accepts has more than 1,180,521, and one has as many.
pub longest-taken : ((t : List ℕ) (n : ℕ) → import_number t n ≡ 0 → length t ≤ 1180521)
    × ((t : List ℕ) × (n : ℕ) × (import_number t n ≡ 0) × (length t ≡ 1180521))
longest-taken = (import-length, import-attained)
