-- An import reads a text of RFC 4180 as the grammar has it (RULES 13.1 to 13.3): cutting at commas and at CR LF, whatever is quoted, finds the same
-- sheet, or the same record to be misread; and every text that is taken is of the grammar. No shape has a byte that only quotes let through.
-- Rests on Rfc.antt for the grammar, on Written.antt for how plain bytes are cut, and on First.antt for the record that is told.
use mathlib.Core.Path.{◌≡◌, refl, sym, ap, ap₂, ◌∙◌, subst}
use mathlib.Core.Logic.{◌↔◌}
use mathlib.Core.Bool.{Bool, true, false, ◌&&◌, true≢false}
use mathlib.Core.List.{List, [], ◌∷◌, ◌++◌, map, append-nil}
use Rattle.std.specs.Prelude.{Option, Some, None}
use Prim.Native.Nat.{ℕ, zero, suc, ◌-◌, ◌≤◌, ◌<◌}
use native.Mathlib.Omega.{arith}
use lib.ListN.{length, take, drop, get_or, length-append}
use lib.Seq.{take-suc, take_all}
use lib.Dec.{eqb, ltb, leb}
use borrow.Author.Tests.{ne_eqb, eqb-true, leb-true}
use Rattle.rules.specs.Sheet.{Cue, Sheet, Within, same_numbers}
use Rattle.rules.specs.Text.{bytes, decimal, decimal_value}
use Rattle.rules.proofs.Booleans.{and_split, and_left, and_right, and-false, or_cases, is_false}
use Rattle.rules.proofs.Decimal.{AllDigits, decimal-digits}
use Rattle.rules.proofs.Sheets.{same-equal}
use Rattle.decimal.specs.Numerals.{is_numeral}
use Rattle.decimal.proofs.Numerals.{numeral-decimal}
use Rattle.csv_text.specs.Cut.{onto, lines_in, raw_fields, quoted, unquoted, fields_in, records_in}
use Rattle.csv_text.specs.Shapes.{all_numerals, is_run, is_weights, signed, unsigned, is_fault, all_faults, is_empty_way, is_names, is_row, row_in, follows}
use Rattle.csv_text.specs.Shapes.{misread_rows, misread_weights, misread_records, misread, sheet_said, sheet_in}
use Rattle.csv_text.specs.Texts.{sheet_records, further_fields, record_text, csv_of}
use Rattle.csv_text.specs.Calls.{import_number, import_answer_by, import_answer, imported}
use Rattle.csv_text.proofs.Written.{Every, Free, free-append, raw-front, cut_by, lines_cut, bare-line, lines-front, quotes, unquoted-quotes, import-same}
use Rattle.csv_text.proofs.Imports.{number_misread, import-refused}
use Rattle.csv_text.proofs.Exports.{csv_records, csv_read}
use Rattle.csv_text.proofs.RunRecord.{RunForm, by-distance, by-share, run-form}
use Rattle.csv_text.proofs.First.{Fine, due, FirstAmiss, records-none, records-first}
use Rattle.csv_text.proofs.Rfc.{above_comma, is_text, AllText, Enclosed, no_byte, one_byte, doubled_quote, FieldOf, bare_field, quoted_field}
use Rattle.csv_text.proofs.Rfc.{RecordOf, last_field, field_before, Rfc, no_record, last_unended, record_ended, rfc-once}
use Rattle.csv_text.proofs.Rfc.{text-apart, LineEnd, text_ends, crlf, record-once}

-- ---- a record of a shape has TEXTDATA in all its fields

-- Every field is of TEXTDATA.
abbrev AllTexts : List (List ℕ) → Type 0
AllTexts fs = Every AllText fs

-- Digits are TEXTDATA.
digits-text : (bs : List ℕ) → AllDigits bs → AllText bs
digits-text [] h = tt
digits-text (b ∷ bs) h = (above_comma (omega (arith, h.0)) (omega (arith, h.1)), digits-text bs h.2)

-- So is a numeral.
numeral-text : (f : List ℕ) → is_numeral f ≡ true → AllText f
numeral-text f h = subst AllText (numeral-decimal f h) (digits-text (decimal (decimal_value f)) (decimal-digits (decimal_value f)))

-- So are numerals.
numerals-text : (fs : List (List ℕ)) → all_numerals fs ≡ true → AllTexts fs
unfolding all_numerals
numerals-text [] h = tt
numerals-text (f ∷ fs) h = let both = and_split (is_numeral f) (all_numerals fs) h in (numeral-text f both.0, numerals-text fs both.1)

-- Every byte is above a comma and at most 7E.
all_above : List ℕ → Bool
all_above [] = true
all_above (b ∷ bs) = (leb 45 b && leb b 126) && all_above bs

-- Such bytes are TEXTDATA.
above-text : (bs : List ℕ) → all_above bs ≡ true → AllText bs
unfolding all_above
above-text [] h = tt
above-text (b ∷ bs) h =
    let both = and_split (leb 45 b && leb b 126) (all_above bs) h in
    let here = and_split (leb 45 b) (leb b 126) both.0 in
    (above_comma (leb-true 45 b here.0) (leb-true b 126 here.1), above-text bs both.1)

-- So is a field that equals such a word.
word-text : (w v : List ℕ) → same_numbers w v ≡ true → all_above v ≡ true → AllText w
word-text w v e h = subst AllText (sym (same-equal w v e)) (above-text v h)

-- A record of the shape of the first.
form-text : (r : List (List ℕ)) → RunForm r → AllTexts r
unfolding bytes all_above
form-text _ (by-distance {a = a} {b = b} h k) = (above-text (bytes "run") refl, (numeral-text a h, (numeral-text b k, tt)))
form-text _ (by-share {a = a} {b = b} h k) =
    (above-text (bytes "run") refl, (numeral-text a h, (numeral-text b k, (above-text (bytes "1") refl, tt))))

-- So by its test.
run-text : (r : List (List ℕ)) → is_run r ≡ true → AllTexts r
run-text r h = form-text r (run-form r h)

-- One of the shape of the second.
weights-text : (r : List (List ℕ)) → is_weights r ≡ true → AllTexts r
unfolding is_weights bytes all_above
weights-text [] h = absurd (true≢false (sym h))
weights-text (w ∷ fs) h =
    let both = and_split (same_numbers w (bytes "weights")) _ h in
    (word-text w (bytes "weights") both.0 refl, numerals-text fs both.1)

-- A fault: a minus in front of a numeral is TEXTDATA, too.
fault-text : (f : List ℕ) → is_fault f ≡ true → AllText f
unfolding is_fault unsigned signed
fault-text [] h = tt
fault-text (b ∷ f) h = split (eqb b 45) refl (and_left (is_numeral (unsigned (b ∷ f))) _ h)
  where
    split : (x : Bool) → eqb b 45 ≡ x → is_numeral (unsigned (b ∷ f)) ≡ true → AllText (b ∷ f)
    split true x e = let minus : b ≡ 45 = eqb-true b 45 x in (above_comma (omega arith) (omega arith), numeral-text f (rw (x, unsigned) at e))
    split false x e = numeral-text (b ∷ f) (rw (x, unsigned) at e)

-- Faults.
faults-text : (fs : List (List ℕ)) → all_faults fs ≡ true → AllTexts fs
unfolding all_faults
faults-text [] h = tt
faults-text (f ∷ fs) h = let both = and_split (is_fault f) (all_faults fs) h in (fault-text f both.0, faults-text fs both.1)

-- The empty way.
empty-text : (fs : List (List ℕ)) → is_empty_way fs ≡ true → AllTexts fs
unfolding is_empty_way bytes all_above
empty-text [] h = tt
empty-text (f ∷ []) h = (word-text f (bytes "0") h refl, tt)
empty-text (f ∷ g ∷ fs) h = absurd (true≢false (sym h))

-- The record of a way.
row-text : (r : List (List ℕ)) → is_row r ≡ true → AllTexts r
unfolding is_row is_names
row-text [] h = tt
row-text (c ∷ fs) h =
    let both = and_split (is_numeral c && ltb (decimal_value c) 65536) _ h in (
      numeral-text c (and_left (is_numeral c) _ both.0),
      or_cases (is_empty_way fs) _ (empty-text fs) (λ k. faults-text fs (and_left (all_faults fs) _ k)) both.1,
    )

-- ---- TEXTDATA is cut as the grammar has it

-- It is free of commas and of CR.
text-free : (f : List ℕ) → AllText f → Free 44 f × Free 13 f
text-free [] h = (tt, tt)
text-free (b ∷ f) h =
    let rest = text-free f h.1 in
    let apart = text-apart b h.0 in
    ((apart.no_comma, rest.0), (apart.no_cr, rest.1))

-- It stands for itself.
text-bare : (f : List ℕ) → AllText f → unquoted f ≡ f
unfolding quoted unquoted
text-bare [] h = refl
text-bare (b ∷ f) h =
    let ends : Bool = eqb (get_or (b ∷ f) (length (b ∷ f) - 1) 0) 34 in
    let no-quotes : quoted (b ∷ f) ≡ false =
    ap (λ (x : Bool). leb 2 (length (b ∷ f)) && (x && ends)) (ne_eqb b 34 (text-apart b h.0).no_quote) ∙ and-false (leb 2 (length (b ∷ f)))
    in
    rw (no-quotes, unquoted)

-- What says TEXTDATA between quotes is that.
enclosed-text : {f c : List ℕ} → Enclosed f c → AllText c → f ≡ c
enclosed-text no_byte h = refl
enclosed-text (one_byte {b = b} k p) h = ap (λ (l : List ℕ). b ∷ l) (enclosed-text p h.1)
enclosed-text (doubled_quote p) h = absurd ((text-apart 34 h.0).no_quote refl)

-- A piece without comma and CR that is read as this field.
record Cuts (f c : List ℕ) : Type 0 where
  comma : Free 44 f
  return : Free 13 f
  says : unquoted f ≡ c

-- Every field that says TEXTDATA does.
field-cuts : {f c : List ℕ} → FieldOf f c → AllText c → Cuts f c
field-cuts (bare_field {f = f} k) h = let free = text-free f h in record { comma = free.0; return = free.1; says = text-bare f h }
field-cuts (quoted_field {bs = bs} {c = c} p) h =
    let free = text-free c h in
    let in_quotes : Cuts (quotes c) c =
    record {
      comma = ((λ e. omega arith), free-append 44 c (34 ∷ []) free.0 ((λ e. omega arith), tt));
      return = ((λ e. omega arith), free-append 13 c (34 ∷ []) free.1 ((λ e. omega arith), tt));
      says = unquoted-quotes c;
    }
    in
    rw (enclosed-text p h) in_quotes

-- So is a record.
record-cuts : {l : List ℕ} {r : List (List ℕ)} → RecordOf l r → AllTexts r → Free 13 l × (fields_in l ≡ r)
unfolding fields_in raw_fields
record-cuts (last_field {f = f} {c = c} p) h =
    let cuts = field-cuts p h.0 in (
      cuts.return,
      ap (map unquoted) (ap raw_fields (sym (append-nil f)) ∙ raw-front f [] [] cuts.comma refl) ∙ ap (λ (g : List ℕ). g ∷ []) cuts.says,
    )
record-cuts (field_before {f = f} {c = c} {l = l} {r = r} p q) h =
    let cuts = field-cuts p h.0 in
    let rest = record-cuts q h.1 in (
      free-append 13 f (44 ∷ l) cuts.return ((λ e. omega arith), rest.0),
      ap (map unquoted) (raw-front f (44 ∷ l) (raw_fields l) cuts.comma refl)
          ∙ ap₂ (λ (g : List ℕ) (gs : List (List ℕ)). g ∷ gs) cuts.says rest.1,
    )

-- A line without CR up to the end of a line.
line-cuts : (l : List ℕ) {u t : List ℕ} → LineEnd u t → Free 13 l → 0 < length (l ++ u) → lines_in (l ++ u) ≡ l ∷ lines_in t
unfolding lines_in onto
line-cuts l (crlf {t = t}) h p = lines-front l t h
line-cuts [] text_ends h p = absurd (omega arith)
line-cuts (b ∷ []) text_ends h p = refl
line-cuts (b ∷ c ∷ l) text_ends h p = bare-line b c (l ++ []) h.0 ∙ ap (onto b) (line-cuts (c ∷ l) text_ends h.1 (omega arith))

-- A record of TEXTDATA in front of a text is its first record by cutting.
pub first-cut : {l u t : List ℕ} {r : List (List ℕ)} → RecordOf l r → AllTexts r → LineEnd u t → 0 < length (l ++ u) → records_in (l ++ u) ≡ r ∷ records_in t
unfolding records_in
first-cut {l = l} {t = t} p h b long =
    let cuts = record-cuts p h in
    ap (map fields_in) (line-cuts l b cuts.0 long) ∙ ap (λ (r : List (List ℕ)). r ∷ map fields_in (lines_in t)) cuts.1

-- ---- what cutting finds to be TEXTDATA is of the grammar

-- A piece that begins and ends with a quote is what stands between them, in quotes.
pub quoted-quotes : (p : List ℕ) → quoted p ≡ true → p ≡ quotes (take (length p - 2) (drop 1 p))
unfolding quoted
quoted-quotes [] h = absurd (true≢false (sym h))
quoted-quotes (b ∷ q) h = split (length q) refl
  where
    long : 2 ≤ length (b ∷ q)
    long = leb-true 2 (length (b ∷ q)) (and_left (leb 2 (length (b ∷ q))) _ h)

    both : (eqb b 34 ≡ true) × (eqb (get_or (b ∷ q) (length (b ∷ q) - 1) 0) 34 ≡ true)
    both = and_split (eqb b 34) _ (and_right (leb 2 (length (b ∷ q))) _ h)

    split : (n : ℕ) → length q ≡ n → b ∷ q ≡ quotes (take (length (b ∷ q) - 2) q)
    split zero e = absurd (omega (arith, long))
    split (suc n) e =
        let place : length (b ∷ q) - 1 ≡ suc n = omega arith in
        let size : length (b ∷ q) - 2 ≡ n = omega arith in
        let final : get_or q n 0 ≡ 34 = eqb-true (get_or q n 0) 34 (rw place at both.1) in
        let whole : q ≡ take n q ++ 34 ∷ [] =
        sym (take_all (suc n) q (omega arith)) ∙ take-suc q n 0 (omega arith) ∙ ap (λ (x : ℕ). take n q ++ x ∷ []) final
        in
        rw size (ap₂ (λ (x : ℕ) (xs : List ℕ). x ∷ xs) (eqb-true b 34 both.0) whole)

-- TEXTDATA between quotes says itself.
text-enclosed : (f : List ℕ) → AllText f → Enclosed f f
text-enclosed [] h = no_byte
text-enclosed (b ∷ f) h = one_byte (is_text h.0) (text-enclosed f h.1)

-- A piece is a field,
piece-field : (p : List ℕ) → AllText (unquoted p) → FieldOf p (unquoted p)
unfolding unquoted
piece-field p h = split (quoted p) refl h
  where
    split : (x : Bool) → quoted p ≡ x → AllText (unquoted p) → FieldOf p (unquoted p)
    split true x k =
        let m : List ℕ = take (length p - 2) (drop 1 p) in
        let inner : AllText m = rw (x, unquoted) at k in
        rw (x, unquoted) (subst (λ (q : List ℕ). FieldOf q m) (sym (quoted-quotes p x)) (quoted_field (text-enclosed m inner)))
    split false x k = rw (x, unquoted) (bare_field (rw (x, unquoted) at k))

-- pieces with commas between them are a record,
pieces-record : (p : List ℕ) (ps : List (List ℕ)) → AllTexts (map unquoted (p ∷ ps)) → RecordOf (record_text (p ∷ ps)) (map unquoted (p ∷ ps))
unfolding record_text further_fields
pieces-record p [] h = rw (append-nil p) (last_field (piece-field p h.0))
pieces-record p (q ∷ qs) h = field_before (piece-field p h.0) (pieces-record q qs h.1)

-- and a line is its pieces with commas between them.
line-joined : (l : List ℕ) → (p : List ℕ) × (ps : List (List ℕ)) × (raw_fields l ≡ p ∷ ps) × (record_text (p ∷ ps) ≡ l)
unfolding raw_fields record_text further_fields onto
line-joined [] = ([], [], refl, refl)
line-joined (b ∷ bs) = split (eqb b 44) refl (line-joined bs)
  where
    split : (x : Bool) → eqb b 44 ≡ x → (p : List ℕ) × (ps : List (List ℕ)) × (raw_fields bs ≡ p ∷ ps) × (record_text (p ∷ ps) ≡ bs)
        → (p : List ℕ) × (ps : List (List ℕ)) × (raw_fields (b ∷ bs) ≡ p ∷ ps) × (record_text (p ∷ ps) ≡ b ∷ bs)
    split true x (p, ps, e, j) = (
      [],
      p ∷ ps,
      rw (x, raw_fields) (ap (λ (qs : List (List ℕ)). [] ∷ qs) e),
      ap₂ (λ (y : ℕ) (ys : List ℕ). y ∷ ys) (sym (eqb-true b 44 x)) j,
    )
    split false x (p, ps, e, j) = (b ∷ p, ps, rw (x, raw_fields) (ap (onto b) e), ap (λ (ys : List ℕ). b ∷ ys) j)

-- So a line is a record.
line-record : (l : List ℕ) → AllTexts (fields_in l) → RecordOf l (fields_in l)
unfolding fields_in
line-record l h =
    let joined = line-joined l in
    let texts : AllTexts (map unquoted (joined.0 ∷ joined.1)) = rw joined.2 at h in
    rw joined.2 (subst (λ (m : List ℕ). RecordOf m (map unquoted (joined.0 ∷ joined.1))) joined.3 (pieces-record joined.0 joined.1 texts))

-- A text that is not empty, cut: its first line, where that ends, and the text from there on.
record FirstLine (t : List ℕ) : Type 0 where
  line : List ℕ
  behind : List ℕ
  rest : List ℕ
  whole : t ≡ line ++ behind
  ends : LineEnd behind rest
  lines : lines_in t ≡ line ∷ lines_in rest

-- Cutting finds it.
first-line : (b : ℕ) (bs : List ℕ) → FirstLine (b ∷ bs)
unfolding lines_in cut_by onto
first-line b [] = record { line = b ∷ []; behind = []; rest = []; whole = refl; ends = text_ends; lines = refl }
first-line b (c ∷ bs) = split (eqb b 13 && eqb c 10) refl (first-line c bs)
  where
    split : (x : Bool) → eqb b 13 && eqb c 10 ≡ x → FirstLine (c ∷ bs) → FirstLine (b ∷ c ∷ bs)
    split true x f =
        let both = and_split (eqb b 13) (eqb c 10) x in
        record {
          line = [];
          behind = 13 ∷ 10 ∷ bs;
          rest = bs;
          whole = ap₂ (λ (y z : ℕ). y ∷ z ∷ bs) (eqb-true b 13 both.0) (eqb-true c 10 both.1);
          ends = crlf;
          lines = lines_cut b c bs true x;
        }
    split false x f =
        record {
          line = b ∷ f.line;
          behind = f.behind;
          rest = f.rest;
          whole = ap (λ (l : List ℕ). b ∷ l) f.whole;
          ends = f.ends;
          lines = lines_cut b c bs false x ∙ ap (onto b) f.lines;
        }

-- A line in front of a text of the grammar.
line-rfc : {u t : List ℕ} {r : List (List ℕ)} (l : List ℕ) → LineEnd u t → 0 < length (l ++ u) → RecordOf l r → Rfc t (records_in t)
    → Rfc (l ++ u) (r ∷ records_in t)
unfolding records_in lines_in
line-rfc l text_ends p k h = rw (append-nil l) (last_unended (rw (append-nil l) at p) k)
line-rfc l crlf p k h = record_ended k h

-- The text behind a line is shorter.
end-shorter : {u t : List ℕ} (n : ℕ) → LineEnd u t → 0 < n → length u ≤ n → length t < n
end-shorter n text_ends p h = p
end-shorter n crlf p h = omega arith

-- A text whose records by cutting are all of TEXTDATA is of the grammar and says just these.
texts-rfc : (n : ℕ) (t : List ℕ) → length t < n → Every AllTexts (records_in t) → Rfc t (records_in t)
unfolding records_in lines_in
texts-rfc zero t l h = absurd (omega arith)
texts-rfc (suc n) [] l h = no_record
texts-rfc (suc n) (b ∷ bs) l h = build (first-line b bs) (texts-rfc n)
  where
    build : FirstLine (b ∷ bs) → ((t : List ℕ) → length t < n → Every AllTexts (records_in t) → Rfc t (records_in t)) → Rfc (b ∷ bs) (records_in (b ∷ bs))
    build f go =
        let records : records_in (b ∷ bs) ≡ fields_in f.line ∷ records_in f.rest = ap (map fields_in) f.lines in
        let tables : Every AllTexts (fields_in f.line ∷ records_in f.rest) = subst (Every AllTexts) records h in
        let size = ap length f.whole in
        let parts = length-append f.line f.behind in
        let short : length f.rest < n = omega (arith, end-shorter (length (b ∷ bs)) f.ends (omega arith) (omega (arith, size, parts))) in
        let made = line-rfc f.line f.ends (omega (arith, size)) (line-record f.line tables.0) (go f.rest short tables.1) in
        rw records (rw f.whole made)

-- Rows of which none is misread are of TEXTDATA.
rows-texts : (k : ℕ) (b : Option Cue) (rs : List (List (List ℕ))) → misread_rows (suc k) b rs ≡ 0 → Every AllTexts rs
unfolding misread_rows
rows-texts k b [] e = tt
rows-texts k b (r ∷ rs) e = split (is_row r && follows b (row_in r)) refl (rows-texts (suc k) (Some (row_in r)) rs)
  where
    split : (x : Bool) → is_row r && follows b (row_in r) ≡ x → (misread_rows (suc (suc k)) (Some (row_in r)) rs ≡ 0 → Every AllTexts rs) → Every AllTexts (r ∷ rs)
    split true x rest = (row-text r (and_left (is_row r) _ x), rest (rw (x, misread_rows) at e))
    split false x rest = absurd (let z : suc k ≡ 0 = rw (x, misread_rows) at e in omega arith)

-- So from the second record on.
weights-texts : (rs : List (List (List ℕ))) → misread_weights rs ≡ 0 → Every AllTexts rs
unfolding misread_weights
weights-texts [] e = absurd (omega arith)
weights-texts (w ∷ rs) e = split (is_weights w) refl
  where
    split : (x : Bool) → is_weights w ≡ x → Every AllTexts (w ∷ rs)
    split true x = (weights-text w x, rows-texts 2 None rs (rw (x, misread_weights) at e))
    split false x = absurd (let z : ◌≡◌ {A = ℕ} 2 0 = rw (x, misread_weights) at e in omega arith)

-- So all of them.
records-texts : (rs : List (List (List ℕ))) → misread_records rs ≡ 0 → Every AllTexts rs
unfolding misread_records
records-texts [] e = absurd (omega arith)
records-texts (r ∷ rs) e = split (is_run r) refl
  where
    split : (x : Bool) → is_run r ≡ x → Every AllTexts (r ∷ rs)
    split true x = (run-text r x, weights-texts rs (rw (x, misread_records) at e))
    split false x = absurd (let z : ◌≡◌ {A = ℕ} 1 0 = rw (x, misread_records) at e in omega arith)

-- EVERY TEXT WITHOUT A MISREAD RECORD, and so every text that is taken, is of RFC 4180 and says the records that the import finds.
pub accepted-rfc : (t : List ℕ) → misread t ≡ 0 → Rfc t (records_in t)
unfolding misread
accepted-rfc t e = texts-rfc (suc (length t)) t (omega arith) (records-texts (records_in t) e)

-- ---- what the import tells of a text of the grammar is what the grammar's records say

-- A walk over records from the front: each is tested, by a test that only TEXTDATA passes; where it holds the walk goes on, else it tells a number.
record Walk : Type 0 where
  tells : List (List (List ℕ)) → ℕ
  test : List (List ℕ) → Bool
  texts : (r : List (List ℕ)) → test r ≡ true → AllTexts r
  next : List (List ℕ) → List (List (List ℕ)) → ℕ
  stop : ℕ
  passed : (r : List (List ℕ)) (rs : List (List (List ℕ))) → test r ≡ true → tells (r ∷ rs) ≡ next r rs
  stopped : (r : List (List ℕ)) (rs : List (List (List ℕ))) → test r ≡ false → tells (r ∷ rs) ≡ stop

-- The walk over rows.
rows_walk : ℕ → Option Cue → Walk
unfolding misread_rows
rows_walk k b =
    record {
      tells = misread_rows k b;
      test = λ r. is_row r && follows b (row_in r);
      texts = λ r e. row-text r (and_left (is_row r) _ e);
      next = λ r rs. misread_rows (suc k) (Some (row_in r)) rs;
      stop = k;
      passed = λ r rs e. rw (e, misread_rows);
      stopped = λ r rs e. rw (e, misread_rows);
    }

-- From the second record.
weights_walk : Walk
unfolding misread_weights
weights_walk =
    record {
      tells = misread_weights;
      test = is_weights;
      texts = weights-text;
      next = λ r rs. misread_rows 3 None rs;
      stop = 2;
      passed = λ r rs e. rw (e, misread_weights);
      stopped = λ r rs e. rw (e, misread_weights);
    }

-- From the first.
run_walk : Walk
unfolding misread_records
run_walk =
    record {
      tells = misread_records;
      test = is_run;
      texts = run-text;
      next = λ r rs. misread_weights rs;
      stop = 1;
      passed = λ r rs e. rw (e, misread_records);
      stopped = λ r rs e. rw (e, misread_records);
    }

-- The first line of a text that is not empty.
line_of : (t : List ℕ) → 0 < length t → FirstLine t
line_of [] h = absurd (omega arith)
line_of (b ∷ bs) h = first-line b bs

module _ (w : Walk) (t l u after : List ℕ) (r : List (List ℕ)) (whole : t ≡ l ++ u) (long : 0 < length t) (k : RecordOf l r) (b : LineEnd u after) where
  -- The grammar's first record, if it passes, is found by cutting.
  found : w.test r ≡ true → records_in t ≡ r ∷ records_in after
  found e = ap records_in whole ∙ first-cut k (w.texts r e) b (rw whole at long)

  -- If it does not pass, the record that cutting finds in its place does not, either.
  missed : w.test r ≡ false → (f : FirstLine t) → w.test (fields_in f.line) ≡ false
  missed e f =
      is_false (w.test (fields_in f.line)) (λ x.
      let same = record-once f.behind u (line-record f.line (w.texts (fields_in f.line) x)) k f.ends b (sym f.whole ∙ whole) in
      true≢false (sym x ∙ ap w.test same.0 ∙ e))

  -- So a walk tells the same of both, if it does behind that record.
  walked : (rs : List (List (List ℕ))) → w.next r (records_in after) ≡ w.next r rs → w.tells (records_in t) ≡ w.tells (r ∷ rs)
  unfolding records_in
  walked rs rest = split (w.test r) refl
    where
      split : (x : Bool) → w.test r ≡ x → w.tells (records_in t) ≡ w.tells (r ∷ rs)
      split true x = ap w.tells (found x) ∙ w.passed r (records_in after) x ∙ rest ∙ sym (w.passed r rs x)
      split false x =
          let first = line_of t long in
          ap w.tells (ap (map fields_in) first.lines)
          ∙ w.stopped (fields_in first.line) (records_in first.rest) (missed x first)
          ∙ sym (w.stopped r rs x)

-- Behind the first record of a text a walk tells the same of the records by cutting and of the grammar's.
abbrev SameBehind : {t : List ℕ} {rs : List (List (List ℕ))} → Walk → Rfc t rs → Type 0
SameBehind w no_record = Unit {0}
SameBehind w (last_unended long h) = Unit {0}
SameBehind w (record_ended {t = t} {r = r} {rs = rs} h g) = w.next r (records_in t) ≡ w.next r rs

-- Then it does of the whole text.
walk-rfc : {t : List ℕ} {rs : List (List (List ℕ))} (w : Walk) (h : Rfc t rs) → SameBehind w h → w.tells (records_in t) ≡ w.tells rs
unfolding records_in lines_in
walk-rfc w no_record e = refl
walk-rfc w (last_unended {l = l} {r = r} long h) e = walked w l l [] [] r (sym (append-nil l)) long h text_ends [] refl
walk-rfc w (record_ended {l = l} {t = t} {r = r} {rs = rs} h g) e =
    walked w (l ++ 13 ∷ 10 ∷ t) l (13 ∷ 10 ∷ t) t r refl (omega (arith, length-append l (13 ∷ 10 ∷ t))) h crlf rs e

-- Rows of a text by cutting and by the grammar: the same one is told.
rows-rfc : {t : List ℕ} {rs : List (List (List ℕ))} → Rfc t rs → (k : ℕ) (b : Option Cue) → misread_rows k b (records_in t) ≡ misread_rows k b rs
unfolding rows_walk
rows-rfc no_record k b = walk-rfc (rows_walk k b) no_record tt
rows-rfc (last_unended long h) k b = walk-rfc (rows_walk k b) (last_unended long h) tt
rows-rfc (record_ended {r = r} h g) k b = walk-rfc (rows_walk k b) (record_ended h g) (rows-rfc g (suc k) (Some (row_in r)))

-- So from the second record.
weights-rfc : {t : List ℕ} {rs : List (List (List ℕ))} → Rfc t rs → misread_weights (records_in t) ≡ misread_weights rs
unfolding weights_walk
weights-rfc no_record = walk-rfc weights_walk no_record tt
weights-rfc (last_unended long h) = walk-rfc weights_walk (last_unended long h) tt
weights-rfc (record_ended h g) = walk-rfc weights_walk (record_ended h g) (rows-rfc g 3 None)

-- FOR EVERY TEXT OF RFC 4180, whatever is quoted in it, the import misreads the record that the grammar's records say, or none.
pub rfc-misread : {t : List ℕ} {rs : List (List (List ℕ))} → Rfc t rs → misread t ≡ misread_records rs
unfolding misread run_walk
rfc-misread no_record = walk-rfc run_walk no_record tt
rfc-misread (last_unended long h) = walk-rfc run_walk (last_unended long h) tt
rfc-misread (record_ended h g) = walk-rfc run_walk (record_ended h g) (weights-rfc g)

-- Where none is, the records that the import finds are the grammar's.
pub rfc-records : {t : List ℕ} {rs : List (List (List ℕ))} → Rfc t rs → misread_records rs ≡ 0 → records_in t ≡ rs
rfc-records {t = t} h e = rfc-once (accepted-rfc t (rfc-misread h ∙ e)) h refl

-- WHAT AN IMPORT HAS TO DO WITH A TEXT OF RFC 4180 that says records rs.
pub record ReadsRfc (t : List ℕ) (rs : List (List (List ℕ))) : Type 0 where
  -- No record is misread exactly if all that are due are fine, and then the sheet is the one that the records say.
  pub none_misread : (misread t ≡ 0) ↔ ((j : ℕ) → j < due rs → Fine rs j)
  pub sheet : misread t ≡ 0 → sheet_in t ≡ sheet_said rs
  -- Else the record that is told is the first of them that is not fine.
  pub told : (k : ℕ) → (misread t ≡ suc k) ↔ FirstAmiss rs k

-- EVERY TEXT OF THE GRAMMAR is read so.
pub reads-rfc : (t : List ℕ) (rs : List (List (List ℕ))) → Rfc t rs → ReadsRfc t rs
unfolding sheet_in
reads-rfc t rs h =
    record {
      none_misread = rw (rfc-misread h) (records-none rs);
      sheet = λ e. ap sheet_said (rfc-records h (sym (rfc-misread h) ∙ e));
      told = λ k. rw (rfc-misread h) (records-first rs k);
    }

-- ---- so an import depends on the grammar's records alone

-- Two texts, imported: the same record is misread if any, and in every space the same number, answer and bytes.
pub record AnsweredAlike (t u : List ℕ) : Type 0 where
  pub at_record : misread t ≡ misread u
  pub number : (n : ℕ) → import_number t n ≡ import_number u n
  pub answer : (n : ℕ) → import_answer t n ≡ import_answer u n
  pub space : (space : List ℕ) → imported t space ≡ imported u space

-- Two texts that are misread at the same record.
both-misread : (t u : List ℕ) (k : ℕ) → misread t ≡ suc k → misread u ≡ suc k → AnsweredAlike t u
unfolding import_answer import_answer_by
both-misread t u k e f =
    record {
      at_record = e ∙ sym f;
      number = λ n. number_misread t n k e ∙ sym (number_misread u n k f);
      answer = λ n. rw (e, f);
      space =
          λ space.
          import-refused t space 22 (number_misread t (length space) k e) ∙ sym (import-refused u space 22 (number_misread u (length space) k f));
    }

-- TWO TEXTS OF RFC 4180 THAT SAY THE SAME RECORDS import alike: what is quoted, and whether CR LF stands behind the last record, makes no difference.
pub rfc-alike : (t u : List ℕ) (rs : List (List (List ℕ))) → Rfc t rs → Rfc u rs → AnsweredAlike t u
rfc-alike t u rs h k = split (misread_records rs) refl
  where
    split : (n : ℕ) → misread_records rs ≡ n → AnsweredAlike t u
    split zero e =
        let a = import-same t u (rfc-records h e ∙ sym (rfc-records k e)) in
        record { at_record = a.at_record; number = a.number; answer = a.answer; space = a.space }
    split (suc n) e = both-misread t u n (rfc-misread h ∙ e) (rfc-misread k ∙ e)

-- WHAT IS EXPORTED is of RFC 4180 and says the records of the sheet.
pub csv-rfc : (s : Sheet) → Within s → Rfc (csv_of s) (sheet_records s)
csv-rfc s w = subst (Rfc (csv_of s)) (csv_records s w) (accepted-rfc (csv_of s) (csv_read s w))
