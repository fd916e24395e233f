-- Every text: 3 and 21 never apply; what an accepted import gives; what the answers of import and export say in number and count (RULES 13.11 to 13.14).
-- Rests on the definitions, on RunRecord.antt, and on `rules`, Laid, WriterLists, WithinLimits, Sheets, RoundTrip and Replies.
use mathlib.Core.Path.{◌≡◌, refl, sym, ap, ◌∙◌}
use mathlib.Core.Bool.{Bool, true, false, ◌&&◌, ◌||◌, true≢false}
use mathlib.Core.List.Memᴰ
use mathlib.Core.List.{List, [], ◌∷◌, ◌++◌, map}
use Prim.Native.Nat.{ℕ, zero, suc, ◌<◌, ◌≤◌}
use native.Mathlib.Omega.{arith}
use lib.ListN.{length, take, drop, length-append}
use lib.Seq.{take-append_seam, drop-append_seam}
use lib.Dec.{eqb, ltb}
use borrow.Author.Tests.{ltb-true, le-ltb, lt-ltb, ne_eqb, eq-eqb}
use Rattle.rules.specs.Rounding.{S}
use Rattle.rules.specs.Refusals.{Test, test, number, first, mode_above, way_refusals, limit_refusals}
use Rattle.rules.specs.declared.Refusal.{Refusal}
use Rattle.rules.specs.Sheet.{Cue, Sheet, Lists, AllBelow, Within, lists_of, sheet_of, numbers_of, encode, decode, read_number, disagree}
use Rattle.rules.specs.Sheet.{lists_refusals, write_refusals, write_number, write_answer, written_by}
use Rattle.rules.specs.Answers.{Reply, counted_by, write_reply}
use Rattle.rules.specs.Text.{decimal_value}
use Rattle.std.specs.Prelude.{Option, Some, None, Result, Ok, Err}
use Rattle.rules.proofs.Answering.{answered-free}
use Rattle.rules.proofs.Booleans.{and_left, and_right, and_both, or-first, or-second}
use Rattle.rules.proofs.First.{first-none, first-here, first-later, first_below}
use Rattle.rules.proofs.Laid.{Paired, paired_none, paired-cons, paired-agree}
use Rattle.rules.proofs.WriterLists.{agree-disagree}
use Rattle.rules.proofs.WithinLimits.{tested-within, within-tested}
use Rattle.rules.proofs.Sheets.{sheet-lists, accepts_encoded, decode_encode}
use Rattle.rules.proofs.RoundTrip.{write_kept, kept-write}
use Rattle.rules.proofs.Replies.{write-by, write-reply}
use Rattle.decimal.specs.Numerals.{is_numeral}
use Rattle.csv_text.specs.Cut.{records_in}
use Rattle.csv_text.specs.Shapes.{is_run, is_weights, is_row, row_in, follows, misread_rows, misread_weights, misread_records, misread}
use Rattle.csv_text.specs.Shapes.{attach, grouped, sheet_said, sheet_in}
use Rattle.csv_text.specs.Texts.{csv_of}
use Rattle.csv_text.specs.Calls.{text_lists, import_refusals, import_number, taken_over, import_answer_by, import_answer, import_reply, import_count, imported}
use Rattle.csv_text.specs.Calls.{export_refusals, export_number, export_answer}
use Rattle.csv_text.specs.Promises.{told}
use Rattle.csv_text.proofs.RunRecord.{text-mode}

-- ---- words in pairs, so 21 never applies

-- A cue whose words come in pairs, in front of such cues.
attach-paired : (c : Cue) (cs : List Cue) → length c.absent ≡ length c.present → Paired cs → Paired (attach c cs)
unfolding attach
attach-paired c [] e h = paired-cons c [] e h
attach-paired c (d ∷ ds) e h = split (eqb c.number d.number) refl
  where
    split : (x : Bool) → eqb c.number d.number ≡ x → Paired (attach c (d ∷ ds))
    split true q =
        let both : length (c.absent ++ d.absent) ≡ length (c.present ++ d.present) =
        omega (arith, e, h d (Memᴰ.head refl), length-append c.absent d.absent, length-append c.present d.present)
        in
        rw (q, attach) (paired-cons _ ds both (λ x i. h x (Memᴰ.tail i)))
    split false q = rw (q, attach) (paired-cons c (d ∷ ds) e h)

-- The cue that a record says has its words in pairs.
pub row-paired : (r : List (List ℕ)) → length (row_in r).absent ≡ length (row_in r).present
unfolding row_in
row-paired [] = refl
row-paired (c ∷ []) = refl
row-paired (c ∷ f ∷ fs) = refl

-- So have the cues that records say.
grouped-paired : (rs : List (List (List ℕ))) → Paired (grouped (map row_in rs))
unfolding grouped
grouped-paired [] = paired_none
grouped-paired (r ∷ rs) = attach-paired (row_in r) (grouped (map row_in rs)) (row-paired r) (grouped-paired rs)

-- So have the cues of every text.
pub text-paired : (t : List ℕ) → Paired (sheet_in t).cues
unfolding sheet_in sheet_said
text-paired t = grouped-paired (drop 2 (records_in t))

-- The lists of a text agree in length: 21 never applies.
pub never-21 : (t : List ℕ) → disagree (text_lists t) ≡ false
unfolding text_lists
never-21 t = agree-disagree (lists_of (sheet_in t)) (paired-agree (sheet_in t) (text-paired t))

-- A refusal of this number applies.
abbrev applies : ℕ → List Test → Bool
applies k [] = false
applies k (x ∷ xs) = (eqb (number x.refusal) k && x.applies) || applies k xs

-- A number that a list gives is that of a refusal that applies.
first-applies : (k : ℕ) (xs : List Test) → 0 < k → first xs ≡ k → applies k xs ≡ true
first-applies k [] p h = absurd (omega (arith, h, first-none))
first-applies k (x ∷ xs) p h = split x.applies refl (first-applies k xs p)
  where
    split : (b : Bool) → x.applies ≡ b → (first xs ≡ k → applies k xs ≡ true) → applies k (x ∷ xs) ≡ true
    split true e rest = or-first (eqb (number x.refusal) k && x.applies) (applies k xs) (and_both _ _ (eq-eqb (number x.refusal) k (sym (first-here x xs e) ∙ h)) e)
    split false e rest = or-second (eqb (number x.refusal) k && x.applies) (applies k xs) (rest (sym (first-later x xs e) ∙ h))

-- So the number of an import is never 21.
pub number-not-21 : (t : List ℕ) (n : ℕ) → import_number t n ≡ 21 → ⊥
unfolding import_number import_refusals write_refusals lists_refusals way_refusals limit_refusals
number-not-21 t n h = true≢false (sym (first-applies 21 (import_refusals t n) (omega arith) h) ∙ ap (λ (b : Bool). b || false) (never-21 t))

-- ---- cue numbers

-- A cue of a number below m in front of such cues.
attach-below : (m : ℕ) (c : Cue) (cs : List Cue) → c.number < m → AllBelow m (numbers_of cs) → AllBelow m (numbers_of (attach c cs))
unfolding attach numbers_of
attach-below m c [] l h = (l, tt)
attach-below m c (d ∷ ds) l h = split (eqb c.number d.number) refl
  where
    split : (x : Bool) → eqb c.number d.number ≡ x → AllBelow m (numbers_of (attach c (d ∷ ds)))
    split true q = rw (q, attach) ((l, h.1))
    split false q = rw (q, attach) ((l, h))

-- The first field of a record of a way is a number of two bytes.
cue-below : (c : List ℕ) (fs : List (List ℕ)) → is_row (c ∷ fs) ≡ true → decimal_value c < 65536
unfolding is_row
cue-below c fs h = ltb-true (decimal_value c) 65536 (and_right (is_numeral c) _ (and_left (is_numeral c && ltb (decimal_value c) 65536) _ h))

-- So the cue that the record says has such a number.
row_below : (r : List (List ℕ)) → is_row r ≡ true → (row_in r).number < 65536
unfolding row_in
row_below [] h = omega arith
row_below (c ∷ []) h = cue-below c [] h
row_below (c ∷ f ∷ fs) h = cue-below c (f ∷ fs) h

-- Records of ways, none of them misread, say such numbers.
rows-below : (k : ℕ) (o : Option Cue) (rs : List (List (List ℕ))) → 0 < k → misread_rows k o rs ≡ 0 → AllBelow 65536 (numbers_of (grouped (map row_in rs)))
unfolding misread_rows grouped numbers_of
rows-below k o [] h e = tt
rows-below k o (r ∷ rs) h e = split (is_row r && follows o (row_in r)) refl (rows-below (suc k) (Some (row_in r)) rs (omega arith))
  where
    split : (x : Bool) → is_row r && follows o (row_in r) ≡ x
        → (misread_rows (suc k) (Some (row_in r)) rs ≡ 0 → AllBelow 65536 (numbers_of (grouped (map row_in rs))))
        → AllBelow 65536 (numbers_of (attach (row_in r) (grouped (map row_in rs))))
    split true q rest = attach-below 65536 (row_in r) (grouped (map row_in rs)) (row_below r (and_left (is_row r) _ q)) (rest (rw (q, misread_rows) at e))
    split false q rest = let k0 : k ≡ 0 = rw (q, misread_rows) at e in absurd (omega arith)

-- So does a whole text of which no record is misread.
records-below : (rs : List (List (List ℕ))) → misread_records rs ≡ 0 → AllBelow 65536 (numbers_of (grouped (map row_in (drop 2 rs))))
unfolding misread_records misread_weights grouped numbers_of
records-below [] e = absurd (omega arith)
records-below (r ∷ []) e = tt
records-below (r ∷ w ∷ rs) e = split (is_run r) refl
  where
    weigh : (x : Bool) → is_weights w ≡ x → misread_weights (w ∷ rs) ≡ 0 → AllBelow 65536 (numbers_of (grouped (map row_in rs)))
    weigh true q z = rows-below 3 None rs (omega arith) (rw (q, misread_weights) at z)
    weigh false q z = let two : ◌≡◌ {A = ℕ} 2 0 = rw (q, misread_weights) at z in absurd (omega arith)

    split : (x : Bool) → is_run r ≡ x → AllBelow 65536 (numbers_of (grouped (map row_in rs)))
    split true q = weigh (is_weights w) refl (rw (q, misread_records) at e)
    split false q = let one : ◌≡◌ {A = ℕ} 1 0 = rw (q, misread_records) at e in absurd (omega arith)

-- ---- the number

module _ (t : List ℕ) (n : ℕ) where
  -- A record is misread: 23, whatever else applies.
  pub number_misread : (k : ℕ) → misread t ≡ suc k → import_number t n ≡ 23
  unfolding import_number import_refusals
  number_misread k e = first-here (test Refusal.Misread (ltb 0 (misread t))) (write_refusals (text_lists t) n) (lt-ltb 0 (misread t) (omega (arith, e)))

  -- None is: the writer's number.
  pub number_read : misread t ≡ 0 → import_number t n ≡ write_number (text_lists t) n
  unfolding import_number import_refusals write_number
  number_read e = first-later (test Refusal.Misread (ltb 0 (misread t))) (write_refusals (text_lists t) n) (le-ltb 0 (misread t) (omega (arith, e)))

-- 3 is never given: a text says no mode above 1.
pub number-not-3 : (t : List ℕ) (n : ℕ) → import_number t n ≡ 3 → ⊥
unfolding text_lists lists_of write_number write_refusals lists_refusals way_refusals limit_refusals mode_above
number-not-3 t n h = split (misread t) refl
  where
    split : (k : ℕ) → misread t ≡ k → ⊥
    split zero e =
        let low : ltb 1 (sheet_in t).limits.mode ≡ false = le-ltb 1 (sheet_in t).limits.mode (text-mode t e).either in
        let found = first-applies 3 (write_refusals (text_lists t) n) (omega arith) (sym (number_read t n e) ∙ h) in
        true≢false (sym found ∙ ap (λ (b : Bool). b || false) low)
    split (suc k) e = omega (arith, h, number_misread t n k e)

-- ---- an accepted import

module _ (t : List ℕ) (n : ℕ) (accepted : import_number t n ≡ 0) where
  -- No record is misread.
  pub not_misread : misread t ≡ 0
  not_misread = split (misread t) refl
    where
      split : (k : ℕ) → misread t ≡ k → misread t ≡ 0
      split zero e = e
      split (suc k) e = absurd (omega (arith, accepted, number_misread t n k e))

  -- The writer accepts the lists of the text.
  pub lists_written : write_number (text_lists t) n ≡ 0
  lists_written = sym (number_read t n not_misread) ∙ accepted

  -- The sheet that the text says is within the limits.
  pub import_within : Within (sheet_in t)
  unfolding text_lists sheet_in sheet_said misread
  import_within =
      tested-within (sheet_in t)
      (record {
        numbered = records-below (records_in t) not_misread;
        paired = text-paired t;
        kept = (write_kept (text_lists t) n lists_written).0;
      })

  -- It is the one whose bytes the writer writes.
  pub import_sheet : sheet_of (text_lists t) ≡ sheet_in t
  unfolding text_lists
  import_sheet = sheet-lists (sheet_in t) import_within

  -- Reading accepts those bytes, and finds the sheet that the text says.
  pub import_read : read_number (encode (sheet_in t)) ≡ 0
  import_read = accepts_encoded (sheet_in t) import_within

  pub import_decoded : decode (encode (sheet_in t)) ≡ sheet_in t
  import_decoded = decode_encode (sheet_in t) import_within

  -- They fit the space.
  pub import_room : length (encode (sheet_in t)) ≤ n
  import_room = rw import_sheet at (write_kept (text_lists t) n lists_written).1

  -- The answer counts them.
  pub import_answered : import_answer t n ≡ Ok (length (encode (sheet_in t)))
  unfolding import_answer import_answer_by taken_over write_answer write_number
  import_answered =
      rw (not_misread, answered-free (write_refusals (text_lists t) n) (length (encode (sheet_of (text_lists t)))) lists_written, import_sheet)

-- No record is misread, the sheet is within the limits and its bytes fit: import accepts the text.
pub import-accepts : (t : List ℕ) (n : ℕ) → misread t ≡ 0 → Within (sheet_in t) → length (encode (sheet_in t)) ≤ n → import_number t n ≡ 0
unfolding text_lists
import-accepts t n e w fits =
    number_read t n e ∙ kept-write (text_lists t) n (within-tested (sheet_in t) w).kept (rw (sheet-lists (sheet_in t) w) fits)

-- ---- what the space holds

-- Bytes stand at the front of a space, and what lies behind them is as before.
pub record AtFront (out before after : List ℕ) : Type 0 where
  pub front : take (length out) after ≡ out
  pub behind : drop (length out) after ≡ drop (length out) before

-- So they do if the call is accepted.
pub written-front : (number : ℕ) (out space : List ℕ) → number ≡ 0 → AtFront out space (written_by number out space)
unfolding written_by
written-front number out space h =
    let same : written_by number out space ≡ out ++ drop (length out) space = rw h in
    record {
      front = ap (take (length out)) same ∙ take-append_seam out (drop (length out) space);
      behind = ap (drop (length out)) same ∙ drop-append_seam out (drop (length out) space);
    }

-- An accepted import puts the bytes of the sheet to the front of the space.
pub import-put : (t space : List ℕ) → import_number t (length space) ≡ 0 → AtFront (encode (sheet_in t)) space (imported t space)
unfolding imported
import-put t space h = written-front _ (encode (sheet_in t)) space h

-- A refused one leaves the space as it was.
pub import-refused : (t space : List ℕ) (k : ℕ) → import_number t (length space) ≡ suc k → imported t space ≡ space
unfolding imported written_by
import-refused t space k h = rw h

-- ---- what the answers say

-- The writer's numbers are below 23.
pub write-below : (x : Lists) (n : ℕ) → write_number x n < 23
unfolding write_number write_refusals lists_refusals way_refusals limit_refusals
write-below x n = first_below 23 (write_refusals x n) (omega arith) refl

-- An answer of the writer says the same as the import's.
taken-reply : (a : Result ℕ Refusal) → import_reply (taken_over a) ≡ write_reply a
unfolding taken_over
taken-reply (Ok n) = refl
taken-reply (Err r) = refl

-- What a call of this number tells; at is the record that is misread.
abbrev told_by : ℕ → ℕ → ℕ → Reply
told_by number written at = record { number = number; low = 0; high = S; count = import_count number written at }

-- Of a number below 23 that is the writer's reply.
told_below : (number written at : ℕ) → number < 23 → counted_by number written ≡ told_by number written at
unfolding counted_by import_count
told_below zero written at h = refl
told_below (suc m) written at h = rw (ne_eqb m 22 (λ e. omega arith), import_count)

-- What is counted matters where the number is 0.
counted_same : (number k l : ℕ) → (number ≡ 0 → k ≡ l) → counted_by number k ≡ counted_by number l
unfolding counted_by
counted_same zero k l h = ap (counted_by 0) (h refl)
counted_same (suc m) k l h = refl

-- An import's answer says, for every text and space, its number and what that counts.
pub import-replies : (t : List ℕ) (n : ℕ) → import_reply (import_answer t n) ≡ told t n
unfolding import_answer import_answer_by import_count
import-replies t n = split (misread t) refl
  where
    split : (k : ℕ) → misread t ≡ k → import_reply (import_answer t n) ≡ told t n
    split zero e =
        ap (λ (k : ℕ). import_reply (import_answer_by k (write_answer (text_lists t) n))) e
        ∙ taken-reply (write_answer (text_lists t) n)
        ∙ write-reply (text_lists t) n
        ∙ counted_same (write_number (text_lists t) n) _ _ (λ q. ap (λ (s : Sheet). length (encode s)) (import_sheet t n (number_read t n e ∙ q)))
        ∙ told_below (write_number (text_lists t) n) (length (encode (sheet_in t))) (misread t) (write-below (text_lists t) n)
        ∙ ap (λ (m : ℕ). told_by m (length (encode (sheet_in t))) (misread t)) (sym (number_read t n e))
    split (suc k) e =
        ap (λ (j : ℕ). import_reply (import_answer_by j (write_answer (text_lists t) n))) e
        ∙ ap (λ (j : ℕ). told_by 23 (length (encode (sheet_in t))) j) (sym e)
        ∙ ap (λ (m : ℕ). told_by m (length (encode (sheet_in t))) (misread t)) (sym (number_misread t n k e))

-- An export's answer likewise: the bytes written, or the number.
pub export-replies : (bs : List ℕ) (n : ℕ) → write_reply (export_answer bs n) ≡ counted_by (export_number bs n) (length (csv_of (decode bs)))
unfolding export_answer export_number
export-replies bs n = write-by (export_refusals bs n) (length (csv_of (decode bs)))
