-- What is written and read is what was given, and what is read and written is what was there (RULES 7.18).
-- The writer puts the bytes of a sheet at the front of a lent space and leaves all else in it as it was.
-- Rests on Sheets.antt and WithinLimits.antt for a sheet's bytes and limits, on First.antt for the refusals.
use mathlib.Core.Path.{◌≡◌, refl, sym, ap, ◌∙◌}
use mathlib.Core.List.{List, [], ◌∷◌, ◌++◌}
use mathlib.Core.Logic.{◌↔◌}
use Prim.Native.Nat.{ℕ, zero, suc, ◌≤◌}
use native.Mathlib.Omega.{arith}
use lib.ListN.{length, take, drop, length-append, length-drop}
use lib.Seq.{take-append_seam, drop-append_seam}
use lib.Dec.{ltb}
use borrow.Author.Tests.{ltb-false, le-ltb}
use Rattle.rules.specs.Refusals.{Test, test, first, way_refusals, limit_refusals}
use Rattle.rules.specs.Sheet.{AllBelow, Sheet, Lists, sheet_of, lists_of, encode, lists_in, decode, read_number, lists_refusals}
use Rattle.rules.specs.Sheet.{write_refusals, write_number, write_answer, written_by, written, Within}
use Rattle.std.specs.Prelude.{Ok}
use Rattle.rules.specs.declared.Refusal.{Refusal}
use Rattle.rules.proofs.Answering.{answered-free}
use Rattle.rules.proofs.First.{NoneApplies, none-applies, first-none, first-later, first-after, first-before}
use Rattle.rules.proofs.WithinLimits.{within-tested}
use Rattle.rules.proofs.Sheets.{sheet-lists, lists-sheet, accepts_encoded, within_decoded, encode_decode, lists_encode}

-- ---- when the writer accepts

-- The bytes that lists give.
abbrev pub bytes_of : Lists → List ℕ
bytes_of x = encode (sheet_of x)

-- Lists that the writer keeps meet none of their refusals.
lists-free : (x : Lists) → first (lists_refusals x) ≡ 0 → NoneApplies (lists_refusals x)
unfolding lists_refusals way_refusals limit_refusals
lists-free x h = none-applies (lists_refusals x) h

-- Accepted: the writer keeps the lists, and the space is long enough.
pub write_kept : (x : Lists) (n : ℕ) → write_number x n ≡ 0 → (first (lists_refusals x) ≡ 0) × (length (bytes_of x) ≤ n)
unfolding write_number write_refusals
write_kept x n h = (kept, ltb-false n (length (bytes_of x)) (none-applies last (sym (first-after (lists_refusals x) last (lists-free x kept)) ∙ h)).0)
  where
    last : List Test
    last = test Refusal.NoRoom (ltb n (length (bytes_of x))) ∷ []

    split : (m : ℕ) → first (lists_refusals x) ≡ m → first (lists_refusals x) ≡ 0
    split zero e = e
    split (suc m) e = absurd (omega (arith, h, first-before (lists_refusals x) last m e))

    kept : first (lists_refusals x) ≡ 0
    kept = split (first (lists_refusals x)) refl

-- The other way.
pub kept-write : (x : Lists) (n : ℕ) → first (lists_refusals x) ≡ 0 → length (bytes_of x) ≤ n → write_number x n ≡ 0
unfolding write_number write_refusals
kept-write x n h fits = first-after (lists_refusals x) _ (lists-free x h) ∙ first-later _ _ (le-ltb n (length (bytes_of x)) fits) ∙ first-none

-- Lists that are those of a sheet within the limits whose bytes fit into so many.
pub record OfSheet (x : Lists) (n : ℕ) : Type 0 where
  pub sheet : Sheet
  pub within : Within sheet
  pub lists : lists_of sheet ≡ x
  pub room : length (encode sheet) ≤ n

-- The writer accepts exactly these, where the cue numbers fit two bytes.
pub write-exactly : (x : Lists) (n : ℕ) → AllBelow 65536 x.numbers → (write_number x n ≡ 0) ↔ OfSheet x n
write-exactly x n numbers = (
  (λ accepted.
      let k = write_kept x n accepted in
      let given = lists-sheet x numbers k.0 in
      record { sheet = sheet_of x; within = given.1; lists = given.0; room = k.1 }),
  (λ o.
      let same : sheet_of x ≡ o.sheet = ap sheet_of (sym o.lists) ∙ sheet-lists o.sheet o.within in
      let kept : first (lists_refusals x) ≡ 0 = rw (← o.lists) (within-tested o.sheet o.within).kept in
      kept-write x n kept (rw same o.room)),
)

-- ---- what the space holds afterwards

-- Accepted: the bytes at its front, and the rest as it was.
written-accepted : (x : Lists) (space : List ℕ) → write_number x (length space) ≡ 0 → written x space ≡ bytes_of x ++ drop (length (bytes_of x)) space
unfolding written written_by
written-accepted x space h = rw h

-- Refused: all as it was.
pub written-refused : (x : Lists) (space : List ℕ) (n : ℕ) → write_number x (length space) ≡ suc n → written x space ≡ space
unfolding written written_by
written-refused x space n h = rw h

-- It is as long as before.
pub written-length : (x : Lists) (space : List ℕ) → length (written x space) ≡ length space
written-length x space = split (write_number x (length space)) refl
  where
    out : List ℕ
    out = bytes_of x

    split : (n : ℕ) → write_number x (length space) ≡ n → length (written x space) ≡ length space
    split zero e =
        ap length (written-accepted x space e)
        ∙ omega (arith, length-append out (drop (length out) space), length-drop (length out) space, (write_kept x (length space) e).1)
    split (suc n) e = ap length (written-refused x space n e)

-- The call puts these bytes into the space: the answer is their count, they stand at the front, and what lies behind them is as before.
pub record Put (x : Lists) (bs space : List ℕ) : Type 0 where
  pub answer : write_answer x (length space) ≡ Ok (length bs)
  pub front : take (length bs) (written x space) ≡ bs
  pub behind : drop (length bs) (written x space) ≡ drop (length bs) space

-- Every accepted call puts the bytes that its lists give.
pub accepted-put : (x : Lists) (space : List ℕ) → write_number x (length space) ≡ 0 → Put x (bytes_of x) space
unfolding write_answer write_number
accepted-put x space h =
    let out = written-accepted x space h in
    record {
      answer = answered-free (write_refusals x (length space)) (length (bytes_of x)) h;
      front = ap (take (length (bytes_of x))) out ∙ take-append_seam (bytes_of x) (drop (length (bytes_of x)) space);
      behind = ap (drop (length (bytes_of x))) out ∙ drop-append_seam (bytes_of x) (drop (length (bytes_of x)) space);
    }

-- ---- written and read

-- WRITTEN AND READ: the bytes at the front of the space are accepted, and the lists found in them are those given.
pub write_read : (x : Lists) (space : List ℕ) → AllBelow 65536 x.numbers → write_number x (length space) ≡ 0
    → (read_number (take (length (bytes_of x)) (written x space)) ≡ 0) × (lists_in (take (length (bytes_of x)) (written x space)) ≡ x)
write_read x space numbers h =
    let given = lists-sheet x numbers (write_kept x (length space) h).0 in
    let front = (accepted-put x space h).front in
    (ap read_number front ∙ accepts_encoded (sheet_of x) given.1, ap lists_in front ∙ lists_encode (sheet_of x) given.1 ∙ given.0)

-- ---- read and written

module _ (bs : List ℕ) (h : AllBelow 256 bs) (accepted : read_number bs ≡ 0) where
  -- The lists found in accepted bytes are those of the sheet that they give.
  pub lists_decoded : lists_in bs ≡ lists_of (decode bs)
  lists_decoded = ap lists_in (sym (encode_decode bs h accepted)) ∙ lists_encode (decode bs) (within_decoded bs h accepted)

  -- The writer keeps them.
  pub read_lists_kept : first (lists_refusals (lists_in bs)) ≡ 0
  read_lists_kept = ap (λ (x : Lists). first (lists_refusals x)) lists_decoded ∙ (within-tested (decode bs) (within_decoded bs h accepted)).kept

  -- READ AND WRITTEN: into a space that is long enough they are written as the bytes that were read.
  pub read_write : (space : List ℕ) → length bs ≤ length space → (write_number (lists_in bs) (length space) ≡ 0) × Put (lists_in bs) bs space
  unfolding decode
  read_write space long =
      let same : bytes_of (lists_in bs) ≡ bs = encode_decode bs h accepted in
      let number = kept-write (lists_in bs) (length space) read_lists_kept (rw same long) in
      (number, rw same at (accepted-put (lists_in bs) space number))
