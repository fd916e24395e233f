-- The text that is printed for any list of bytes has at most 939 bytes: a head line of 27, and 24 lines of at most 38.
-- Rests on Decimal.antt for the numbers, on CueTables.antt for the ends of an interval and the refinements of a run.
use mathlib.Core.Path.{◌≡◌, refl}
use mathlib.Core.List.Memᴰ
use mathlib.Core.List.{List, [], ◌∷◌, ◌++◌}
use Prim.Native.Nat.{ℕ, zero, suc, ◌+◌, ◌*◌, ◌≤◌, ◌<◌}
use native.Mathlib.Nat.{mul-suc}
use native.Mathlib.Omega.{arith}
use lib.ListN.{length, length-append}
use Rattle.rules.specs.Table.{Table}
use Rattle.rules.specs.Tree.{leaf, low, high}
use Rattle.rules.specs.Run.{aim_of, picks, verdict}
use Rattle.rules.specs.Refusals.{way_refusals, limit_refusals}
use Rattle.rules.specs.Sheet.{AllBelow, Cue, Sheet, table_of, decode, read_refusals, read_number, Within}
use Rattle.rules.specs.Text.{bytes, decimal, word, line, lines, sheet_text, text_by, text}
use Rattle.rules.specs.declared.Limits.{Limits}
use Rattle.rules.specs.declared.Verdict.{Verdict}
use Rattle.rules.specs.declared.Verdict.TheVariants.{Met, Done, Full, Spent}
use Rattle.rules.proofs.First.{first_below}
use Rattle.rules.proofs.Sheets.{within_decoded}
use Rattle.rules.proofs.Members.{In}
use Rattle.rules.proofs.CueTables.{run_tree, LineCertain, line-certain, cue-accepted}
use Rattle.rules.proofs.Decimal.{decimal-length, billion-digits}

-- ---- an accepted sheet

-- A verdict's word has at most five letters.
word-length : (v : Verdict) → length (word v) ≤ 5
unfolding word bytes
word-length Met = omega arith
word-length Done = omega arith
word-length Full = omega arith
word-length Spent = omega arith

-- Five fields with a blank between each two and a line feed behind them.
fields-length : (a b c d e : List ℕ) → length (a ++ bytes " " ++ b ++ bytes " " ++ c ++ bytes " " ++ d ++ bytes " " ++ e ++ bytes "\n")
    ≡ length a + length b + length c + length d + length e + 5
unfolding bytes
fields-length a b c d e = simp length-append (omega arith)

-- So many lines of at most so many bytes.
lines-length : (n : ℕ) (m : Limits) (ws : List ℕ) (cs : List Cue) → ((c : Cue) → In c cs → length (line m ws c) ≤ n) → length (lines m ws cs) ≤ n * length cs
unfolding lines
lines-length n m ws [] h = omega arith
lines-length n m ws (c ∷ cs) h =
    omega (
      arith,
      length-append (line m ws c) (lines m ws cs),
      h c (Memᴰ.head refl),
      lines-length n m ws cs (λ d i. h d (Memᴰ.tail i)),
      mul-suc n (length cs),
    )

-- A cue's line has at most 38 bytes.
line-length : (m : Limits) (ws : List ℕ) (c : Cue) → c.number < 65536 → m.budget ≤ 255 → LineCertain m (table_of ws c) → length (line m ws c) ≤ 38
unfolding line
line-length m ws c number budget k =
    let t : Table = table_of ws c in
    let made : ℕ = length (picks t (aim_of m) m.budget leaf) in
    let v : Verdict = verdict t (aim_of m) m.budget leaf in
    omega (
      arith,
      fields-length (decimal c.number) (decimal (low t (run_tree m t))) (decimal (high t (run_tree m t))) (decimal made) (word v),
      decimal-length c.number 4 (omega arith),
      billion-digits (low t (run_tree m t)) (omega (arith, k.ordered, k.bounded)),
      billion-digits (high t (run_tree m t)) k.bounded,
      decimal-length made 2 (omega (arith, k.in_budget)),
      word-length v,
    )

module _ (s : Sheet) (w : Within s) where
  -- So has the line of every cue of a sheet within the limits.
  cue_line_length : (c : Cue) → In c s.cues → length (line s.limits s.weights c) ≤ 38
  cue_line_length c i =
      line-length s.limits s.weights c (w.two_bytes c i) w.budget (line-certain s.limits (table_of s.weights c) (cue-accepted s w c i))

  -- The text of a sheet within the limits has at most 939 bytes.
  pub sheet_text_length : length (sheet_text s) ≤ 939
  unfolding sheet_text bytes
  sheet_text_length = omega (arith, lines-length 38 s.limits s.weights s.cues cue_line_length, w.few_cues)

-- ---- a refused one

-- Reading refuses with 15 at most.
pub read_below : (bs : List ℕ) → read_number bs < 16
unfolding read_number read_refusals way_refusals limit_refusals
read_below bs = first_below 16 (read_refusals bs) (omega arith) refl

-- THE TEXT for any bytes has at most 939 bytes.
pub text_length : (bs : List ℕ) → AllBelow 256 bs → length (text bs) ≤ 939
unfolding text text_by bytes
text_length bs h = split (read_number bs) refl
  where
    split : (n : ℕ) → read_number bs ≡ n → length (text_by n (decode bs)) ≤ 939
    split zero e = sheet_text_length (decode bs) (within_decoded bs h e)
    split (suc n) e = omega (arith, length-append (decimal (suc n)) (bytes "\n"), decimal-length (suc n) 1 (omega (arith, e, read_below bs)))
