-- An entry of accepted bytes: its table is that of the cue of the decoded sheet, and accepted; its body lies inside the bytes.
-- Rests on Entries.antt for the positions, on Few.antt for what acceptance says, and on `rules`, CueTables and ReaderCalls.
use mathlib.Core.Path.{◌≡◌, refl, sym, ap, ◌∙◌}
use mathlib.Core.Bool.{false}
use mathlib.Core.List.Memᴰ
use mathlib.Core.List.{List, [], ◌∷◌}
use Prim.Native.Nat.{ℕ, zero, suc, ◌+◌, ◌*◌, ◌≤◌, ◌<◌}
use native.Mathlib.Omega.{arith}
use lib.ListN.{length, take, drop, get_or}
use lib.Seq.{drop-drop}
use lib.Dec.{ltb}
use borrow.Author.Tests.{ltb-false, le-leb}
use Rattle.rules.specs.Refusals.{some_above, crowded, Accepted}
use Rattle.rules.specs.Sheet.{Cue, table_of, column, total, deal, sheet_of, lists_in, decode, faults_in, cues_in, numbers_in}
use Rattle.rules.specs.Sheet.{counts_in, weights_in, weights_start, present_in, absent_in, bodies_in, read_number, entry_in, body_in, AllBelow}
use Rattle.rules.proofs.Booleans.{or_left, or_right}
use Rattle.rules.proofs.Bytes.{length-column}
use Rattle.rules.proofs.Members.{In}
use Rattle.rules.proofs.CueTables.{read-cue-accepted}
use Rattle.rules.proofs.ReaderCalls.{cues_decoded}
use Rattle.sheet.specs.Handed.{table_at, as_table, body_or, body_by}
use Rattle.sheet.specs.declared.table.TableArrays.{TableArrays}
use Rattle.sheet.proofs.Few.{Few, accepted-few}
use Rattle.sheet.proofs.Entries.{column_part, starts-get_d}
use Rattle.std.proofs.lemmas.List.{take_all}

-- ---- counts of ways

-- No count is above 128.
count_most : (ks : List ℕ) (i : ℕ) → some_above 128 ks ≡ false → get_or ks i 0 ≤ 128
unfolding some_above
count_most [] i h = omega arith
count_most (k ∷ ks) zero h = ltb-false 128 k (or_left (ltb 128 k) _ h)
count_most (k ∷ ks) (suc i) h = count_most ks i (or_right (ltb 128 k) _ h)

-- Those before i and the one at i are together at most all.
total-front : (ks : List ℕ) (i : ℕ) → total (take i ks) + get_or ks i 0 ≤ total ks
unfolding total
total-front [] zero = omega arith
total-front [] (suc i) = omega arith
total-front (k ∷ ks) zero = omega arith
total-front (k ∷ ks) (suc i) = omega (arith, total-front ks i)

-- ---- a cue of lists that are dealt out

-- The words that the first i cues leave, as many as cue i counts.
abbrev share : List ℕ → ℕ → List ℕ → List ℕ
share ks i ps = take (get_or ks i 0) (drop (total (take i ks)) ps)

dealt : (ns ks ps qs : List ℕ) (i : ℕ) (d : Cue) → i < length ns → i < length ks
    → get_or (deal ns ks ps qs) i d ≡ record { number = get_or ns i 0; present = share ks i ps; absent = share ks i qs }
unfolding deal total
dealt [] ks ps qs i d h g = absurd (omega arith)
dealt (n ∷ ns) [] ps qs i d h g = absurd (omega arith)
dealt (n ∷ ns) (k ∷ ks) ps qs zero d h g = refl
dealt (n ∷ ns) (k ∷ ks) ps qs (suc i) d h g =
    dealt ns ks (drop k ps) (drop k qs) i d (omega arith) (omega arith)
    ∙ (λ j. record {
      number = get_or ns i 0;
      present = take (get_or ks i 0) (drop-drop (total (take i ks)) k ps j);
      absent = take (get_or ks i 0) (drop-drop (total (take i ks)) k qs j);
    })

-- ---- the table

module _ (bs : List ℕ) (few : Few bs) (i : ℕ) (inside : i < cues_in bs) where
  counted : length (counts_in bs) ≡ cues_in bs
  counted = length-column 2 8 14 (cues_in bs) bs

  -- Where the body of cue i starts.
  start : (entry_in bs i).start ≡ bodies_in bs + 16 * total (take i (counts_in bs))
  unfolding entry_in
  start = starts-get_d (bodies_in bs) (counts_in bs) i (omega (arith, counted))

  -- Its words in a column of all words, whose first is at p.
  words : (p at : ℕ) → at ≡ p + 16 * total (take i (counts_in bs))
      → take 128 (column 8 16 at (get_or (counts_in bs) i 0) bs) ≡ share (counts_in bs) i (column 8 16 p (total (counts_in bs)) bs)
  unfolding crowded
  words p at e =
      let k : ℕ = get_or (counts_in bs) i 0 in
      let most : k ≤ 128 = count_most (counts_in bs) i few.counts in
      take_all 128 (column 8 16 at k bs) (omega (arith, length-column 8 16 at k bs))
      ∙ ap (λ (j : ℕ). column 8 16 j k bs) e
      ∙ sym (column_part 8 16 bs p (total (counts_in bs)) (total (take i (counts_in bs))) k (total-front (counts_in bs) i))

  table_is : (d : Cue) → table_at bs (entry_in bs i) ≡ table_of (weights_in bs) (get_or (decode bs).cues i d)
  unfolding table_at decode sheet_of lists_in entry_in
  table_is d =
      let cue = dealt (numbers_in bs) (counts_in bs) (present_in bs) (absent_in bs) i d
      (omega (arith, length-column 2 8 12 (cues_in bs) bs)) (omega (arith, counted)) in
      let all : length (weights_in bs) ≡ faults_in bs = length-column 4 4 (weights_start (cues_in bs)) (faults_in bs) bs in
      let faults : faults_in bs ≤ 64 = few.faults in
      λ j. record {
        weights = take_all 64 (weights_in bs) (omega arith) j;
        present = (words (bodies_in bs) (entry_in bs i).start start ∙ sym (ap (λ (c : Cue). c.present) cue)) j;
        absent = (words (bodies_in bs + 8) ((entry_in bs i).start + 8) (omega (arith, start)) ∙ sym (ap (λ (c : Cue). c.absent) cue)) j;
      }

  -- The body ends at the last byte or before.
  body_inside : body_or bs (entry_in bs i) ≡ body_in bs (entry_in bs i)
  unfolding body_or body_by entry_in
  body_inside =
      rw (le-leb ((entry_in bs i).start + 16 * get_or (counts_in bs) i 0) (length bs) (omega (arith, start, few.ends, total-front (counts_in bs) i)))

module _ (bs : List ℕ) (accepted : read_number bs ≡ 0) (i : ℕ) (inside : i < cues_in bs) where
  -- THE TABLE OF THE i-TH ENTRY of accepted bytes is that of the i-th cue of the sheet that they give.
  pub entry_table : (d : Cue) → table_at bs (entry_in bs i) ≡ table_of (decode bs).weights (get_or (decode bs).cues i d)
  unfolding decode sheet_of lists_in
  entry_table d = table_is bs (accepted-few bs accepted) i inside d

  -- So what is handed over is that cue's table.
  pub entry_parts : (d : Cue) (t : TableArrays) → as_table t ≡ table_at bs (entry_in bs i)
      → as_table t ≡ table_of (decode bs).weights (get_or (decode bs).cues i d)
  entry_parts d t e = e ∙ entry_table d

  -- ITS BODY is handed over whole.
  pub entry_body : body_or bs (entry_in bs i) ≡ body_in bs (entry_in bs i)
  entry_body = body_inside bs (accepted-few bs accepted) i inside

-- ---- its cue

-- No cue at all.
pub no_cue : Cue
no_cue = record { number = 0; present = []; absent = [] }

-- A cue before the last is one of the list.
listed : (cs : List Cue) (i : ℕ) (d : Cue) → i < length cs → In (get_or cs i d) cs
listed [] i d h = absurd (omega arith)
listed (c ∷ cs) zero d h = Memᴰ.head refl
listed (c ∷ cs) (suc i) d h = Memᴰ.tail (listed cs i d (omega arith))

-- EVERY CALL ON A TREE accepts the table of the i-th cue of accepted bytes.
pub cue_accepted : (bs : List ℕ) → AllBelow 256 bs → read_number bs ≡ 0 → (i : ℕ) (d : Cue) → i < cues_in bs
    → Accepted (table_of (decode bs).weights (get_or (decode bs).cues i d))
cue_accepted bs h accepted i d inside =
    read-cue-accepted bs h accepted (get_or (decode bs).cues i d) (listed (decode bs).cues i d (omega (arith, cues_decoded bs h accepted)))
