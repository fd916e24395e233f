-- The lines of the entries of accepted bytes: their text is the lines of the cues, as the rules define them.
-- Rests on `sheet`, Tables: the table is a cue's, and accepted; and on `rules`, ReaderCalls: it is the one at its position.
use mathlib.Core.Path.{◌≡◌, sym, ap, ap₂, ◌∙◌}
use mathlib.Core.Bool.{false}
use mathlib.Core.List.{List, ◌∷◌, ◌++◌}
use Prim.Native.Nat.{ℕ, zero, suc, ◌+◌, ◌<◌}
use native.Mathlib.Omega.{arith}
use lib.ListN.{length, get_or, drop, drop_of_length-le}
use lib.Seq.{drop-cons}
use Rattle.rules.specs.Table.{Table}
use Rattle.rules.specs.Tree.{leaf}
use Rattle.rules.specs.Run.{aim_of, verdict}
use Rattle.rules.specs.Refusals.{test, first, mode_above, limit_refusals, way_refusals, Accepted}
use Rattle.rules.specs.Calls.{run_number, run_refusals, run_answer, run_makes, figures, ended}
use Rattle.rules.specs.Sheet.{Cue, table_of, cues_in, limits_in, decode, read_refusals, read_number, entry_in, AllBelow}
use Rattle.rules.specs.Text.{line, lines}
use Rattle.rules.specs.declared.Limits.{Limits}
use Rattle.rules.specs.declared.Refusal.{Refusal}
use Rattle.rules.proofs.Answering.{answered-free}
use Rattle.rules.proofs.First.{none-applies, first-later, first-none}
use Rattle.rules.proofs.Demand3.{run-number}
use Rattle.rules.proofs.ReaderCalls.{cues_decoded, hands_over}
use Rattle.sheet.specs.Reading.{entries_from, entries_in}
use Rattle.sheet.proofs.Tables.{entry_table, no_cue, cue_accepted}
use Rattle.report.specs.Lines.{answer_text, ended_text, entry_text, entries_text}

-- The limits of accepted bytes are accepted.
limits-kept : (bs : List ℕ) → read_number bs ≡ 0 → first (test Refusal.ModeAbove (mode_above (limits_in bs)) ∷ limit_refusals (limits_in bs)) ≡ 0
unfolding read_number read_refusals way_refusals limit_refusals
limits-kept bs h =
    let n = none-applies (read_refusals bs) h in
    let last = n.1.1.1.1.1.1.1.1.1.1.1 in
    first-later _ _ n.1.1.0 ∙ first-later _ _ last.0 ∙ first-later _ _ last.1.0 ∙ first-none

-- A run that is not refused has the verdict and the figures of the rules, and they are those of the line.
line_of : (m : Limits) (ws : List ℕ) (c : Cue) → run_number (table_of ws c) false m ≡ 0
    → answer_text c.number (run_answer (table_of ws c) false leaf m) ≡ line m ws c
unfolding run_answer run_number answer_text ended_text line figures run_makes
line_of m ws c e =
    let t : Table = table_of ws c in
    let answer = ended (aim_of m) (verdict t (aim_of m) m.budget leaf) (figures t leaf (run_makes t leaf m)) in
    ap (answer_text c.number) (answered-free (run_refusals t false m) answer e)

module _ (bs : List ℕ) (h : AllBelow 256 bs) (accepted : read_number bs ≡ 0) where
  -- WHAT IS PRINTED for the i-th entry is the line of the i-th cue.
  printed : (i : ℕ) → i < cues_in bs
      → entry_text (limits_in bs) bs (entry_in bs i) ≡ line (limits_in bs) (decode bs).weights (get_or (decode bs).cues i no_cue)
  printed i inside =
      let cue = get_or (decode bs).cues i no_cue in
      let ok : Accepted (table_of (decode bs).weights cue) = cue_accepted bs h accepted i no_cue inside in
      ap₂ (λ (n : ℕ) (t : Table). answer_text n (run_answer t false leaf (limits_in bs)))
      (hands_over bs h accepted i no_cue inside).cue (entry_table bs accepted i inside no_cue)
      ∙ line_of (limits_in bs) (decode bs).weights cue (run-number (table_of (decode bs).weights cue) ok (limits_in bs) ∙ limits-kept bs accepted)

  -- From the i-th entry on they are the lines from the i-th cue on.
  lines-from : (i n : ℕ) → i + n ≡ cues_in bs
      → entries_text (limits_in bs) bs (entries_from bs i n) ≡ lines (limits_in bs) (decode bs).weights (drop i (decode bs).cues)
  unfolding entries_text entries_from lines
  lines-from i zero e =
      let end : length (decode bs).cues ≡ cues_in bs = cues_decoded bs h accepted in
      ap (lines (limits_in bs) (decode bs).weights) (sym (drop_of_length-le (decode bs).cues {i = i} (omega (arith, end, e))))
  lines-from i (suc n) e =
      let end : length (decode bs).cues ≡ cues_in bs = cues_decoded bs h accepted in
      let next : drop i (decode bs).cues ≡ get_or (decode bs).cues i no_cue ∷ drop (suc i) (decode bs).cues =
      drop-cons (decode bs).cues i no_cue (omega (arith, end, e)) in
      ap₂ (λ (x y : List ℕ). x ++ y) (printed i (omega (arith, e))) (lines-from (suc i) n (omega (arith, e)))
      ∙ ap (lines (limits_in bs) (decode bs).weights) (sym next)

  -- THE LINES of all entries are those of all cues.
  pub all-lines : entries_text (limits_in bs) bs (entries_in bs) ≡ lines (limits_in bs) (decode bs).weights (decode bs).cues
  all-lines = lines-from 0 (cues_in bs) (omega arith)
