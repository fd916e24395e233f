-- The whole text: the lines of all cues, one behind the other, below the heading; or the line of a refusal.
-- Rests on Appending.antt and Printed.antt, and on `rules`, TextLength: there is room for all bytes.
use mathlib.Core.Path.{◌≡◌, refl, sym, ap, ◌∙◌, subst}
use mathlib.Core.List.{List, [], ◌++◌}
use Prim.Native.Nat.{ℕ, zero, suc, ◌≤◌, ◌<◌}
use native.Mathlib.Omega.{arith}
use lib.ListN.{length, get_or}
use Rattle.std.specs.Prelude.{Err}
use Rattle.rules.specs.Refusals.{number}
use Rattle.rules.specs.Sheet.{Sheet, sheet_of, limits_in, lists_in, decode, read_refusals, read_number, AllBelow}
use Rattle.rules.specs.Text.{bytes, sheet_text, text_by, text}
use Rattle.rules.specs.declared.Refusal.{Refusal}
use Rattle.rules.proofs.Answering.{first-refused}
use Rattle.rules.proofs.Bytes.{each_below}
use Rattle.rules.proofs.First.{number-above}
use Rattle.rules.proofs.TextLength.{text_length}
use Rattle.sheet.specs.Reading.{Reading, entries_in}
use Rattle.report.specs.Appended.{appended}
use Rattle.report.specs.Lines.{refused_text, entries_text}
use Rattle.report.specs.Reported.{Reported}
use Rattle.report.proofs.Appending.{appended_both, appended_room}
use Rattle.report.proofs.Printed.{all-lines}

-- The first line of an accepted sheet's text.
abbrev heading : List ℕ
heading = bytes "cue low high steps verdict\n"

-- A text whose bytes are all appended is the report.
reported : (bs : List ℕ) → AllBelow 256 bs → {r : List ℕ} → r ≡ appended [] (text bs) → Reported bs r
reported bs h {r} e =
    let room : length (text bs) ≤ 939 = text_length bs h in
    let is : r ≡ text bs = e ∙ appended_room [] (text bs) room in
    record { printed = is; within = omega (arith, ap length is, room) }

-- The text of an accepted sheet.
text-accepted : (bs : List ℕ) → AllBelow 256 bs → read_number bs ≡ 0 → text bs ≡ heading ++ entries_text (limits_in bs) bs (entries_in bs)
unfolding text text_by sheet_text decode sheet_of lists_in
text-accepted bs h e = ap (λ (n : ℕ). text_by n (decode bs)) e ∙ ap (λ (x : List ℕ). heading ++ x) (sym (all-lines bs h e))

-- The text of a refused one.
refused-by : (n : ℕ) (s : Sheet) → 0 < n → text_by n s ≡ refused_text n
unfolding text_by refused_text
refused-by zero s h = absurd (omega (arith, h))
refused-by (suc n) s h = refl

text-refused : (bs : List ℕ) (r : Refusal) → read_number bs ≡ number r → text bs ≡ refused_text (number r)
unfolding text
text-refused bs r e = ap (λ (n : ℕ). text_by n (decode bs)) e ∙ refused-by (number r) (decode bs) (number-above r)

-- An accepted sheet: the heading, and the lines behind it.
accepted : (bs : List ℕ) → AllBelow 256 bs → read_number bs ≡ 0 → {start u r : List ℕ} → start ≡ [] → u ≡ appended start heading
    → r ≡ appended u (entries_text (limits_in bs) bs (entries_in bs)) → Reported bs r
accepted bs below none begin first rest =
    let tail = entries_text (limits_in bs) bs (entries_in bs) in
    reported bs below
    (rest ∙ ap (λ u. appended u tail) (first ∙ ap (λ s. appended s heading) begin)
    ∙ appended_both [] heading tail ∙ ap (appended []) (sym (text-accepted bs below none)))

module _ (bs : List ℕ) (h : (i : ℕ) → get_or bs i 0 < 256) where
  -- THE REPORT on bytes that are read as a sheet, whose bytes are cs.
  pub report_accepted : (cs : List ℕ) {start u r : List ℕ} → cs ≡ bs → read_number cs ≡ 0 → start ≡ [] → u ≡ appended start heading
      → r ≡ appended u (entries_text (limits_in cs) cs (entries_in cs)) → Reported bs r
  report_accepted cs {r = r} same none begin first rest =
      subst (λ xs. Reported xs r) same (accepted cs (subst (AllBelow 256) (sym same) (each_below 256 bs h)) none begin first rest)

  -- THE REPORT on refused bytes.
  pub report_refused : (q : Refusal) {start r : List ℕ} → Reading bs (Err q) → start ≡ [] → r ≡ appended start (refused_text (number q)) → Reported bs r
  unfolding read_number
  report_refused q read begin line =
      let refused : read_number bs ≡ number q = first-refused {A = Unit {0}} (read_refusals bs) tt q (sym read.answer) in
      reported bs (each_below 256 bs h)
      (line ∙ ap (λ s. appended s (refused_text (number q))) begin ∙ ap (appended []) (sym (text-refused bs q refused)))
