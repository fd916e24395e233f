-- The entries of an accepted sheet: their bodies lie one behind the other, so that its cues are those of its entries. No way names a fault in both senses.
-- Rests on `sheet`, Listed and Stated, for the entries, and on `rules`, Sheets and First, for what acceptance says.
use Rattle.std.proofs.Common.{◌≡◌, ℕ, zero, suc, ◌+◌, ◌*◌, ◌≤◌, false, refl, sym, ap, ap₂, ◌∙◌, mul-zero, zero-add, arith}
use Rattle.std.proofs.Common.{List, [], ◌∷◌, map, length, drop, get_or, length-drop}
use Rattle.std.proofs.lemmas.Bool.{eqb-true, not-false}
use Rattle.std.proofs.lemmas.List.{take_all, drop-drop}
use Rattle.std.proofs.Math.Nat.{mul-suc}
use Rattle.std.specs.List.{AllByRecursion}
use Rattle.rules.specs.Leaf.{any}
use Rattle.rules.specs.Table.{rows}
use Rattle.rules.specs.Refusals.{names_both}
use Rattle.rules.specs.Sheet.{Cue, column, total, deal, starts, faults_in, cues_in, weights_in, weights_start, counts_in, bodies_in}
use Rattle.rules.specs.Sheet.{lists_in, sheet_of, decode, read_number}
use Rattle.rules.specs.declared.Entry.{Entry}
use Rattle.rules.proofs.Booleans.{or_split}
use Rattle.rules.proofs.Bytes.{length-column}
use Rattle.rules.proofs.Sheets.{read_kept}
use Rattle.sheet.specs.Parts.{parts, stated, stated_in, words_in}
use Rattle.sheet.specs.Reading.{entries_in}
use Rattle.rules.specs.declared.Words.{Words}
use Rattle.sheet.proofs.Entries.{column_front, column_part}
use Rattle.sheet.proofs.Few.{accepted-few}
use Rattle.sheet.proofs.Listed.{entries_stated}
use Rattle.sheet.proofs.Stated.{length_parts, numbers_stated, counts_stated, places_stated, present_stated, absent_stated}
use Rattle.csv_export.specs.Parts.{Apart, ways_of}

-- ---- bodies that lie one behind the other

abbrev numbers : List Entry → List ℕ
numbers es = map (λ e. e.cue) es

abbrev counts : List Entry → List ℕ
counts es = map (λ e. e.ways) es

-- The first starts at a position, every other where the one before it ends.
abbrev Joined : ℕ → List Entry → Type 0
Joined at es = map (λ e. e.start) es ≡ starts at (counts es)

first_start : (x : Entry) (es : List Entry) (at : ℕ) → Joined at (x ∷ es) → at ≡ x.start
unfolding starts
first_start x es at e = sym (ap (λ xs. get_or xs 0 0) e)

other_starts : (x : Entry) (es : List Entry) (at : ℕ) → Joined at (x ∷ es) → Joined (at + 16 * x.ways) es
unfolding starts
other_starts x es at e = ap (drop 1) e

-- ---- the cues

-- The cue of an entry.
abbrev pub cue_of : List ℕ → Entry → Cue
cue_of bs e = record { number = e.cue; present = map (λ w. w.present) (ways_of bs e); absent = map (λ w. w.absent) (ways_of bs e) }

-- The numbers of a column behind the first m.
column_rest : (at m n : ℕ) (bs : List ℕ) → drop m (column 8 16 at (m + n) bs) ≡ column 8 16 (at + 16 * m) n bs
column_rest at m n bs =
    let all = column 8 16 at (m + n) bs in
    sym (take_all n (drop m all) (omega (arith, length-drop m all, length-column 8 16 at (m + n) bs))) ∙ column_part 8 16 bs at (m + n) m n (omega arith)

-- Dealing out all words deals out the words of each.
dealt : (bs : List ℕ) (es : List Entry) (at : ℕ) → Joined at es
    → deal (numbers es) (counts es) (column 8 16 at (total (counts es)) bs) (column 8 16 (at + 8) (total (counts es)) bs) ≡ map (cue_of bs) es
unfolding deal total
dealt bs [] at e = refl
dealt bs (x ∷ es) at e =
    let k = x.ways in
    let n = total (counts es) in
    let here : at ≡ x.start = first_start x es at e in
    let behind : at + 8 + 16 * k ≡ at + 16 * k + 8 = omega arith in
    let present = column_front 8 16 bs at (k + n) k (omega arith) ∙ ap (λ i. column 8 16 i k bs) here ∙ sym (present_stated x.start k bs) in
    let absent = column_front 8 16 bs (at + 8) (k + n) k (omega arith) ∙ ap (λ i. column 8 16 (i + 8) k bs) here ∙ sym (absent_stated x.start k bs) in
    ap₂ (λ c cs. c ∷ cs) (λ j. record { number = x.cue; present = present j; absent = absent j })
    (ap₂ (deal (numbers es) (counts es)) (column_rest at k n bs) (column_rest (at + 8) k n bs ∙ ap (λ i. column 8 16 i n bs) behind)
    ∙ dealt bs es (at + 16 * k) (other_starts x es at e))

-- ---- the senses of faults

-- Ways of which none names a fault in both senses.
apart : (i : ℕ) (ws : List Words) → names_both (rows i (map (λ w. w.present) ws) (map (λ w. w.absent) ws)) ≡ false → AllByRecursion Apart ws
unfolding names_both any rows
apart i [] e = tt
apart i (w ∷ ws) e = let s = or_split _ _ e in (eqb-true _ 0 (not-false _ s.0), apart (suc i) ws s.1)

-- What holds of all parts holds of the first k and of the others.
parts_split : {A : Type 0} (P : A → Type 0) (first : List ℕ → A) (size k n : ℕ) (bs : List ℕ) → AllByRecursion P (parts first size (k + n) bs)
    → AllByRecursion P (parts first size k bs) × AllByRecursion P (parts first size n (drop (size * k) bs))
unfolding parts
parts_split P first size zero n bs h = (tt, rw mul-zero (rw zero-add at h))
parts_split P first size (suc k) n bs h =
    let counted : suc k + n ≡ suc (k + n) = omega arith in
    let own = rw counted at h in
    let rest = parts_split P first size k n (drop size bs) own.1 in
    let behind : size + size * k ≡ size * suc k = omega (arith, mul-suc size k) in
    ((own.0, rest.0), rw behind at (rw drop-drop at rest.1))

-- So if no way of all names one in both, no way of an entry does.
each_apart : (bs : List ℕ) (es : List Entry) (at : ℕ) → Joined at es → AllByRecursion Apart (words_in at (total (counts es)) bs)
    → AllByRecursion (λ e. AllByRecursion Apart (ways_of bs e)) es
unfolding total
each_apart bs [] at e h = tt
each_apart bs (x ∷ es) at e h =
    let here = first_start x es at e in
    let both = parts_split _ _ 16 x.ways (total (counts es)) (drop at bs) h in
    (rw here at both.0, each_apart bs es (at + 16 * x.ways) (other_starts x es at e) (rw drop-drop at both.1))

-- ---- an accepted sheet

module _ (bs : List ℕ) (accepted : read_number bs ≡ 0) where
  joined : Joined (bodies_in bs) (stated_in (cues_in bs) bs)
  joined =
      places_stated bs (cues_in bs) ∙ (read_kept bs accepted).1.places ∙ ap (starts (bodies_in bs)) (sym (counts_stated bs (cues_in bs)))

  -- ITS CUES are those of its entries.
  pub entry_cues : (decode bs).cues ≡ map (cue_of bs) (entries_in bs)
  unfolding decode sheet_of lists_in
  entry_cues = let n = cues_in bs in
      rw (numbers_stated bs n, counts_stated bs n, entries_stated bs accepted) at (dealt bs (stated_in n bs) (bodies_in bs) joined)

  -- NO WAY of an entry names a fault in both senses.
  pub entries_apart : AllByRecursion (λ e. AllByRecursion Apart (ways_of bs e)) (entries_in bs)
  unfolding lists_in
  entries_apart =
      let n = cues_in bs in
      let all = total (counts_in bs) in
      let both = rw (← present_stated (bodies_in bs) all bs, ← absent_stated (bodies_in bs) all bs) at (read_kept bs accepted).0.both in
      let ways = apart 0 (words_in (bodies_in bs) all bs) both in
      rw (entries_stated bs accepted) at (each_apart bs (stated_in n bs) (bodies_in bs) joined (rw (counts_stated bs n) ways))

  -- They are at most 24, and the weights at most 64.
  pub few_entries : length (entries_in bs) ≤ 24
  few_entries =
      let long = ap length (entries_stated bs accepted) in
      omega (arith, long, length_parts stated 8 (cues_in bs) (drop 12 bs), (accepted-few bs accepted).cues)

  pub few_weights : length (weights_in bs) ≤ 64
  few_weights = omega (arith, length-column 4 4 (weights_start (cues_in bs)) (faults_in bs) bs, (accepted-few bs accepted).faults)
