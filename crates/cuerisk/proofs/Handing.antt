-- The table of a cue told in numbers: the table that a sheet's reader hands over is that of the i-th cue of the decoded sheet.
-- Rests on `sheet`, Tables: the table is a cue's, and accepted; and on `rules`, ReaderCalls: it is the i-th cue's.
use mathlib.Core.Path.{◌≡◌, refl, sym, ap, subst, ◌∙◌}
use mathlib.Core.Bool.{Bool, true, false}
use mathlib.Core.List.{List, [], ◌∷◌}
use Prim.Native.Nat.{ℕ, zero, suc, ◌+◌, ◌<◌, ◌≤◌}
use native.Mathlib.Omega.{arith}
use borrow.Author.Tests.{ltb-true, ltb-false}
use lib.Dec.{ltb}
use lib.ListN.{length, take, drop, get_or, length-take, drop_of_length-le}
use lib.Seq.{drop-cons}
use Rattle.std.specs.Prelude.{Some, None, Option, Result, Ok, Err}
use Rattle.rules.specs.Refusals.{number, Accepted}
use Rattle.rules.specs.Table.{Table}
use Rattle.rules.specs.Sheet.{Cue, table_of, column, cues_in, weights_in, decode}
use Rattle.rules.specs.Sheet.{read_refusals, read_number, entry_in, entry_if, entry_answer, AllBelow}
use Rattle.rules.specs.declared.Entry.{Entry}
use Rattle.rules.specs.declared.Refusal.{Refusal}
use Rattle.rules.proofs.Answering.{Comes, accepts, refuses, comes}
use Rattle.rules.proofs.Bytes.{each_below, length-column}
use Rattle.rules.proofs.First.{number-above}
use Rattle.rules.proofs.ReaderCalls.{cues_decoded, hands_over}
use Rattle.sheet.specs.Handed.{sized, table_at}
use Rattle.sheet.proofs.Tables.{entry_table, no_cue, cue_accepted}
use Rattle.cue_numbers.specs.Numbers.{no_table, flat_table, table_by, flat_table_at}
use Rattle.cuerisk.specs.Told.{table_held, TableTold}
use Rattle.cue_numbers.specs.declared.CueTable.{CueTable}

-- ---- a table told and held

-- The front of a list with zeros behind it is that list, if it is short enough.
front : (m : ℕ) (xs : List ℕ) → length xs ≤ m → take (length xs) (sized m xs) ≡ xs
unfolding sized
front zero [] h = refl
front (suc m) [] h = refl
front zero (x ∷ xs) h = absurd (omega arith)
front (suc m) (x ∷ xs) h = ap (λ (r : List ℕ). x ∷ r) (front m xs (omega arith))

-- A table of few faults and ways, as many words of each kind, is what its numbers hold.
held-again : (t : Table) → length t.weights ≤ 64 → length t.present ≤ 128 → length t.absent ≡ length t.present → table_held (flat_table 0 0 t) ≡ t
held-again t few short paired = λ j. record {
  weights = front 64 t.weights few j;
  present = front 128 t.present short j;
  absent = (ap (λ (n : ℕ). take n (sized 128 t.absent)) (sym paired) ∙ front 128 t.absent (omega (arith, short, paired))) j;
}

-- ---- the answer

-- What the code hands back, by the answer of the reader's call.
abbrev pub table_for : List ℕ → Result (Option Entry) Refusal → CueTable
table_for bs (Ok (Some e)) = flat_table 0 0 (table_at bs e)
table_for bs (Ok None) = flat_table 0 1 no_table
table_for bs (Err r) = flat_table (number r) 0 no_table

-- Its number is the sheet's.
number-told : (n : ℕ) (ws : List ℕ) (cs : List Cue) → (table_by n ws cs).number ≡ n
number-told zero ws [] = refl
number-told zero ws (c ∷ cs) = refl
number-told (suc n) ws cs = refl

-- A refused sheet has no table.
refused-table : (n : ℕ) (ws : List ℕ) (cs : List Cue) → 0 < n → flat_table n 0 no_table ≡ table_by n ws cs
refused-table zero ws cs h = absurd (omega (arith, h))
refused-table (suc n) ws cs h = refl

-- An entry's words come in pairs.
same_length : (bs : List ℕ) (e : Entry) → length (table_at bs e).absent ≡ length (table_at bs e).present
unfolding table_at
same_length bs e =
    let p = column 8 16 e.start e.ways bs in
    let q = column 8 16 (e.start + 8) e.ways bs in
    omega (arith, length-take 128 p, length-take 128 q, length-column 8 16 e.start e.ways bs, length-column 8 16 (e.start + 8) e.ways bs)

module _ (bs : List ℕ) (h : AllBelow 256 bs) (i : ℕ) where
  -- It is the answer that the definitions give.
  as_defined : table_for bs (entry_answer bs i) ≡ flat_table_at bs i
  unfolding entry_answer read_number flat_table_at
  as_defined = split (comes (read_refusals bs) (entry_if (ltb i (cues_in bs)) (entry_in bs i)))
    where
      there : (b : Bool) → ltb i (cues_in bs) ≡ b → read_number bs ≡ 0
          → table_for bs (Ok (entry_if b (entry_in bs i))) ≡ table_by 0 (decode bs).weights (drop i (decode bs).cues)
      there false f e =
          let end : length (decode bs).cues ≡ cues_in bs = cues_decoded bs h e in
          let past : cues_in bs ≤ i = ltb-false i (cues_in bs) f in
          ap (table_by 0 (decode bs).weights) (sym (drop_of_length-le (decode bs).cues {i = i} (omega arith)))
      there true f e =
          let end : length (decode bs).cues ≡ cues_in bs = cues_decoded bs h e in
          let inside : i < cues_in bs = ltb-true i (cues_in bs) f in
          ap (flat_table 0 0) (entry_table bs e i inside no_cue)
          ∙ ap (table_by 0 (decode bs).weights) (sym (drop-cons (decode bs).cues i no_cue (omega arith)))

      split : Comes (read_refusals bs) (entry_if (ltb i (cues_in bs)) (entry_in bs i))
          → table_for bs (entry_answer bs i) ≡ table_by (read_number bs) (decode bs).weights (drop i (decode bs).cues)
      split (accepts n s) =
          ap (table_for bs) s ∙ there (ltb i (cues_in bs)) refl n ∙ ap (λ (k : ℕ). table_by k (decode bs).weights (drop i (decode bs).cues)) (sym n)
      split (refuses r n s) =
          ap (table_for bs) s
          ∙ refused-table (number r) (decode bs).weights (drop i (decode bs).cues) (number-above r)
          ∙ ap (λ (k : ℕ). table_by k (decode bs).weights (drop i (decode bs).cues)) (sym n)

  module _ (accepted : read_number bs ≡ 0) (inside : i < cues_in bs) where
    -- Of a cue, the table that it holds is that cue's.
    held : (d : Cue) → table_held (table_for bs (entry_answer bs i)) ≡ table_of (decode bs).weights (get_or (decode bs).cues i d)
    unfolding table_at
    held d =
        ap (λ (a : Result (Option Entry) Refusal). table_held (table_for bs a)) (hands_over bs h accepted i d inside).answer
        ∙ held-again (table_at bs (entry_in bs i)) (omega (arith, length-take 64 (weights_in bs)))
        (omega (arith, length-take 128 (column 8 16 (entry_in bs i).start (entry_in bs i).ways bs))) (same_length bs (entry_in bs i))
        ∙ entry_table bs accepted i inside d

    -- Every call on a tree accepts it.
    held-accepted : Accepted (table_held (table_for bs (entry_answer bs i)))
    held-accepted = subst Accepted (sym (held no_cue)) (cue_accepted bs h accepted i no_cue inside)

-- A CALL FOR A TABLE told in numbers, of any bytes and any position.
pub table-told : (bs : List ℕ) → ((k : ℕ) → get_or bs k 0 < 256) → (i : ℕ) {a : Result (Option Entry) Refusal} {r : CueTable}
    → a ≡ entry_answer bs i → r ≡ table_for bs a → TableTold bs i r
unfolding flat_table_at
table-told bs g i {a} {r} e f =
    let h = each_below 256 bs g in
    let same : r ≡ table_for bs (entry_answer bs i) = f ∙ ap (table_for bs) e in
    let numbers : r ≡ flat_table_at bs i = same ∙ as_defined bs h i in
    record {
      numbers = numbers;
      number_is = ap (λ (t : CueTable). t.number) numbers ∙ number-told (read_number bs) (decode bs).weights (drop i (decode bs).cues);
      table_is = λ ok inside d. ap table_held same ∙ held bs h i ok inside d;
      accepted = λ ok inside. subst (λ (t : CueTable). Accepted (table_held t)) (sym same) (held-accepted bs h i ok inside);
    }
