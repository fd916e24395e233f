-- `entry_at` meets its contract, field by field.
-- Rests on Entries.antt, on `rules`, Bytes, and on the contracts of `bodies_start`, `ways_before`, `rest` and the `read` of an entry.
use Rattle.std.proofs.Common.{◌≡◌, sym, ap, ap₂, ◌∙◌, ℕ, ◌+◌, ◌*◌, ◌<◌, arith, length, drop, get_or, List}
use Rattle.rules.specs.Sheet.{field, column, total, cues_in, counts_in, bodies_in, entry_in}
use Rattle.rules.specs.declared.Entry.{Entry}
use Rattle.rules.proofs.Bytes.{field-drop, length-column}
use Rattle.sheet.specs.Parts.{stated}
use Rattle.sheet.proofs.Entries.{column_get_d, column_front, starts-get_d}
use Rattle.sheet.proofs.fields.Raw.entry_at.Goals as goal

-- A number of the entry at position i is that of its column.
field_in_column : (k j : ℕ) (s : List ℕ) (n i : ℕ) → i < n → field k j (drop (12 + 8 * i) s) ≡ get_or (column k 8 (12 + j) n s) i 0
field_in_column k j s n i h =
    let same : (12 + 8 * i) + j ≡ (12 + j) + 8 * i = omega arith in
    sym (field-drop k (12 + 8 * i) j s) ∙ ap (λ at. field k at s) same ∙ sym (column_get_d k 8 s (12 + j) n i h)

pub returns : goal.returns
unfolding entry_in
returns c = let a = c.args in
    let s = a.self.bytes.now in
    let n : ℕ = cues_in s in
    let inside : a.i < n = omega arith in
    let counted : a.i < length (counts_in s) = omega (arith, length-column 2 8 14 n s) in
    let ways = c.ways_before.ensures.sum ∙ ap total (sym (column_front 2 8 s 14 n a.i (omega arith))) in
    let start =
    ap₂ (λ (b k : ℕ). b + 16 * k) c.bodies_start.ensures.place ways
    ∙ sym (starts-get_d (bodies_in s) (counts_in s) a.i counted) in
    let read : c.read.result ≡ stated (drop (12 + 8 * a.i) s) = rw c.rest.ensures at c.read.ensures in
    λ j. record {
      cue = (ap (λ (e : Entry). e.cue) read ∙ field_in_column 2 0 s n a.i inside) j;
      ways = (ap (λ (e : Entry). e.ways) read ∙ field_in_column 2 2 s n a.i inside) j;
      start = start j;
    }
