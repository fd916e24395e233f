-- The loop's invariant: the records of the entries that are left to come are left to write.
-- Rests on `writer`, Over.
use Rattle.std.specs.List.{AllByRecursion, flat_map}
use Rattle.writer.proofs.Over.{Remains}
use Rattle.csv_export.specs.Parts.{Apart, ways_of, entry_text, entries_text}
use Rattle.csv_export.proofs.whole.put_entries.Given as goal

abbrev pub invariant-loop-entry : goal.invariant-loop-entry
invariant-loop-entry l = let bs = l.sheet.bytes.now in
    record {
      apart : AllByRecursion (λ e. AllByRecursion Apart (ways_of bs e)) l.entry-iterator;
      remains : Remains l.initial.out (entries_text bs) l.out (flat_map (entry_text bs) l.entry-iterator);
    }
