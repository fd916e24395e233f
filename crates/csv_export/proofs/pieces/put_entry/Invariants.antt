-- The loop's invariant: the records of the ways that are left to come are left to write.
-- Rests on `writer`, Over.
use Rattle.std.specs.List.{AllByRecursion, flat_map}
use Rattle.writer.proofs.Over.{Remains}
use Rattle.csv_export.specs.Parts.{Apart, way_text, entry_text}
use Rattle.csv_export.proofs.pieces.put_entry.Given as goal

abbrev pub invariant-loop-way : goal.invariant-loop-way
invariant-loop-way l = record {
  apart : AllByRecursion Apart l.way-iterator;
  remains : Remains l.initial.out (entry_text l.sheet.bytes.now l.fn.entry) l.out (flat_map (way_text l.cue) l.way-iterator);
}
