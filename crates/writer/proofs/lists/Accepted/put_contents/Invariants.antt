-- The loop's invariant: the entries that are left to come are left to write, and the last body ends where all of them do.
-- Rests on Over.antt.
use Rattle.std.proofs.Common.{◌+◌, ◌*◌, ◌≤◌}
use Rattle.rules.specs.Sheet.{starts, total}
use Rattle.rules.proofs.Laid.{entries, contents_part}
use Rattle.writer.specs.Given.{given}
use Rattle.writer.proofs.Over.{Remains}
use Rattle.writer.proofs.lists.Accepted.put_contents.Given as goal

abbrev pub invariant-loop-cue : goal.invariant-loop-cue
invariant-loop-cue l =
    let numbers = l.cue-iterator.a.rest.now in
    let counts = l.cue-iterator.b.rest.now in
    record {
      ends : l.start + 16 * total counts ≤ 49612;
      remains : Remains l.initial.out (contents_part (given l.self.lists)) l.out (entries numbers counts (starts l.start counts));
    }
