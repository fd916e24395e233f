-- The loop's invariant: the words that are left to come are left to write.
-- Rests on Over.antt.
use Rattle.rules.specs.Sheet.{body_bytes}
use Rattle.rules.proofs.Laid.{bodies_part}
use Rattle.writer.specs.Given.{given}
use Rattle.writer.proofs.Over.{Remains}
use Rattle.writer.proofs.lists.Lists.put_bodies.Given as goal

abbrev pub invariant-loop-present : goal.invariant-loop-present
invariant-loop-present l = Remains l.initial.out (bodies_part (given l.self)) l.out (body_bytes l.present-iterator.a.rest.now l.present-iterator.b.rest.now)
