-- A read puts what it takes behind what was counted before.
-- Rests on Front.antt.
use Rattle.std.proofs.Common.{rules}
use Rattle.streams.proofs.Front.{taken-more, taken-still}
use Rattle.streams.proofs.read_front.Goals as goal
use Rattle.streams.proofs.read_front.Goals.{in-Ok, in-Err}

pub loop-preserved : goal.loop-preserved
loop-preserved g c =
    let before = c.loop.invariant in
    elim c.match-read.branch [
      | in-Ok w ↦
          rw w.count-is record {
            same = search rules;
            within = search rules;
            taken = taken-more _ _ _ c.loop.count _ w.in-Ok.n c.loop.space c.read.new.buf before.within w.in-Ok.ensures.bound.0 before.taken w.in-Ok.ensures.bytes.0;
          }
      | in-Err w ↦
          rw w.count-is record {
            same = search rules;
            within = search rules;
            taken = taken-still _ _ _ c.loop.count _ c.loop.space c.read.new.buf before.within before.taken w.in-Err.ensures.bytes;
          }
    ]
