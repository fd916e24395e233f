-- `chance` meets its contract. The loop's invariant: what the faults still to come make of the chance is the way's.
-- Rests on Walk.antt.
use mathlib.Core.Path.{sym}
use borrow.Author.Rules.{rules}
use Rattle.chances.proofs.Walk.{chance-walk}
use Rattle.chances.proofs.weights.Weights.chance.Goals as goal

pub loop-fault-init : goal.loop-fault-init
loop-fault-init c =
    let a = c.args in
    rw (c.into_iter-fault-iterator.ensures.into_iter_gives, c.of-fault-items.ensures)
    (sym (chance-walk a.direction a.self.list.now a.way.present a.way.absent (search rules) (search rules)))
