-- `put_back` meets its contract.
-- Rests on Back.antt.
use Rattle.store.proofs.Back.{done}
use Rattle.store.proofs.put_back.Goals as goal

pub returns : goal.returns
returns g c = done _ c.args.made.now c.loop-j.j c.loop-j.invariant c.loop-j-test.false _ c.put_used.ensures
