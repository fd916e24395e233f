-- `put_back` meets its contract. The loop's invariant: the records before j are the made ones, and so are those behind all in use.
-- Rests on Back.antt.
use Rattle.store.proofs.Back.{Putting}
use Rattle.store.proofs.put_back.Given as goal

abbrev pub invariant-loop-j : goal.invariant-loop-j
invariant-loop-j g l = Putting (g.T.Lent.tree l.tree) l.made l.j
