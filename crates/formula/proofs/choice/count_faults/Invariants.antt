-- `count_faults` meets its contract. The loop's invariant: each count, with the bits to come, makes what it is to be.
-- Rests on Counted.antt.
use Rattle.formula.proofs.Counted.{Adding}
use Rattle.formula.proofs.choice.count_faults.Given as goal

abbrev pub invariant-loop-f : goal.invariant-loop-f
invariant-loop-f l = Adding l.fn.counts l.fn.word l.counts l.f-iterator
