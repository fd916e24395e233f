-- `other_ways` meets its contract. The loop's invariant: the word is within the group's faults and holds every way that is not outside.
-- A sweep that changes the word makes it a larger number, so the sweeps end. Rests on Sweeping.antt.
use Prim.Native.Nat.{◌-◌, ◌^◌}
use Rattle.formula.proofs.Sweeping.{Growing}
use Rattle.formula.proofs.group.other_ways.Given as goal

abbrev pub invariant-loop-word : goal.invariant-loop-word
invariant-loop-word l = Growing l.c l.word l.outside

abbrev pub decreases-loop-word : goal.decreases-loop-word
decreases-loop-word l = 2 ^ 64 - l.word
