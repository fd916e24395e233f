-- Each piece is heard behind those before it, and brings a log that is not full on: it has at most one packet more than the limit.
use Rattle.std.proofs.Common.{◌+◌, ◌-◌}
use Rattle.captures.specs.Logs.{limit, packets}
use Rattle.cue_weight.proofs.Unbroken.{SoFar}
use Rattle.cue_weight.proofs.read_log.Given as goal

abbrev pub invariant-loop-file : goal.invariant-loop-file
invariant-loop-file g l = SoFar (g.F.Read.remaining l.initial.file) (g.F.Read.remaining l.file) l.log

abbrev pub decreases-loop-file : goal.decreases-loop-file
decreases-loop-file g l = limit + 2 - packets l.log
