-- The packets that are left give the log so far what the whole piece gives the log that it began with.
-- Rests on specs/Logs.antt.
use Rattle.std.proofs.Common.{◌≡◌, drop}
use Rattle.captures.specs.Logs.{heard_all, capped}
use Rattle.captures.proofs.Log.hear_all.Given as goal

abbrev pub invariant-loop-new : goal.invariant-loop-new
invariant-loop-new l = capped (heard_all l.so_far (drop l.new-index l.piece)) ≡ capped (heard_all l.fn.self l.piece)
