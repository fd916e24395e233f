-- `total` meets its contract: the library's sum is that of the rules.
-- Rests on Sums.antt.
use Rattle.std.proofs.Common.{◌≡◌, sum, rules, ◌∙◌}
use Rattle.writer.proofs.Sums.{sum_is}
use Rattle.writer.proofs.refusals.total.Goals as goal

pub returns : goal.returns
returns c = let summed : c.sum.result ≡ sum c.args.counts.now = search rules in summed ∙ sum_is c.args.counts.now
