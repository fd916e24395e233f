-- `crowded` meets its contract.
-- Rests on Stated.antt and the contract of `entries`.
use Rattle.std.proofs.Common.{rules, tests}
use Rattle.rules.specs.Refusals.{crowded}
use Rattle.rules.specs.Sheet.{cues_in}
use Rattle.sheet.proofs.Stated.{part_above, counts_stated}
use Rattle.sheet.proofs.fields.Raw.crowded.Goals as goal

pub returns : goal.returns
unfolding crowded
returns c =
    let bs = c.args.self.bytes.now in
    part_above c.any.ensures.ran c.entries.ensures.entries (λ e. e.ways) 128 (counts_stated bs (cues_in bs)) (λ x b q k. search (rules, tests))
