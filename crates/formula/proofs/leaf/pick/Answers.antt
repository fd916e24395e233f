-- `pick` meets its contract, by whether the word touches the way.
-- Rests on Picking.antt and on the contracts of `raised`, `touches`, `faults`, `chance` and `either`.
use mathlib.Core.Path.{sym, ap, ◌∙◌}
use lib.Bits.{bit_or}
use Rattle.formula.proofs.Picking.{passed, taken_up}
use Rattle.formula.proofs.leaf.pick.Goals as goal

pub returns-then-touches : goal.returns-then-touches
returns-then-touches c = let h = c.raised-high in
    λ us e. passed c.args.weights.list.now us c.args.v c.args.p h.result e (sym c.touches.ensures ∙ c.if-touches.true) h.ensures

pub returns : goal.returns
returns c = let h = c.raised-high in
    λ us q. taken_up c.args.weights.list.now us c.args.v c.args.p h.result _ c.chance-low.result c.either.result q
    (sym c.touches.ensures ∙ c.if-touches.false) h.ensures (ap (bit_or c.args.p.held) c.faults.ensures) c.chance-low.ensures c.either.ensures
