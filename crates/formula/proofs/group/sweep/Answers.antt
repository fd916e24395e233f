-- `sweep` meets its contract. The loop's invariant: those that stay outside are untouched or yet to be met, and the word holds all others.
-- Rests on Sweeping.antt, on `clauses`, Leaf, and on the contracts of what it calls.
use mathlib.Core.Path.{refl, sym, ap, ◌∙◌}
use mathlib.Core.List.Memᴰ
use lib.Bits.{bit_or}
use Rattle.clauses.proofs.Leaf.{number_small}
use Rattle.formula.proofs.Sweeping.{begun, passed-by, taken_in, swept}
use Rattle.formula.proofs.group.sweep.Goals as goal

pub loop-v-init : goal.loop-v-init
loop-v-init c = rw (c.into_iter-v-iterator.ensures.into_iter_gives, c.ways-v-items.ensures) (begun c.args.c c.args.m)

pub without-rest-requires : goal.without-rest-requires
without-rest-requires c = number_small c.loop-v.v-iterator.left c.in-Some.v (rw c.in-Some.ensures.steps (Memᴰ.head refl))

pub loop-v-preserved-then-touches : goal.loop-v-preserved-then-touches
loop-v-preserved-then-touches c =
    let l = c.loop-v in
    taken_in c.args.c c.args.m l.word l.rest _ l.invariant c.in-Some.v _ c.in-Some.ensures.steps (sym c.touches.ensures ∙ c.if-touches.true)
    _ (ap (bit_or l.word) c.faults-word.ensures) c.without-rest.result c.without-rest.ensures

pub loop-v-preserved : goal.loop-v-preserved
loop-v-preserved c =
    let l = c.loop-v in
    passed-by c.args.c c.args.m l.word l.rest _ l.invariant c.in-Some.v _ c.in-Some.ensures.steps (sym c.touches.ensures ∙ c.if-touches.false)

pub returns : goal.returns
returns c = let l = c.loop-v in swept c.args.c c.args.m l.word l.rest _ l.invariant c.in-None.ensures.steps.0
