-- `common_part` meets its contract. The loop's invariant: the words so far have in common with the ways to come what the first way has with the others.
-- Rests on Meeting.antt.
use mathlib.Core.Path.{refl, sym, ap, ◌∙◌}
use Rattle.rules.specs.Common.{meet_from, meet, shared}
use Rattle.clauses.specs.Leaves.{left_of}
use Rattle.formula.proofs.Meeting.{common, cut_short, at_end}
use Rattle.formula.proofs.common.common_part.Goals as goal

pub returns-in_default : goal.returns-in_default
unfolding shared meet
returns-in_default c = sym (ap shared (sym c.ways-ways.ensures ∙ c.in_default.ensures.steps.0))

pub loop-v-init : goal.loop-v-init
loop-v-init c = refl

pub returns-then-p-q-eq0 : goal.returns-then-p-q-eq0
returns-then-p-q-eq0 c =
    cut_short _ _ _ (sym c.ways-ways.ensures ∙ c.in-Some.ensures.steps) c.loop-v.p c.loop-v.q _
    (c.loop-v.invariant ∙ ap (λ w. common c.in-Some.first.present c.in-Some.first.absent (left_of w)) c.into_iter-v-iterator.ensures.into_iter_gives)
    c.if-p-q-eq0.true

pub loop-v-preserved : goal.loop-v-preserved
unfolding meet_from
loop-v-preserved c = sym (ap (common c.loop-v.p c.loop-v.q) c.in-Some-v.ensures.steps) ∙ c.loop-v.invariant

pub returns : goal.returns
returns c =
    at_end _ _ _ (sym c.ways-ways.ensures ∙ c.in-Some.ensures.steps) c.loop-v.p c.loop-v.q _
    (c.loop-v.invariant ∙ ap (λ w. common c.in-Some.first.present c.in-Some.first.absent (left_of w)) c.into_iter-v-iterator.ensures.into_iter_gives)
    c.in-None.ensures.steps.0
