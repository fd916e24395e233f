-- `keep` meets its contract. The loop's invariant: whatever test the closure makes, the numbers kept are those of ways that pass it or are still to come.
-- Rests on Held.antt, Passing.antt and on the contracts of `next`, `without` and `within`.
use mathlib.Core.Path.{refl, sym, ◌∙◌}
use mathlib.Core.List.Memᴰ
use Rattle.clauses.proofs.Held.{reworded}
use Rattle.clauses.proofs.Leaf.{number_small}
use Rattle.clauses.proofs.Passing.{begun, stays, goes, ended}
use Rattle.clauses.proofs.Clauses.keep.Goals as goal

pub loop-v-init : goal.loop-v-init
loop-v-init g c = λ f h. rw (c.into_iter-v-iterator.ensures.into_iter_gives, c.ways-v-items.ensures) (begun c.args.self f)

pub without-kept-requires : goal.without-kept-requires
without-kept-requires g c =
    let l = c.loop-v.v-iterator.left in
    number_small l c.in-Some.v (rw c.in-Some.ensures.steps (Memᴰ.head refl))

pub loop-v-preserved-then-not-test : goal.loop-v-preserved-then-not-test
loop-v-preserved-then-not-test g c = λ f h.
    goes c.args.self f c.loop-v.kept c.loop-v.v-iterator.left c.next.new.self.left c.in-Some.v c.in-Some.ensures.steps (c.loop-v.invariant f h)
    (sym (h c.in-Some.v c.test.result c.test.ensures) ∙ c.if-not-test.true) c.without-kept.result c.without-kept.ensures

pub loop-v-preserved : goal.loop-v-preserved
loop-v-preserved g c = λ f h.
    stays c.args.self f c.loop-v.kept c.loop-v.v-iterator.left c.next.new.self.left c.in-Some.v c.in-Some.ensures.steps (c.loop-v.invariant f h)
    (sym (h c.in-Some.v c.test.result c.test.ensures) ∙ c.if-not-test.false)

pub returns : goal.returns
returns g c = λ f h. reworded c.within.ensures refl (ended c.args.self f c.loop-v.kept _ c.in-None.ensures.steps.0 (c.loop-v.invariant f h))
