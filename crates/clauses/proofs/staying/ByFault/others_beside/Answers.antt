-- `others_beside` meets its contract. The loop's invariant: what is kept so far and the ways to come tell which of the others stay.
-- Rests on Held.antt, Leaving.antt and the contracts of `within`, `keep` and `subsumes`.
use mathlib.Core.Path.{refl, sym, ◌∙◌}
use mathlib.Core.Bool.{not}
use borrow.Author.Rules.{rules}
use Rattle.rules.specs.Leaf.{subsumes}
use Rattle.clauses.specs.Leaves.{ways_of}
use Rattle.clauses.proofs.Held.{reworded}
use Rattle.clauses.proofs.Leaving.{none_left_out, skips, leaves, all_told}
use Rattle.clauses.proofs.staying.ByFault.others_beside.Goals as goal

pub loop-u-init : goal.loop-u-init
loop-u-init c =
    rw (c.into_iter-u-iterator.ensures.into_iter_gives, c.ways-u-items.ensures) (none_left_out c.args.self.others (ways_of c.args.shorter))

pub loop-u-preserved-then-subsumes : goal.loop-u-preserved-then-subsumes
loop-u-preserved-then-subsumes c =
    let l = c.loop-u in
    leaves c.args.self.others (ways_of c.args.shorter) l.kept _ l.invariant c.in-Some.u _ c.in-Some.ensures.steps c.within.result c.keep-beside.result
    c.within.ensures (c.keep-beside.ensures (λ v. not (subsumes c.in-Some.u v)) (λ v b k. search rules))

pub loop-u-preserved : goal.loop-u-preserved
loop-u-preserved c =
    let l = c.loop-u in
    skips c.args.self.others (ways_of c.args.shorter) l.kept _ l.invariant c.in-Some.u _ c.in-Some.ensures.steps c.args.self.cover c.requires
    (sym c.subsumes.ensures ∙ c.if-subsumes.false)

pub returns : goal.returns
returns c =
    reworded c.within-2.ensures refl
    (all_told c.args.self.others (ways_of c.args.shorter) c.loop-u.kept _ c.in-None.ensures.steps.0 c.loop-u.invariant)
