-- `of` meets its contract: no fault of a whole table is gone, so what `restrict` fixes and `leaving_out` leaves out is all.
-- Rests on Held.antt, Parts.antt and the contracts of these and of `within`.
use mathlib.Core.Path.{◌≡◌, sym, ap, ◌∙◌}
use mathlib.Core.List.{List}
use lib.Bits.{or_zero_l}
use Rattle.rules.specs.declared.Way.{Way}
use Rattle.rules.specs.Leaf.{sift, remaining, drop_all}
use Rattle.clauses.specs.declared.lost.Gone.{Gone}
use Rattle.clauses.specs.Numbers.{is_in}
use Rattle.clauses.specs.Leaves.{none_gone, fix_more, out_more}
use Rattle.clauses.proofs.Held.{reworded, onward}
use Rattle.clauses.proofs.Parts.{select-sift}
use Rattle.clauses.proofs.Clauses.of.Goals as goal

-- All faults of g, fixed and left out where none was gone.
all-gone : (g : Gone) → out_more (fix_more none_gone g.present g.absent) g.out ≡ g
all-gone g = λ i. record { present = or_zero_l g.present i; absent = or_zero_l g.absent i; out = or_zero_l g.out i }

pub returns : goal.returns
returns c =
    let a = c.args in
    let g = a.gone in
    let w = c.whole.ensures in
    let n = c.within.ensures in
    let r = c.restrict.ensures in
    let o = c.leaving_out.ensures in
    let left = λ (vs : List Way). drop_all g.out (remaining g.present g.absent vs) in
    reworded (onward (onward (onward w n) r) o)
    (ap (λ (x : Gone). out_more x g.out) (r.gone_is ∙ ap (λ (x : Gone). fix_more x g.present g.absent) (n.gone_is ∙ w.gone_is)) ∙ all-gone g)
    (ap (drop_all g.out) r.ways_are ∙ ap left n.ways_are
    ∙ ap (λ (vs : List Way). left (sift (λ v. is_in a.numbers v.number) vs)) w.ways_are
    ∙ ap left (sym (select-sift (is_in a.numbers) _)))
