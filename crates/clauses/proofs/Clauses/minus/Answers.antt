-- `minus` meets its contract: a number of the leaf is in what the first set has beyond the second just if it is not in the second.
-- Rests on Held.antt, Leaf.antt and Parts.antt.
use mathlib.Core.Path.{refl, sym, ap₂, ◌∙◌}
use mathlib.Core.Bool.{Bool, not, ◌&&◌}
use Rattle.clauses.specs.Leaves.{ways_of}
use Rattle.clauses.proofs.Held.{reworded}
use Rattle.clauses.proofs.Leaf.{numbers, number_in}
use Rattle.clauses.proofs.Parts.{sift-same}
use Rattle.clauses.proofs.Clauses.minus.Goals as goal

pub returns : goal.returns
returns c =
    let a = c.args in
    reworded c.within.ensures refl
    (sift-same _ _ (ways_of a.self)
    (λ v p. c.minus.ensures v.number ∙ ap₂ (λ (x y : Bool). x && not y) (number_in a.self v p) (sym (numbers a.other v.number))))
