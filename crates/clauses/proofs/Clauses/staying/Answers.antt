-- `staying` meets its contract: the numbers are those of the ways that lost the fault and of the others that are kept.
-- Rests on Leaving.antt and the contracts of `restrict`, `others_beside` and `or`.
use mathlib.Core.Path.{refl, sym, ap, ◌∙◌}
use native.Mathlib.Omega.{arith}
use lib.ListN.{length}
use Rattle.rules.proofs.Booleans.{or_cases}
use Rattle.clauses.specs.Numbers.{is_in}
use Rattle.clauses.proofs.Leaving.{left_out}
use Rattle.clauses.proofs.Clauses.staying.Goals as goal

pub invariant_of-shorter : goal.invariant_of-shorter
invariant_of-shorter c =
    let a = c.args in
    let s = c.restrict-shorter in
    let k = c.others_beside-kept in
    let d = c.requires.divided in
    record {
      inside = λ i h. or_cases (is_in s.result.numbers i) (is_in k.result.numbers i)
          (λ e. s.result.inside i e)
          (λ e. omega (
            arith,
            k.result.inside i e,
            ap length (k.ensures.present_is ∙ d.others.present_is),
            ap length (s.ensures.present_is ∙ d.named.present_is),
          )) (sym (c.or-shorter.ensures i) ∙ h);
    }

pub returns : goal.returns
returns c =
    let a = c.args in
    let s = c.restrict-shorter in
    let k = c.others_beside-kept in
    let d = c.requires.divided in
    left_out a.self a.p a.q c.requires.one_fault c.requires.lean a.d c.requires.divided s.result s.ensures k.result k.ensures _
    (s.ensures.present_is ∙ d.named.present_is) (s.ensures.absent_is ∙ d.named.absent_is) refl c.or-shorter.ensures
