-- What holds of the ways at every place of an accepted table (`Settled`, KindLaws.antt): 12 and 13 let them through, they are lean, and they stand in
-- number order. At the root by the refusals and by what stays, in a child by the laws of its kind.
use mathlib.Core.Path.{◌≡◌, refl, sym, ◌∙◌}
use mathlib.Core.Bool.{Bool, true, false, not, ◌&&◌, true≢false}
use mathlib.Core.List.{List}
use Prim.Native.Nat.{ℕ}
use lib.ListN.{length}
use lib.Dec.{eqb}
use lib.Bits.{bit_and}
use Rattle.rules.specs.Table.{bit, Way, Table, ways}
use Rattle.rules.specs.Leaf.{without, minimal}
use Rattle.rules.specs.Tree.{root_ways, Side, child}
use Rattle.rules.specs.Refusals.{names_beyond, names_both, Accepted}
use Rattle.rules.specs.declared.Kind.{Kind}
use Rattle.rules.proofs.Booleans.{and_left}
use Rattle.rules.proofs.Bits.{bit-without, apart-bit, apart-test}
use Rattle.rules.proofs.Sets.{ways-rising, sift-rising}
use Rattle.rules.proofs.Minimal.{minimal-twice}
use Rattle.rules.proofs.KindLaws.{laws, Stable, beyond-stable, Settled}
use Rattle.rules.proofs.Accepted.{root_inside, root_one_sense}

-- Dropping faults names none in both senses.
both-stable : Stable (λ v. not (eqb (bit_and v.present v.absent) 0))
both-stable m v h =
    apart-test (without m v.present) (without m v.absent)
    (λ i b.
    let present : bit i v.present ≡ true = and_left (bit i v.present) (not (bit i m)) (sym (bit-without i m v.present) ∙ b) in
    bit-without i m v.absent ∙ gone (bit i v.absent) (not (bit i m)) (apart-bit v.present v.absent i h present))
  where
    gone : (x y : Bool) → x ≡ false → x && y ≡ false
    gone true y e = absurd (true≢false e)
    gone false y e = refl

-- 12 lets a child's ways through.
pub child-inside : (k : Kind) (n : ℕ) (b : Side) (vs : List Way) → names_beyond n vs ≡ false → names_beyond n (child k b vs) ≡ false
unfolding names_beyond
child-inside k n b vs h = (laws k).keeps _ (beyond-stable n) b vs h

-- So does 13.
pub child-one-sense : (k : Kind) (b : Side) (vs : List Way) → names_both vs ≡ false → names_both (child k b vs) ≡ false
unfolding names_both
child-one-sense k b vs h = (laws k).keeps _ both-stable b vs h

-- A child's ways are settled.
pub child-settled : (k : Kind) (n : ℕ) (b : Side) (vs : List Way) → Settled n vs → Settled n (child k b vs)
child-settled k n b vs s =
    record {
      inside = child-inside k n b vs s.inside;
      one_sense = child-one-sense k b vs s.one_sense;
      lean = (laws k).lean b vs s.one_sense s.lean;
      rising = (laws k).rises b vs s.rising;
    }

-- The root's are.
pub root-settled : (t : Table) → Accepted t → Settled (length t.weights) (root_ways t)
unfolding root_ways minimal
root-settled t ok =
    record {
      inside = root_inside t ok;
      one_sense = root_one_sense t ok;
      lean = minimal-twice (ways t);
      rising = sift-rising 0 _ (ways t) (ways-rising t);
    }
