-- What bytes with number 0 satisfy of the refusals, as far as a cue's table needs it.
-- Rests on `rules`, First for the refusals and WriterLists for what they say.
use mathlib.Core.Path.{◌≡◌}
use mathlib.Core.Bool.{false}
use mathlib.Core.List.{List}
use Prim.Native.Nat.{ℕ, ◌+◌, ◌*◌, ◌≤◌}
use lib.ListN.{length}
use borrow.Author.Tests.{eqb-true, not-false}
use Rattle.rules.specs.Refusals.{faults_outside, crowded, way_refusals, limit_refusals}
use Rattle.rules.specs.Sheet.{total, faults_in, cues_in, counts_in, bodies_in, read_refusals, read_number}
use Rattle.rules.proofs.Booleans.{or_split}
use Rattle.rules.proofs.First.{none-applies}
use Rattle.rules.proofs.WriterLists.{faults-most, cues-most}

-- Few faults, few cues, few ways to a cue, and the last body ends the bytes.
pub record Few (bs : List ℕ) : Type 0 where
  pub faults : faults_in bs ≤ 64
  pub cues : cues_in bs ≤ 24
  pub counts : crowded (counts_in bs) ≡ false
  pub ends : length bs ≡ bodies_in bs + 16 * total (counts_in bs)

pub accepted-few : (bs : List ℕ) → read_number bs ≡ 0 → Few bs
unfolding read_number read_refusals way_refusals limit_refusals
accepted-few bs h =
    let n = none-applies (read_refusals bs) h in
    let two = or_split (faults_outside (faults_in bs)) _ n.1.0 in
    record {
      faults = faults-most (faults_in bs) two.0;
      cues = cues-most (cues_in bs) two.1;
      counts = n.1.1.1.1.1.0;
      ends = eqb-true _ _ (not-false _ n.1.1.1.1.1.1.1.0);
    }
