-- `names` meets its contract: no word has a bit from 64 on.
-- Rests on the contracts of `faults` and `has`, and on the laws of bits (`rules`, Bits).
use mathlib.Core.Path.{◌≡◌, sym, ◌∙◌}
use mathlib.Core.Bool.{true, true≢false}
use Prim.Native.Nat.{ℕ, ◌^◌, ◌<◌}
use native.Mathlib.Decide.{dec_lt}
use native.Mathlib.Omega.{arith}
use borrow.Author.Rules.{rules}
use Rattle.rules.specs.Table.{bit}
use Rattle.rules.proofs.Bits.{bit_high}
use Rattle.formula.proofs.child.names.Goals as goal

-- A bit that a word has lies below 64.
below : (f w : ℕ) → w < 2 ^ 64 → bit f w ≡ true → f < 64
below f w h t = by (dec_lt f 64)
  where
    by : Dec (f < 64) → f < 64
    by (yes g) = g
    by (no g) = absurd (true≢false (sym t ∙ bit_high 64 f w (omega arith) h))

pub returns-clause-fits : goal.returns-clause-fits
returns-clause-fits c = λ t. below c.args.f c.faults.result (search rules) (sym c.has.ensures ∙ t)
