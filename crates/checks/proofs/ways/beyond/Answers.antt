-- `beyond` meets its contract: a shift by n leaves 0 of a word below 2 ^ n, and only of such a word.
-- Rests on the kit's laws of division.
use mathlib.Core.Path.{◌≡◌, sym, ap, ◌∙◌}
use mathlib.Core.Bool.{not}
use Prim.Native.Nat.{ℕ, ◌/◌, ◌^◌, ◌≤◌, ◌<◌}
use native.Mathlib.Nat.{div-eq_of_lt, le-div_iff_mul-le, one-le-pow}
use native.Mathlib.Decide.{dec_le}
use native.Mathlib.Omega.{arith}
use borrow.Author.Tests.{eq-eqb, ne_eqb, le-leb, lt-leb, le-ltb}
use lib.Dec.{eqb, leb}
use Rattle.std.proofs.Math.Pow.{pow_mono}
use Rattle.checks.proofs.ways.beyond.Goals as goal

-- A quotient is not 0 just if the divisor is at most the number.
quotient-test : (b w : ℕ) → 0 < b → not (eqb (w / b) 0) ≡ leb b w
quotient-test b w pos = split (dec_le b w)
  where
    split : Dec (b ≤ w) → not (eqb (w / b) 0) ≡ leb b w
    split (yes h) =
        let some : 1 ≤ w / b = (le-div_iff_mul-le pos).1 (omega arith) in
        ap not (ne_eqb (w / b) 0 (λ e. omega arith)) ∙ sym (le-leb b w h)
    split (no h) =
        let less : w < b = omega arith in
        ap not (eq-eqb (w / b) 0 (div-eq_of_lt less)) ∙ sym (lt-leb b w less)

pub returns-then-n-lt64 : goal.returns-then-n-lt64
returns-then-n-lt64 c = quotient-test (2 ^ c.args.n) c.args.word (one-le-pow c.args.n 2 (omega arith))

pub returns-else-n-lt64 : goal.returns-else-n-lt64
returns-else-n-lt64 c =
    let above : 2 ^ 64 ≤ 2 ^ c.args.n = pow_mono {i = 64} (omega (arith, c.if-n-lt64.false)) in
    le-ltb c.args.n 64 (omega (arith, c.if-n-lt64.false)) ∙ sym (lt-leb (2 ^ c.args.n) c.args.word (omega (arith, above)))
