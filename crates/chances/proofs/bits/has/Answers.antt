-- `has` meets its contract: below 64 bit i is the digit that a shift by i leaves last, and a word has no other bit.
-- Rests on the laws of bits (`rules`, Bits).
use mathlib.Core.Path.{ap, sym, ◌∙◌}
use Prim.Native.Nat.{ℕ, ◌/◌, ◌^◌}
use borrow.Author.Rules.{rules}
use borrow.Author.Tests.{le-ltb}
use lib.Bits.{and_mask}
use lib.Dec.{eqb}
use Rattle.rules.proofs.Bits.{bit-shift, bit_high}
use Rattle.chances.proofs.bits.has.Goals as goal

pub returns-then-i-lt64 : goal.returns-then-i-lt64
returns-then-i-lt64 c = ap (λ (x : ℕ). eqb x 1) (and_mask (c.args.w / 2 ^ c.args.i) 1) ∙ sym (bit-shift c.args.i c.args.w)

pub returns-else-i-lt64 : goal.returns-else-i-lt64
returns-else-i-lt64 c = le-ltb c.args.i 64 c.if-i-lt64.false ∙ sym (bit_high 64 c.args.i c.args.w c.if-i-lt64.false (search rules))
