-- `next` meets its contract: the first number is that of the lowest set bit, in the low word or in the high one, and its way is the first.
-- Rests on Pairs.antt for the first number, and on Taken.antt.
use mathlib.Core.Path.{◌≡◌, refl, ap, ap₂}
use mathlib.Core.Bool.{true}
use Prim.Native.Nat.{ℕ, ◌<◌}
use native.Mathlib.Omega.{arith}
use borrow.Author.Rules.{rules}
use lib.Bits.{bit_or}
use lib.ListN.{length}
use Rattle.chances.proofs.First.{First, is_one, others_too}
use Rattle.records.specs.Records.{in_words}
use Rattle.clauses.specs.declared.Clauses.{Clauses}
use Rattle.clauses.specs.Numbers.{is_in}
use Rattle.clauses.proofs.Leaf.{no_way}
use Rattle.clauses.proofs.Pairs.{in-none, first_low, first_high}
use Rattle.clauses.proofs.Taken.{taken}
use Rattle.clauses.proofs.taking.WaysIterator.next.Goals as goal

-- The numbers but the first are those of ways of the table too.
inside : (c : Clauses) (a b n : ℕ) → First (is_in c.numbers) (in_words a b) n → (i : ℕ) → in_words a b i ≡ true → i < length c.rows.present.now
inside c a b n f i h = c.inside i (others_too f i h)

pub invariant_of-self : goal.invariant_of-self
invariant_of-self c =
    let l = c.args.self.now.left in
    (tt, (inside l _ _ _ (first_low l.numbers.low l.numbers.high (omega arith) (search rules)), tt), tt)

pub way_at-requires : goal.way_at-requires
way_at-requires c =
    let l = c.args.self.now.left in
    l.inside _ (is_one (first_low l.numbers.low l.numbers.high (omega arith) (search rules)))

pub returns-then-low-ne0-clause-steps : goal.returns-then-low-ne0-clause-steps
returns-then-low-ne0-clause-steps c =
    let l = c.args.self.now.left in
    rw c.way_at.ensures (taken l _ refl refl refl _ (first_low l.numbers.low l.numbers.high (omega arith) (search rules)))

pub returns-then-low-ne0-clause-goes : goal.returns-then-low-ne0-clause-goes
returns-then-low-ne0-clause-goes c = record {
  on = λ t. (search rules, tt, omega (arith, ap length (returns-then-low-ne0-clause-steps c)));
  keeps = search rules;
  rests = λ t. tt;
}

pub invariant_of-self-then-high-ne0 : goal.invariant_of-self-then-high-ne0
invariant_of-self-then-high-ne0 c =
    let l = c.args.self.now.left in
    let f = first_high l.numbers.low l.numbers.high c.if-low-ne0.false (omega arith) (search rules) in
    (tt, (inside l _ _ _ f, tt), tt)

pub way_at-requires-then-high-ne0 : goal.way_at-requires-then-high-ne0
way_at-requires-then-high-ne0 c =
    let l = c.args.self.now.left in
    l.inside _ (is_one (first_high l.numbers.low l.numbers.high c.if-low-ne0.false (omega arith) (search rules)))

pub returns-then-high-ne0-clause-steps : goal.returns-then-high-ne0-clause-steps
returns-then-high-ne0-clause-steps c =
    let l = c.args.self.now.left in
    rw c.way_at-then-high-ne0.ensures
    (taken l _ refl refl refl _ (first_high l.numbers.low l.numbers.high c.if-low-ne0.false (omega arith) (search rules)))

pub returns-then-high-ne0-clause-goes : goal.returns-then-high-ne0-clause-goes
returns-then-high-ne0-clause-goes c = record {
  on = λ t. (search rules, tt, omega (arith, ap length (returns-then-high-ne0-clause-steps c)));
  keeps = search rules;
  rests = λ t. tt;
}

pub returns-clause-steps : goal.returns-clause-steps
returns-clause-steps c =
    let l = c.args.self.now.left in
    let e = no_way l (in-none l.numbers.low l.numbers.high (ap₂ bit_or c.if-low-ne0.false c.if-high-ne0.false)) in (e, e)
