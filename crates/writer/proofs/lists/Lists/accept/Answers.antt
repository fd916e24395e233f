-- `accept` meets its contract: the tests of the lists, and 22 by the length of the sheet that they give.
-- Rests on Accepted.antt, on `rules`, Answering, and on the contracts of `check_lists` and `bodies_start`.
use Rattle.std.proofs.Common.{◌≡◌, ℕ, ◌+◌, ◌*◌, length, rules, arith, sym, ap, ◌∙◌, nat_lt, refl, Result, Ok, Err, [], ◌∷◌}
use Rattle.rules.specs.Sheet.{Lists, sheet_of, encode, bodies_start, lists_refusals, write_refusals}
use Rattle.rules.specs.Refusals.{first, test, answered}
use Rattle.rules.specs.declared.Refusal.{Refusal}
use Rattle.rules.proofs.Answering.{answered-before, answered-passed, first-accepted}
use Rattle.writer.specs.Given.{given}
use Rattle.writer.proofs.Accepted.{of_space, agreed, laid-length}
use Rattle.writer.proofs.lists.Lists.accept.Goals as goal

module _ (x : Lists) (space : ℕ) (passed : Ok tt ≡ answered {A = Unit {0}} (lists_refusals x) tt) {start : ℕ}
    (e : start ≡ bodies_start (length x.numbers) (length x.weights)) where
  none : first (lists_refusals x) ≡ 0
  none = first-accepted (lists_refusals x) tt tt (sym passed)

  -- The length that the code compares with the space is that of the sheet.
  counted : start + 16 * length x.present ≡ length (encode (sheet_of x))
  counted = omega (arith, e, laid-length x none, (agreed x none).dealt)

  -- Its test comes last.
  last : {w : Result (Unit {0}) Refusal} → w ≡ answered (test Refusal.NoRoom (nat_lt space (start + 16 * length x.present)) ∷ []) tt
      → w ≡ answered (write_refusals x space) tt
  unfolding write_refusals
  last t = t ∙ ap (λ n. answered (test Refusal.NoRoom (nat_lt space n) ∷ []) tt) counted
      ∙ sym (answered-passed (lists_refusals x) (of_space x space) tt tt tt (sym passed))

pub returns-in_err-accepted : goal.returns-in_err-accepted
unfolding write_refusals
returns-in_err-accepted c =
    let x = given c.args.self in
    let e : c.from_residual.result ≡ Err c.in_err-accepted.field-0.0 = search rules in
    rw e (record {
      same = tt;
      answer = sym (answered-before (lists_refusals x) (of_space x c.args.space) tt tt _ (sym c.in_err-accepted.ensures.answer));
    })

pub overflow_add-bodies_start : goal.overflow_add-bodies_start
overflow_add-bodies_start c =
    let same = c.in_ok-accepted.ensures.same in
    let kept = agreed (given c.args.self) (none (given c.args.self) c.args.space c.in_ok-accepted.ensures.answer refl) in
    omega (arith, rw same at c.in_ok-accepted.accepted.short, rw same at c.bodies_start.ensures, kept.dealt)

pub returns-in_err-test : goal.returns-in_err-test
returns-in_err-test c =
    let e : c.from_residual-in_err-test.result ≡ Err c.in_err-test.field-0.0 = search rules in
    let start = rw c.in_ok-accepted.ensures.same at c.bodies_start.ensures in
    rw e (record { same = tt; answer = sym c.in_err-test.was ∙ last (given c.args.self) c.args.space c.in_ok-accepted.ensures.answer start c.test.ensures })

pub returns : goal.returns
returns c =
    let start = rw c.in_ok-accepted.ensures.same at c.bodies_start.ensures in
    record {
      same = c.in_ok-accepted.ensures.same;
      answer = sym c.in_ok-test.was ∙ last (given c.args.self) c.args.space c.in_ok-accepted.ensures.answer start c.test.ensures;
    }
