-- `other_ways` meets its contract. The loop's invariant: the word is within the group's faults and holds every way that is not outside.
-- A sweep that changes the word makes it a larger number, so the sweeps end. Rests on Sweeping.antt and on the contracts of what it calls.
use mathlib.Core.Path.{◌≡◌, sym, ◌∙◌}
use Prim.Native.Nat.{ℕ, ◌-◌, ◌^◌, ◌≤◌, ◌<◌}
use native.Mathlib.Omega.{arith}
use borrow.Author.Rules.{rules}
use Rattle.formula.proofs.Sweeping.{larger, started, wider, again, all_left}
use Rattle.formula.proofs.group.other_ways.Goals as goal

-- A word that grows and is not the same leaves less room below 2 ^ 64.
less-room : (m n : ℕ) → n < 2 ^ 64 → (n ≡ m → ⊥) → m ≤ n → 2 ^ 64 - n < 2 ^ 64 - m
less-room m n h e l = omega arith

pub loop-word-init : goal.loop-word-init
loop-word-init c =
    started c.args.c c.in-Some.first _ (sym c.ways.ensures ∙ c.in-Some.ensures.steps) _ c.faults-word.ensures

pub returns-then-s-word : goal.returns-then-s-word
returns-then-s-word c =
    let l = c.loop-word in
    all_left c.args.c l.word l.outside l.invariant c.within.result c.within.ensures c.sweep-s.result c.sweep-s.ensures c.if-s-word.true
    c.within-then-s-word.result c.within-then-s-word.ensures

pub loop-word-smaller : goal.loop-word-smaller
loop-word-smaller c =
    let l = c.loop-word in
    less-room l.word c.sweep-s.result.word (search rules) c.if-s-word.false
    (larger _ _ (wider c.args.c l.word l.outside l.invariant c.within.result c.within.ensures c.sweep-s.result c.sweep-s.ensures))

pub loop-word-preserved : goal.loop-word-preserved
loop-word-preserved c =
    let l = c.loop-word in
    again c.args.c l.word l.outside l.invariant c.within.result c.within.ensures c.sweep-s.result c.sweep-s.ensures
