-- `rebuild` meets its contract. The loop's invariant: what is still to be built answers for the tree.
-- Rests on Again.antt and on the contracts of `put_root`, `remake` and `same_nodes`.
use Rattle.std.proofs.Common.{◌≡◌, subst, sym, ap, ◌∙◌, arith, ℕ, ◌-◌, ◌/◌, ◌%◌, ◌<◌, ◌≤◌}
use Rattle.rules.specs.Table.{Table}
use Rattle.records.specs.declared.Tree.{Tree}
use Rattle.dtree.proofs.Again.{Answers, even, begun, compared, stops, goes, made-so}
use Rattle.dtree.proofs.sixteen.rebuild.Goals as goal

-- The count that was read is the tree's.
read-even : (u v : ℕ) → u ≡ v → u % 2 ≡ 0 → v % 2 ≡ 0
read-even u v e h = ap (λ n. n % 2) (sym e) ∙ h

read-odd : (u v : ℕ) → u ≡ v → (u % 2 ≡ 0 → ⊥) → v % 2 ≡ 0 → ⊥
read-odd u v e f h = f (ap (λ n. n % 2) e ∙ h)

pub returns-then-used-eq0-clause-answer : goal.returns-then-used-eq0-clause-answer
returns-then-used-eq0-clause-answer g c =
    even _ c.args.table.accepted (g.T.Lent.tree c.args.told.now) (read-even _ _ c.used-used.ensures c.if-used-eq0.true)

-- Some refinements are to go while the loop runs, and none at its end.
some-left : (n m i : ℕ) → m ≡ n → i < m / 2 → 0 < n / 2 - i
some-left n m i e h = omega (arith, e, h)

none-left : (n m i : ℕ) → m ≡ n → m / 2 ≤ i → n / 2 - i ≤ 0
none-left n m i e h = omega (arith, e, h)

-- So many are to go.
so-many : (t : Table) (x y : Tree) (n m : ℕ) → n ≡ m → Answers t x y n → Answers t x y m
so-many t x y n m e a = subst (Answers t x y) e a

pub loop-init : goal.loop-init
loop-init g c =
    so-many _ _ _ _ _ (omega arith)
    (begun _ c.args.table.accepted (g.T.Lent.tree c.args.told.now) (read-odd _ _ c.used-used.ensures c.if-used-eq0.false) _ c.put_root.ensures)

pub returns-then-not-remake-clause-answer : goal.returns-then-not-remake-clause-answer
returns-then-not-remake-clause-answer g c =
    stops _ _ _ _ (some-left _ _ _ c.used-used.ensures c.loop-test.true) c.loop.invariant _ _ c.remake.ensures c.if-not-remake.true

pub loop-preserved : goal.loop-preserved
loop-preserved g c =
    so-many _ _ _ _ _ (omega arith)
    (goes _ _ _ _ (some-left _ _ _ c.used-used.ensures c.loop-test.true) c.loop.invariant _ _ c.remake.ensures c.if-not-remake.false)

pub returns-clause-answer : goal.returns-clause-answer
returns-clause-answer g c = compared _ _ _ _ (none-left _ _ _ c.used-used.ensures c.loop-test.false) c.loop.invariant _ c.same_nodes.ensures

pub returns-clause-made : goal.returns-clause-made
returns-clause-made g c =
    made-so _ _ _ _ (none-left _ _ _ c.used-used.ensures c.loop-test.false) (read-odd _ _ c.used-used.ensures c.if-used-eq0.false) c.loop.invariant
    _ c.same_nodes.ensures
