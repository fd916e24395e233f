-- `remake` meets its contract: no room, no such place, a leaf that is closed or may not be refined so, or the refinement made.
-- Rests on Again.antt, Refuses.antt and the contracts of the functions called.
use Rattle.std.proofs.Common.{sym, ap, arith, ◌∙◌}
use Rattle.rules.specs.Tree.{possible}
use Rattle.records.specs.declared.Node.{Node}
use Rattle.checks.specs.Tables.{table_of}
use Rattle.records.proofs.Live.{lean-at}
use Rattle.records.proofs.SafeTrees.{good_safe}
use Rattle.node.proofs.Words.{same_words}
use Rattle.dtree.proofs.Refuses.{odd-room}
use Rattle.dtree.proofs.Again.{full, beyond_at, closed_at, impossible_at, can_at, some-left}
use Rattle.dtree.proofs.sixteen.remake.Goals as goal

pub returns-then-is_full : goal.returns-then-is_full
returns-then-is_full g c = full _ _ _ _ (sym c.is_full.ensures ∙ c.if-is_full.true)

pub returns-then-next-j : goal.returns-then-next-j
returns-then-next-j g c = beyond_at _ (g.T.Lent.tree c.args.told.now) _ _ _ (ap (λ (n : Node). n.parent) c.record-j.ensures) c.if-next-j.true

pub returns-then-not-is_live : goal.returns-then-not-is_live
returns-then-not-is_live g c =
    closed_at _ (g.T.Lent.tree c.args.told.now) _ _ _ (ap (λ (n : Node). n.parent) c.record-j.ensures) (sym c.is_live.ensures ∙ c.if-not-is_live.true)

pub returns-then-not-may : goal.returns-then-not-may
returns-then-not-may g c =
    let w = same_words _ _ _ _ c.rows.ensures.present c.rows.ensures.absent _ _ c.ways_of-c.ensures in
    let told = c.possible-may.ensures.answer ∙ ap (possible c.kind-kind.result) (w c.args.table.weights.now).ways_are in
    impossible_at (table_of c.args.table) (g.T.Lent.tree c.args.told.now) c.args.again.now _ _ (ap (λ (n : Node). n.parent) c.record-j.ensures)
    _ c.record.ensures _ c.kind-kind.ensures _ told c.if-not-may.true

-- The leaf's record is in the tree, and there is room behind those in use.
pub grow-requires : goal.grow-requires
grow-requires g c =
    let t = table_of c.args.table in
    let y = c.args.again.now in
    let room = some-left y (sym c.is_full.ensures ∙ c.if-is_full.false) in
    record {
      leaf_ways = same_words _ _ _ _ c.rows.ensures.present c.rows.ensures.absent _ _ c.ways_of-c.ensures;
      fault_fits = c.possible-may.ensures.fits c.if-not-may.false;
      safe = good_safe t c.args.table.accepted y c.requires;
      inside = omega (arith, room, c.if-next-j.false);
      room = odd-room t y c.requires room;
      lean = lean-at t c.args.table.accepted y c.requires _;
    }

pub returns : goal.returns
returns g c =
    let w = same_words _ _ _ _ c.rows.ensures.present c.rows.ensures.absent _ _ c.ways_of-c.ensures in
    let told = c.possible-may.ensures.answer ∙ ap (possible c.kind-kind.result) (w c.args.table.weights.now).ways_are in
    can_at (table_of c.args.table) (g.T.Lent.tree c.args.told.now) c.args.again.now _ _ (ap (λ (n : Node). n.parent) c.record-j.ensures)
    _ c.record.ensures _ c.kind-kind.ensures _ told c.if-not-may.false (sym c.is_full.ensures ∙ c.if-is_full.false) c.if-next-j.false
    (sym c.is_live.ensures ∙ c.if-not-is_live.false) c.args.table.accepted c.requires c.grow.ensures.grown c.grow.ensures.two_more
