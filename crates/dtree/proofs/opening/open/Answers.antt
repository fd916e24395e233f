-- `open` meets its contract: a refusal leaves no node, none opens the root leaf.
-- Rests on Opens.antt and the contracts of `clear`, `accept`, `put_root` and `figures`.
use Rattle.std.proofs.Common.{rules}
use Rattle.dtree.proofs.Accepting.{table_refused}
use Rattle.dtree.proofs.Opens.{refuses, opens}
use Rattle.dtree.proofs.opening.open.Goals as goal

pub returns-in_err-table : goal.returns-in_err-table
returns-in_err-table g c =
    let r = c.in_err-table.field-0.0 in
    record { promise = refuses _ _ _ r (search rules) (table_refused _ _ _ _ c.accept.ensures r (search rules)) c.clear.ensures }

pub put_root-requires : goal.put_root-requires
put_root-requires g c = c.clear.ensures

pub returns : goal.returns
returns g c = record { promise = opens _ _ c.in_ok-table.ensures.same c.in_ok-table.table.accepted _ c.put_root.ensures _ c.figures.ensures }
