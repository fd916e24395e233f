-- `rows` meets its contract: an accepted table has at most 128 ways, and as many absent words as present ones.
-- Rests on `rules`, Accepted.
use mathlib.Core.Path.{sym}
use Rattle.rules.proofs.Accepted.{few_ways, paired_words}
use Rattle.checks.specs.Tables.{table_of}
use Rattle.checks.proofs.accepted.Table.rows.Goals as goal

pub invariant_of-result : goal.invariant_of-result
invariant_of-result c =
    let t = c.args.self in
    record { short = few_ways (table_of t) t.accepted; paired = sym (paired_words (table_of t) t.accepted) }
