-- `append` meets its contract: what fits is written as one slice.
-- Rests on Appending.antt.
use Rattle.std.proofs.Common.{◌≡◌, ◌+◌, min, length, sym, arith}
use Rattle.report.proofs.Appending.{full_stays, in_place}
use Rattle.report.proofs.text.append.Goals as goal

pub returns-then-used-ge-MOST_BYTES-clause-bytes : goal.returns-then-used-ge-MOST_BYTES-clause-bytes
returns-then-used-ge-MOST_BYTES-clause-bytes c = sym (full_stays c.args.text.now c.args.used c.args.piece.now (omega arith))

pub returns-clause-bytes : goal.returns-clause-bytes
returns-clause-bytes c =
    let end : c.min-end.result ≡ min (c.args.used + length c.args.piece.now) 939 = omega (arith, c.min-end.ensures) in
    in_place c.args.text.now c.args.used c.args.piece.now (omega arith) (omega arith) c.min-end.result end c.copy_from_slice.ensures.after
