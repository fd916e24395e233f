-- Each piece is heard behind those before it; the log is whole where the file ends, and where it is full.
-- Rests on the contract of `read_piece` and on Unbroken.antt.
use Rattle.std.proofs.Common.{sym}
use Rattle.cue_weight.proofs.Unbroken.{started, so-far-on, fewer-left, too-long}
use Rattle.cue_weight.proofs.read_log.Goals as goal

pub loop-file-init : goal.loop-file-init
loop-file-init g c = started _

pub loop-file-smaller : goal.loop-file-smaller
loop-file-smaller g c =
    let unfilled = sym c.loop-file-test.ensures in
    let on = rw c.in-Some.is at c.in_ok-more.ensures.grows in
    fewer-left c.loop-file.log c.in-Some.more unfilled (on unfilled)

pub loop-file-preserved : goal.loop-file-preserved
loop-file-preserved g c =
    let heard = rw c.in-Some.is at c.in_ok-more.ensures.bytes in
    so-far-on _ _ _ c.loop-file.log c.in-Some.more heard.0 c.loop-file.invariant heard.1 heard.2

pub returns-after-loop-file : goal.returns-after-loop-file
returns-after-loop-file g c = record { bytes = too-long _ _ c.loop-file.log c.loop-file.invariant (sym c.loop-file-test.ensures) }
