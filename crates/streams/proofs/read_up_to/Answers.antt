-- `read_up_to` meets its contract: nothing is lost of what is read.
-- Rests on Front.antt.
use Rattle.streams.proofs.Front.{front}
use Rattle.streams.proofs.read_up_to.Goals as goal

pub returns : goal.returns
returns g c = record {
  front = front g.R.Read.remaining c.take.result _ _ _ c.take.ensures.limit c.take.ensures.inner c.in_ok-bytes.ensures.items c.read_to_end.ensures.none_lost;
}
