-- A buffer that was just made holds nothing yet, so that its reader has all that the input has.
-- Rests on std alone.
use Rattle.std.proofs.Common.{◌≡◌, ℕ, List, [], refl, Some, None, Option}
use Rattle.std.specs.Io.KnownBytes.{prepend_known}
use Rattle.std.specs.Io.Buffered.{reader_inner, reader_buffer, reader_capacity, reader_remaining}
use Rattle.std.specs.declared.io.buffered.BufReader.{BufReader}

-- Nothing stands before what is known.
nothing_before : (o : Option (List ℕ)) → prepend_known [] o ≡ o
nothing_before None = refl
nothing_before (Some xs) = refl

-- Such a reader has what the input has.
pub whole : {R A : Type 0} (remaining : R → Option (List ℕ)) (b : BufReader R A) {r : R} → reader_inner b ≡ r → reader_buffer b ≡ []
    → reader_capacity b ≡ 8192 → reader_remaining remaining b ≡ remaining r
whole remaining b {r} inner empty capacity = rw (capacity, empty, inner) (nothing_before (remaining r))
