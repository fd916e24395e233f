-- What a read of a file does for its log. No contract can say which bytes a file of the system gives, but how many it gave is known; and of a
-- reader whose bytes are known, which they are. A piece is the log after it, or nothing at the end of the file.
-- Rests on `captures`, Logs.
use Rattle.std.specs.Prelude.{◌≡◌, ℕ, Option, Some, None, List, false, ◌<◌}
use Rattle.std.specs.Io.KnownBytes.{Consumes, IsAtEnd}
use Rattle.captures.specs.declared.Log.{Log}
use Rattle.captures.specs.Logs.{heard_all, is_full, capped, packets}

-- A piece brings a log that is not full on: it has heard more packets then.
abbrev pub GoesOn : Log → Option Log → Type 0
GoesOn l (Some m) = is_full l ≡ false → packets l < packets m
GoesOn l None = Unit {0}

-- What a log hears is taken from the front of the known bytes; at the end of a file none was left.
abbrev pub Hears : Option (List ℕ) → Option (List ℕ) → Log → Option Log → Type 0
Hears old new l (Some m) = (bs : List ℕ) × Consumes old new bs × (m ≡ capped (heard_all l bs))
Hears old new l None = IsAtEnd old
