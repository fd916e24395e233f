-- A log: which packets are discarded, how many are judged (RULES 14.1 to 14.5), and logs one behind the other (14.11).
-- Rests on the integers of the library; i8 in code is its ℤ.
use Rattle.std.specs.Prelude.{ℕ, suc, ◌+◌, ◌-◌, ◌%◌, Bool, true, false, ◌&&◌, ◌||◌, List, [], ◌∷◌, take, drop, ℤ, pos, ◌-ℤ◌, neg_ℤ, int_le, int_lt, nat_lt, Some, None}
use Rattle.captures.specs.declared.Log.{Log}
use Rattle.captures.specs.declared.Fraction.{Fraction}

-- The most packets judged in a fraction (RULES 14.6).
abbrev pub limit : ℕ
limit = 4000000000

-- The last accepted number subtracted from the new one, on eight bits.
unfoldable pub difference : ℕ → ℕ → ℕ
difference last new = (new + 256 - last) % 256

-- Eight bits read as signed: from 128 on, 256 less.
unfoldable pub signed : ℕ → ℤ
signed d = elim (nat_lt d 128) as (λ b. ℤ) [ true ↦ pos d | false ↦ pos d -ℤ pos 256 ]

-- The packet is discarded if that is at most 0 and above −20.
unfoldable pub discards : ℕ → ℕ → Bool
discards last new = int_le (signed (difference last new)) (pos 0) && int_lt (neg_ℤ (pos 20)) (signed (difference last new))

-- A judged packet that is discarded: the last accepted number stays.
abbrev pub after_discarded : Log → Log
after_discarded l = record l { discarded = suc l.discarded; judged = suc l.judged }

-- A judged packet that is accepted: its number becomes the last.
abbrev pub after_accepted : Log → ℕ → Log
after_accepted l new = record l { last = Some new; judged = suc l.judged }

-- The first packet: accepted and not judged.
abbrev pub after_first : Log → ℕ → Log
after_first l new = record l { last = Some new }

-- A log after one more packet.
unfoldable pub hear : Log → ℕ → Log
hear l new =
    elim l.last as (λ o. Log)
    [ None ↦ after_first l new | Some last ↦ elim (discards last new) as (λ b. Log) [ true ↦ after_discarded l | false ↦ after_accepted l new ] ]

-- After the packets of a list.
unfoldable pub heard_all : Log → List ℕ → Log
heard_all l [] = l
heard_all l (new ∷ bs) = heard_all (hear l new) bs

-- Before the first packet.
abbrev pub silent : Log
silent = record { last = None; discarded = 0; judged = 0 }

-- The packets heard so far: those judged and the first.
abbrev pub packets : Log → ℕ
packets l = elim l.last as (λ o. ℕ) [ None ↦ l.judged | Some last ↦ suc l.judged ]

-- The fraction counted so far.
abbrev pub counted : Log → Fraction
counted l = record { discarded = l.discarded; judged = l.judged }

-- The fraction of a log.
abbrev pub fraction_of : List ℕ → Fraction
fraction_of bs = counted (heard_all silent bs)

-- ---- a log in pieces: counting stops above the limit, since the log is refused whatever follows

-- A count is above the limit.
unfoldable pub is_full : Log → Bool
is_full l = nat_lt limit l.judged || nat_lt limit l.discarded

-- A log that is too long, however it goes on.
abbrev pub full : Log
full = record { last = Some 0; discarded = 0; judged = limit + 1 }

-- A log as it is handed on from piece to piece.
unfoldable pub capped : Log → Log
capped l = elim (is_full l) as (λ b. Log) [ true ↦ full | false ↦ l ]

-- After pieces of any lengths.
unfoldable pub in_pieces : Log → List (List ℕ) → Log
in_pieces l [] = l
in_pieces l (p ∷ ps) = in_pieces (capped (heard_all l p)) ps

-- ---- several logs, whose bytes stand one behind the other

-- The logs of these lengths. A log of which bytes are lacking has those that are there; bytes behind the last log are no log.
unfoldable pub logs_in : List ℕ → List ℕ → List (List ℕ)
logs_in [] bs = []
logs_in (n ∷ ns) bs = take n bs ∷ logs_in ns (drop n bs)
