-- A reader that is opened on bytes and called again and again (RULES 7.12).
-- Rests on `rules`, Answers for the place after a call and Sheet for its answer.
use Rattle.std.specs.Prelude.{Option, Result, List, ℕ, zero, suc}
use Rattle.rules.specs.Answers.{place_after}
use Rattle.rules.specs.Sheet.{entry_answer}
use Rattle.rules.specs.declared.Entry.{Entry}
use Rattle.rules.specs.declared.Refusal.{Refusal}

-- The place after so many calls: opened at 0, and moved by each answer.
unfoldable pub place_at : List ℕ → ℕ → ℕ
place_at bs zero = 0
place_at bs (suc k) = place_after (place_at bs k) (entry_answer bs (place_at bs k))

-- The answer of the call that follows so many calls.
unfoldable pub call_answer : List ℕ → ℕ → Result (Option Entry) Refusal
call_answer bs k = entry_answer bs (place_at bs k)
