-- The lists of a call as the record that the definitions speak of, and the refusals that come before the ways.
-- Rests on `rules`, Refusals and Sheet.
use Rattle.std.specs.Prelude.{◌||◌, List, [], ◌∷◌, ℕ, ◌+◌, ◌*◌, ◌≤◌, length}
use Rattle.rules.specs.Refusals.{Test, test, faults_outside, cues_outside, mode_above, not_rising, crowded, overweight}
use Rattle.rules.specs.Sheet as sheet
use Rattle.rules.specs.declared.Limits.{Limits}
use Rattle.rules.specs.declared.Refusal.{Refusal}
use Rattle.writer.specs.declared.lists.Lists.{Lists}

-- The lists of a call.
abbrev pub given : Lists → sheet.Lists
given x =
    record {
      limits = x.limits;
      weights = x.weights.now;
      numbers = x.numbers.now;
      counts = x.counts.now;
      present = x.present.now;
      absent = x.absent.now;
    }

-- Lists whose words end at byte 49612, where the longest sheet ends, or before.
abbrev pub Short : sheet.Lists → Type 0
Short x = sheet.bodies_start (length x.numbers) (length x.weights) + 16 * sheet.total x.counts ≤ 49612

-- 2, 3, 5, 6 and 10: all but the ways, allowance and budget, and the lengths of the lists.
unfoldable pub front_refusals : Limits → List ℕ → List ℕ → List ℕ → List Test
front_refusals m ws ns ks =
    test Refusal.CountsOutside (faults_outside (length ws) || (cues_outside (length ns) || cues_outside (length ks)))
    ∷ test Refusal.ModeAbove (mode_above m)
    ∷ test Refusal.NotRising (not_rising ns)
    ∷ test Refusal.Crowded (crowded ks)
    ∷ test Refusal.Overweight (overweight ws)
    ∷ []
