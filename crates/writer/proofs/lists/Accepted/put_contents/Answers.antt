-- `put_contents` meets its contract.
-- Rests on Over.antt.
use Rattle.std.proofs.Common.{◌≡◌, List, ℕ, [], ◌∷◌, length, ◌⊎◌, inl, inr, refl, arith}
use Rattle.rules.specs.Sheet.{starts}
use Rattle.rules.proofs.Laid.{entries}
use Rattle.writer.proofs.Over.{remains_none}
use Rattle.writer.proofs.lists.Accepted.put_contents.Goals as goal

-- Where one of the lists is empty, no entries are left.
no_entries : (ns ks : List ℕ) (i : ℕ) → (length ns ≡ 0) ⊎ (length ks ≡ 0) → entries ns ks (starts i ks) ≡ []
unfolding entries
no_entries [] ks i h = refl
no_entries (n ∷ ns) [] i h = refl
no_entries (n ∷ ns) (k ∷ ks) i (inl e) = absurd (omega arith)
no_entries (n ∷ ns) (k ∷ ks) i (inr e) = absurd (omega arith)

pub returns : goal.returns
returns c =
    remains_none c.loop-cue.invariant.remains (no_entries _ _ _ (elim c.in-None.ensures.steps [ inl h ↦ inl h.1.0 | inr h ↦ inr h.1.0 ]))
