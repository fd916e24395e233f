-- `put_bodies` meets its contract.
-- Rests on Over.antt.
use Rattle.std.proofs.Common.{◌≡◌, List, ℕ, [], ◌∷◌, length, ◌⊎◌, inl, inr, refl, arith}
use Rattle.rules.specs.Sheet.{body_bytes}
use Rattle.writer.proofs.Over.{remains_none}
use Rattle.writer.proofs.lists.Lists.put_bodies.Goals as goal

-- Where one of the lists is empty, no ways are left.
no_ways : (ps qs : List ℕ) → (length ps ≡ 0) ⊎ (length qs ≡ 0) → body_bytes ps qs ≡ []
unfolding body_bytes
no_ways [] qs h = refl
no_ways (p ∷ ps) [] h = refl
no_ways (p ∷ ps) (q ∷ qs) (inl e) = absurd (omega arith)
no_ways (p ∷ ps) (q ∷ qs) (inr e) = absurd (omega arith)

pub returns : goal.returns
returns c = remains_none c.loop-present.invariant (no_ways _ _ (elim c.in-None.ensures.steps [ inl h ↦ inl h.1.0 | inr h ↦ inr h.1.0 ]))
