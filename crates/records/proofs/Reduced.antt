-- What `reduce` gives of a chain: where its closure acts as a function, the reduction of the chain's items by that function.
-- Rests on the kit's lemmas of iterators.
use Rattle.std.proofs.Common.{◌≡◌, refl, sym, ap, subst, ◌∙◌, List, [], ◌∷◌, Option, Some, None}
use mathlib.Core.List.{map-id}
use denote.Param.Members.{Mut, Called}
use Rattle.std.specs.List.{fold, reduce, FoldsTo}
use Rattle.std.specs.Iterator.{FoldTurn, ReducesItems}
use Rattle.std.proofs.lemmas.Iterator.{YieldsList}
use Rattle.std.proofs.iter.Yields.{gives_Drains}

module _ {A F : Type 0} (g : Mut F (A × (A × Unit {0})) A) (h : A → A → A) where
  -- The closure f acts as h.
  abbrev pub Acts : F → Type 0
  Acts f = (a x b : A) (q : F) → Called g f (a, (x, tt)) b q → (q ≡ f) × (b ≡ h a x)

  -- Turn after turn.
  turns : (f : F) → Acts f → (xs : List A) (p q : F × A) → p.0 ≡ f → FoldsTo {P = F × A} (FoldTurn g) p xs q → q.1 ≡ fold h p.1 xs
  turns f acts [] p q e c = ap (λ w. w.1) (sym c)
  turns f acts (x ∷ xs) p q e c =
      let m = acts p.1 x c.0.1 c.0.0 (subst (λ w. Called g w (p.1, (x, tt)) c.0.1 c.0.0) e c.1) in
      turns f acts xs c.0 q m.0 c.2 ∙ ap (λ b. fold h b xs) m.1

  pub reduced : {f : F} {S : Type 0} {steps : S → Option A → S → Type 0} {s : S} {all : List A} (r : Option A) → ReducesItems steps g s f r
      → YieldsList steps (λ x. x) s all
      → Acts f
      → r ≡ reduce h all
  reduced {steps = steps} {s} {all} None d e acts = ap (reduce h) (gives_Drains steps (λ x. x) [] all s e.runs d)
  reduced {f} {steps = steps} {s} {all} (Some y) d e acts =
      ap Some (turns f acts d.1 (f, d.0) (d.2, y) refl d.4)
      ∙ ap (reduce h) (sym (map-id (d.0 ∷ d.1)) ∙ gives_Drains steps (λ x. x) (d.0 ∷ d.1) all s e.runs d.3)
