-- The answer before the last cue, and how far an answer moves a reader: by one place for a cue, which stands before the 24th, else not at all.
-- Rests on `rules`, Answers for the place after a call, Sheets and WriterLists for the cues that accepted bytes have.
use mathlib.Core.Path.{◌≡◌, refl, sym, ap, ◌∙◌, subst}
use mathlib.Core.Bool.{Bool, true, false}
use mathlib.Core.List.{List}
use Prim.Native.Nat.{ℕ, ◌≤◌, ◌<◌}
use native.Mathlib.Omega.{arith}
use lib.Dec.{ltb}
use borrow.Author.Tests.{lt-ltb, ltb-true}
use Rattle.std.specs.Prelude.{Some, Ok}
use Rattle.rules.specs.Sheet.{lists_in, cues_in, read_refusals, read_number, entry_in, entry_if, entry_answer}
use Rattle.rules.specs.declared.Entry.{Entry}
use Rattle.rules.proofs.Answering.{Comes, accepts, refuses, comes, answered-free}
use Rattle.rules.proofs.Bytes.{length-column}
use Rattle.rules.proofs.Sheets.{read_kept}
use Rattle.rules.proofs.WriterLists.{cues-most}

-- Before the last cue of an accepted sheet the answer is the cue there.
pub before-the-last : (bs : List ℕ) → read_number bs ≡ 0 → (i : ℕ) → i < cues_in bs → entry_answer bs i ≡ Ok (Some (entry_in bs i))
unfolding entry_answer read_number
before-the-last bs accepted i before =
    answered-free (read_refusals bs) (entry_if (ltb i (cues_in bs)) (entry_in bs i)) accepted
    ∙ ap (λ b. Ok (entry_if b (entry_in bs i))) (lt-ltb i (cues_in bs) before)

-- Accepted bytes have at most 24 cues.
few_cues : (bs : List ℕ) → read_number bs ≡ 0 → cues_in bs ≤ 24
unfolding lists_in
few_cues bs accepted = subst (λ (n : ℕ). n ≤ 24) (length-column 2 8 12 (cues_in bs) bs) (cues-most _ (read_kept bs accepted).0.cues)

-- A cue that is handed over stands before the 24th.
pub handed-early : (bs : List ℕ) (i : ℕ) (e : Entry) → entry_answer bs i ≡ Ok (Some e) → i < 24
unfolding entry_answer read_number
handed-early bs i e h = split (comes (read_refusals bs) (entry_if (ltb i (cues_in bs)) (entry_in bs i)))
  where
    there : (b : Bool) → ltb i (cues_in bs) ≡ b → read_number bs ≡ 0 → entry_answer bs i ≡ Ok (entry_if b (entry_in bs i)) → i < 24
    there true q n s = omega (arith, few_cues bs n, ltb-true i (cues_in bs) q)
    there false q n s = absurd (cc (sym s ∙ h))

    split : Comes (read_refusals bs) (entry_if (ltb i (cues_in bs)) (entry_in bs i)) → i < 24
    split (accepts n s) = there (ltb i (cues_in bs)) refl n s
    split (refuses r n s) = absurd (cc (sym s ∙ h))
