-- `write_all` meets its contract: what a turn writes is the front of what was left.
-- Rests on the contract of `write`.
use Rattle.std.proofs.Common.{◌≡◌, ℕ, List, ◌++◌, ◌-◌, length, take, drop, sym, ap, ◌∙◌, append_assoc}
use Rattle.std.proofs.KnownBytes.{Appends-trans}
use Rattle.std.proofs.lemmas.List.{take-append-drop, take_rest}
use Rattle.output.proofs.Output.write_all.Goals as goal

-- A front of what is left, behind what was written.
moved : (bytes written rest : List ℕ) (n : ℕ) → bytes ≡ written ++ rest → bytes ≡ (written ++ take n rest) ++ take (length rest - n) (drop n rest)
moved bytes written rest n e =
    e
    ∙ ap (λ l. written ++ l) (sym (take-append-drop n rest))
    ∙ sym (append_assoc written (take n rest) (drop n rest))
    ∙ ap (λ l. (written ++ take n rest) ++ l) (sym (take_rest rest n))

pub bytes-preserved : goal.bytes-preserved
bytes-preserved g c =
    let before = c.bytes.invariant in
    let rest = c.bytes.rest.now in
    let n = c.in-Ok.taken in
    (before.0 ++ take n rest, moved _ before.0 rest n before.1, Appends-trans _ _ _ _ _ before.2 c.in-Ok.ensures.bytes)
