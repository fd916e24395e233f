-- A log read piece by piece has heard the whole file: the pieces follow one another, and where it is too long, what was left unread is nothing to it.
-- Rests on `captures`, Counting.
use Rattle.std.proofs.Common.{◌≡◌, ℕ, ◌+◌, ◌-◌, ◌<◌, Bool, true, false, List, [], ◌++◌, refl, sym, ap, ◌∙◌, append_assoc, arith}
use Rattle.std.specs.Prelude.{Option, Some, None, IfSome}
use Rattle.std.specs.Io.KnownBytes.{Consumes}
use Rattle.captures.specs.declared.Log.{Log}
use Rattle.captures.specs.Logs.{heard_all, is_full, capped, silent, limit, packets}
use Rattle.captures.proofs.Counting.{heard-joined, full-stays, capped-full, capped-open, capped-on, few-packets, piece-grows}

-- What a log has heard of a reader: some bytes, which are taken from the front of those that were known.
abbrev pub SoFar : Option (List ℕ) → Option (List ℕ) → Log → Type 0
SoFar old new l = (bs : List ℕ) × Consumes old new bs × (l ≡ capped (heard_all silent bs))

-- Before the first piece it has heard none.
pub started : (a : Option (List ℕ)) → SoFar a a silent
unfolding heard_all capped is_full
started None = ([], tt, refl)
started (Some xs) = ([], refl, refl)

-- Two lists taken one after the other are the lists joined.
consumes-joined : (a b c : Option (List ℕ)) (p q : List ℕ) → Consumes a b p → Consumes b c q → Consumes a c (p ++ q)
consumes-joined None b c p q h k = tt
consumes-joined (Some xs) None c p q h k = absurd h
consumes-joined (Some xs) (Some ys) None p q h k = k
consumes-joined (Some xs) (Some ys) (Some zs) p q h k = h ∙ ap (λ t. p ++ t) k ∙ sym (append_assoc p q zs)

-- One piece more.
pub so-far-on : (a b c : Option (List ℕ)) (l m : Log) (q : List ℕ) → SoFar a b l → Consumes b c q → m ≡ capped (heard_all l q) → SoFar a c m
so-far-on a b c l m q (p, h, e) k f = (
  p ++ q,
  consumes-joined a b c p q h k,
  f ∙ ap (λ x. capped (heard_all x q)) e ∙ capped-on (heard_all silent p) q ∙ ap capped (heard-joined silent p q),
)

-- A piece leaves fewer packets to come.
pub fewer-left : (l m : Log) → is_full l ≡ false → packets l < packets m → limit + 2 - packets m < limit + 2 - packets l
fewer-left l m h on = omega (arith, few-packets l h, on)

-- A log that is full once it is handed on was so before.
full-before : (x : Log) → is_full (capped x) ≡ true → is_full x ≡ true
full-before x h = by (is_full x) refl
  where
    by : (b : Bool) → is_full x ≡ b → is_full x ≡ true
    by true e = e
    by false e = sym (ap is_full (capped-open x e)) ∙ h

-- Where it is too long, so it is with what was left.
pub too-long : (a b : Option (List ℕ)) (l : Log) → SoFar a b l → is_full l ≡ true → IfSome a (λ bs. l ≡ capped (heard_all silent bs))
too-long None b l (p, h, e) k = tt
too-long (Some xs) None l (p, h, e) k = absurd h
too-long (Some xs) (Some ys) l (p, h, e) k =
    let front : is_full (heard_all silent p) ≡ true = full-before (heard_all silent p) (ap is_full (sym e) ∙ k) in
    let whole : is_full (heard_all silent xs) ≡ true =
    ap (λ t. is_full (heard_all silent t)) h ∙ ap is_full (sym (heard-joined silent p ys)) ∙ full-stays (heard_all silent p) ys front in
    e ∙ capped-full (heard_all silent p) front ∙ sym (capped-full (heard_all silent xs) whole)

-- ---- for the check's tactics

-- A piece with a packet or more brings the log on.
pub ruleset growing = (piece-grows)
