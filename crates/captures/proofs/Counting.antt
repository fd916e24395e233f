-- What a log counts: every packet but the first is judged, no more are discarded, and reading in pieces makes no difference.
-- Rests on specs/Logs.antt.
use Rattle.std.proofs.Common.{◌≡◌, ℕ, suc, ◌+◌, ◌-◌, ◌<◌, ◌≤◌, Bool, true, false, ltb, List, [], ◌∷◌, ◌++◌, length, get_or, drop, sym, refl, ap, ◌∙◌, true≢false, zero-le, le_trans, lt_of_lt_of_le, arith, ltb-false, ltb-true, lt-ltb}
use Rattle.std.specs.Prelude.{Option, Some, None, is_some, IsSome}
use Rattle.std.proofs.lemmas.List.{drop_more, drop_all}
use mathlib.Core.List.{flatten}
use Rattle.rules.proofs.Booleans.{or_cases, or-first, or-second, or_split}
use Rattle.captures.specs.declared.Log.{Log}
use Rattle.captures.specs.Logs.{discards, after_discarded, after_accepted, after_first, hear, heard_all, silent}
use Rattle.captures.specs.Logs.{limit, packets, is_full, full, capped, in_pieces}

-- ---- one packet

-- What holds after a first packet, after a discarded one and after an accepted one holds after any packet.
hear-by : (P : Log → Type 0) (l : Log) (new : ℕ)
    → (l.last ≡ None → P (after_first l new))
    → ((last : ℕ) → l.last ≡ Some last → P (after_discarded l))
    → ((last : ℕ) → l.last ≡ Some last → P (after_accepted l new))
    → P (hear l new)
unfolding hear
hear-by P l new first late fresh = by l.last refl
  where
    judged : (last : ℕ) (b : Bool) → l.last ≡ Some last → discards last new ≡ b → P (hear l new)
    judged last true h e = rw (h, e, hear) (late last h)
    judged last false h e = rw (h, e, hear) (fresh last h)

    by : (o : Option ℕ) → l.last ≡ o → P (hear l new)
    by None h = rw (h, hear) (first h)
    by (Some last) h = judged last (discards last new) h refl

-- After any packet one was heard.
hear-heard : (l : Log) (new : ℕ) → IsSome (hear l new).last
hear-heard l new = hear-by (λ x. IsSome x.last) l new (λ _. refl) (λ last h. rw h refl) (λ _ _. refl)

-- Behind the first packet each is judged.
hear-judged : (l : Log) (new : ℕ) → IsSome l.last → (hear l new).judged ≡ suc l.judged
hear-judged l new h = hear-by (λ x. x.judged ≡ suc l.judged) l new (λ f. absurd (true≢false (sym h ∙ ap is_some f))) (λ _ _. refl) (λ _ _. refl)

-- The counts of a log are not above those of another.
pub record Grown (l m : Log) : Type 0 where
  pub discarded : l.discarded ≤ m.discarded
  pub judged : l.judged ≤ m.judged

-- No packet takes anything back.
hear-grown : (l : Log) (new : ℕ) → Grown l (hear l new)
hear-grown l new = hear-by (λ x. Grown l x) l new (λ _. as-was) (λ _ _. both) (λ _ _. one)
  where
    as-was : Grown l (after_first l new)
    as-was = record { discarded = omega arith; judged = omega arith }

    both : Grown l (after_discarded l)
    both = record { discarded = omega arith; judged = omega arith }

    one : Grown l (after_accepted l new)
    one = record { discarded = omega arith; judged = omega arith }

-- No more packets are discarded than judged, if so far it was so.
hear-within : (l : Log) (new : ℕ) → l.discarded ≤ l.judged → (hear l new).discarded ≤ (hear l new).judged
hear-within l new h = hear-by (λ x. x.discarded ≤ x.judged) l new (λ _. h) (λ _ _. omega (arith, h)) (λ _ _. omega (arith, h))

-- ---- a list of packets

-- IN PIECES: the packets of two lists one after the other are those of the lists joined.
pub heard-joined : (l : Log) (a b : List ℕ) → heard_all (heard_all l a) b ≡ heard_all l (a ++ b)
unfolding heard_all
heard-joined l [] b = refl
heard-joined l (new ∷ a) b = heard-joined (hear l new) a b

-- From i on a list has its next packet, and those behind it.
pub heard-more : (l : Log) (bs : List ℕ) (i : ℕ) → i < length bs
    → heard_all l (drop i bs) ≡ heard_all (hear l (get_or bs i 0)) (drop (i + 1) bs)
unfolding heard_all
heard-more l bs i h = ap (heard_all l) (drop_more bs i 0 h)

-- Behind its end there are none.
pub heard-ended : (l : Log) (bs : List ℕ) (i : ℕ) → length bs ≤ i → heard_all l (drop i bs) ≡ l
unfolding heard_all
heard-ended l bs i h = ap (heard_all l) (drop_all i bs h)

-- No list takes anything back.
pub heard-grown : (l : Log) (bs : List ℕ) → Grown l (heard_all l bs)
unfolding heard_all
heard-grown l [] = record { discarded = omega arith; judged = omega arith }
heard-grown l (new ∷ bs) =
    let one = hear-grown l new in
    let rest = heard-grown (hear l new) bs in
    record { discarded = le_trans one.discarded rest.discarded; judged = le_trans one.judged rest.judged }

-- A log discards no more packets than it judges.
pub heard-within : (l : Log) (bs : List ℕ) → l.discarded ≤ l.judged → (heard_all l bs).discarded ≤ (heard_all l bs).judged
unfolding heard_all
heard-within l [] h = h
heard-within l (new ∷ bs) h = heard-within (hear l new) bs (hear-within l new h)

-- Behind the first packet each of a list is judged.
heard-judged : (l : Log) (bs : List ℕ) → IsSome l.last → (heard_all l bs).judged ≡ l.judged + length bs
unfolding heard_all
heard-judged l [] h = omega arith
heard-judged l (new ∷ bs) h =
    heard-judged (hear l new) bs (hear-heard l new) ∙ ap (λ k. k + length bs) (hear-judged l new h) ∙ omega arith

-- EVERY PACKET BUT THE FIRST of a log is judged.
pub judged-is : (bs : List ℕ) → (heard_all silent bs).judged ≡ length bs - 1
unfolding heard_all hear
judged-is [] = refl
judged-is (new ∷ bs) = heard-judged (hear silent new) bs refl ∙ omega arith

-- ---- a log that is too long

-- A number that is not below one above the limit is above it too.
above-stays : (a b : ℕ) → a ≤ b → ltb limit a ≡ true → ltb limit b ≡ true
above-stays a b h e = lt-ltb limit b (lt_of_lt_of_le (ltb-true limit a e) h)

-- Once a count is above the limit it stays so.
pub full-stays : (l : Log) (bs : List ℕ) → is_full l ≡ true → is_full (heard_all l bs) ≡ true
unfolding is_full
full-stays l bs h =
    let m : Log = heard_all l bs in
    or_cases
    (ltb limit l.judged)
    (ltb limit l.discarded)
    (λ e. or-first (ltb limit m.judged) (ltb limit m.discarded) (above-stays l.judged m.judged (heard-grown l bs).judged e))
    (λ e.
    or-second
    (ltb limit m.judged)
    (ltb limit m.discarded)
    (above-stays l.discarded m.discarded (heard-grown l bs).discarded e))
    h

-- Where it is not so both counts have room for one more.
pub not_full : (l : Log) → is_full l ≡ false → (l.judged ≤ limit) × (l.discarded ≤ limit)
unfolding is_full
not_full l h =
    let both = or_split (ltb limit l.judged) (ltb limit l.discarded) h in
    (ltb-false limit l.judged both.0, ltb-false limit l.discarded both.1)

-- A full log is handed on as `full`.
pub capped-full : (l : Log) → is_full l ≡ true → capped l ≡ full
unfolding capped
capped-full l h = rw (h, capped) refl

-- So it is whatever it hears.
pub full-early : (l : Log) (bs : List ℕ) → is_full l ≡ true → capped (heard_all l bs) ≡ full
full-early l bs h = capped-full (heard_all l bs) (full-stays l bs h)

-- Any other log is handed on as it is.
pub capped-open : (l : Log) → is_full l ≡ false → capped l ≡ l
unfolding capped
capped-open l h = rw (h, capped) refl

-- HANDED ON from piece to piece a log is what it is in one piece.
pub capped-on : (l : Log) (bs : List ℕ) → capped (heard_all (capped l) bs) ≡ capped (heard_all l bs)
unfolding is_full
capped-on l bs = by (is_full l) refl
  where
    by : (b : Bool) → is_full l ≡ b → capped (heard_all (capped l) bs) ≡ capped (heard_all l bs)
    by true h =
        ap (λ x. capped (heard_all x bs)) (capped-full l h) ∙ full-early full bs refl ∙ sym (full-early l bs h)
    by false h = ap (λ x. capped (heard_all x bs)) (capped-open l h)

-- So for pieces of any lengths.
pub pieces-capped : (l : Log) (ps : List (List ℕ)) → capped (in_pieces l ps) ≡ capped (heard_all l (flatten ps))
unfolding in_pieces heard_all flatten
pieces-capped l [] = refl
pieces-capped l (p ∷ ps) =
    pieces-capped (capped (heard_all l p)) ps ∙ capped-on (heard_all l p) (flatten ps) ∙ ap capped (heard-joined l p (flatten ps))

-- Handing on keeps the discarded packets within the judged ones.
capped-within : (l : Log) → l.discarded ≤ l.judged → (capped l).discarded ≤ (capped l).judged
capped-within l h = by (is_full l) refl
  where
    by : (b : Bool) → is_full l ≡ b → (capped l).discarded ≤ (capped l).judged
    by true e = rw (capped-full l e) (zero-le)
    by false e = rw (capped-open l e) h

-- So does every piece.
pub pieces-within : (l : Log) (ps : List (List ℕ)) → l.discarded ≤ l.judged → (in_pieces l ps).discarded ≤ (in_pieces l ps).judged
unfolding in_pieces
pieces-within l [] h = h
pieces-within l (p ∷ ps) h = pieces-within (capped (heard_all l p)) ps (capped-within (heard_all l p) (heard-within l p h))

-- ---- how many packets were heard

-- With each packet one more.
hear-packets : (l : Log) (new : ℕ) → packets (hear l new) ≡ suc (packets l)
hear-packets l new =
    hear-by (λ x. packets x ≡ suc (packets l)) l new (λ f. rw f refl) (λ _ h. rw h refl) (λ _ h. rw h refl)

-- With a list as many as it has.
heard-packets : (l : Log) (bs : List ℕ) → packets (heard_all l bs) ≡ packets l + length bs
unfolding heard_all
heard-packets l [] = omega arith
heard-packets l (new ∷ bs) = heard-packets (hear l new) bs ∙ ap (λ k. k + length bs) (hear-packets l new) ∙ omega arith

-- A log that is not full has heard at most one packet more than the limit.
pub few-packets : (l : Log) → is_full l ≡ false → packets l ≤ limit + 1
few-packets l h = by l.last refl
  where
    few : l.judged ≤ limit
    few = (not_full l h).0

    by : (o : Option ℕ) → l.last ≡ o → packets l ≤ limit + 1
    by None e = rw e (omega (arith, few))
    by (Some last) e = rw e (omega (arith, few))

-- EVERY PIECE with a packet in it brings a log that is not full on: no log is read for ever.
pub piece-grows : (l : Log) (bs : List ℕ) → is_full l ≡ false → 0 < length bs → packets l < packets (capped (heard_all l bs))
piece-grows l bs h some = by (is_full (heard_all l bs)) refl
  where
    few : packets l ≤ limit + 1
    few = few-packets l h

    by : (b : Bool) → is_full (heard_all l bs) ≡ b → packets l < packets (capped (heard_all l bs))
    by true e = rw (capped-full (heard_all l bs) e) (omega (arith, few))
    by false e = rw (capped-open (heard_all l bs) e) (rw (heard-packets l bs) (omega (arith, some)))

-- ---- for the check's tactics

-- A loop over a piece.
pub ruleset hearing = (heard-more, heard-ended, full-early)
