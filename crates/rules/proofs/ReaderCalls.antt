-- The reader's calls: each hands over the cue at its position of the sheet that the bytes give, with that cue's own bytes (RULES 7.11).
-- A refused sheet is refused at every position; at and past the last cue of an accepted one there is nothing to hand over.
-- Rests on RoundTrip.antt for the lists found in bytes, on Laid.antt for where the bodies lie.
use mathlib.Core.Path.{◌≡◌, refl, sym, ap, ap₂, ◌∙◌}
use mathlib.Core.List.Memᴰ
use mathlib.Core.List.{List, [], ◌∷◌, ◌++◌, append_assoc}
use Prim.Native.Nat.{ℕ, zero, suc, ◌+◌, ◌*◌, ◌≤◌, ◌<◌}
use native.Mathlib.Omega.{arith}
use lib.ListN.{length, take, drop, get_or, length-append}
use lib.Dec.{ltb}
use lib.Seq.{take_at, drop_at}
use borrow.Author.Tests.{lt-ltb, le-ltb}
use Rattle.rules.specs.Sheet.{AllBelow, Cue, Sheet, Lists, total, sheet_of, numbers_of, counts_of, lists_of}
use Rattle.rules.specs.Sheet.{weights_start, bodies_start, starts, head_bytes, contents_bytes, weights_bytes, body_bytes, bodies_bytes, encode}
use Rattle.rules.specs.Sheet.{faults_in, cues_in, numbers_in, counts_in, places_in, bodies_in, lists_in, decode}
use Rattle.rules.specs.Sheet.{read_refusals, read_number, entry_in, entry_if, entry_answer, body_in}
use Rattle.std.specs.Prelude.{Some, None, Ok, Err}
use Rattle.rules.specs.Refusals.{number}
use Rattle.rules.specs.declared.Refusal.{Refusal}
use Rattle.rules.proofs.Answering.{answered-free, answered-refused}
use Rattle.rules.proofs.Bytes.{length-column}
use Rattle.rules.proofs.Laid.{Paired, length-body, length-numbers}
use Rattle.rules.proofs.Sheets.{encode-length, within_decoded, encode_decode, read_kept}
use Rattle.rules.proofs.RoundTrip.{lists_decoded}

-- ---- the cue at a position, in the lists of cues

-- Its number.
number_at : (cs : List Cue) (i : ℕ) (d : Cue) → i < length cs → get_or (numbers_of cs) i 0 ≡ (get_or cs i d).number
unfolding numbers_of
number_at [] i d h = absurd (omega arith)
number_at (c ∷ cs) zero d h = refl
number_at (c ∷ cs) (suc i) d h = number_at cs i d (omega arith)

-- The ways that it counts.
count_at : (cs : List Cue) (i : ℕ) (d : Cue) → i < length cs → get_or (counts_of cs) i 0 ≡ length (get_or cs i d).present
unfolding counts_of
count_at [] i d h = absurd (omega arith)
count_at (c ∷ cs) zero d h = refl
count_at (c ∷ cs) (suc i) d h = count_at cs i d (omega arith)

-- Its body, where the first body lies behind so many bytes.
body_at : (front : List ℕ) (start : ℕ) → length front ≡ start → (cs : List Cue) → Paired cs → (i : ℕ) (d : Cue) → i < length cs
    → take (16 * length (get_or cs i d).present) (drop (get_or (starts start (counts_of cs)) i 0) (front ++ bodies_bytes cs))
    ≡ body_bytes (get_or cs i d).present (get_or cs i d).absent
unfolding bodies_bytes counts_of starts
body_at front start e [] p i d there = absurd (omega arith)
body_at front start e (c ∷ cs) p zero d there =
    let own : List ℕ = body_bytes c.present c.absent in
    ap (take (16 * length c.present)) (drop_at front (own ++ bodies_bytes cs) start e)
    ∙ take_at own (bodies_bytes cs) (16 * length c.present) (length-body c.present c.absent (p c (Memᴰ.head refl)))
body_at front start e (c ∷ cs) p (suc i) d there =
    let own : List ℕ = body_bytes c.present c.absent in
    let long = length-body c.present c.absent (p c (Memᴰ.head refl)) in
    let next : length (front ++ own) ≡ start + 16 * length c.present = omega (arith, length-append front own, long) in
    let rest : Paired cs = λ e m. p e (Memᴰ.tail m) in
    rw (← append_assoc front own (bodies_bytes cs)) (body_at (front ++ own) (start + 16 * length c.present) next cs rest i d (omega arith))

-- Sixteen bytes for each way of all cues.
bodies-length : (cs : List Cue) → Paired cs → length (bodies_bytes cs) ≡ 16 * total (counts_of cs)
unfolding bodies_bytes counts_of total
bodies-length [] p = refl
bodies-length (c ∷ cs) p =
    omega (
      arith,
      length-append (body_bytes c.present c.absent) (bodies_bytes cs),
      length-body c.present c.absent (p c (Memᴰ.head refl)),
      bodies-length cs (λ d m. p d (Memᴰ.tail m)),
    )

-- What stands before the bodies of a sheet.
sheet_front : Sheet → List ℕ
sheet_front s =
    head_bytes (length s.weights) (length s.cues) s.limits
    ++ contents_bytes (bodies_start (length s.cues) (length s.weights)) s.cues
    ++ weights_bytes s.weights

-- It ends where the bodies start.
front_length : (s : Sheet) → Paired s.cues → length (sheet_front s) ≡ bodies_start (length s.cues) (length s.weights)
unfolding sheet_front encode
front_length s p = omega (arith, encode-length s p, length-append (sheet_front s) (bodies_bytes s.cues), bodies-length s.cues p)

-- The body of the cue at a position, in a sheet's bytes.
sheet-body : (s : Sheet) → Paired s.cues → (bs : List ℕ) → encode s ≡ bs → (i : ℕ) (d : Cue) → i < length s.cues
    → take (16 * length (get_or s.cues i d).present)
    (drop (get_or (starts (bodies_start (length s.cues) (length s.weights)) (counts_of s.cues)) i 0) bs)
    ≡ body_bytes (get_or s.cues i d).present (get_or s.cues i d).absent
unfolding sheet_front encode
sheet-body s p bs e i d there = rw (← e) (body_at (sheet_front s) _ (front_length s p) s.cues p i d there)

-- ---- the calls

-- A refused sheet is refused with its own number at every position.
pub refused-everywhere : (bs : List ℕ) (n : ℕ) → read_number bs ≡ suc n
    → (r : Refusal) × (number r ≡ suc n) × ((i : ℕ) → entry_answer bs i ≡ Err r)
unfolding entry_answer read_number
refused-everywhere bs n h = let back = answered-refused (read_refusals bs) n h in (back.0, back.1, λ i. back.2 _)

-- At and past the last cue of an accepted sheet there is nothing to hand over.
pub past-the-last : (bs : List ℕ) → read_number bs ≡ 0 → (i : ℕ) → cues_in bs ≤ i → entry_answer bs i ≡ Ok None
unfolding entry_answer read_number
past-the-last bs accepted i late =
    answered-free (read_refusals bs) (entry_if (ltb i (cues_in bs)) (entry_in bs i)) accepted
    ∙ ap (λ b. Ok (entry_if b (entry_in bs i))) (le-ltb i (cues_in bs) late)

-- The call at position i hands over the cue c: its number and ways, the place that the contents state, and at that place its own bytes.
pub record HandsOver (bs : List ℕ) (i : ℕ) (c : Cue) : Type 0 where
  pub answer : entry_answer bs i ≡ Ok (Some (entry_in bs i))
  pub cue : (entry_in bs i).cue ≡ c.number
  pub ways : (entry_in bs i).ways ≡ length c.present
  pub place : get_or (places_in bs) i 0 ≡ (entry_in bs i).start
  pub body : body_in bs (entry_in bs i) ≡ body_bytes c.present c.absent

module _ (bs : List ℕ) (h : AllBelow 256 bs) (accepted : read_number bs ≡ 0) where
  -- The numbers found in the bytes are those of the sheet's cues.
  numbers_decoded : numbers_in bs ≡ numbers_of (decode bs).cues
  unfolding lists_in lists_of
  numbers_decoded = ap (λ (x : Lists). x.numbers) (lists_decoded bs h accepted)

  -- So are the counts.
  counts_decoded : counts_in bs ≡ counts_of (decode bs).cues
  unfolding lists_in lists_of
  counts_decoded = ap (λ (x : Lists). x.counts) (lists_decoded bs h accepted)

  -- It has as many cues as the head says.
  pub cues_decoded : length (decode bs).cues ≡ cues_in bs
  cues_decoded = sym (length-numbers (decode bs).cues) ∙ ap length (sym numbers_decoded) ∙ length-column 2 8 12 (cues_in bs) bs

  -- Its bodies start where the head says.
  bodies_decoded : bodies_in bs ≡ bodies_start (length (decode bs).cues) (length (decode bs).weights)
  unfolding decode sheet_of lists_in
  bodies_decoded = ap₂ bodies_start (sym cues_decoded) (sym (length-column 4 4 (weights_start (cues_in bs)) (faults_in bs) bs))

  -- The places stated in the contents are those of the bodies.
  places_settled : places_in bs ≡ starts (bodies_in bs) (counts_in bs)
  places_settled = (read_kept bs accepted).1.places

  -- A READER'S CALL before the last hands over the cue at its position, whatever `get_or` would give behind the last.
  pub hands_over : (i : ℕ) (d : Cue) → i < cues_in bs → HandsOver bs i (get_or (decode bs).cues i d)
  unfolding entry_answer read_number entry_in body_in
  hands_over i d there =
      let s = decode bs in
      let inside : i < length s.cues = rw cues_decoded there in
      let ways = ap (λ (ks : List ℕ). get_or ks i 0) counts_decoded ∙ count_at s.cues i d inside in
      record {
        answer =
            answered-free (read_refusals bs) (entry_if (ltb i (cues_in bs)) (entry_in bs i)) accepted
            ∙ ap (λ b. Ok (entry_if b (entry_in bs i))) (lt-ltb i (cues_in bs) there);
        cue = ap (λ (ns : List ℕ). get_or ns i 0) numbers_decoded ∙ number_at s.cues i d inside;
        ways = ways;
        place = ap (λ (is : List ℕ). get_or is i 0) places_settled;
        body =
            ap₂ (λ (k : ℕ) (is : List ℕ). take (16 * k) (drop (get_or is i 0) bs)) ways (ap₂ starts bodies_decoded counts_decoded)
            ∙ sheet-body s (within_decoded bs h accepted).paired bs (encode_decode bs h accepted) i d inside;
      }
