-- The sheet as a value and as bytes: the accepted bytes are exactly those of the sheets within the limits, each written in one way only (RULES 7).
-- Rests on Laid.antt for the bytes, on WriterLists.antt for the refusals and on WithinLimits.antt for the limits in plain terms.
use mathlib.Core.Path.{◌≡◌, refl, sym, ap, ap₂, ◌∙◌, subst}
use mathlib.Core.Logic.{◌↔◌}
use mathlib.Core.Bool.{true, false, not, ◌||◌, false≢true}
use mathlib.Core.List.Memᴰ
use mathlib.Core.List.{List, [], ◌∷◌, ◌++◌}
use Prim.Native.Nat.{ℕ, zero, suc, ◌+◌, ◌*◌, ◌≤◌}
use native.Mathlib.Omega.{arith}
use native.Mathlib.Decide.{dec_le}
use lib.ListN.{length, take, drop, replicate, length-drop, take-append-drop}
use lib.Seq.{length-take-le, take-append_seam, drop-append_seam, take_at, drop_at, take_all}
use lib.Dec.{eqb}
use borrow.Author.Tests.{le-ltb, eqb-true, eq-eqb, ne_eqb, not-false}
use Rattle.rules.specs.Refusals.{Test, test, first, faults_outside, cues_outside, not_rising, crowded, mode_above, way_refusals, limit_refusals}
use Rattle.rules.specs.declared.Refusal.{Refusal}
use Rattle.rules.specs.Sheet.{AllBelow, Cue, Sheet, Lists, total, deal, sheet_of, numbers_of, counts_of, present_of, absent_of, lists_of}
use Rattle.rules.specs.Sheet.{weights_start, bodies_start, starts, head_bytes, contents_bytes, weights_bytes, body_bytes, bodies_bytes, encode}
use Rattle.rules.specs.Sheet.{faults_in, cues_in, limits_in, numbers_in, counts_in, places_in, bodies_in, lists_in, decode}
use Rattle.rules.specs.Sheet.{same_numbers, read_refusals, read_number, lists_refusals, Within}
use Rattle.rules.proofs.Bytes.{below-append, little-bytes, length-column, column-below, field-take, column-take}
use Rattle.rules.proofs.Booleans.{or_split, or-neither, and_split, and_both}
use Rattle.rules.proofs.First.{none-applies, first-none, first-here, first-later, first-same}
use Rattle.rules.proofs.Laid.{Paired, paired_none, paired-cons, Agree, Fits, Settled, laid_out, paired-agree, encode-layout, length-numbers}
use Rattle.rules.proofs.Laid.{layout_length, lists_layout, layout_lists, layout_settled}
use Rattle.rules.proofs.WriterLists.{Kept, lists_kept, kept-lists, kept_agree, kept_fits, kept_ends, agree-disagree, faults-most, cues-most, ends-most}
use Rattle.rules.proofs.WithinLimits.{tested-within, within-tested}
use Rattle.rules.proofs.Computing.{of-writing}

-- ---- sheets and their lists

-- A sheet's cues, dealt again from their lists.
deal-lists : (cs : List Cue) → Paired cs → deal (numbers_of cs) (counts_of cs) (present_of cs) (absent_of cs) ≡ cs
unfolding deal numbers_of counts_of present_of absent_of
deal-lists [] h = refl
deal-lists (c ∷ cs) h =
    rw (
      take-append_seam c.present (present_of cs),
      drop-append_seam c.present (present_of cs),
      take_at c.absent (absent_of cs) (length c.present) (h c (Memᴰ.head refl)),
      drop_at c.absent (absent_of cs) (length c.present) (h c (Memᴰ.head refl)),
    )
    (ap (λ (r : List Cue). c ∷ r) (deal-lists cs (λ d i. h d (Memᴰ.tail i))))

-- Cues have these lists, and their words come in pairs.
record Dealt (cs : List Cue) (ns ks ps qs : List ℕ) : Type 0 where
  pub numbers : numbers_of cs ≡ ns
  pub counts : counts_of cs ≡ ks
  pub present : present_of cs ≡ ps
  pub absent : absent_of cs ≡ qs
  pub paired : Paired cs

-- Cues dealt from lists that agree in length have those lists.
lists-deal : (ns ks ps qs : List ℕ) → length ks ≡ length ns → length ps ≡ total ks → length qs ≡ total ks → Dealt (deal ns ks ps qs) ns ks ps qs
unfolding deal numbers_of counts_of present_of absent_of total
lists-deal [] [] [] [] e f g = record { numbers = refl; counts = refl; present = refl; absent = refl; paired = paired_none }
lists-deal [] [] [] (q ∷ qs) e f g = absurd (omega arith)
lists-deal [] [] (p ∷ ps) qs e f g = absurd (omega arith)
lists-deal [] (k ∷ ks) ps qs e f g = absurd (omega arith)
lists-deal (n ∷ ns) [] ps qs e f g = absurd (omega arith)
lists-deal (n ∷ ns) (k ∷ ks) ps qs e f g =
    let rest = lists-deal ns ks (drop k ps) (drop k qs) (omega arith) (omega (arith, length-drop k ps)) (omega (arith, length-drop k qs)) in
    let from_present : length (take k ps) ≡ k = length-take-le k ps (omega arith) in
    let from_absent : length (take k qs) ≡ k = length-take-le k qs (omega arith) in
    record {
      numbers = ap (λ (r : List ℕ). n ∷ r) rest.numbers;
      counts = ap₂ (λ (y : ℕ) (r : List ℕ). y ∷ r) from_present rest.counts;
      present = ap (λ (r : List ℕ). take k ps ++ r) rest.present ∙ take-append-drop k ps;
      absent = ap (λ (r : List ℕ). take k qs ++ r) rest.absent ∙ take-append-drop k qs;
      paired = paired-cons _ _ (from_absent ∙ sym from_present) rest.paired;
    }

-- A sheet within the limits is the one that its lists give.
pub sheet-lists : (s : Sheet) → Within s → sheet_of (lists_of s) ≡ s
unfolding sheet_of lists_of
sheet-lists s w = λ i. record { limits = s.limits; weights = s.weights; cues = deal-lists s.cues w.paired i }

-- Lists that agree in length are those of the sheet that they give.
module _ (x : Lists) (a : Agree x) where
  dealt : Dealt (deal x.numbers x.counts x.present x.absent) x.numbers x.counts x.present x.absent
  dealt = lists-deal x.numbers x.counts x.present x.absent a.counted a.dealt (a.paired ∙ a.dealt)

  lists_given : lists_of (sheet_of x) ≡ x
  unfolding sheet_of lists_of
  lists_given =
      λ i. record {
        limits = x.limits;
        weights = x.weights;
        numbers = dealt.numbers i;
        counts = dealt.counts i;
        present = dealt.present i;
        absent = dealt.absent i;
      }

  -- The bytes of that sheet are those that the lists give.
  pub encode-given : encode (sheet_of x) ≡ laid_out x
  unfolding sheet_of
  encode-given = encode-layout (sheet_of x) dealt.paired ∙ ap laid_out lists_given

-- Lists that the writer keeps are those of the sheet that they give, and that sheet is within the limits.
pub lists-sheet : (x : Lists) → AllBelow 65536 x.numbers → first (lists_refusals x) ≡ 0 → (lists_of (sheet_of x) ≡ x) × Within (sheet_of x)
unfolding sheet_of lists_of
lists-sheet x numbers h =
    let a = kept_agree x (lists_kept x h) in
    let d = dealt x a in
    let kept = ap (λ (y : Lists). first (lists_refusals y)) (lists_given x a) ∙ h in
    (lists_given x a, tested-within (sheet_of x) (record { numbered = rw d.numbers numbers; paired = d.paired; kept = kept }))

-- ---- what reading tests

-- Two lists that the test finds equal are equal.
pub same-equal : (xs ys : List ℕ) → same_numbers xs ys ≡ true → xs ≡ ys
unfolding same_numbers
same-equal [] [] h = refl
same-equal [] (y ∷ ys) h = absurd (false≢true h)
same-equal (x ∷ xs) [] h = absurd (false≢true h)
same-equal (x ∷ xs) (y ∷ ys) h =
    let both = and_split (eqb x y) _ h in
    ap₂ (λ (z : ℕ) (r : List ℕ). z ∷ r) (eqb-true x y both.0) (same-equal xs ys both.1)

-- A list is found equal to itself.
pub equal-same : (xs : List ℕ) → same_numbers xs xs ≡ true
unfolding same_numbers
equal-same [] = refl
equal-same (x ∷ xs) = and_both (eqb x x) _ (eq-eqb x x refl) (equal-same xs)

-- The lists that reading finds agree in length.
found-agree : (bs : List ℕ) → Agree (lists_in bs)
unfolding lists_in
found-agree bs =
    let n : ℕ = total (counts_in bs) in
    record {
      counted = length-column 2 8 14 (cues_in bs) bs ∙ sym (length-column 2 8 12 (cues_in bs) bs);
      paired = length-column 8 16 (bodies_in bs + 8) n bs ∙ sym (length-column 8 16 (bodies_in bs) n bs);
      dealt = length-column 8 16 (bodies_in bs) n bs;
    }

-- Bytes that reading accepts are settled, and the writer keeps their lists.
pub read_kept : (bs : List ℕ) → read_number bs ≡ 0 → Kept (lists_in bs) × Settled bs
unfolding read_number read_refusals way_refusals limit_refusals lists_in
read_kept bs h =
    let n = none-applies (read_refusals bs) h in
    let two = or_split (faults_outside (faults_in bs)) _ n.1.0 in
    let rest = n.1.1.1.1 in
    let faults = length-column 4 4 (weights_start (cues_in bs)) (faults_in bs) bs in (
      record {
        faults = rw faults two.0;
        cues = rw (length-column 2 8 12 (cues_in bs) bs) two.1;
        counted = rw (length-column 2 8 14 (cues_in bs) bs) two.1;
        mode = n.1.1.0;
        rising = rest.0;
        counts = rest.1.0;
        weights = rest.1.1.1.1.0;
        beyond = rw faults rest.1.1.1.1.1.0;
        both = rest.1.1.1.1.1.1.0;
        allowance = rest.1.1.1.1.1.1.1.0;
        budget = rest.1.1.1.1.1.1.1.1.0;
        agree = agree-disagree (lists_in bs) (found-agree bs);
      },
      record {
        places = same-equal _ _ (not-false _ rest.1.1.0);
        ends = eqb-true _ _ (not-false _ rest.1.1.1.0);
      },
    )

-- Settled bytes have their head.
settled-head : (bs : List ℕ) → Settled bs → 12 ≤ length bs
unfolding bodies_start weights_start
settled-head bs s = omega (arith, s.ends)

-- The test finds their places to be right.
settled-places : (bs : List ℕ) → Settled bs → same_numbers (places_in bs) (starts (bodies_in bs) (counts_in bs)) ≡ true
settled-places bs s = rw (← s.places) (equal-same (places_in bs))

-- Settled bytes whose lists the writer keeps are accepted.
kept_read : (bs : List ℕ) → Kept (lists_in bs) → Settled bs → read_number bs ≡ 0
unfolding read_number read_refusals way_refusals limit_refusals lists_in
kept_read bs k s =
    let faults = length-column 4 4 (weights_start (cues_in bs)) (faults_in bs) bs in
    let cues = length-column 2 8 12 (cues_in bs) bs in
    first-later _ _ (le-ltb (length bs) 12 (settled-head bs s))
    ∙ first-later _ _ (or-neither _ _ (rw faults at k.faults) (rw cues at k.cues))
    ∙ first-later _ _ k.mode
    ∙ first-later _ _ (le-ltb (length bs) (bodies_in bs) (omega (arith, s.ends)))
    ∙ first-later _ _ k.rising
    ∙ first-later _ _ k.counts
    ∙ first-later _ _ (ap not (settled-places bs s))
    ∙ first-later _ _ (ap not (eq-eqb _ _ s.ends))
    ∙ first-later _ _ k.weights
    ∙ first-later _ _ (rw faults at k.beyond)
    ∙ first-later _ _ k.both
    ∙ first-later _ _ k.allowance
    ∙ first-later _ _ k.budget
    ∙ first-none

-- ---- a sheet's bytes

-- The parts of a sheet are bytes.
contents-bytes : (i : ℕ) (cs : List Cue) → AllBelow 256 (contents_bytes i cs)
unfolding contents_bytes
contents-bytes i [] = tt
contents-bytes i (c ∷ cs) = let rest = contents-bytes (i + 16 * length c.present) cs in search (below-append, little-bytes)

weights-bytes : (ws : List ℕ) → AllBelow 256 (weights_bytes ws)
unfolding weights_bytes
weights-bytes [] = tt
weights-bytes (w ∷ ws) = let rest = weights-bytes ws in search (below-append, little-bytes)

body-bytes : (ps qs : List ℕ) → AllBelow 256 (body_bytes ps qs)
unfolding body_bytes
body-bytes [] qs = tt
body-bytes (p ∷ ps) [] = tt
body-bytes (p ∷ ps) (q ∷ qs) = let rest = body-bytes ps qs in search (below-append, little-bytes)

bodies-bytes : (cs : List Cue) → AllBelow 256 (bodies_bytes cs)
unfolding bodies_bytes
bodies-bytes [] = tt
bodies-bytes (c ∷ cs) = below-append 256 (body_bytes c.present c.absent) _ (body-bytes c.present c.absent) (bodies-bytes cs)

-- What is written are bytes.
pub encode-bytes : (s : Sheet) → AllBelow 256 (encode s)
unfolding encode head_bytes
encode-bytes s = search (below-append, little-bytes, contents-bytes, weights-bytes, bodies-bytes) depth 10

-- How many bytes are written.
pub encode-length : (s : Sheet) → Paired s.cues
    → length (encode s) ≡ bodies_start (length s.cues) (length s.weights) + 16 * total (counts_of s.cues)
unfolding lists_of
encode-length s h =
    ap length (encode-layout s h) ∙ layout_length (lists_of s) (paired-agree s h)
    ∙ ap (λ (c : ℕ). bodies_start c (length s.weights) + 16 * total (counts_of s.cues)) (length-numbers s.cues)

-- ---- sheets within the limits, and accepted bytes

module _ (s : Sheet) (w : Within s) where
  -- Its lists are kept, agree in length and fit the fields.
  kept : Kept (lists_of s)
  kept = lists_kept (lists_of s) (within-tested s w).kept

  agree : Agree (lists_of s)
  agree = paired-agree s w.paired

  pub fits : Fits (lists_of s)
  unfolding lists_of
  fits = kept_fits (lists_of s) kept (within-tested s w).numbered

  -- Reading finds a sheet's lists in its bytes.
  pub lists_encode : lists_in (encode s) ≡ lists_of s
  lists_encode = ap lists_in (encode-layout s w.paired) ∙ lists_layout (lists_of s) agree fits

  -- The bytes of a sheet within the limits are accepted.
  pub accepts_encoded : read_number (encode s) ≡ 0
  accepts_encoded =
      kept_read (encode s) (subst Kept (sym lists_encode) kept) (subst Settled (sym (encode-layout s w.paired)) (layout_settled (lists_of s) agree fits))

  -- Reading them gives the sheet back.
  pub decode_encode : decode (encode s) ≡ s
  unfolding decode
  decode_encode = ap sheet_of lists_encode ∙ sheet-lists s w

  -- They are 49612 at most.
  pub longest : length (encode s) ≤ 49612
  longest = rw (encode-layout s w.paired, layout_length (lists_of s) agree) (kept_ends (lists_of s) kept)

module _ (bs : List ℕ) (h : AllBelow 256 bs) (accepted : read_number bs ≡ 0) where
  -- The sheet that accepted bytes give has the lists found in them.
  found : (lists_of (decode bs) ≡ lists_in bs) × Within (decode bs)
  unfolding decode lists_in
  found = lists-sheet (lists_in bs) (column-below 2 8 12 (cues_in bs) bs h) (kept-lists (lists_in bs) (read_kept bs accepted).0)

  -- Accepted bytes give a sheet within the limits.
  pub within_decoded : Within (decode bs)
  within_decoded = found.1

  -- Writing that sheet gives the bytes back.
  pub encode_decode : encode (decode bs) ≡ bs
  encode_decode = encode-layout (decode bs) within_decoded.paired ∙ ap laid_out found.0 ∙ layout_lists bs h (read_kept bs accepted).1

-- Bytes that are those of a sheet within the limits.
pub record IsSheet (bs : List ℕ) : Type 0 where
  pub sheet : Sheet
  pub within : Within sheet
  pub bytes : encode sheet ≡ bs

-- Reading accepts exactly the bytes of the sheets within the limits.
pub accepted-exactly : (bs : List ℕ) → AllBelow 256 bs → (read_number bs ≡ 0) ↔ IsSheet bs
accepted-exactly bs h = (
  (λ accepted. record { sheet = decode bs; within = within_decoded bs h accepted; bytes = encode_decode bs h accepted }),
  (λ s. ap read_number (sym s.bytes) ∙ accepts_encoded s.sheet s.within),
)

-- Two sheets within the limits with the same bytes are the same sheet.
pub unique : (s s' : Sheet) → Within s → Within s' → encode s ≡ encode s' → s ≡ s'
unique s s' w w' e = sym (decode_encode s w) ∙ ap decode e ∙ decode_encode s' w'

-- ---- the longest sheet

-- So many cues, numbered from n, each with 128 ways that name no fault.
unfoldable pub full_cues : ℕ → ℕ → List Cue
full_cues n zero = []
full_cues n (suc k) = record { number = n; present = replicate 128 0; absent = replicate 128 0 } ∷ full_cues (suc n) k

-- 24 such cues over 64 faults.
unfoldable pub full_sheet : Sheet
full_sheet = record { limits = record { allowance = 0; budget = 0; mode = 0 }; weights = replicate 64 0; cues = full_cues 1 24 }

-- It is within the limits.
full-numbered : (n k : ℕ) → n + k ≤ 65536 → AllBelow 65536 (numbers_of (full_cues n k))
unfolding full_cues numbers_of
full-numbered n zero h = tt
full-numbered n (suc k) h = (omega arith, full-numbered (suc n) k (omega arith))

full-paired : (n k : ℕ) → Paired (full_cues n k)
unfolding full_cues
full-paired n zero = paired_none
full-paired n (suc k) = paired-cons _ _ refl (full-paired (suc n) k)

full-kept : first (lists_refusals (lists_of full_sheet)) ≡ 0
unfolding full_sheet full_cues of-writing
full-kept = refl

-- A sheet within the limits has 49612 bytes.
pub attained : (s : Sheet) × Within s × (length (encode s) ≡ 49612)
unfolding full_sheet full_cues counts_of total bodies_start weights_start
attained = (
  full_sheet,
  tested-within full_sheet (record { numbered = full-numbered 1 24 (omega arith); paired = full-paired 1 24; kept = full-kept }),
  encode-length full_sheet (full-paired 1 24),
)

-- ---- bytes behind the longest sheet

-- The refusals that bytes longer than every sheet can meet: 2, 3, 5, 6 or 7, else 8.
front_refusals : List ℕ → List Test
front_refusals bs =
    test Refusal.CountsOutside (faults_outside (faults_in bs) || cues_outside (cues_in bs))
    ∷ test Refusal.ModeAbove (mode_above (limits_in bs))
    ∷ test Refusal.NotRising (not_rising (numbers_in bs))
    ∷ test Refusal.Crowded (crowded (counts_in bs))
    ∷ test Refusal.Misplaced (not (same_numbers (places_in bs) (starts (bodies_in bs) (counts_in bs))))
    ∷ test Refusal.WrongLength true
    ∷ []

-- Where 2 does not apply the weights end early, and where 6 does not either, so does the last body.
module _ (bs : List ℕ) (two : (faults_outside (faults_in bs) || cues_outside (cues_in bs)) ≡ false) where
  faults_found : faults_in bs ≤ 64
  faults_found = faults-most (faults_in bs) (or_split (faults_outside (faults_in bs)) _ two).0

  cues_found : cues_in bs ≤ 24
  cues_found = cues-most (cues_in bs) (or_split (faults_outside (faults_in bs)) _ two).1

  bodies_early : bodies_in bs ≤ 460
  unfolding bodies_start weights_start
  bodies_early = omega (arith, faults_found, cues_found)

  ends_early : crowded (counts_in bs) ≡ false → bodies_in bs + 16 * total (counts_in bs) ≤ 49612
  ends_early six =
      let counted : length (counts_in bs) ≡ cues_in bs = length-column 2 8 14 (cues_in bs) bs in
      rw counted at (ends-most (faults_in bs) (counts_in bs) faults_found (rw counted cues_found) six)

  ends_elsewhere : crowded (counts_in bs) ≡ false → 49613 ≤ length bs → not (eqb (length bs) (bodies_in bs + 16 * total (counts_in bs))) ≡ true
  ends_elsewhere six long =
      let end : ℕ = bodies_in bs + 16 * total (counts_in bs) in
      let far : length bs ≡ end → ⊥ = λ same. omega (arith, same, ends_early six) in
      ap not (ne_eqb (length bs) end far)

-- Bytes longer than the longest sheet have the number of those refusals.
too_long : (bs : List ℕ) → 49613 ≤ length bs → read_number bs ≡ first (front_refusals bs)
unfolding read_number read_refusals front_refusals
too_long bs long =
    first-later _ _ (le-ltb (length bs) 12 (omega arith))
    ∙ first-same _ _ _ (λ two.
    first-same _ _ _ (λ three.
    first-later _ _ (le-ltb (length bs) (bodies_in bs) (omega (arith, bodies_early bs two)))
    ∙ first-same _ _ _ (λ five.
    first-same _ _ _ (λ six.
    first-same _ _ _ (λ seven. first-here _ _ (ends_elsewhere bs two six long) ∙ sym (first-here (test Refusal.WrongLength true) [] refl))))))

-- Those refusals look at the first 208 bytes only.
front-take : (m : ℕ) (bs : List ℕ) → 208 ≤ m → first (front_refusals (take m bs)) ≡ first (front_refusals bs)
unfolding front_refusals mode_above
front-take m bs h =
    rw (field-take 2 0 m bs (omega arith), field-take 2 2 m bs (omega arith), field-take 2 10 m bs (omega arith))
    (first-same _ _ _ (λ two.
    let cues : cues_in bs ≤ 24 = cues_found bs two in
    rw (
      column-take 2 8 12 (cues_in bs) m bs (omega arith) (omega arith),
      column-take 2 8 14 (cues_in bs) m bs (omega arith) (omega arith),
      column-take 4 8 16 (cues_in bs) m bs (omega arith) (omega arith),
    )))

-- The number depends on the first 49613 bytes only.
pub first-bytes : (bs : List ℕ) → read_number bs ≡ read_number (take 49613 bs)
first-bytes bs = split (dec_le (length bs) 49613)
  where
    split : Dec (length bs ≤ 49613) → read_number bs ≡ read_number (take 49613 bs)
    split (yes short) = ap read_number (sym (take_all 49613 bs short))
    split (no long) =
        let full : length (take 49613 bs) ≡ 49613 = length-take-le 49613 bs (omega arith) in
        too_long bs (omega arith) ∙ sym (front-take 49613 bs (omega arith)) ∙ sym (too_long (take 49613 bs) (omega arith))
