-- A sheet's bytes as they follow from its lists: `laid_out`, which is what `encode` writes, and which reading undoes both ways.
-- Rests on Bytes.antt. Nothing here knows of refusals: `Fits` holds what the fields' widths ask of the lists.
use mathlib.Core.Path.{◌≡◌, refl, sym, ap, ap₂, ◌∙◌}
use mathlib.Core.List.Memᴰ
use mathlib.Core.List.{List, [], ◌∷◌, ◌++◌, append_assoc}
use Prim.Native.Nat.{ℕ, zero, suc, ◌+◌, ◌*◌, ◌^◌, ◌<◌, ◌≤◌}
use native.Mathlib.Omega.{arith}
use lib.ListN.{length, take, drop, length-append, length-drop, take-append-drop}
use lib.Seq.{take-add, drop_at, take_all}
use Rattle.rules.specs.Members.{In}
use Rattle.rules.specs.Sheet.{little, field, column, AllBelow, Cue, Sheet, Lists, total, numbers_of, counts_of, present_of, absent_of, lists_of}
use Rattle.rules.specs.Sheet.{weights_start, bodies_start, starts, head_bytes, contents_bytes, weights_bytes, body_bytes, bodies_bytes, encode}
use Rattle.rules.specs.Sheet.{faults_in, cues_in, limits_in, numbers_in, counts_in, places_in, weights_in, bodies_in, present_in, absent_in, lists_in}
use Rattle.rules.proofs.Bytes.{below-drop, value-little, length-column, column-drop, column-at, front-field, front-row}

-- The contents: a number, a count and a place for each cue.
unfoldable pub entries : List ℕ → List ℕ → List ℕ → List ℕ
entries [] ks is = []
entries (n ∷ ns) [] is = []
entries (n ∷ ns) (k ∷ ks) [] = []
entries (n ∷ ns) (k ∷ ks) (i ∷ is) = little 2 n ++ little 2 k ++ little 4 i ++ entries ns ks is

-- The places of the bodies that lists count.
abbrev pub places_of : Lists → List ℕ
places_of x = starts (bodies_start (length x.numbers) (length x.weights)) x.counts

-- The four parts of the bytes that lists give.
abbrev pub head_part : Lists → List ℕ
head_part x = head_bytes (length x.weights) (length x.numbers) x.limits

abbrev pub contents_part : Lists → List ℕ
contents_part x = entries x.numbers x.counts (places_of x)

abbrev pub weights_part : Lists → List ℕ
weights_part x = weights_bytes x.weights

abbrev pub bodies_part : Lists → List ℕ
bodies_part x = body_bytes x.present x.absent

-- The bytes that lists give.
unfoldable pub laid_out : Lists → List ℕ
laid_out x = head_part x ++ contents_part x ++ weights_part x ++ bodies_part x

-- Lists that agree in length with each other and with the ways that the cues count.
pub record Agree (x : Lists) : Type 0 where
  pub counted : length x.counts ≡ length x.numbers
  pub paired : length x.absent ≡ length x.present
  pub dealt : length x.present ≡ total x.counts

-- ---- lengths

-- Eight bytes a cue.
pub length-entries : (ns ks is : List ℕ) → length ks ≡ length ns → length is ≡ length ns → length (entries ns ks is) ≡ 8 * length ns
unfolding entries little
length-entries [] ks is e f = refl
length-entries (n ∷ ns) [] is e f = absurd (omega arith)
length-entries (n ∷ ns) (k ∷ ks) [] e f = absurd (omega arith)
length-entries (n ∷ ns) (k ∷ ks) (i ∷ is) e f = omega (arith, length-entries ns ks is (omega arith) (omega arith))

-- Four bytes a weight.
pub length-weights : (ws : List ℕ) → length (weights_bytes ws) ≡ 4 * length ws
unfolding weights_bytes little
length-weights [] = refl
length-weights (w ∷ ws) = omega (arith, length-weights ws)

-- Sixteen bytes a way.
pub length-body : (ps qs : List ℕ) → length qs ≡ length ps → length (body_bytes ps qs) ≡ 16 * length ps
unfolding body_bytes little
length-body [] qs e = refl
length-body (p ∷ ps) [] e = absurd (omega arith)
length-body (p ∷ ps) (q ∷ qs) e = omega (arith, length-body ps qs (omega arith))

-- A place for each count.
pub length-starts : (i : ℕ) (ks : List ℕ) → length (starts i ks) ≡ length ks
unfolding starts
length-starts i [] = refl
length-starts i (k ∷ ks) = ap suc (length-starts (i + 16 * k) ks)

-- Every body starts at or before the end of the last.
pub starts-below : (m i : ℕ) (ks : List ℕ) → i + 16 * total ks < m → AllBelow m (starts i ks)
unfolding starts total
starts-below m i [] h = tt
starts-below m i (k ∷ ks) h = (omega arith, starts-below m (i + 16 * k) ks (omega arith))

module _ (x : Lists) (a : Agree x) where
  -- A place for each cue.
  length_places : length (places_of x) ≡ length x.numbers
  length_places = length-starts (bodies_start (length x.numbers) (length x.weights)) x.counts ∙ a.counted

  -- Head and contents end where the weights start.
  front_length : length (head_part x ++ contents_part x) ≡ weights_start (length x.numbers)
  unfolding head_bytes little weights_start
  front_length = omega (arith, length-entries x.numbers x.counts (places_of x) a.counted length_places)

  -- Head, contents and weights end where the bodies start.
  middle_length : length (head_part x ++ contents_part x ++ weights_part x) ≡ bodies_start (length x.numbers) (length x.weights)
  unfolding bodies_start
  middle_length = omega (arith, length-append (head_part x ++ contents_part x) (weights_part x), front_length, length-weights x.weights)

  -- The bytes that lists give, counted.
  pub layout_length : length (laid_out x) ≡ bodies_start (length x.numbers) (length x.weights) + 16 * total x.counts
  unfolding laid_out
  layout_length =
      omega (
        arith,
        length-append (head_part x ++ contents_part x ++ weights_part x) (bodies_part x),
        middle_length,
        length-body x.present x.absent a.paired,
        a.dealt,
      )

-- ---- the lists of a sheet

-- A number for each cue.
pub length-numbers : (cs : List Cue) → length (numbers_of cs) ≡ length cs
unfolding numbers_of
length-numbers [] = refl
length-numbers (c ∷ cs) = ap suc (length-numbers cs)

-- A count for each cue.
pub length-counts : (cs : List Cue) → length (counts_of cs) ≡ length cs
unfolding counts_of
length-counts [] = refl
length-counts (c ∷ cs) = ap suc (length-counts cs)

-- Present words as the cues count.
length-present : (cs : List Cue) → length (present_of cs) ≡ total (counts_of cs)
unfolding present_of counts_of total
length-present [] = refl
length-present (c ∷ cs) = omega (arith, length-append c.present (present_of cs), length-present cs)

-- Every cue has as many absent words as present words.
abbrev pub Paired : List Cue → Type 0
Paired cs = (c : Cue) → In c cs → length c.absent ≡ length c.present

-- Cues are so, one by one.
pub paired_none : Paired []
paired_none c i = absurd (Memᴰ.not-nil i)

pub paired-cons : (c : Cue) (cs : List Cue) → length c.absent ≡ length c.present → Paired cs → Paired (c ∷ cs)
paired-cons c cs e h d (Memᴰ.head same) = rw same e
paired-cons c cs e h d (Memᴰ.tail i) = h d i

-- As many absent as present words, if they come in pairs.
length-absent : (cs : List Cue) → Paired cs → length (absent_of cs) ≡ length (present_of cs)
unfolding present_of absent_of
length-absent [] h = refl
length-absent (c ∷ cs) h =
    omega (
      arith,
      length-append c.absent (absent_of cs),
      length-append c.present (present_of cs),
      h c (Memᴰ.head refl),
      length-absent cs (λ d i. h d (Memᴰ.tail i)),
    )

-- The lists of a sheet with its words in pairs agree in length.
pub paired-agree : (s : Sheet) → Paired s.cues → Agree (lists_of s)
unfolding lists_of
paired-agree s h =
    record {
      counted = length-counts s.cues ∙ sym (length-numbers s.cues);
      paired = length-absent s.cues h;
      dealt = length-present s.cues;
    }

-- ---- what encode writes

-- The body of two lists of words, joined from two bodies.
body-append : (ps qs ps' qs' : List ℕ) → length qs ≡ length ps → body_bytes (ps ++ ps') (qs ++ qs') ≡ body_bytes ps qs ++ body_bytes ps' qs'
unfolding body_bytes
body-append [] [] ps' qs' e = refl
body-append [] (q ∷ qs) ps' qs' e = absurd (omega arith)
body-append (p ∷ ps) [] ps' qs' e = absurd (omega arith)
body-append (p ∷ ps) (q ∷ qs) ps' qs' e =
    ap (λ (r : List ℕ). little 8 p ++ little 8 q ++ r) (body-append ps qs ps' qs' (omega arith))
    ∙ sym (append_assoc (little 8 p ++ little 8 q) (body_bytes ps qs) (body_bytes ps' qs'))

-- The bodies of cues are one body of all their words.
bodies-body : (cs : List Cue) → Paired cs → bodies_bytes cs ≡ body_bytes (present_of cs) (absent_of cs)
unfolding bodies_bytes body_bytes present_of absent_of
bodies-body [] h = refl
bodies-body (c ∷ cs) h =
    ap (λ (r : List ℕ). body_bytes c.present c.absent ++ r) (bodies-body cs (λ d i. h d (Memᴰ.tail i)))
    ∙ sym (body-append c.present c.absent (present_of cs) (absent_of cs) (h c (Memᴰ.head refl)))

-- The contents of cues are the entries of their lists.
contents-entries : (i : ℕ) (cs : List Cue) → contents_bytes i cs ≡ entries (numbers_of cs) (counts_of cs) (starts i (counts_of cs))
unfolding contents_bytes entries numbers_of counts_of starts
contents-entries i [] = refl
contents-entries i (c ∷ cs) =
    ap (λ (r : List ℕ). little 2 c.number ++ little 2 (length c.present) ++ little 4 i ++ r) (contents-entries (i + 16 * length c.present) cs)

-- The bytes of a sheet are those that its lists give.
pub encode-layout : (s : Sheet) → Paired s.cues → encode s ≡ laid_out (lists_of s)
unfolding encode laid_out lists_of
encode-layout s h = rw (length-numbers s.cues, contents-entries _ s.cues, bodies-body s.cues h)

-- ---- reading what was laid out

-- What the widths of the fields ask of lists.
pub record Fits (x : Lists) : Type 0 where
  pub faults : length x.weights < 256 ^ 2
  pub cues : length x.numbers < 256 ^ 2
  pub allowance : x.limits.allowance < 256 ^ 4
  pub budget : x.limits.budget < 256 ^ 2
  pub mode : x.limits.mode < 256 ^ 2
  pub numbers : AllBelow (256 ^ 2) x.numbers
  pub counts : AllBelow (256 ^ 2) x.counts
  pub weights : AllBelow (256 ^ 4) x.weights
  pub present : AllBelow (256 ^ 8) x.present
  pub absent : AllBelow (256 ^ 8) x.absent
  pub ends : bodies_start (length x.numbers) (length x.weights) + 16 * total x.counts < 256 ^ 4

-- Settled bytes: their places and their length are those that their own numbers ask for.
pub record Settled (bs : List ℕ) : Type 0 where
  pub places : places_in bs ≡ starts (bodies_in bs) (counts_in bs)
  pub ends : length bs ≡ bodies_in bs + 16 * total (counts_in bs)

-- The three columns of the contents.
entries-read : (ns ks is post : List ℕ) → length ks ≡ length ns → length is ≡ length ns
    → AllBelow (256 ^ 2) ns → AllBelow (256 ^ 2) ks → AllBelow (256 ^ 4) is
    → (column 2 8 0 (length ns) (entries ns ks is ++ post) ≡ ns)
    × (column 2 8 2 (length ns) (entries ns ks is ++ post) ≡ ks)
    × (column 4 8 4 (length ns) (entries ns ks is ++ post) ≡ is)
unfolding entries column field little
entries-read [] [] [] post e f a b c = (refl, refl, refl)
entries-read [] [] (i ∷ is) post e f a b c = absurd (omega arith)
entries-read [] (k ∷ ks) is post e f a b c = absurd (omega arith)
entries-read (n ∷ ns) [] is post e f a b c = absurd (omega arith)
entries-read (n ∷ ns) (k ∷ ks) [] post e f a b c = absurd (omega arith)
entries-read (n ∷ ns) (k ∷ ks) (i ∷ is) post e f a b c =
    let all : List ℕ = entries (n ∷ ns) (k ∷ ks) (i ∷ is) ++ post in
    let rest = entries-read ns ks is post (omega arith) (omega arith) a.1 b.1 c.1 in (
      ap₂ (λ (x : ℕ) (r : List ℕ). x ∷ r) (value-little 2 n a.0) (column-drop 2 8 8 0 (length ns) all ∙ rest.0),
      ap₂ (λ (x : ℕ) (r : List ℕ). x ∷ r) (value-little 2 k b.0) (column-drop 2 8 8 2 (length ns) all ∙ rest.1),
      ap₂ (λ (x : ℕ) (r : List ℕ). x ∷ r) (value-little 4 i c.0) (column-drop 4 8 8 4 (length ns) all ∙ rest.2),
    )

-- The column of the weights.
weights-read : (ws post : List ℕ) → AllBelow (256 ^ 4) ws → column 4 4 0 (length ws) (weights_bytes ws ++ post) ≡ ws
unfolding weights_bytes column field little
weights-read [] post h = refl
weights-read (w ∷ ws) post h =
    ap₂ (λ (x : ℕ) (r : List ℕ). x ∷ r) (value-little 4 w h.0)
    (column-drop 4 4 4 0 (length ws) (weights_bytes (w ∷ ws) ++ post) ∙ weights-read ws post h.1)

-- The two columns of the bodies.
body-read : (ps qs : List ℕ) → length qs ≡ length ps → AllBelow (256 ^ 8) ps → AllBelow (256 ^ 8) qs
    → (column 8 16 0 (length ps) (body_bytes ps qs) ≡ ps) × (column 8 16 8 (length ps) (body_bytes ps qs) ≡ qs)
unfolding body_bytes column field little
body-read [] [] e a b = (refl, refl)
body-read [] (q ∷ qs) e a b = absurd (omega arith)
body-read (p ∷ ps) [] e a b = absurd (omega arith)
body-read (p ∷ ps) (q ∷ qs) e a b =
    let rest = body-read ps qs (omega arith) a.1 b.1 in (
      ap₂ (λ (x : ℕ) (r : List ℕ). x ∷ r) (value-little 8 p a.0) (column-drop 8 16 16 0 (length ps) (body_bytes (p ∷ ps) (q ∷ qs)) ∙ rest.0),
      ap₂ (λ (x : ℕ) (r : List ℕ). x ∷ r) (value-little 8 q b.0) (column-drop 8 16 16 8 (length ps) (body_bytes (p ∷ ps) (q ∷ qs)) ∙ rest.1),
    )

module _ (x : Lists) (a : Agree x) (f : Fits x) where
  -- The head.
  faults_read : faults_in (laid_out x) ≡ length x.weights
  unfolding laid_out head_bytes field little
  faults_read = value-little 2 (length x.weights) f.faults

  cues_read : cues_in (laid_out x) ≡ length x.numbers
  unfolding laid_out head_bytes field little
  cues_read = value-little 2 (length x.numbers) f.cues

  limits_read : limits_in (laid_out x) ≡ x.limits
  unfolding laid_out head_bytes field little
  limits_read =
      λ i.
      record {
        allowance = value-little 4 x.limits.allowance f.allowance i;
        budget = value-little 2 x.limits.budget f.budget i;
        mode = value-little 2 x.limits.mode f.mode i;
      }

  -- What stands behind the head, behind the contents and behind the weights.
  after_head : drop 12 (laid_out x) ≡ contents_part x ++ (weights_part x ++ bodies_part x)
  unfolding laid_out head_bytes little
  after_head = append_assoc (contents_part x) (weights_part x) (bodies_part x)

  after_contents : drop (weights_start (length x.numbers)) (laid_out x) ≡ weights_part x ++ bodies_part x
  unfolding laid_out
  after_contents =
      ap (drop (weights_start (length x.numbers))) (append_assoc (head_part x ++ contents_part x) (weights_part x) (bodies_part x))
      ∙ drop_at (head_part x ++ contents_part x) (weights_part x ++ bodies_part x) _ (front_length x a)

  after_weights : drop (bodies_start (length x.numbers) (length x.weights)) (laid_out x) ≡ bodies_part x
  unfolding laid_out
  after_weights = drop_at (head_part x ++ contents_part x ++ weights_part x) (bodies_part x) _ (middle_length x a)

  -- Each column of the contents stands so far behind the head.
  contents_read : (k o : ℕ) → column k 8 (12 + o) (cues_in (laid_out x)) (laid_out x)
      ≡ column k 8 o (length x.numbers) (contents_part x ++ (weights_part x ++ bodies_part x))
  contents_read k o = rw (cues_read, column-drop k 8 12 o (length x.numbers) (laid_out x), after_head)

  -- The numbers, the counts and the places.
  columns_read : (numbers_in (laid_out x) ≡ x.numbers) × (counts_in (laid_out x) ≡ x.counts) × (places_in (laid_out x) ≡ places_of x)
  columns_read =
      let places : AllBelow (256 ^ 4) (places_of x) = starts-below (256 ^ 4) _ x.counts f.ends in
      let behind : List ℕ = weights_part x ++ bodies_part x in
      let read = entries-read x.numbers x.counts (places_of x) behind a.counted (length_places x a) f.numbers f.counts places in
      (contents_read 2 0 ∙ read.0, contents_read 2 2 ∙ read.1, contents_read 4 4 ∙ read.2)

  -- The weights.
  weights-in : weights_in (laid_out x) ≡ x.weights
  weights-in =
      rw (cues_read, faults_read, column-at 4 4 (weights_start (length x.numbers)) (length x.weights) (laid_out x), after_contents)
      (weights-read x.weights (bodies_part x) f.weights)

  -- The start of the bodies.
  bodies-in : bodies_in (laid_out x) ≡ bodies_start (length x.numbers) (length x.weights)
  bodies-in = rw (cues_read, faults_read)

  -- As many words as the lists have.
  ways_in : total (counts_in (laid_out x)) ≡ length x.present
  ways_in = ap total columns_read.1 ∙ sym a.dealt

  -- The words.
  words_read : (present_in (laid_out x) ≡ x.present) × (absent_in (laid_out x) ≡ x.absent)
  words_read =
      let start : ℕ = bodies_start (length x.numbers) (length x.weights) in
      let n : ℕ = length x.present in
      let read = body-read x.present x.absent a.paired f.present f.absent in (
        rw (ways_in, bodies-in, column-at 8 16 start n (laid_out x), after_weights) read.0,
        rw (ways_in, bodies-in, column-drop 8 16 start 8 n (laid_out x), after_weights) read.1,
      )

  -- Reading finds the lists.
  pub lists_layout : lists_in (laid_out x) ≡ x
  unfolding lists_in
  lists_layout =
      λ i.
      record {
        limits = limits_read i;
        weights = weights-in i;
        numbers = columns_read.0 i;
        counts = columns_read.1 i;
        present = words_read.0 i;
        absent = words_read.1 i;
      }

  -- The bytes are settled.
  pub layout_settled : Settled (laid_out x)
  layout_settled =
      record {
        places = columns_read.2 ∙ sym (ap₂ starts bodies-in columns_read.1);
        ends = layout_length x a ∙ sym (ap₂ (λ (i : ℕ) (ks : List ℕ). i + 16 * total ks) bodies-in columns_read.1);
      }

-- ---- laying out what was read

-- The entries in the first bytes.
entries-column : (n : ℕ) (bs : List ℕ) → AllBelow 256 bs → 8 * n ≤ length bs
    → entries (column 2 8 0 n bs) (column 2 8 2 n bs) (column 4 8 4 n bs) ≡ take (8 * n) bs
unfolding entries column
entries-column zero bs h long = refl
entries-column (suc n) bs h long =
    let rest = entries-column n (drop 8 bs) (below-drop 256 8 bs h) (omega (arith, length-drop 8 bs)) in
    rw (
      column-drop 2 8 8 0 n bs,
      column-drop 2 8 8 2 n bs,
      column-drop 4 8 8 4 n bs,
      rest,
      front-field 2 0 bs h (omega arith),
      front-field 2 2 bs h (omega arith),
      front-field 4 4 bs h (omega arith),
    )
    (front-row 8 n bs)

-- The weights in the first bytes.
weights-column : (n : ℕ) (bs : List ℕ) → AllBelow 256 bs → 4 * n ≤ length bs → weights_bytes (column 4 4 0 n bs) ≡ take (4 * n) bs
unfolding weights_bytes column
weights-column zero bs h long = refl
weights-column (suc n) bs h long =
    let rest = weights-column n (drop 4 bs) (below-drop 256 4 bs h) (omega (arith, length-drop 4 bs)) in
    rw (column-drop 4 4 4 0 n bs, rest, front-field 4 0 bs h (omega arith)) (front-row 4 n bs)

-- The bodies in the first bytes.
body-column : (n : ℕ) (bs : List ℕ) → AllBelow 256 bs → 16 * n ≤ length bs → body_bytes (column 8 16 0 n bs) (column 8 16 8 n bs) ≡ take (16 * n) bs
unfolding body_bytes column
body-column zero bs h long = refl
body-column (suc n) bs h long =
    let rest = body-column n (drop 16 bs) (below-drop 256 16 bs h) (omega (arith, length-drop 16 bs)) in
    rw (
      column-drop 8 16 16 0 n bs,
      column-drop 8 16 16 8 n bs,
      rest,
      front-field 8 0 bs h (omega arith),
      front-field 8 8 bs h (omega arith),
    )
    (front-row 16 n bs)

-- The head in the first bytes.
head-fields : (bs : List ℕ) → AllBelow 256 bs → 12 ≤ length bs → head_bytes (faults_in bs) (cues_in bs) (limits_in bs) ≡ take 12 bs
unfolding head_bytes
head-fields bs h long =
    rw (
      front-field 2 0 bs h (omega arith),
      front-field 2 2 bs h (omega arith),
      front-field 4 4 bs h (omega arith),
      front-field 2 8 bs h (omega arith),
    )
    (front-field 2 10 bs h (omega arith))

module _ (bs : List ℕ) (h : AllBelow 256 bs) (s : Settled bs) where
  -- They are as long as their four parts.
  long : 12 + 8 * cues_in bs + 4 * faults_in bs + 16 * total (counts_in bs) ≤ length bs
  unfolding bodies_start weights_start
  long = omega (arith, s.ends)

  -- The contents.
  contents_found : entries (numbers_in bs) (counts_in bs) (places_in bs) ≡ take (8 * cues_in bs) (drop 12 bs)
  contents_found =
      rw (column-drop 2 8 12 0 (cues_in bs) bs, column-drop 2 8 12 2 (cues_in bs) bs, column-drop 4 8 12 4 (cues_in bs) bs)
      (entries-column (cues_in bs) (drop 12 bs) (below-drop 256 12 bs h) (omega (arith, length-drop 12 bs, long)))

  -- The weights.
  weights_found : weights_bytes (weights_in bs) ≡ take (4 * faults_in bs) (drop (weights_start (cues_in bs)) bs)
  unfolding weights_start
  weights_found =
      let start : ℕ = weights_start (cues_in bs) in
      rw (column-at 4 4 start (faults_in bs) bs)
      (weights-column (faults_in bs) (drop start bs) (below-drop 256 start bs h) (omega (arith, length-drop start bs, long)))

  -- The bodies.
  bodies_found : body_bytes (present_in bs) (absent_in bs) ≡ drop (bodies_in bs) bs
  bodies_found =
      let start : ℕ = bodies_in bs in
      let n : ℕ = total (counts_in bs) in
      let left : length (drop start bs) ≡ 16 * n = omega (arith, length-drop start bs, s.ends) in
      rw (column-at 8 16 start n bs, column-drop 8 16 start 8 n bs)
      (body-column n (drop start bs) (below-drop 256 start bs h) (omega arith) ∙ take_all (16 * n) (drop start bs) (omega arith))

  -- The lists found in settled bytes give them back.
  pub layout_lists : laid_out (lists_in bs) ≡ bs
  unfolding laid_out lists_in bodies_start weights_start
  layout_lists =
      rw (
        length-column 4 4 (weights_start (cues_in bs)) (faults_in bs) bs,
        length-column 2 8 12 (cues_in bs) bs,
        ← s.places,
        head-fields bs h (omega (arith, long)),
        contents_found,
        weights_found,
        bodies_found,
        ← take-add 12 (8 * cues_in bs) bs,
        ← take-add (weights_start (cues_in bs)) (4 * faults_in bs) bs,
      )
      (take-append-drop (bodies_in bs) bs)
