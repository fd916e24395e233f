-- The first field of a text: its bytes one by one, with quotes around them or without, where it ends, and what is left behind it.
-- Rests on Scanning.antt. A field is read as far as something may be said of its bytes; then it ends there, or nothing is said of it.
use Rattle.std.proofs.Common.{◌≡◌, refl, sym, ap, ap₂, ◌∙◌, subst, inl, inr, ◌⊎◌, ⊎_elim, ℕ, suc, ◌-◌, ◌<◌, ◌≤◌, Bool, true, false, ◌&&◌, eqb, leb, List, [], ◌∷◌, ◌++◌, map, length, get_or, take, drop, length-append, append-nil, append_assoc, Option, Some, None, Bor, ne_eqb, eqb-true, arith}
use Rattle.std.proofs.Math.Seq.{take-length}
use Rattle.rules.proofs.Booleans.{is_false, and_split, and-false}
use Rattle.csv_text.specs.Cut.{onto, raw_fields, quoted, unquoted, fields_in}
use Rattle.csv_text.proofs.Grammar.{quoted-quotes}
use Rattle.csv_text.proofs.Written.{unquoted-quotes}
use Rattle.csv_rows.specs.declared.fields.Rest.{Rest}
use Rattle.csv_rows.specs.declared.fields.Rest.TheVariants.{Fields, Lines}
use Rattle.csv_rows.specs.Scan.{line_span, first_line, next_lines}
use Rattle.csv_rows.specs.Fields.{Plain, SaysPlain, Longest, Ended, first_piece, first_field, fields_left, lines_left, bytes_left, Behind, Passed}
use Rattle.csv_rows.proofs.Scanning.{NoBreak, span-break, line-on, lines-on}

-- ---- the first piece and those behind it

-- Those behind it.
pub later : List ℕ → List (List ℕ)
later t = drop 1 (raw_fields (first_line t))

-- There is always one.
raw-some : (l : List ℕ) → raw_fields l ≡ get_or (raw_fields l) 0 [] ∷ drop 1 (raw_fields l)
unfolding raw_fields onto
raw-some [] = refl
raw-some (b ∷ l) = split (eqb b 44) refl (raw_fields l) refl
  where
    split : (x : Bool) → eqb b 44 ≡ x → (ls : List (List ℕ)) → raw_fields l ≡ ls
        → raw_fields (b ∷ l) ≡ get_or (raw_fields (b ∷ l)) 0 [] ∷ drop 1 (raw_fields (b ∷ l))
    split true e ls f = rw (e, raw_fields)
    split false e [] f = rw (e, raw_fields, f)
    split false e (q ∷ qs) f = rw (e, raw_fields, f)

-- There are no more of them than bytes, but for the one.
pub raw-count : (l : List ℕ) → length (raw_fields l) ≤ suc (length l)
unfolding raw_fields onto
raw-count [] = omega arith
raw-count (b ∷ l) = split (eqb b 44) refl (raw_fields l) refl (raw-count l)
  where
    split : (x : Bool) → eqb b 44 ≡ x → (ls : List (List ℕ)) → raw_fields l ≡ ls → length ls ≤ suc (length l)
        → length (raw_fields (b ∷ l)) ≤ suc (length (b ∷ l))
    split true e ls f h = rw (e, raw_fields, f) (omega (arith, h))
    split false e [] f h = rw (e, raw_fields, f) (omega arith)
    split false e (q ∷ qs) f h = rw (e, raw_fields, f) (omega (arith, h))

-- The fields of the first line.
pub fields-are : (t : List ℕ) → fields_in (first_line t) ≡ first_field t ∷ map unquoted (later t)
unfolding fields_in first_field first_piece later
fields-are t = ap (map unquoted) (raw-some (first_line t))

-- ---- bytes that belong to the first field

-- It begins with the bytes p, and goes on as the text s does.
pub record Goes (p s : List ℕ) : Type 0 where
  pub piece : first_piece (p ++ s) ≡ p ++ first_piece s
  pub behind : later (p ++ s) ≡ later s
  pub lines : next_lines (p ++ s) ≡ next_lines s

-- The pieces of a line in front of which a byte stands that is no comma.
raw-onto : (b : ℕ) (l : List ℕ) → eqb b 44 ≡ false → raw_fields (b ∷ l) ≡ (b ∷ get_or (raw_fields l) 0 []) ∷ drop 1 (raw_fields l)
unfolding raw_fields onto
raw-onto b l h = rw (h, raw_fields) (ap (onto b) (raw-some l))

-- A byte that is no comma and ends no line.
pub goes-byte : (b : ℕ) (s : List ℕ) → eqb b 44 ≡ false → NoBreak b s → Goes (b ∷ []) s
unfolding first_piece later
goes-byte b s h n =
    let raw = ap raw_fields (line-on b s n) ∙ raw-onto b (first_line s) h in
    record {
      piece = ap (λ (ls : List (List ℕ)). get_or ls 0 []) raw;
      behind = ap (λ (ls : List (List ℕ)). drop 1 ls) raw;
      lines = lines-on b s n;
    }

-- A byte more in front.
goes-cons : (b : ℕ) (p s : List ℕ) → eqb b 44 ≡ false → NoBreak b (p ++ s) → Goes p s → Goes (b ∷ p) s
goes-cons b p s h n g =
    let first = goes-byte b (p ++ s) h n in
    record {
      piece = first.piece ∙ ap (λ (l : List ℕ). b ∷ l) g.piece;
      behind = first.behind ∙ g.behind;
      lines = first.lines ∙ g.lines;
    }

-- No byte but CR begins a line's end.
pub no-break : (b : ℕ) (s : List ℕ) → (b ≡ 13 → ⊥) → NoBreak b s
no-break b [] h = tt
no-break b (c ∷ s) h = rw (ne_eqb b 13 h)

-- Plain bytes.
pub goes-plain : (p s : List ℕ) → Plain p → Goes p s
goes-plain [] s h = record { piece = refl; behind = refl; lines = refl }
goes-plain (b ∷ p) s h = goes-cons b p s (ne_eqb b 44 h.2) (no-break b (p ++ s) h.0) (goes-plain p s h.3)

-- ---- where a field ends

-- Its first byte and those behind it, by their places,
pub first-byte : (t : List ℕ) (b : ℕ) → 0 < length t → get_or t 0 0 ≡ b → t ≡ b ∷ take (length t - 1) (drop 1 t)
first-byte [] b h e = absurd (omega arith)
first-byte (x ∷ t) b h e = let n : length (x ∷ t) - 1 ≡ length t = omega arith in rw (n, take-length t) (ap (λ (y : ℕ). y ∷ t) e)

-- and its first two.
first-bytes : (t : List ℕ) (b c : ℕ) → 1 < length t → get_or t 0 0 ≡ b → get_or t 1 0 ≡ c → t ≡ b ∷ c ∷ take (length t - 2) (drop 2 t)
first-bytes [] b c h e f = absurd (omega arith)
first-bytes (x ∷ t) b c h e f =
    let n : length (x ∷ t) - 2 ≡ length t - 1 = omega arith in
    rw n (ap₂ (λ (y : ℕ) (s : List ℕ). y ∷ s) e (first-byte t c (omega arith) f))

-- The pieces of a line that begins with a comma.
raw-comma : (s : List ℕ) → raw_fields (first_line (44 ∷ s)) ≡ [] ∷ raw_fields (first_line s)
unfolding raw_fields
raw-comma s = ap raw_fields (line-on 44 s (no-break 44 s (λ q. omega arith)))

-- At a comma: further fields are left.
pub comma-ends : (t : List ℕ) (r : Bor (List ℕ)) → 0 < length t → get_or t 0 0 ≡ 44 → r.now ≡ take (length t - 1) (drop 1 t)
    → Ended t (Some (Fields r))
unfolding first_piece later fields_in
comma-ends t r h e f = rw (first-byte t 44 h e ∙ ap (λ (s : List ℕ). 44 ∷ s) (sym f)) (
  ap (λ (ls : List (List ℕ)). get_or ls 0 []) (raw-comma r.now),
  record {
    left = ap (λ (ls : List (List ℕ)). get_or ls 0 [] ++ 44 ∷ r.now) (sym (raw-comma r.now));
    fields = fields-are (44 ∷ r.now) ∙ ap (λ (ls : List (List ℕ)). first_field (44 ∷ r.now) ∷ map unquoted (drop 1 ls)) (raw-comma r.now);
    lines = lines-on 44 r.now (no-break 44 r.now (λ q. omega arith));
  },
)

-- At CR LF: the record ends, and lines are left.
pub break-ends : (t : List ℕ) (r : Bor (List ℕ)) → 1 < length t → get_or t 0 0 ≡ 13 → get_or t 1 0 ≡ 10 → r.now ≡ take (length t - 2) (drop 2 t)
    → Ended t (Some (Lines r))
unfolding raw_fields first_piece later fields_in first_line next_lines
break-ends t r h e f g =
    rw (first-bytes t 13 10 h e f ∙ ap (λ (s : List ℕ). 13 ∷ 10 ∷ s) (sym g))
    (rw span (refl, record { fields = fields-are (13 ∷ 10 ∷ r.now) ∙ rw span; lines = rw span; left = inl (rw span) }))
  where
    span : line_span (13 ∷ 10 ∷ r.now) ≡ 0
    span = span-break 13 10 r.now refl

-- At the end of the text.
pub over-ends : (t : List ℕ) (r : Bor (List ℕ)) → length t < 1 → r.now ≡ t → Ended t (Some (Lines r))
unfolding raw_fields first_piece first_field fields_in first_line next_lines line_span
over-ends [] r h e = (refl, record { fields = refl; lines = sym e; left = inr (refl, e) })
over-ends (b ∷ t) r h e = absurd (omega arith)

-- Elsewhere it goes on.
pub goes-on : (t : List ℕ) → 0 < length t → (get_or t 0 0 ≡ 44 → ⊥) → (get_or t 0 0 ≡ 13 → 1 < length t → get_or t 1 0 ≡ 10 → ⊥) → first_piece t ≡ [] → ⊥
goes-on [] h c l e = omega arith
goes-on (b ∷ s) h c l e = let k : suc (length (first_piece s)) ≡ 0 = ap length (sym (goes-byte b s (ne_eqb b 44 c) (on s l)).piece ∙ e) in omega arith
  where
    on : (s : List ℕ) → (b ≡ 13 → 1 < length (b ∷ s) → get_or (b ∷ s) 1 0 ≡ 10 → ⊥) → NoBreak b s
    on [] l = tt
    on (d ∷ s) l = is_false (eqb b 13 && eqb d 10) (λ k. let both = and_split (eqb b 13) (eqb d 10) k in l (eqb-true b 13 both.0) (omega arith) (eqb-true d 10 both.1))

-- It is empty, or begins with the byte that stands there.
piece-first : (b : ℕ) (t : List ℕ) → (first_piece (b ∷ t) ≡ []) ⊎ (first_piece (b ∷ t) ≡ b ∷ first_piece t)
unfolding first_piece raw_fields first_line
piece-first b t = split (eqb b 44) refl t
  where
    breaks : (c : ℕ) (s : List ℕ) → eqb b 44 ≡ false → (x : Bool) → eqb b 13 && eqb c 10 ≡ x
        → (first_piece (b ∷ c ∷ s) ≡ []) ⊎ (first_piece (b ∷ c ∷ s) ≡ b ∷ first_piece (c ∷ s))
    breaks c s e true h = inl (rw (span-break b c s h))
    breaks c s e false h = inr (goes-byte b (c ∷ s) e h).piece

    split : (x : Bool) → eqb b 44 ≡ x → (t : List ℕ) → (first_piece (b ∷ t) ≡ []) ⊎ (first_piece (b ∷ t) ≡ b ∷ first_piece t)
    split true e t = inl (rw (eqb-true b 44 e) (ap (λ (ls : List (List ℕ)). get_or ls 0 []) (raw-comma t)))
    split false e [] = inr (goes-byte b [] e tt).piece
    split false e (c ∷ s) = breaks c s e (eqb b 13 && eqb c 10) refl

-- A piece that does not begin with a quote stays as it is.
plain-first : (f : List ℕ) → (get_or f 0 0 ≡ 34 → ⊥) → unquoted f ≡ f
unfolding unquoted quoted
plain-first [] h = refl
plain-first (b ∷ f) h = let bare : quoted (b ∷ f) ≡ false = rw (ne_eqb b 34 h) (and-false (leb 2 (length (b ∷ f)))) in rw (bare, unquoted)

-- ---- a field read as far as something may be said of its bytes

-- A field in quotes has a quote at its end, or it is bare.
quoted-or-bare : (q : List ℕ) → (unquoted (34 ∷ q) ≡ 34 ∷ q) ⊎ ((m : List ℕ) × (q ≡ m ++ 34 ∷ []) × (unquoted (34 ∷ q) ≡ m))
unfolding unquoted
quoted-or-bare q = split (quoted (34 ∷ q)) refl
  where
    split : (x : Bool) → quoted (34 ∷ q) ≡ x → (unquoted (34 ∷ q) ≡ 34 ∷ q) ⊎ ((m : List ℕ) × (q ≡ m ++ 34 ∷ []) × (unquoted (34 ∷ q) ≡ m))
    split true e =
        let n : length (34 ∷ q) - 2 ≡ length q - 1 = omega arith in
        inr (take (length q - 1) q, ap (drop 1) (rw n at (quoted-quotes (34 ∷ q) e)), rw (e, unquoted, n))
    split false e = inl (rw (e, unquoted))

-- The first piece stands at the front of the text.
piece-front : (t : List ℕ) → (s : List ℕ) × (t ≡ first_piece t ++ s)
unfolding first_piece raw_fields first_line line_span
piece-front [] = ([], refl)
piece-front (b ∷ t) = split (piece-first b t) (piece-front t)
  where
    Front : Type 0
    Front = (s : List ℕ) × (b ∷ t ≡ first_piece (b ∷ t) ++ s)

    split : (first_piece (b ∷ t) ≡ []) ⊎ (first_piece (b ∷ t) ≡ b ∷ first_piece t) → (s : List ℕ) × (t ≡ first_piece t ++ s) → Front
    split (inl e) r = (b ∷ t, rw e)
    split (inr e) (s, r) = (s, rw e (ap (λ (l : List ℕ). b ∷ l) r))

-- Bytes up to a quote at the end: those in front of a byte, or some behind it too.
seam : (front p m : List ℕ) (b : ℕ) → front ++ b ∷ p ≡ m ++ 34 ∷ []
    → ((b ≡ 34) × (p ≡ []) × (m ≡ front)) ⊎ ((q : List ℕ) × (p ≡ q ++ 34 ∷ []) × (m ≡ front ++ b ∷ q))
seam [] p [] b e = inl (cc, cc, refl)
seam [] p (y ∷ m) b e = inr (m, cc, cc)
seam (x ∷ front) p [] b e = absurd (omega (arith, ap length e, length-append front (b ∷ p)))
seam (x ∷ front) p (y ∷ m) b e = split (seam front p m b cc)
  where
    same : x ≡ y
    same = cc

    split : ((b ≡ 34) × (p ≡ []) × (m ≡ front)) ⊎ ((q : List ℕ) × (p ≡ q ++ 34 ∷ []) × (m ≡ front ++ b ∷ q))
        → ((b ≡ 34) × (p ≡ []) × (y ∷ m ≡ x ∷ front)) ⊎ ((q : List ℕ) × (p ≡ q ++ 34 ∷ []) × (y ∷ m ≡ x ∷ front ++ b ∷ q))
    split (inl (f, g, h)) = inl (f, g, cc)
    split (inr (q, f, g)) = inr (q, f, cc)

-- A field goes on at the front of a text: by a byte and more that stands there.
goes-some : (t : List ℕ) → (first_piece t ≡ [] → ⊥) → (b : ℕ) × (p : List ℕ) × (s : List ℕ) × (t ≡ b ∷ p ++ s) × (first_piece t ≡ b ∷ p)
unfolding first_piece raw_fields first_line line_span
goes-some [] n = absurd (n refl)
goes-some (b ∷ t) n = split (piece-first b t) (piece-front t)
  where
    split : (first_piece (b ∷ t) ≡ []) ⊎ (first_piece (b ∷ t) ≡ b ∷ first_piece t) → (s : List ℕ) × (t ≡ first_piece t ++ s)
        → (c : ℕ) × (p : List ℕ) × (s : List ℕ) × (b ∷ t ≡ c ∷ p ++ s) × (first_piece (b ∷ t) ≡ c ∷ p)
    split (inl e) r = absurd (n e)
    split (inr e) (s, r) = (b, first_piece t, s, ap (λ (l : List ℕ). b ∷ l) r, e)

-- A field that begins with no quote is bare.
first-bare : (t : List ℕ) → (0 < length t → get_or t 0 0 ≡ 34 → ⊥) → first_field t ≡ first_piece t
unfolding first_field unquoted quoted first_piece raw_fields first_line line_span
first-bare [] h = refl
first-bare (b ∷ t) h = split (piece-first b t)
  where
    split : (first_piece (b ∷ t) ≡ []) ⊎ (first_piece (b ∷ t) ≡ b ∷ first_piece t) → unquoted (first_piece (b ∷ t)) ≡ first_piece (b ∷ t)
    split (inl e) = rw e
    split (inr e) = rw (e, plain-first (b ∷ first_piece t) (h (omega arith)))

-- The piece behind a quote.
piece-quote : (t : List ℕ) → Goes (34 ∷ []) t
piece-quote t = goes-byte 34 t refl (no-break 34 t (λ e. omega arith))

-- No plain bytes end in a quote.
plain-last : (m : List ℕ) → Plain (m ++ 34 ∷ []) → ⊥
plain-last [] h = h.1 refl
plain-last (b ∷ m) h = plain-last m h.3

module _ {A : Type 0} (says : List ℕ → Option A) (plain : SaysPlain says) where
  -- Nothing is said of a field that begins with a quote.
  quote-not : (f : List ℕ) → says (34 ∷ f) ≡ None
  quote-not f = split (says (34 ∷ f)) refl
    where
      split : (r : Option A) → says (34 ∷ f) ≡ r → r ≡ None
      split None e = refl
      split (Some x) e = absurd ((plain (34 ∷ f) x e).1 refl)

  -- So it is said of a piece in quotes what is said of the bytes between them.
  quoted-not : (q : List ℕ) → ((m : List ℕ) → q ≡ m ++ 34 ∷ [] → says m ≡ None) → says (unquoted (34 ∷ q)) ≡ None
  quoted-not q n = split (quoted-or-bare q)
    where
      split : (unquoted (34 ∷ q) ≡ 34 ∷ q) ⊎ ((m : List ℕ) × (q ≡ m ++ 34 ∷ []) × (unquoted (34 ∷ q) ≡ m)) → says (unquoted (34 ∷ q)) ≡ None
      split (inl e) = ap says e ∙ quote-not q
      split (inr (m, e, f)) = ap says f ∙ n m e

  -- A bare field of no front of which anything is said.
  pub bare-none : (t : List ℕ) → (0 < length t → get_or t 0 0 ≡ 34 → ⊥) → ((p s : List ℕ) → t ≡ p ++ s → says p ≡ None) → says (first_field t) ≡ None
  bare-none t h n = let (s, e) = piece-front t in ap says (first-bare t h) ∙ n (first_piece t) s e

  -- One in quotes.
  pub quoted-none : (t : List ℕ) → ((p s : List ℕ) → t ≡ p ++ s → says p ≡ None) → says (first_field (34 ∷ t)) ≡ None
  unfolding first_field
  quoted-none t n =
      let (s, e) = piece-front t in
      ap (λ (l : List ℕ). says (unquoted l)) (piece-quote t).piece
      ∙ quoted-not (first_piece t) (λ m f. n m (34 ∷ s) (e ∙ ap (λ (l : List ℕ). l ++ s) f ∙ append_assoc m (34 ∷ []) s))

  -- What was said of the bytes in front of `rest` is said of the first field if that ends there; and nothing is, if it goes on.
  pub record Closed (t : List ℕ) (x : A) (rest : List ℕ) : Type 0 where
    pub whole : first_piece rest ≡ [] → says (first_field t) ≡ Some x
    pub broken : (first_piece rest ≡ [] → ⊥) → says (first_field t) ≡ None
    pub behind : later t ≡ later rest
    pub lines : next_lines t ≡ next_lines rest
    pub front : first_piece rest ≡ [] → t ≡ first_piece t ++ rest

  module _ (t rest : List ℕ) (x : A) (l : Longest says t x rest) where
    -- The bytes of which it is said belong to the first field.
    front-goes : Goes l.front rest
    front-goes = goes-plain l.front rest (plain l.front x l.said)

    piece-is : first_piece t ≡ l.front ++ first_piece rest
    piece-is = ap first_piece l.whole ∙ front-goes.piece

    -- A bare field.
    pub closed-bare : (0 < length t → get_or t 0 0 ≡ 34 → ⊥) → Closed t x rest
    closed-bare h =
        let field = first-bare t h ∙ piece-is in
        record {
          whole = λ e. ap says (field ∙ ap (λ (p : List ℕ). l.front ++ p) e ∙ append-nil l.front) ∙ l.said;
          broken = λ n.
              let (b, p, s, e, f) = goes-some rest n in
              ap says (field ∙ ap (λ (p : List ℕ). l.front ++ p) f) ∙ l.longest b p s e;
          behind = ap later l.whole ∙ front-goes.behind;
          lines = ap next_lines l.whole ∙ front-goes.lines;
          front = λ e. l.whole ∙ ap (λ (p : List ℕ). p ++ rest) (sym (piece-is ∙ ap (λ (p : List ℕ). l.front ++ p) e ∙ append-nil l.front));
        }

    -- One in quotes that no quote ends.
    pub unclosed : (0 < length rest → get_or rest 0 0 ≡ 34 → ⊥) → says (first_field (34 ∷ t)) ≡ None
    unfolding first_field
    unclosed h = ap (λ (p : List ℕ). says (unquoted p)) ((piece-quote t).piece ∙ ap (λ (p : List ℕ). 34 ∷ p) piece-is) ∙ split (first_piece rest) refl
      where
        on : (b : ℕ) (p s m : List ℕ) → rest ≡ b ∷ p ++ s → l.front ++ b ∷ p ≡ m ++ 34 ∷ [] → says m ≡ None
        on b p s m e f =
            let same : get_or rest 0 0 ≡ b = ap (λ (k : List ℕ). get_or k 0 0) e in
            ⊎_elim
            (λ (c, _, _). absurd (h (omega (arith, ap length e)) (same ∙ c)))
            (λ (q, g, k). ap says k ∙ l.longest b q (34 ∷ s) (e ∙ ap (λ (z : List ℕ). b ∷ z ++ s) g ∙ ap (λ (z : List ℕ). b ∷ z) (append_assoc q (34 ∷ []) s)))
            (seam l.front p m b f)

        split : (p : List ℕ) → first_piece rest ≡ p → says (unquoted (34 ∷ (l.front ++ first_piece rest))) ≡ None
        split [] e =
            quoted-not (l.front ++ first_piece rest)
            (λ m f. absurd (plain-last m (subst Plain (sym (append-nil l.front) ∙ ap (λ (p : List ℕ). l.front ++ p) (sym e) ∙ f) (plain l.front x l.said))))
        split (c ∷ q) e =
            let (b, p, s, f, g) = goes-some rest (λ z. absurd (omega (arith, ap length (sym z ∙ e)))) in
            quoted-not (l.front ++ first_piece rest) (λ m k. on b p s m f (ap (λ (z : List ℕ). l.front ++ z) (sym g) ∙ k))

  -- One that a quote ends.
  pub closed-quoted : (t rest : List ℕ) (x : A) → Longest says t x (34 ∷ rest) → Closed (34 ∷ t) x rest
  unfolding first_field
  closed-quoted t rest x l =
      let goes = front-goes t (34 ∷ rest) x l in
      let quote = piece-quote rest in
      let first = piece-quote t in
      let field : first_piece (34 ∷ t) ≡ 34 ∷ (l.front ++ 34 ∷ first_piece rest)
      = first.piece ∙ ap (λ (p : List ℕ). 34 ∷ p) (piece-is t (34 ∷ rest) x l ∙ ap (λ (p : List ℕ). l.front ++ p) quote.piece) in
      record {
        whole = λ e. ap (λ (p : List ℕ). says (unquoted p)) (field ∙ ap (λ (p : List ℕ). 34 ∷ (l.front ++ 34 ∷ p)) e) ∙ ap says (unquoted-quotes l.front) ∙ l.said;
        broken = λ n.
            let (b, p, s, e, f) = goes-some rest n in
            ap (λ (p : List ℕ). says (unquoted p)) (field ∙ ap (λ (p : List ℕ). 34 ∷ (l.front ++ 34 ∷ p)) f)
            ∙ quoted-not (l.front ++ 34 ∷ b ∷ p) (λ m k. on b p s m e k);
        behind = first.behind ∙ ap later l.whole ∙ goes.behind ∙ quote.behind;
        lines = first.lines ∙ ap next_lines l.whole ∙ goes.lines ∙ quote.lines;
        front = λ e.
            ap (λ (p : List ℕ). 34 ∷ p) (l.whole ∙ sym (append_assoc l.front (34 ∷ []) rest))
            ∙ ap (λ (p : List ℕ). p ++ rest) (sym (field ∙ ap (λ (p : List ℕ). 34 ∷ (l.front ++ 34 ∷ p)) e));
      }
    where
      on : (b : ℕ) (p s m : List ℕ) → rest ≡ b ∷ p ++ s → l.front ++ 34 ∷ b ∷ p ≡ m ++ 34 ∷ [] → says m ≡ None
      on b p s m e f =
          ⊎_elim
          (λ (_, c, _). absurd (omega (arith, ap length c)))
          (λ (q, g, k). ap says k ∙ l.longest 34 q (34 ∷ s) (ap (λ (z : List ℕ). 34 ∷ z) (e ∙ ap (λ (z : List ℕ). z ++ s) g ∙ append_assoc q (34 ∷ []) s)))
          (seam l.front (b ∷ p) m 34 f)

  -- Bytes behind those of a field that ends there.
  behind-field : (t rest : List ℕ) (r : Rest) → t ≡ first_piece t ++ rest → first_piece rest ≡ [] → Behind rest (first_piece rest) r
      → Behind t (first_piece t) r
  behind-field t rest (Fields s) f e b = f ∙ ap (λ (q : List ℕ). first_piece t ++ q) (b ∙ ap (λ (p : List ℕ). p ++ 44 ∷ s.now) e)
  behind-field t rest (Lines s) f e (inl b) =
      inl (f ∙ ap (λ (q : List ℕ). first_piece t ++ q) (b ∙ ap (λ (p : List ℕ). p ++ 13 ∷ 10 ∷ s.now) e))
  behind-field t rest (Lines s) f e (inr (b, n)) =
      inr (f ∙ ap (λ (q : List ℕ). first_piece t ++ q) (b ∙ e) ∙ append-nil (first_piece t), n)

  -- So the field is read.
  pub closed-reads : (t rest : List ℕ) (x : A) (r : Rest) → Closed t x rest → Ended rest (Some r) → (says (first_field t) ≡ Some x) × Passed t r
  closed-reads t rest x r c (ends, passed) = (
    c.whole ends,
    record {
      fields =
          fields-are t
          ∙ ap (λ (ls : List (List ℕ)). first_field t ∷ map unquoted ls) c.behind
          ∙ ap (λ (ls : List (List ℕ)). first_field t ∷ drop 1 ls) (sym (fields-are rest) ∙ passed.fields);
      lines = c.lines ∙ passed.lines;
      left = behind-field t rest r (c.front ends) ends passed.left;
    },
  )

-- ---- from field to field

-- A further field is left,
pub further : {t : List ℕ} {r : Rest} (s : List ℕ) → Passed t r
    → (fields_left r ≡ fields_in (first_line s)) × (lines_left r ≡ next_lines s) × (bytes_left r ≡ s) → (fields_in (first_line t) ≡ first_field t ∷ fields_in (first_line s)) × (next_lines t ≡ next_lines s)
further {t} s p f = (p.fields ∙ ap (λ (fs : List (List ℕ)). first_field t ∷ fs) f.0, p.lines ∙ f.1)

-- or that was the last.
pub alone : {t : List ℕ} {r : Rest} → Passed t r → fields_left r ≡ [] → fields_in (first_line t) ≡ first_field t ∷ []
alone {t} p f = p.fields ∙ ap (λ (fs : List (List ℕ)). first_field t ∷ fs) f

-- What is left is the end of the text,
pub suffix : {t : List ℕ} {r : Rest} → Passed t r → (front : List ℕ) × (t ≡ front ++ bytes_left r)
suffix {t} {r} p = split r p.left
  where
    split : (r : Rest) → Behind t (first_piece t) r → (front : List ℕ) × (t ≡ front ++ bytes_left r)
    split (Fields s) b = (first_piece t ++ 44 ∷ [], b ∙ sym (append_assoc (first_piece t) (44 ∷ []) s.now))
    split (Lines s) (inl b) = (first_piece t ++ 13 ∷ 10 ∷ [], b ∙ sym (append_assoc (first_piece t) (13 ∷ 10 ∷ []) s.now))
    split (Lines s) (inr (b, n)) = (t, sym (append-nil t) ∙ ap (λ (q : List ℕ). t ++ q) (sym n))

-- and shorter, if there was a byte.
pub shorter : {t : List ℕ} {r : Rest} → Passed t r → 0 < length t → length (bytes_left r) < length t
shorter {t} {r} p h = split r p.left
  where
    split : (r : Rest) → Behind t (first_piece t) r → length (bytes_left r) < length t
    split (Fields s) b = omega (arith, ap length b, length-append (first_piece t) (44 ∷ s.now))
    split (Lines s) (inl b) = omega (arith, ap length b, length-append (first_piece t) (13 ∷ 10 ∷ s.now))
    split (Lines s) (inr (b, n)) = omega (arith, h, ap length n)

-- Where fields are left, not all lines behind the record are.
pub some-left : (r : Rest) {t : Bor (List ℕ)} → r ≡ Fields t → fields_left r ≡ [] → ⊥
some-left r {t} e f = let n = ap length (sym f ∙ ap fields_left e ∙ fields-are t.now) in omega arith
