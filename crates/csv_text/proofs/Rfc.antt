-- RFC 4180 (RULES 13.1 to 13.3): its grammar, as a relation between a text and the records that it says, and that a text says them in one way only.
-- Rests on lists of bytes alone.
use mathlib.Core.Path.{◌≡◌, refl, sym, ap, ap₂, ◌∙◌}
use mathlib.Core.List.{List, [], ◌∷◌, ◌++◌, append_assoc, append-nil}
use Prim.Native.Nat.{ℕ, ◌≤◌, ◌<◌}
use native.Mathlib.Omega.{arith}
use lib.ListN.{length, drop, get_or, length-append}
use Rattle.csv_text.proofs.Written.{Every}

-- ---- the grammar

-- TEXTDATA: the bytes 20 to 21, 23 to 2B and 2D to 7E.
pub data TextByte (b : ℕ) : Type 0 where
  below_quote : 0x20 ≤ b → b ≤ 0x21 → TextByte b
  below_comma : 0x23 ≤ b → b ≤ 0x2B → TextByte b
  above_comma : 0x2D ≤ b → b ≤ 0x7E → TextByte b

-- A byte that stands for itself between quotes: TEXTDATA, comma, CR or LF.
pub data QuotedByte (b : ℕ) : Type 0 where
  is_text : TextByte b → QuotedByte b
  is_comma : b ≡ 44 → QuotedByte b
  is_cr : b ≡ 13 → QuotedByte b
  is_lf : b ≡ 10 → QuotedByte b

-- A list of TEXTDATA, perhaps of none.
abbrev pub AllText : List ℕ → Type 0
AllText bs = Every TextByte bs

-- What stands between the quotes of a field, and what it says: a doubled quote is one.
pub data Enclosed : List ℕ → List ℕ → Type 0 where
  no_byte : Enclosed [] []
  one_byte : {b : ℕ} {bs c : List ℕ} → QuotedByte b → Enclosed bs c → Enclosed (b ∷ bs) (b ∷ c)
  doubled_quote : {bs c : List ℕ} → Enclosed bs c → Enclosed (34 ∷ 34 ∷ bs) (34 ∷ c)

-- A field, bare or quoted.
pub data FieldOf : List ℕ → List ℕ → Type 0 where
  bare_field : {f : List ℕ} → AllText f → FieldOf f f
  quoted_field : {bs c : List ℕ} → Enclosed bs c → FieldOf (34 ∷ bs ++ 34 ∷ []) c

-- A record: one field or more, commas between them.
pub data RecordOf : List ℕ → List (List ℕ) → Type 0 where
  last_field : {f c : List ℕ} → FieldOf f c → RecordOf f (c ∷ [])
  field_before : {f c l : List ℕ} {r : List (List ℕ)} → FieldOf f c → RecordOf l r → RecordOf (f ++ 44 ∷ l) (c ∷ r)

-- A text and its records: CR LF ends each; the last may do without, if it has any byte.
pub data Rfc : List ℕ → List (List (List ℕ)) → Type 0 where
  no_record : Rfc [] []
  last_unended : {l : List ℕ} {r : List (List ℕ)} → 0 < length l → RecordOf l r → Rfc l (r ∷ [])
  record_ended : {l t : List ℕ} {r : List (List ℕ)} {rs : List (List (List ℕ))} → RecordOf l r → Rfc t rs → Rfc (l ++ 13 ∷ 10 ∷ t) (r ∷ rs)

-- ---- bytes and lists of them

-- A byte is neither quote, comma nor CR.
pub record NoMark (b : ℕ) : Type 0 where
  pub no_quote : b ≡ 34 → ⊥
  pub no_comma : b ≡ 44 → ⊥
  pub no_cr : b ≡ 13 → ⊥

-- TEXTDATA is none of them.
pub text-apart : (b : ℕ) → TextByte b → NoMark b
text-apart b (below_quote h k) = record { no_quote = λ e. omega arith; no_comma = λ e. omega arith; no_cr = λ e. omega arith }
text-apart b (below_comma h k) = record { no_quote = λ e. omega arith; no_comma = λ e. omega arith; no_cr = λ e. omega arith }
text-apart b (above_comma h k) = record { no_quote = λ e. omega arith; no_comma = λ e. omega arith; no_cr = λ e. omega arith }

-- Nor is a quote a byte that stands for itself between quotes.
quoted-apart : (b : ℕ) → QuotedByte b → b ≡ 34 → ⊥
quoted-apart b (is_text h) e = (text-apart b h).no_quote e
quoted-apart b (is_comma h) e = omega arith
quoted-apart b (is_cr h) e = omega arith
quoted-apart b (is_lf h) e = omega arith

-- Equal lists have equal heads.
heads-same : {x y : ℕ} {xs ys : List ℕ} → x ∷ xs ≡ y ∷ ys → x ≡ y
heads-same e = ap (λ (l : List ℕ). get_or l 0 0) e

-- And equal tails.
tails-same : {x y : ℕ} {xs ys : List ℕ} → x ∷ xs ≡ y ∷ ys → xs ≡ ys
tails-same e = ap (λ (l : List ℕ). drop 1 l) e

-- ---- the grammar is unambiguous

-- What stands behind a field: the end of the text, a comma or CR LF.
data Behind : List ℕ → Type 0 where
  at_end : Behind []
  at_comma : {t : List ℕ} → Behind (44 ∷ t)
  at_crlf : {t : List ℕ} → Behind (13 ∷ 10 ∷ t)

-- It does not begin with a quote.
behind-quote : (t xs : List ℕ) → Behind t → t ≡ 34 ∷ xs → ⊥
behind-quote t xs at_end e = omega (arith, ap length e)
behind-quote t xs at_comma e = omega (arith, heads-same e)
behind-quote t xs at_crlf e = omega (arith, heads-same e)

-- Nor with TEXTDATA.
behind-text : (b : ℕ) (t xs : List ℕ) → Behind t → TextByte b → t ≡ b ∷ xs → ⊥
behind-text b t xs at_end h e = omega (arith, ap length e)
behind-text b t xs at_comma h e = (text-apart b h).no_comma (sym (heads-same e))
behind-text b t xs at_crlf h e = (text-apart b h).no_cr (sym (heads-same e))

-- Two readings of the same bytes agree: on bare fields,
bare-once : (f g u v : List ℕ) → AllText f → AllText g → Behind u → Behind v → f ++ u ≡ g ++ v → (f ≡ g) × (u ≡ v)
bare-once [] [] u v h k b c e = (refl, e)
bare-once [] (y ∷ g) u v h k b c e = absurd (behind-text y u (g ++ v) b k.0 e)
bare-once (x ∷ f) [] u v h k b c e = absurd (behind-text x v (f ++ u) c h.0 (sym e))
bare-once (x ∷ f) (y ∷ g) u v h k b c e =
    let tail = bare-once f g u v h.1 k.1 b c (tails-same e) in
    (ap₂ (λ (z : ℕ) (l : List ℕ). z ∷ l) (heads-same e) tail.0, tail.1)

-- on what stands between quotes,
enclosed-once : {f g c d : List ℕ} (u v : List ℕ) → Enclosed f c → Enclosed g d → Behind u → Behind v
    → f ++ 34 ∷ u ≡ g ++ 34 ∷ v → (c ≡ d) × (u ≡ v)
enclosed-once u v no_byte no_byte b c e = (refl, tails-same e)
enclosed-once u v no_byte (one_byte {b = y} k q) b c e = absurd (quoted-apart y k (sym (heads-same e)))
enclosed-once u v no_byte (doubled_quote q) b c e = absurd (behind-quote u _ b (tails-same e))
enclosed-once u v (one_byte {b = x} h p) no_byte b c e = absurd (quoted-apart x h (heads-same e))
enclosed-once u v (one_byte {b = x} h p) (one_byte {b = y} k q) b c e =
    let tail = enclosed-once u v p q b c (tails-same e) in
    (ap₂ (λ (z : ℕ) (l : List ℕ). z ∷ l) (heads-same e) tail.0, tail.1)
enclosed-once u v (one_byte {b = x} h p) (doubled_quote q) b c e = absurd (quoted-apart x h (heads-same e))
enclosed-once u v (doubled_quote p) no_byte b c e = absurd (behind-quote v _ c (sym (tails-same e)))
enclosed-once u v (doubled_quote p) (one_byte {b = y} k q) b c e = absurd (quoted-apart y k (sym (heads-same e)))
enclosed-once u v (doubled_quote p) (doubled_quote q) b c e =
    let tail = enclosed-once u v p q b c (tails-same (tails-same e)) in
    (ap (λ (l : List ℕ). 34 ∷ l) tail.0, tail.1)

-- on whether a field is quoted,
not-both : (f bs u : List ℕ) → AllText f → Behind u → f ++ u ≡ 34 ∷ bs → ⊥
not-both [] bs u h b e = behind-quote u bs b e
not-both (x ∷ f) bs u h b e = (text-apart x h.0).no_quote (heads-same e)

-- on fields,
field-once : {f g c d : List ℕ} (u v : List ℕ) → FieldOf f c → FieldOf g d → Behind u → Behind v → f ++ u ≡ g ++ v → (c ≡ d) × (u ≡ v)
field-once u v (bare_field {f = f} h) (bare_field {f = g} k) b c e = bare-once f g u v h k b c e
field-once u v (bare_field {f = f} h) (quoted_field {bs = y} q) b c e = absurd (not-both f _ u h b e)
field-once u v (quoted_field {bs = x} p) (bare_field {f = g} k) b c e = absurd (not-both g _ v k c (sym e))
field-once u v (quoted_field {bs = x} p) (quoted_field {bs = y} q) b c e =
    enclosed-once u v p q b c (sym (append_assoc x (34 ∷ []) u) ∙ tails-same e ∙ append_assoc y (34 ∷ []) v)

-- What stands behind a record, and the text from there on: the end of the text, or CR LF.
pub data LineEnd : List ℕ → List ℕ → Type 0 where
  text_ends : LineEnd [] []
  crlf : {t : List ℕ} → LineEnd (13 ∷ 10 ∷ t) t

-- It may stand behind a field.
end-behind : {u t : List ℕ} → LineEnd u t → Behind u
end-behind text_ends = at_end
end-behind crlf = at_crlf

-- It begins with no comma.
end-comma : {u t : List ℕ} (xs : List ℕ) → LineEnd u t → u ≡ 44 ∷ xs → ⊥
end-comma xs text_ends e = omega (arith, ap length e)
end-comma xs crlf e = omega (arith, heads-same e)

-- on records,
pub record-once : {l m t t' : List ℕ} {r s : List (List ℕ)} (u v : List ℕ) → RecordOf l r → RecordOf m s → LineEnd u t → LineEnd v t'
    → l ++ u ≡ m ++ v → (r ≡ s) × (u ≡ v)
record-once u v (last_field p) (last_field q) b c e =
    let same = field-once u v p q (end-behind b) (end-behind c) e in
    (ap (λ (f : List ℕ). f ∷ []) same.0, same.1)
record-once u v (last_field p) (field_before {f = g} {l = m} q k) b c e =
    absurd (end-comma (m ++ v) b (field-once u (44 ∷ m ++ v) p q (end-behind b) at_comma (e ∙ append_assoc g (44 ∷ m) v)).1)
record-once u v (field_before {f = f} {l = l} p h) (last_field q) b c e =
    absurd (end-comma (l ++ u) c (sym (field-once (44 ∷ l ++ u) v p q at_comma (end-behind c) (sym (append_assoc f (44 ∷ l) u) ∙ e)).1))
record-once u v (field_before {f = f} {l = l} p h) (field_before {f = g} {l = m} q k) b c e =
    let same = field-once (44 ∷ l ++ u) (44 ∷ m ++ v) p q at_comma at_comma (sym (append_assoc f (44 ∷ l) u) ∙ e ∙ append_assoc g (44 ∷ m) v) in
    let rest = record-once u v h k b c (tails-same same.1) in
    (ap₂ (λ (x : List ℕ) (xs : List (List ℕ)). x ∷ xs) same.0 rest.0, rest.1)

-- A line with CR LF behind it is not nothing.
line-not-empty : (l t : List ℕ) → [] ≡ l ++ 13 ∷ 10 ∷ t → ⊥
line-not-empty l t e = omega (arith, ap length e, length-append l (13 ∷ 10 ∷ t))

-- THE GRAMMAR IS UNAMBIGUOUS: a text has one reading at most.
pub rfc-once : {t u : List ℕ} {rs ss : List (List (List ℕ))} → Rfc t rs → Rfc u ss → t ≡ u → rs ≡ ss
rfc-once no_record no_record e = refl
rfc-once no_record (last_unended h p) e = absurd (omega (arith, ap length e))
rfc-once no_record (record_ended {l = l} {t = t} p k) e = absurd (line-not-empty l t e)
rfc-once (last_unended h p) no_record e = absurd (omega (arith, ap length e))
rfc-once (last_unended {l = l} h p) (last_unended {l = m} k q) e =
    ap (λ (r : List (List ℕ)). r ∷ []) (record-once [] [] p q text_ends text_ends (append-nil l ∙ e ∙ sym (append-nil m))).0
rfc-once (last_unended {l = l} h p) (record_ended {l = m} {t = t} q k) e =
    absurd (line-not-empty [] t (record-once [] (13 ∷ 10 ∷ t) p q text_ends crlf (append-nil l ∙ e)).1)
rfc-once (record_ended {l = l} {t = t} p h) no_record e = absurd (line-not-empty l t (sym e))
rfc-once (record_ended {l = l} {t = t} p h) (last_unended {l = m} k q) e =
    absurd (line-not-empty [] t (sym (record-once (13 ∷ 10 ∷ t) [] p q crlf text_ends (e ∙ sym (append-nil m))).1))
rfc-once (record_ended {t = t} p h) (record_ended {t = t'} q k) e =
    let same = record-once (13 ∷ 10 ∷ t) (13 ∷ 10 ∷ t') p q crlf crlf e in
    ap₂ (λ (x : List (List ℕ)) (xs : List (List (List ℕ))). x ∷ xs) same.0 (rfc-once h k (tails-same (tails-same same.1)))
