-- Records that are written are found again, whether their fields are bare or quoted, and whether the last CR LF is there or not: so they import alike
-- (RULES 13.1 to 13.3). Rests on the definitions of Cut, Texts and Calls.
use mathlib.Core.Path.{◌≡◌, refl, sym, ap, ap₂, ◌∙◌}
use mathlib.Core.Bool.{Bool, true, false, ◌&&◌}
use mathlib.Core.List.{List, [], ◌∷◌, ◌++◌, map}
use Prim.Native.Nat.{ℕ, suc, ◌+◌, ◌-◌, ◌<◌, ◌≤◌}
use native.Mathlib.Omega.{arith}
use lib.ListN.{length, get_or, take, drop, length-append, length-map}
use lib.Seq.{get_or-append_seam, take_at}
use lib.Dec.{eqb, leb}
use borrow.Author.Tests.{ne_eqb, eqb-true, le-leb, eq-eqb}
use Rattle.rules.proofs.Booleans.{and_both, and-false, and_split}
use Rattle.csv_text.specs.Cut.{onto, lines_in, raw_fields, quoted, unquoted, fields_in, records_in}
use Rattle.csv_text.specs.Shapes.{misread, sheet_in}
use Rattle.csv_text.specs.Texts.{further_fields, record_text, rendered}
use Rattle.csv_text.specs.Calls.{text_lists, import_refusals, import_number, import_answer, imported}

-- ---- lists, member by member

-- Every member of a list is so.
abbrev pub Every : {A : Type 0} → (A → Type 0) → List A → Type 0
Every P [] = Unit {0}
Every P (x ∷ xs) = P x × Every P xs

-- Two lists are as long as each other, and the members at each position are so.
abbrev pub Pairwise : {A : Type 0} → (A → A → Type 0) → List A → List A → Type 0
Pairwise R [] [] = Unit {0}
Pairwise R [] (y ∷ ys) = ⊥
Pairwise R (x ∷ xs) [] = ⊥
Pairwise R (x ∷ xs) (y ∷ ys) = R x y × Pairwise R xs ys

-- Members that are so with themselves.
every-itself : {A : Type 0} (P : A → Type 0) (R : A → A → Type 0) → ((x : A) → P x → R x x) → (xs : List A) → Every P xs → Pairwise R xs xs
every-itself P R h [] k = tt
every-itself P R h (x ∷ xs) k = (h x k.0, every-itself P R h xs k.1)

-- What turns each member of one list into that of the other turns the one list into the other.
pairs-turned : {A : Type 0} (R : A → A → Type 0) (Q : A → Type 0) (f : A → A) → ((x y : A) → R x y → Q y × (f y ≡ x)) → (xs ys : List A)
    → Pairwise R xs ys → Every Q ys × (map f ys ≡ xs)
pairs-turned R Q f h [] [] k = (tt, refl)
pairs-turned R Q f h [] (y ∷ ys) k = absurd k
pairs-turned R Q f h (x ∷ xs) [] k = absurd k
pairs-turned {A} R Q f h (x ∷ xs) (y ∷ ys) k =
    let here = h x y k.0 in
    let rest = pairs-turned R Q f h xs ys k.1 in
    ((here.0, rest.0), ap₂ (λ (z : A) (zs : List A). z ∷ zs) here.1 rest.1)

-- ---- pieces as they may stand between commas

-- No byte of a list is x.
abbrev pub Free : ℕ → List ℕ → Type 0
Free x bs = Every (λ (b : ℕ). b ≡ x → ⊥) bs

-- Two lists one behind the other.
pub free-append : (x : ℕ) (xs ys : List ℕ) → Free x xs → Free x ys → Free x (xs ++ ys)
free-append x [] ys h k = k
free-append x (y ∷ xs) ys h k = (h.0, free-append x xs ys h.1 k)

-- A piece without comma and CR.
pub record Clean (f : List ℕ) : Type 0 where
  pub comma : Free 44 f
  pub return : Free 13 f

-- A record of such pieces, at least one.
abbrev pub CleanRecord : List (List ℕ) → Type 0
CleanRecord r = (0 < length r) × Every Clean r

-- ---- fields

-- A byte that is no comma belongs to the first piece.
bare-byte : (b : ℕ) (bs : List ℕ) → (b ≡ 44 → ⊥) → raw_fields (b ∷ bs) ≡ onto b (raw_fields bs)
unfolding raw_fields
bare-byte b bs h = rw (ne_eqb b 44 h, raw_fields)

-- A piece in front of what begins with a comma, or is nothing.
pub raw-front : (f rest : List ℕ) (fs : List (List ℕ)) → Free 44 f → raw_fields rest ≡ [] ∷ fs → raw_fields (f ++ rest) ≡ f ∷ fs
unfolding onto
raw-front [] rest fs h e = e
raw-front (b ∷ f) rest fs h e = bare-byte b (f ++ rest) h.0 ∙ ap (onto b) (raw-front f rest fs h.1 e)

-- The pieces behind another.
raw-further : (fs : List (List ℕ)) → Every Clean fs → raw_fields (further_fields fs) ≡ [] ∷ fs
unfolding raw_fields further_fields
raw-further [] h = refl
raw-further (f ∷ fs) h = ap (λ (r : List (List ℕ)). [] ∷ r) (raw-front f (further_fields fs) fs h.0.comma (raw-further fs h.1))

-- The fields of a record's bytes are its pieces without their quotes.
pub fields-written : (r : List (List ℕ)) → CleanRecord r → fields_in (record_text r) ≡ map unquoted r
unfolding fields_in record_text
fields-written [] h = absurd (omega arith)
fields-written (f ∷ fs) h = ap (map unquoted) (raw-front f (further_fields fs) fs h.1.0.comma (raw-further fs h.1.1))

-- ---- lines

-- Pieces behind another have no CR.
further-free : (fs : List (List ℕ)) → Every Clean fs → Free 13 (further_fields fs)
unfolding further_fields
further-free [] h = tt
further-free (f ∷ fs) h = ((λ e. omega arith), free-append 13 f (further_fields fs) h.0.return (further-free fs h.1))

-- A record's bytes have no CR.
line-free : (r : List (List ℕ)) → CleanRecord r → Free 13 (record_text r)
unfolding record_text
line-free [] h = tt
line-free (f ∷ fs) h = free-append 13 f (further_fields fs) h.1.0.return (further-free fs h.1.1)

-- The lines from a byte on, by whether a line ends there.
unfoldable pub cut_by : ℕ → ℕ → List ℕ → Bool → List (List ℕ)
cut_by b c bs x = elim x as (λ y. List (List ℕ)) [ true ↦ [] ∷ lines_in bs | false ↦ onto b (lines_in (c ∷ bs)) ]

-- They are these.
pub lines_cut : (b c : ℕ) (bs : List ℕ) (x : Bool) → eqb b 13 && eqb c 10 ≡ x → lines_in (b ∷ c ∷ bs) ≡ cut_by b c bs x
unfolding lines_in cut_by
lines_cut b c bs x e = ap (cut_by b c bs) e

-- A byte that is no CR belongs to the first line.
pub bare-line : (b c : ℕ) (bs : List ℕ) → (b ≡ 13 → ⊥) → lines_in (b ∷ c ∷ bs) ≡ onto b (lines_in (c ∷ bs))
unfolding cut_by
bare-line b c bs h = lines_cut b c bs false (ap (λ (x : Bool). x && eqb c 10) (ne_eqb b 13 h))

-- A line without CR in front of CR LF and other lines.
pub lines-front : (l rest : List ℕ) → Free 13 l → lines_in (l ++ 13 ∷ 10 ∷ rest) ≡ l ∷ lines_in rest
unfolding lines_in onto
lines-front [] rest h = refl
lines-front (b ∷ []) rest h = bare-line b 13 (10 ∷ rest) h.0
lines-front (b ∷ c ∷ l) rest h = bare-line b c (l ++ 13 ∷ 10 ∷ rest) h.0 ∙ ap (onto b) (lines-front (c ∷ l) rest h.1)

-- The records of a text that is written so are its pieces without their quotes.
pub records-written : (rs : List (List (List ℕ))) → Every CleanRecord rs → records_in (rendered rs) ≡ map (map unquoted) rs
unfolding records_in rendered lines_in
records-written [] h = refl
records-written (r ∷ rs) h =
    ap (map fields_in) (lines-front (record_text r) (rendered rs) (line-free r h.0))
    ∙ ap₂ (λ (x : List (List ℕ)) (y : List (List (List ℕ))). x ∷ y) (fields-written r h.0) (records-written rs h.1)

-- ---- texts that import alike

-- Two texts, imported: the same record is misread if any, the same sheet is said, and in every space the same number, answer and bytes.
pub record ImportAlike (t u : List ℕ) : Type 0 where
  pub at_record : misread t ≡ misread u
  pub sheet : sheet_in t ≡ sheet_in u
  pub number : (n : ℕ) → import_number t n ≡ import_number u n
  pub answer : (n : ℕ) → import_answer t n ≡ import_answer u n
  pub space : (space : List ℕ) → imported t space ≡ imported u space

-- An import looks at nothing but the record that is misread and the sheet.
pub import-alike : (t u : List ℕ) → misread t ≡ misread u → sheet_in t ≡ sheet_in u → ImportAlike t u
unfolding text_lists import_refusals import_number import_answer imported
import-alike t u m s =
    record {
      at_record = m;
      sheet = s;
      number = λ n. rw (m, s);
      answer = λ n. rw (m, s);
      space = λ space. rw (m, s);
    }

-- Two texts with the same records import alike.
pub import-same : (t u : List ℕ) → records_in t ≡ records_in u → ImportAlike t u
unfolding misread sheet_in
import-same t u e = import-alike t u (rw e) (rw e)

-- ---- quotes

-- A field in quotes.
abbrev pub quotes : List ℕ → List ℕ
quotes f = 34 ∷ f ++ 34 ∷ []

-- A piece that begins and ends with a quote is the field between them.
pub quoted-both : (f : List ℕ) → 2 ≤ length f → get_or f 0 0 ≡ 34 → get_or f (length f - 1) 0 ≡ 34 → unquoted f ≡ take (length f - 2) (drop 1 f)
unfolding quoted unquoted
quoted-both f h a b =
    let q : quoted f ≡ true = and_both _ _ (le-leb 2 (length f) h) (and_both _ _ (eq-eqb (get_or f 0 0) 34 a) (eq-eqb (get_or f (length f - 1) 0) 34 b)) in
    rw (q, unquoted)

-- A field in quotes is that field.
pub unquoted-quotes : (f : List ℕ) → unquoted (quotes f) ≡ f
unquoted-quotes f =
    let n : length (f ++ 34 ∷ []) ≡ length f + 1 = length-append f (34 ∷ []) in
    let last : length (34 ∷ f ++ 34 ∷ []) - 1 ≡ suc (length f) = omega arith in
    let size : length (34 ∷ f ++ 34 ∷ []) - 2 ≡ length f = omega arith in
    quoted-both (34 ∷ f ++ 34 ∷ []) (omega arith) refl (rw last (get_or-append_seam f 34 [] 0)) ∙ rw size (take_at f (34 ∷ []) (length f) refl)

-- A field as a piece of a text: bare, if it does not begin and end with a quote itself, or in quotes.
pub data Stands (f : List ℕ) : List ℕ → Type 0 where
  bare : quoted f ≡ false → Stands f f
  in_quotes : Stands f (quotes f)

-- The pieces of a record as its fields stand. It has at least one field, and none of them has a comma or a CR.
abbrev pub StandRecord : List (List ℕ) → List (List ℕ) → Type 0
StandRecord r ps = (0 < length r) × Pairwise (λ (f p : List ℕ). Clean f × Stands f p) r ps

-- The pieces of a table as its records stand.
abbrev pub StandTable : List (List (List ℕ)) → List (List (List ℕ)) → Type 0
StandTable rs ps = Pairwise StandRecord rs ps

-- Such a piece has neither comma nor CR, and is that field.
stands-clean : (f p : List ℕ) → Clean f × Stands f p → Clean p × (unquoted p ≡ f)
unfolding unquoted
stands-clean f _ (h, bare e) = (h, rw (e, unquoted))
stands-clean f _ (h, in_quotes) = (
  record {
    comma = ((λ e. omega arith), free-append 44 f (34 ∷ []) h.comma ((λ e. omega arith), tt));
    return = ((λ e. omega arith), free-append 13 f (34 ∷ []) h.return ((λ e. omega arith), tt));
  },
  unquoted-quotes f,
)

-- So of a record.
stand-record : (r ps : List (List ℕ)) → StandRecord r ps → CleanRecord ps × (map unquoted ps ≡ r)
stand-record r ps h =
    let all = pairs-turned (λ (f p : List ℕ). Clean f × Stands f p) Clean unquoted stands-clean r ps h.1 in
    ((omega (arith, h.0, sym (ap length all.1), length-map ps unquoted), all.0), all.1)

-- However its fields stand, the records of a table are found again.
pub records-standing : (rs ps : List (List (List ℕ))) → StandTable rs ps → records_in (rendered ps) ≡ rs
records-standing rs ps h =
    let all = pairs-turned StandRecord CleanRecord (map unquoted) stand-record rs ps h in
    records-written ps all.0 ∙ all.1

-- Bare or quoted: two texts of the same table, whatever fields stand bare in one and quoted in the other, import alike.
pub quoting-same : (rs ps qs : List (List (List ℕ))) → StandTable rs ps → StandTable rs qs → ImportAlike (rendered ps) (rendered qs)
quoting-same rs ps qs h k = import-same (rendered ps) (rendered qs) (records-standing rs ps h ∙ sym (records-standing rs qs k))

-- ---- fields as they are exported

-- A plain field: every byte is above a comma, and so neither comma, quote, CR nor LF.
abbrev pub Plain : List ℕ → Type 0
Plain f = Every (λ (b : ℕ). 44 < b) f

-- A record of such fields, at least one.
abbrev pub PlainRecord : List (List ℕ) → Type 0
PlainRecord r = (0 < length r) × Every Plain r

-- A plain field has no byte up to a comma.
plain-free : (x : ℕ) → x ≤ 44 → (f : List ℕ) → Plain f → Free x f
plain-free x l [] h = tt
plain-free x l (b ∷ f) h = ((λ e. omega arith), plain-free x l f h.1)

-- It does not begin with a quote.
plain-unquoted : (f : List ℕ) → Plain f → quoted f ≡ false
unfolding quoted
plain-unquoted [] h = refl
plain-unquoted (b ∷ f) h =
    let last : Bool = eqb (get_or (b ∷ f) (length (b ∷ f) - 1) 0) 34 in
    ap (λ (x : Bool). leb 2 (length (b ∷ f)) && (x && last)) (ne_eqb b 34 (λ e. omega arith)) ∙ and-false (leb 2 (length (b ∷ f)))

-- So it may stand bare.
pub plain-stands : (f : List ℕ) → Plain f → Clean f × Stands f f
plain-stands f h = (record { comma = plain-free 44 (omega arith) f h; return = plain-free 13 (omega arith) f h }, bare (plain-unquoted f h))

-- So of a record.
plain-record : (r : List (List ℕ)) → PlainRecord r → StandRecord r r
plain-record r h = (h.0, every-itself Plain (λ (f p : List ℕ). Clean f × Stands f p) plain-stands r h.1)

-- The records of a text of plain fields are those that it was written from.
pub records-rendered : (rs : List (List (List ℕ))) → Every PlainRecord rs → records_in (rendered rs) ≡ rs
records-rendered rs h = records-standing rs rs (every-itself PlainRecord StandRecord plain-record rs h)

-- ---- the last CR LF

-- A text does not end in CR LF.
abbrev pub Unended : List ℕ → Type 0
Unended t = (u : List ℕ) → t ≡ u ++ 13 ∷ 10 ∷ [] → ⊥

-- CR LF behind it adds no line.
abbrev EndAddsNone : List ℕ → Type 0
EndAddsNone t = 0 < length t → Unended t → lines_in (t ++ 13 ∷ 10 ∷ []) ≡ lines_in t

-- CR LF behind a text that is not empty and does not end in CR LF ends its last line, and adds none.
lines-ended : (t : List ℕ) → EndAddsNone t
unfolding lines_in onto cut_by
lines-ended [] p h = absurd (omega arith)
lines-ended (b ∷ []) p h = lines_cut b 13 (10 ∷ []) false (and-false (eqb b 13))
lines-ended (b ∷ c ∷ bs) p h = split (eqb b 13 && eqb c 10) refl (lines-ended bs) (lines-ended (c ∷ bs))
  where
    after : (xs : List ℕ) → bs ≡ xs → b ≡ 13 → c ≡ 10 → EndAddsNone bs → lines_in (bs ++ 13 ∷ 10 ∷ []) ≡ lines_in bs
    after [] e x y rest = absurd (h [] (λ i. x i ∷ y i ∷ e i))
    after (d ∷ xs) e x y rest = rest (omega (arith, ap length e)) (λ u q. h (b ∷ c ∷ u) (ap (λ (l : List ℕ). b ∷ c ∷ l) q))

    split : (x : Bool) → eqb b 13 && eqb c 10 ≡ x → EndAddsNone bs → EndAddsNone (c ∷ bs)
        → lines_in (b ∷ c ∷ bs ++ 13 ∷ 10 ∷ []) ≡ lines_in (b ∷ c ∷ bs)
    split true e rest more =
        let both = and_split (eqb b 13) (eqb c 10) e in
        lines_cut b c (bs ++ 13 ∷ 10 ∷ []) true e
        ∙ ap (λ (ls : List (List ℕ)). [] ∷ ls) (after bs refl (eqb-true b 13 both.0) (eqb-true c 10 both.1) rest)
        ∙ sym (lines_cut b c bs true e)
    split false e rest more =
        lines_cut b c (bs ++ 13 ∷ 10 ∷ []) false e
        ∙ ap (onto b) (more (omega arith) (λ u q. h (b ∷ u) (ap (λ (l : List ℕ). b ∷ l) q)))
        ∙ sym (lines_cut b c bs false e)

-- With and without the last CR LF: every text that is not empty and does not end in CR LF imports like the same text with CR LF behind it.
pub last-end-same : (t : List ℕ) → 0 < length t → Unended t → ImportAlike (t ++ 13 ∷ 10 ∷ []) t
unfolding records_in
last-end-same t p h = import-same (t ++ 13 ∷ 10 ∷ []) t (ap (map fields_in) (lines-ended t p h))
