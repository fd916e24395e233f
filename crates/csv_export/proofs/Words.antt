-- In an accepted sheet every word names faults of the sheet alone, so that the faults which it names of 64 are those which it names of the sheet's:
-- the text of the sheet is that of its parts.
-- Rests on `rules`, Accepted, CueTables and WriterLists, and on Entries.antt, Naming.antt and Records.antt.
use mathlib.Core.List.Memᴰ
use Rattle.std.proofs.Common.{◌≡◌, ℕ, zero, suc, ◌/◌, ◌^◌, ◌<◌, ◌≤◌, true, false, refl, sym, ap, ap₂, ◌∙◌, arith}
use Rattle.std.proofs.Common.{List, [], ◌∷◌, ◌++◌, map, length, flat_map, append_assoc}
use Rattle.std.proofs.Math.Nat.{pow-suc}
use Rattle.rules.specs.Members.{In}
use Rattle.rules.specs.Table.{odd, ways}
use Rattle.rules.specs.Refusals.{Accepted}
use Rattle.rules.specs.Sheet.{AllBelow, Cue, table_of, lists_in, sheet_of, read_number, decode}
use Rattle.rules.specs.Text.{decimal}
use Rattle.rules.specs.declared.Entry.{Entry}
use Rattle.rules.proofs.Accepted.{paired_words, inside}
use Rattle.rules.proofs.CueTables.{read-cue-accepted}
use Rattle.rules.proofs.Sheets.{within_decoded}
use Rattle.rules.proofs.WriterLists.{words-below}
use Rattle.sheet.specs.Reading.{entries_in}
use Rattle.csv_text.specs.declared.Fault.{Fault}
use Rattle.csv_text.specs.Texts.{mark, fault_text, faults_from, or_zero, way_record, way_records, or_alone, cue_records}
use Rattle.csv_text.specs.Texts.{run_record, weights_record, sheet_records, record_text, rendered, csv_of}
use Rattle.csv_export.specs.Parts.{ended, cue_text, entry_text, entries_text, sheet_text}
use Rattle.csv_export.proofs.Entries.{cue_of, entry_cues}
use Rattle.csv_export.proofs.Naming.{none_named}
use Rattle.csv_export.proofs.Records.{rendered-both}

-- Words below 2 ^ n name no fault beyond the first n.
beyond-none : (i n m p q : ℕ) → n ≤ m → p < 2 ^ n → q < 2 ^ n → faults_from i n p q ≡ faults_from i m p q
unfolding faults_from
beyond-none i zero m p q h hp hq =
    let p0 : 0 ≡ p = omega arith in
    let q0 : 0 ≡ q = omega arith in
    sym (none_named i m) ∙ ap₂ (faults_from i m) p0 q0
beyond-none i (suc n) zero p q h hp hq = absurd (omega arith)
beyond-none i (suc n) (suc m) p q h hp hq =
    ap (λ (fs : List Fault). mark (odd p) (record { place = i; absent = false }) (mark (odd q) (record { place = i; absent = true }) fs))
    (beyond-none (suc i) n m (p / 2) (q / 2) (omega arith) (omega (arith, pow-suc 2 n)) (omega (arith, pow-suc 2 n)))

-- So the records of such words are the same.
ways-same : (n c : ℕ) → n ≤ 64 → (ps qs : List ℕ) → AllBelow (2 ^ n) ps → AllBelow (2 ^ n) qs → way_records n c ps qs ≡ way_records 64 c ps qs
unfolding way_records way_record
ways-same n c h [] qs hp hq = refl
ways-same n c h (p ∷ ps) [] hp hq = refl
ways-same n c h (p ∷ ps) (q ∷ qs) hp hq =
    ap₂ (λ (fs : List Fault) (r : List (List (List ℕ))). (decimal c ∷ or_zero (map fault_text fs)) ∷ r)
    (beyond-none 0 n 64 p q h hp.0 hq.0) (ways-same n c h ps qs hp.1 hq.1)

-- The records of cues whose tables are accepted.
cues-same : (ws : List ℕ) → length ws ≤ 64 → (cs : List Cue) → ((c : Cue) → In c cs → Accepted (table_of ws c))
    → cue_records (length ws) cs ≡ cue_records 64 cs
unfolding cue_records ways
cues-same ws h [] ok = refl
cues-same ws h (c ∷ cs) ok =
    let own = ok c (Memᴰ.head refl) in
    let below = words-below (length ws) 0 c.present c.absent (sym (paired_words (table_of ws c) own)) (inside (table_of ws c) own) in
    ap₂ (λ (r t : List (List (List ℕ))). or_alone c.number r ++ t)
    (ways-same (length ws) c.number h c.present c.absent below.0 below.1)
    (cues-same ws h cs (λ d m. ok d (Memᴰ.tail m)))

-- ---- the text

-- A record in front of others.
rendered-ended : (r : List (List ℕ)) (rs : List (List (List ℕ))) → rendered (r ∷ rs) ≡ ended r ++ rendered rs
unfolding rendered ended
rendered-ended r rs = sym (append_assoc (record_text r) (13 ∷ 10 ∷ []) (rendered rs))

-- The records of cues, one cue after the other.
cues_each : (bs : List ℕ) (es : List Entry) → rendered (cue_records 64 (map (cue_of bs) es)) ≡ flat_map (entry_text bs) es
unfolding cue_text cue_records rendered
cues_each bs [] = refl
cues_each bs (e ∷ es) =
    let c = cue_of bs e in
    rendered-both (or_alone c.number (way_records 64 c.number c.present c.absent)) (cue_records 64 (map (cue_of bs) es))
    ∙ ap (λ t. entry_text bs e ++ t) (cues_each bs es)

-- THE TEXT of an accepted sheet is that of its parts.
pub text_parts : (bs : List ℕ) → AllBelow 256 bs → read_number bs ≡ 0 → csv_of (decode bs) ≡ sheet_text bs
unfolding csv_of sheet_records decode sheet_of lists_in
text_parts bs h accepted =
    let s = decode bs in
    let cues = cues-same s.weights (within_decoded bs h accepted).few_faults s.cues (read-cue-accepted bs h accepted) in
    ap (λ r. rendered (run_record s.limits ∷ weights_record s.weights ∷ r)) (cues ∙ ap (cue_records 64) (entry_cues bs accepted))
    ∙ rendered-ended (run_record s.limits) (weights_record s.weights ∷ cue_records 64 (map (cue_of bs) (entries_in bs)))
    ∙ ap (λ t. ended (run_record s.limits) ++ t) (rendered-ended (weights_record s.weights) (cue_records 64 (map (cue_of bs) (entries_in bs))))
    ∙ ap (λ t. ended (run_record s.limits) ++ (ended (weights_record s.weights) ++ t)) (cues_each bs (entries_in bs))
    ∙ sym (append_assoc (ended (run_record s.limits)) (ended (weights_record s.weights)) (entries_text bs))
