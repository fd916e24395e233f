-- The records of a text, piece by piece as they are written.
-- Rests on the definitions of Parts.
use Rattle.std.proofs.Common.{◌≡◌, ℕ, zero, suc, List, [], ◌∷◌, ◌++◌, map, length, drop, flat_map, refl, sym, ap, ◌∙◌, append_assoc, append-nil}
use Rattle.rules.specs.declared.Limits.{Limits}
use Rattle.rules.specs.Text.{bytes, decimal}
use Rattle.rules.specs.declared.Entry.{Entry}
use Rattle.sheet.specs.Parts.{parts, words}
use Rattle.rules.specs.declared.Words.{Words}
use Rattle.sheet.proofs.Stated.{length_parts}
use Rattle.csv_text.specs.Texts.{mode_fields, run_record, weights_record, way_record, way_records, or_alone, record_text, rendered, further_fields}
use Rattle.csv_export.specs.Parts.{ended, faults_text, way_text, ways_of, cue_text, entry_text}

-- ---- the records in front of the cues

-- The mode by a distance takes no field.
pub no_mode : (k : ℕ) → k ≡ 0 → further_fields (mode_fields k) ≡ []
unfolding mode_fields further_fields
no_mode k e = rw e refl

-- Any other takes one.
pub some_mode : (k : ℕ) → (k ≡ 0 → ⊥) → further_fields (mode_fields k) ≡ 44 ∷ decimal k
unfolding mode_fields further_fields
some_mode zero h = absurd (h refl)
some_mode (suc k) h = ap (λ (t : List ℕ). 44 ∷ t) (append-nil (decimal (suc k)))

-- The limits.
pub limits_bytes : (m : Limits) → ended (run_record m)
    ≡ (114 ∷ 117 ∷ 110 ∷ []) ++ (44 ∷ decimal m.allowance) ++ (44 ∷ decimal m.budget) ++ further_fields (mode_fields m.mode) ++ 13 ∷ 10 ∷ []
unfolding ended run_record record_text further_fields bytes
limits_bytes m =
    let a = 44 ∷ decimal m.allowance in
    let b = 44 ∷ decimal m.budget in
    let mode = further_fields (mode_fields m.mode) in
    ap (λ (t : List ℕ). t ++ 13 ∷ 10 ∷ []) (sym (append_assoc (bytes "run") a (b ++ mode)) ∙ sym (append_assoc (bytes "run" ++ a) b mode))

-- The fields of weights, and the end of their record.
abbrev pub fields_ended : List ℕ → List ℕ
fields_ended ws = further_fields (map decimal ws) ++ 13 ∷ 10 ∷ []

-- The weights.
pub weights_bytes : (ws : List ℕ) → ended (weights_record ws) ≡ bytes "weights" ++ fields_ended ws
unfolding ended weights_record record_text
weights_bytes ws = append_assoc (bytes "weights") (further_fields (map decimal ws)) (13 ∷ 10 ∷ [])

-- The field of the first weight.
pub first_field : {ws rest : List ℕ} {w : ℕ} → ws ≡ w ∷ rest → fields_ended ws ≡ (44 ∷ decimal w) ++ fields_ended rest
unfolding further_fields
first_field {rest = rest} {w = w} e = rw e (append_assoc (44 ∷ decimal w) (further_fields (map decimal rest)) (13 ∷ 10 ∷ []))

-- ---- the records of cues

-- Records behind others.
pub rendered-both : (rs ts : List (List (List ℕ))) → rendered (rs ++ ts) ≡ rendered rs ++ rendered ts
unfolding rendered
rendered-both [] ts = refl
rendered-both (r ∷ rs) ts =
    ap (λ (x : List ℕ). record_text r ++ 13 ∷ 10 ∷ x) (rendered-both rs ts) ∙ sym (append_assoc (record_text r) (13 ∷ 10 ∷ rendered rs) (rendered ts))

module _ (c : ℕ) where
  -- The ways of a cue.
  ways-text : (ws : List Words) → rendered (way_records 64 c (map (λ w. w.present) ws) (map (λ w. w.absent) ws)) ≡ flat_map (way_text (decimal c)) ws
  unfolding way_records way_record rendered record_text way_text faults_text
  ways-text [] = refl
  ways-text (w ∷ ws) =
      let record_of : List ℕ = decimal c ++ faults_text w in
      ap (λ (t : List ℕ). record_of ++ 13 ∷ 10 ∷ t) (ways-text ws)
      ∙ sym (append_assoc record_of (13 ∷ 10 ∷ []) (flat_map (way_text (decimal c)) ws))

  -- Of a cue with ways.
  cue_ways : (ws : List Words) → (length ws ≡ 0 → ⊥) → cue_text c ws ≡ flat_map (way_text (decimal c)) ws
  unfolding cue_text or_alone way_records
  cue_ways [] h = absurd (h refl)
  cue_ways (w ∷ ws) h = ways-text (w ∷ ws)

module _ (bs : List ℕ) (e : Entry) where
  -- An entry without ways: its number alone.
  pub entry_alone : e.ways ≡ 0 → entry_text bs e ≡ decimal e.cue ++ 13 ∷ 10 ∷ []
  unfolding cue_text or_alone way_records rendered record_text further_fields parts
  entry_alone z = rw z (ap (λ (t : List ℕ). t ++ 13 ∷ 10 ∷ []) (append-nil (decimal e.cue)))

  -- An entry with ways: their records.
  pub entry_ways : (e.ways ≡ 0 → ⊥) → entry_text bs e ≡ flat_map (way_text (decimal e.cue)) (ways_of bs e)
  entry_ways some = cue_ways e.cue (ways_of bs e) (λ z. some (sym (length_parts words 16 e.ways (drop e.start bs)) ∙ z))
