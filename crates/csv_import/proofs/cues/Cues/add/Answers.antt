-- `add` meets its contract: the record joins the last cue, begins another, or may not follow.
-- Rests on Counting.antt.
use Rattle.std.proofs.Common.{◌≡◌, sym, ap, ◌∙◌, inl, inr, refl, ⊎_elim, Option, Some}
use Rattle.rules.specs.Table.{indicator}
use Rattle.csv_import.specs.declared.cues.Last.{Last}
use Rattle.csv_import.proofs.Counting.{as-number, stays, joins, begins}
use Rattle.csv_import.proofs.cues.Cues.add.Goals as goal
use Rattle.csv_import.proofs.cues.Cues.add.Goals.{in-Some+else-last-eq0+else-not-has_way, in_default, in_default-via-in-Some+else-last-row, in_default-via-in_default}

pub returns-then-last-eq0 : goal.returns-then-last-eq0
returns-then-last-eq0 c = λ cs d h number ways. (
  stays h d c.is_some-has_way.result (ways ∙ ap indicator (sym c.is_some-has_way.ensures)) c.in-Some.is (c.if-last-row.true ∙ sym number)
      (⊎_elim inl (λ z. inr z.1) c.then-last-eq0.either),
  refl,
)

pub returns : goal.returns
returns c = λ cs d h number told.
    let has_way = c.is_some-has_way.result in
    let ways = told ∙ ap indicator (sym c.is_some-has_way.ensures) in
    elim c.match-self.branch [
      | in-Some+else-last-eq0+else-not-has_way w ↦
          rw w.self-is
          (joins h d has_way ways w.in-Some.is (w.if-last-row.true ∙ sym number) w.if-last-eq0.false w.if-not-has_way.false _ _ (sym number)
          (w.ways-is ∙ w.saturating_add-ways.ensures))
      | in_default w ↦
          rw w.self-is
          (begins h d has_way ways
          (λ l is same. elim w.in_default.branch [
            | in_default-via-in-Some+else-last-row w' ↦
                let found : ◌≡◌ {A = Option Last} (Some w'.in-Some.last) (Some l) = sym w'.in-Some.is ∙ is in
                let last : w'.in-Some.last ≡ l = cc in
                w'.if-last-row.false (ap (λ (l : Last). l.number) last ∙ same ∙ number)
            | in_default-via-in_default w' ↦ w'.in_default.not-Some l is
          ])
          (w.close.ensures cs h) _ _ (sym number) (w.ways-is ∙ w.from-ways.ensures ∙ as-number has_way))
    ]
