-- A step that ended well was looked at, and its record appended.
use Rattle.std.proofs.Common.{◌≡◌, ◌↔◌, ℕ, Bool, true, false, List, [], ◌∷◌, ◌++◌, Option, Some, None, Result, Ok, Err, refl, sym, ap, subst, ◌∙◌}
use Rattle.std.specs.Prelude.{⊤, IsTrue, MatchResult}
use Rattle.std.specs.Option.{IfSome}
use Rattle.std.proofs.lemmas.Bool.{false≢true}
use Rattle.b2_host.specs.declared.children.ChildEvent.TheVariants.{Done}
use Rattle.b2_host.specs.declared.fault.Failed.{Failed}
use Rattle.b2_host.specs.Disks.{Disk}
use Rattle.b2_host.specs.Outside.{Outside, Looks}
use Rattle.b2_host.specs.OutsideLaws.{both_map}
use Rattle.b2_host.specs.ReadsAdded.{reads_fails}
use Rattle.b2_plan.specs.declared.step.Step.{Step}
use Rattle.b2_log.specs.declared.line.Record.{Record}
use Rattle.b2_facts.specs.declared.stop.FilesStop.{FilesStop}
use Rattle.b2_facts.specs.declared.stop.FilesStop.TheVariants as stops
use Rattle.b2_facts.proofs.ListsAtPlaces.{none_some}
use Rattle.b2_reach.specs.declared.sights.Sights.{Sights}
use Rattle.b2_reach.proofs.GrowthComposes.{both_same}
use Rattle.b2_verdicts.specs.declared.step_numbers.StepNumbers.{StepNumbers}
use Rattle.b2_verdicts.specs.VerdictCalls.{IsOfStep, Always, Asks}
use Rattle.b2_verdicts.proofs.MoreIsKnown.{knows_same}
use Rattle.b2_verdicts.proofs.AskingGoesOn.{asks_quiet, asks_failed}
use Rattle.b2_looks.specs.Looks.{LooksAtFiles}
use Rattle.b2_looks.specs.UnderWay.{IsUnderWay, IsHalted}
use Rattle.b2_looks.specs.Judging.{OthersStayNoted}
use Rattle.b2_looks.proofs.FilesAreLookedAt.{looks_asked}
use Rattle.b2_turns.specs.Ends.{AllStand}
use Rattle.b2_turns.specs.Recording.{RecordTold}
use Rattle.b2_turns.proofs.RecordIsAppended.{outs_stand}
use Rattle.b2_turns.proofs.RecordIsTold.{Records, record_stopped}

-- ---- the outputs were looked at

-- not all of them stand
pub not_all_stand : (left : Bool) (outs paths : List (List ℕ)) (disk : Option Disk) → left ≡ false → paths ≡ outs → IfSome disk (λ d. IsTrue left ↔ AllStand paths d) → IfSome disk (λ d. AllStand outs d → ⊥)
not_all_stand left outs paths None off same told = tt
not_all_stand left outs paths (Some d) off same told = λ all. false≢true (sym off ∙ told.1 (subst (λ l. AllStand l d) (sym same) all))

module _ (step : Step) (numbers : StepNumbers) (x y : Outside) (s : Sights) where
  asks_same : {T : Type 0} (v : T) → y ≡ x → Asks {T = T} (IsOfStep numbers) Always s.facts s.facts x y (Ok v)
  asks_same {T} v same = asks_quiet {T = T} (IsOfStep numbers) Always s.facts s.facts x y v same (knows_same (IsOfStep numbers) x.disk Always s.facts)

  asks_not : {T : Type 0} (error : Failed) (r : Result T FilesStop) → r ≡ Err stops.Host → Looks {T = Bool} x y (Err error) → Asks {T = T} (IsOfStep numbers) Always s.facts s.facts x y r
  asks_not {T} error r is failed = asks_failed Bool {U = T} (IsOfStep numbers) Always s.facts s.facts x y error r is failed (knows_same (IsOfStep numbers) x.disk Always s.facts)

  pub looks_left : (steps : List Step) (roots : List (List ℕ)) (v : Bool) → y ≡ x → LooksAtFiles {T = Bool} steps roots (IsOfStep numbers) s x s y (Ok v)
  looks_left steps roots v same = looks_asked steps roots (IsOfStep numbers) Always s s x y (Ok v) refl (asks_same v same)

  pub looks_failed : (steps : List Step) (roots : List (List ℕ)) (error : Failed) (r : Result Bool FilesStop) → r ≡ Err stops.Host → Looks {T = Bool} x y (Err error) → LooksAtFiles {T = Bool} steps roots (IsOfStep numbers) s x s y r
  looks_failed steps roots error r is failed = looks_asked steps roots (IsOfStep numbers) Always s s x y r refl (asks_not error r is failed)

  -- the host failed
  pub left_failed : (error : Failed) (r : Result Bool FilesStop) → r ≡ Err stops.Host → Looks {T = Bool} x y (Err error) → RecordTold {T = Bool} (λ left. left ≡ true) step numbers x s y s r
  left_failed error r is failed = subst (RecordTold {T = Bool} (λ left. left ≡ true) step numbers x s y s) (sym is)
      (record_stopped {S = Bool} (λ left. left ≡ true) step numbers x y s s stops.Host (asks_not {T = Option Record} error (Err stops.Host) refl failed) (λ off. reads_fails x y failed) tt refl refl)

  -- an output is gone, which does not come of a step that ended well
  pub left_gone : (v : Bool) → y ≡ x → IfSome x.disk (λ d. AllStand step.outs d → ⊥) → RecordTold {T = Bool} (λ left. left ≡ true) step numbers x s y s (Ok v)
  left_gone v same gone = both_same (Records {T = Bool} (λ left. left ≡ true) step numbers x s y s (Ok v)) x.disk y.disk (ap (λ (o : Outside). o.disk) same) (λ disk here u events i first reads members distinct to w.
      let not_all = subst (λ o. IfSome o (λ d. AllStand step.outs d → ⊥)) here gone in
      absurd (not_all (λ path among none. (
      let (file, stands) = outs_stand u events i first step numbers members reads disk s to w path among in
      none_some file (sym none ∙ stands)))))

-- ---- and then the record was appended

-- what was told with one result holds with another
abbrev Passes : {T S : Type 0} → (T → Type 0) → (S → Type 0) → Result T FilesStop → Result S FilesStop → Type 1
Passes {T} {S} P Q r q = (O W : Type 0) (H : FilesStop → Type 0) → MatchResult r (λ x. (P x × O) × W) H → MatchResult q (λ x. (Q x × O) × W) H

module _ (step : Step) (numbers : StepNumbers) (x y z : Outside) (s v : Sights) (same : y ≡ x) where
  then_told : {T S : Type 0} (P : T → Type 0) (Q : S → Type 0) (r : Result T FilesStop) (q : Result S FilesStop) → Passes P Q r q → RecordTold {T = T} P step numbers y s z v r → RecordTold {T = S} Q step numbers x s z v q
  then_told {T} {S} P Q r q pass told = both_map (Records {T = T} P step numbers x s z v r) (Records {T = S} Q step numbers x s z v q) x.disk z.disk (subst (λ o. RecordTold {T = T} P step numbers o s z v r) same told) (λ before after told_of u events i first reads members distinct to w.
      let gone_on = told_of u events i first reads members distinct to w in
      record {
        more = gone_on.more;
        adds = gone_on.adds;
        after = pass (OthersStayNoted u (events ++ Done i true ∷ []) step before.now s.journal after.now v.journal) (IsUnderWay u (events ++ Done i true ∷ []) first (reads ++ gone_on.more) after v) (λ stop. IsHalted u (events ++ Done i true ∷ []) (reads ++ gone_on.more) after v.facts stop) gone_on.after;
      })

  pub left_noted : (o : Unit {0}) → RecordTold {T = Unit {0}} (λ a. ⊤) step numbers y s z v (Ok o) → RecordTold {T = Bool} (λ left. left ≡ true) step numbers x s z v (Ok true)
  left_noted o told = then_told {T = Unit {0}} {S = Bool} (λ a. ⊤) (λ left. left ≡ true) (Ok o) (Ok true) (λ O W H h. ((refl, h.0.1), h.1)) told

  pub left_stopped : (stop : FilesStop) (r : Result Bool FilesStop) → r ≡ Err stop → RecordTold {T = Unit {0}} (λ a. ⊤) step numbers y s z v (Err stop) → RecordTold {T = Bool} (λ left. left ≡ true) step numbers x s z v r
  left_stopped stop r is told = subst (RecordTold {T = Bool} (λ left. left ≡ true) step numbers x s z v) (sym is) (then_told {T = Unit {0}} {S = Bool} (λ a. ⊤) (λ left. left ≡ true) (Err stop) (Err stop) (λ O W H h. h) told)
