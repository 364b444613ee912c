use Rattle.std.proofs.Common.{◌≡◌, ◌∙◌, ℕ, Option, Err, Ok, refl, sym, ap, subst}
use Rattle.std.specs.Prelude.{MatchOption}
use Rattle.std.proofs.lemmas.Result.{err_from_is_err_and}
use Rattle.b2_host.specs.LogChanges.{log_changes_same}
use Rattle.b2_sched.specs.Schedules.{IsNeeded, IsUnjudged, IsStep, CanLook}
use Rattle.b2_sched.specs.SchedulerCalls.{looked_at}
use Rattle.b2_board.specs.declared.board.Board.{Board}
use Rattle.b2_looks.specs.UnderWay.{LookTold}
use Rattle.b2_facts.proofs.FactsGrow.{learns_same}
use Rattle.b2_verdicts.specs.declared.judging_mode.JudgingMode.{JudgingMode}
use Rattle.b2_looks.specs.Looks.{IsOfUnstarted, AreLooks, LooksOn}
use Rattle.b2_looks.proofs.LooksAreKept.{on_same, on_then}
use Rattle.b2_looks.proofs.FilesAreLookedAt.{looks_none, looks_err}
use Rattle.b2_looks.proofs.StepsAreLookedAt.{looks_taken, on_taken, look_then}
use Rattle.b2_looks.proofs.LooksAreTold.{told_none, told_taken, told_then, told_err}
use Rattle.b2_looks.proofs.looks.Looks.look_each.Goals as goal

pub loop-number-init : goal.loop-number-init
loop-number-init g c = record {
  files = looks_none c.args.plan.now.steps c.args.plan.now.roots (IsOfUnstarted c.args.self.now.board.sched c.args.sights.now.facts) c.args.sights.now c.args.sights.now (g.F.Files.outside c.args.files.now) tt
      (learns_same c.args.plan.now.steps c.args.plan.now.roots (IsOfUnstarted c.args.self.now.board.sched c.args.sights.now.facts) c.args.sights.now.facts) refl;
  about = c.requires.about;
  way = refl;
  looks = c.requires.looks;
  on = on_same c.args.self.now;
  told = told_none c.args.plan.now (g.F.Files.outside c.args.files.now) c.args.self.now c.args.sights.now tt;
}

pub look-requires-clause-looks : goal.look-requires-clause-looks
look-requires-clause-looks g c =
    let plan = c.args.plan.now in
    let s = c.loop-number.sights in
    let l = c.loop-number.self in
    looks_taken plan c.in-Some.number s.facts l c.take_look.new.self c.in-Some.ensures.after.1 (c.in-Some.ensures.board plan s.facts c.loop-number.invariant.looks.board) c.loop-number.invariant.looks

pub look-requires-clause-way : goal.look-requires-clause-way
look-requires-clause-way g c = c.loop-number.invariant.files.way ∙ c.requires.way ∙ ap (λ (w : JudgingMode). w.by_digest) (sym c.loop-number.invariant.way)

pub returns-in_err-look-clause-looks : goal.returns-in_err-look-clause-looks
returns-in_err-look-clause-looks g c =
    let (e1, e, q) = err_from_is_err_and c.from_residual.result c.from_residual.ensures.1 in
    let stop = c.in_err-look.field-0.0 in
    let plan = c.args.plan.now in
    let s0 = c.args.sights.now in
    let s = c.loop-number.sights in
    let t = c.look.new.sights in
    let x = g.F.Files.outside c.args.files.now in
    let y = g.F.Files.outside c.loop-number.files in
    let z = g.F.Files.outside c.look.new.files in
    let l0 = c.args.self.now in
    let l = c.loop-number.self in
    let b = c.take_look.new.self in
    let m = record l { board = b } in
    looks_err plan.steps plan.roots (IsOfUnstarted l0.board.sched t.facts) s0 t x z stop c.from_residual.result (e ∙ ap Err q)
    (look_then plan l0 m s0 s t x y z tt (Err stop) (on_then l0 l m c.loop-number.invariant.on (on_taken plan c.in-Some.number s.facts l b c.in-Some.ensures.after.1)) c.loop-number.invariant.files c.in_err-look.ensures.looks)

pub returns-in_err-look-clause-way : goal.returns-in_err-look-clause-way
returns-in_err-look-clause-way g c = c.in_err-look.ensures.way ∙ c.loop-number.invariant.way

pub returns-in_err-look-clause-told : goal.returns-in_err-look-clause-told
returns-in_err-look-clause-told g c =
    let (e1, e, q) = err_from_is_err_and c.from_residual.result c.from_residual.ensures.1 in
    let stop = c.in_err-look.field-0.0 in
    let plan = c.args.plan.now in
    let s0 = c.args.sights.now in
    let s = c.loop-number.sights in
    let t = c.look.new.sights in
    let x = g.F.Files.outside c.args.files.now in
    let y = g.F.Files.outside c.loop-number.files in
    let z = g.F.Files.outside c.look.new.files in
    let l0 = c.args.self.now in
    let l = c.loop-number.self in
    let b = c.take_look.new.self in
    let m = record l { board = b } in
    let n = c.look.new.self in
    let on = on_then l0 l m c.loop-number.invariant.on (on_taken plan c.in-Some.number s.facts l b c.in-Some.ensures.after.1) in
    let taken = told_then plan x y y l0 l m s0 s s tt (Ok tt) c.loop-number.invariant.on c.loop-number.invariant.way (log_changes_same y y refl).files c.loop-number.invariant.told (told_taken plan c.in-Some.number y l b s tt c.in-Some.ensures.after.1) in
    told_err (Unit {0}) (Unit {0}) plan x z l0 n s0 t stop c.from_residual.result (e ∙ ap Err q) (told_then plan x y z l0 m n s0 s t tt (Err stop) on c.loop-number.invariant.way c.in_err-look.ensures.looks.only_log.files taken c.in_err-look.ensures.told)

pub loop-number-preserved : goal.loop-number-preserved
loop-number-preserved g c =
    let plan = c.args.plan.now in
    let s0 = c.args.sights.now in
    let s = c.loop-number.sights in
    let t = c.look.new.sights in
    let x = g.F.Files.outside c.args.files.now in
    let y = g.F.Files.outside c.loop-number.files in
    let z = g.F.Files.outside c.look.new.files in
    let l0 = c.args.self.now in
    let l = c.loop-number.self in
    let b = c.take_look.new.self in
    let m = record l { board = b } in
    let n = c.look.new.self in
    let on = on_then l0 l m c.loop-number.invariant.on (on_taken plan c.in-Some.number s.facts l b c.in-Some.ensures.after.1) in
    let taken = told_then plan x y y l0 l m s0 s s tt (Ok tt) c.loop-number.invariant.on c.loop-number.invariant.way (log_changes_same y y refl).files c.loop-number.invariant.told (told_taken plan c.in-Some.number y l b s tt c.in-Some.ensures.after.1) in
    record {
      files = look_then plan l0 m s0 s t x y z tt (Ok tt) on c.loop-number.invariant.files c.in_ok-look.ensures.looks;
      about = c.in_ok-look.ensures.looks.learns.about c.loop-number.invariant.about;
      way = c.in_ok-look.ensures.way ∙ c.loop-number.invariant.way;
      looks = c.in_ok-look.ensures.after;
      on = on_then l0 m n on c.in_ok-look.ensures.on;
      told = told_then plan x y z l0 m n s0 s t tt (Ok tt) on c.loop-number.invariant.way c.in_ok-look.ensures.looks.only_log.files taken c.in_ok-look.ensures.told;
    }

pub returns-clause-looks : goal.returns-clause-looks
returns-clause-looks g c = c.loop-number.invariant.files

pub returns-clause-way : goal.returns-clause-way
returns-clause-way g c = c.loop-number.invariant.way

pub returns-clause-after : goal.returns-clause-after
returns-clause-after g c =
    let after : c.take_look.new.self ≡ c.loop-number.self.board = subst (λ (o : Option ℕ). MatchOption o (c.take_look.new.self ≡ c.loop-number.self.board) (λ number. (c.take_look.new.self.works ≡ c.loop-number.self.board.works) × (c.take_look.new.self.sched ≡ looked_at c.loop-number.self.board.sched number))) c.in_default.is c.take_look.ensures.after in
    subst (λ (b : Board). AreLooks c.args.plan.now 0 c.loop-number.sights.facts (record c.loop-number.self { board = b })) (sym after) c.loop-number.invariant.looks

pub returns-clause-on : goal.returns-clause-on
returns-clause-on g c =
    let after : c.take_look.new.self ≡ c.loop-number.self.board = subst (λ (o : Option ℕ). MatchOption o (c.take_look.new.self ≡ c.loop-number.self.board) (λ number. (c.take_look.new.self.works ≡ c.loop-number.self.board.works) × (c.take_look.new.self.sched ≡ looked_at c.loop-number.self.board.sched number))) c.in_default.is c.take_look.ensures.after in
    subst (λ (b : Board). LooksOn c.args.self.now (record c.loop-number.self { board = b })) (sym after) c.loop-number.invariant.on

pub returns-clause-all : goal.returns-clause-all
returns-clause-all g c i can =
    let after : c.take_look.new.self ≡ c.loop-number.self.board = subst (λ (o : Option ℕ). MatchOption o (c.take_look.new.self ≡ c.loop-number.self.board) (λ number. (c.take_look.new.self.works ≡ c.loop-number.self.board.works) × (c.take_look.new.self.sched ≡ looked_at c.loop-number.self.board.sched number))) c.in_default.is c.take_look.ensures.after in
    let none = subst (λ (o : Option ℕ). MatchOption o ((i : ℕ) → CanLook c.loop-number.self.board.sched i → ⊥) (λ number. IsNeeded c.take_look.new.self.sched number × IsUnjudged c.take_look.new.self.sched number × IsStep c.take_look.new.self.sched number)) c.in_default.is c.take_look.ensures.none in
    none i (subst (λ (b : Board). CanLook b.sched i) after can)

pub returns-clause-told : goal.returns-clause-told
returns-clause-told g c =
    let after : c.take_look.new.self ≡ c.loop-number.self.board = subst (λ (o : Option ℕ). MatchOption o (c.take_look.new.self ≡ c.loop-number.self.board) (λ number. (c.take_look.new.self.works ≡ c.loop-number.self.board.works) × (c.take_look.new.self.sched ≡ looked_at c.loop-number.self.board.sched number))) c.in_default.is c.take_look.ensures.after in
    subst (λ (b : Board). LookTold {T = Unit {0}} c.args.plan.now (g.F.Files.outside c.args.files.now) c.args.self.now c.args.sights.now (g.F.Files.outside c.loop-number.files) (record c.loop-number.self { board = b }) c.loop-number.sights (Ok tt)) (sym after) c.loop-number.invariant.told
