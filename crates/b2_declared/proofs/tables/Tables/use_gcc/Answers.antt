use Rattle.std.proofs.Common.{◌∙◌, true, List, Ok, sym, ap, ap₂}
use Rattle.b2_features.specs.Table.{DeclaredFeature}
use Rattle.b2_generators.specs.Table.{Registered}
use Rattle.b2_declared.specs.Carrying.{Tables}
use Rattle.b2_declared.specs.Views.{seen}
use Rattle.b2_declared.proofs.CarriedOut.{gcc_there, gcc_features_fault, gcc_types_fault, gcc_declared}
use Rattle.b2_declared.proofs.tables.Tables.use_gcc.Goals as goal

pub returns-then-self-clause-ok : goal.returns-then-self-clause-ok
returns-then-self-clause-ok c = gcc_there c.args.visit.now c.args.call.now (seen c.args.self.now) c.if-self.true

pub returns-in-Err-clause-fault : goal.returns-in-Err-clause-fault
returns-in-Err-clause-fault c = gcc_features_fault c.args.visit.now c.args.call.now (seen c.args.self.now) c.if-self.false c.in-Err.fault c.feature_refusal.result c.in-Err.ensures.cause c.feature_refusal.ensures

pub returns-then-not-branch-clause-fault : goal.returns-then-not-branch-clause-fault
returns-then-not-branch-clause-fault c =
    gcc_types_fault c.args.visit.now c.args.call.now (seen c.args.self.now) c.if-self.false c.in-Ok.ensures.sound c.refusal.result (c.in_ok-declare_gcc_types.ensures.taken (ap Ok c.if-not-branch.true)) c.refusal.ensures

pub returns-clause-ok : goal.returns-clause-ok
returns-clause-ok c =
    let t = seen c.args.self.now in
    gcc_declared c.args.visit.now c.args.call.now t c.if-self.false c.in-Ok.ensures.sound (c.in_ok-declare_gcc_types.ensures.free (ap Ok c.if-not-branch.false))
    ∙ ap₂ (λ (fs : List DeclaredFeature) (rs : Registered). Ok (let u : Tables = record { features = fs; registered = rs; has_gcc = true; begun = t.begun } in u)) (sym c.in-Ok.ensures.ok) (sym (c.in_ok-declare_gcc_types.ensures.registered (ap Ok c.if-not-branch.false)))
