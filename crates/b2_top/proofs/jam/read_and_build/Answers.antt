use Rattle.std.proofs.Common.{refl, inl, ap, sym, subst, Err}
use Rattle.b2_host.specs.OutsideLaws.{keeps_same}
use Rattle.b2_update.specs.Moments.{moment}
use Rattle.b2_top.specs.Askings.{Asking, jam_of}
use Rattle.b2_top.specs.Running.{CallsFor}
use Rattle.b2_top.proofs.StillCallsAnswerAsPromised.{still_usage, still_short}
use Rattle.b2_top.proofs.jam.read_and_build.Goals as goal

pub returns-in-Ok-clause-calls : goal.returns-in-Ok-clause-calls
returns-in-Ok-clause-calls g c =
    let before = moment (g.H.Files.outside c.args.host.now) (g.S.Sink.output c.args.out.now) in
    let after = moment (g.H.Files.outside c.build_file.new.host) (g.S.Sink.output c.build_file.new.out) in
    subst (λ (a : Asking). CallsFor g.H.Children.made a before after c.build_file.result) (sym c.in-Ok.ensures.ok) c.build_file.ensures.calls

pub returns-in-Err-Usage-clause-calls : goal.returns-in-Err-Usage-clause-calls
returns-in-Err-Usage-clause-calls g c =
    let host = g.H.Files.outside c.args.host.now in
    still_usage g.H.Children.made (jam_of c.args.words.now) host host (g.S.Sink.output c.args.out.now) (g.S.Sink.output c.tell_usage.new.out) c.requires
    (record { disk = refl; children = refl }) (λ none. refl) c.tell_usage.result
    (c.in-Err-Usage.ensures.usage (ap Err c.in-Err-Usage.field-0-is)) refl c.tell_usage.ensures

pub returns-in-Err-Usage-clause-none_left : goal.returns-in-Err-Usage-clause-none_left
returns-in-Err-Usage-clause-none_left g c = inl c.requires

pub returns-in-Err-Usage-clause-keeps : goal.returns-in-Err-Usage-clause-keeps
returns-in-Err-Usage-clause-keeps g c = keeps_same _ _ refl

pub returns-in-Err-OutOfMemory-clause-calls : goal.returns-in-Err-OutOfMemory-clause-calls
returns-in-Err-OutOfMemory-clause-calls g c =
    let host = g.H.Files.outside c.args.host.now in
    let out = g.S.Sink.output c.args.out.now in
    still_short g.H.Children.made (jam_of c.args.words.now) host host out out c.requires (record { disk = refl; children = refl }) (λ none. refl) refl

pub returns-in-Err-OutOfMemory-clause-none_left : goal.returns-in-Err-OutOfMemory-clause-none_left
returns-in-Err-OutOfMemory-clause-none_left g c = inl c.requires

pub returns-in-Err-OutOfMemory-clause-keeps : goal.returns-in-Err-OutOfMemory-clause-keeps
returns-in-Err-OutOfMemory-clause-keeps g c = keeps_same _ _ refl
