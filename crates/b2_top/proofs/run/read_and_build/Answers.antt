use Rattle.std.proofs.Common.{refl, inl, ap, Err}
use Rattle.b2_host.specs.OutsideLaws.{keeps_same}
use Rattle.b2_top.specs.Askings.{build_of}
use Rattle.b2_top.proofs.StillCallsAnswerAsPromised.{still_usage, still_short}
use Rattle.b2_top.proofs.run.read_and_build.Goals as goal

pub returns-in-Err-Usage-clause-calls : goal.returns-in-Err-Usage-clause-calls
returns-in-Err-Usage-clause-calls g c =
    let words = c.args.words.now in
    let host = g.H.Files.outside c.args.host.now in
    still_usage g.H.Children.made (build_of words) host host (g.S.Sink.output c.args.out.now) (g.S.Sink.output c.tell_usage.new.out) c.requires
    (record { disk = refl; children = refl }) (λ none. refl) c.tell_usage.result
    (c.in-Err-Usage.ensures.usage (ap Err c.in-Err-Usage.field-0-is)) refl c.tell_usage.ensures

pub returns-in-Err-Usage-clause-none_left : goal.returns-in-Err-Usage-clause-none_left
returns-in-Err-Usage-clause-none_left g c = inl c.requires

pub returns-in-Err-Usage-clause-keeps : goal.returns-in-Err-Usage-clause-keeps
returns-in-Err-Usage-clause-keeps g c = keeps_same _ _ refl

pub returns-in-Err-OutOfMemory-clause-calls : goal.returns-in-Err-OutOfMemory-clause-calls
returns-in-Err-OutOfMemory-clause-calls g c =
    let words = c.args.words.now in
    let host = g.H.Files.outside c.args.host.now in
    let out = g.S.Sink.output c.args.out.now in
    still_short g.H.Children.made (build_of words) host host out out c.requires (record { disk = refl; children = refl }) (λ none. refl) refl

pub returns-in-Err-OutOfMemory-clause-none_left : goal.returns-in-Err-OutOfMemory-clause-none_left
returns-in-Err-OutOfMemory-clause-none_left g c = inl c.requires

pub returns-in-Err-OutOfMemory-clause-keeps : goal.returns-in-Err-OutOfMemory-clause-keeps
returns-in-Err-OutOfMemory-clause-keeps g c = keeps_same _ _ refl
