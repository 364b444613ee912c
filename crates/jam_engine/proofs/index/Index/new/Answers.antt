use Rattle.std.proofs.Common.{ap, ◌∙◌}
use Rattle.std.specs.List.{list_any}
use Rattle.jam_engine.specs.Tables.{places_in}
use Rattle.jam_engine.specs.Targets.{has}
use Rattle.jam_engine.proofs.index.Index.new.Goals as goal

pub returns : goal.returns
returns c = record {
  targets = λ t. c.in_ok-targets.ensures t ∙ ap (λ l. has l t) c.as_slice.ensures;
  always = λ t. c.in_ok-always.ensures t ∙ ap (λ l. has l t) c.as_slice-2.ensures;
  notfile = λ t. c.in_ok-notfile.ensures t ∙ ap (λ l. has l t) c.as_slice-3.ensures;
  nocare = λ t. c.in_ok-nocare.ensures t ∙ ap (λ l. has l t) c.as_slice-4.ensures;
  acted = λ t. c.in_ok-acted.ensures t ∙ ap (list_any (λ act. has act.targets t)) c.as_slice-5.ensures;
  depends = λ t. c.in_ok-depends.ensures t ∙ ap (λ l. places_in 0 l t) c.as_slice-6.ensures;
  includes = λ t. c.in_ok-includes.ensures t ∙ ap (λ l. places_in 0 l t) c.as_slice-7.ensures;
}
