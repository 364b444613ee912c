use Rattle.std.proofs.Common.{◌∙◌, ap, sym}
use Rattle.std.specs.List.{slice_get}
use Rattle.b2_references.specs.Indexing.{some_of}
use Rattle.b2_references.specs.Names.{numbers, numbers_from}
use Rattle.b2_references.proofs.EntriesGrowByOneTarget.{no_numbers}
use Rattle.b2_references.proofs.index.Index.numbers_of.Goals as goal

pub returns-in-None : goal.returns-in-None
unfolding numbers
returns-in-None c =
    ap some_of (sym (no_numbers c.self.inside.declared.now.targets c.self.inside.entries.items c.args.project c.args.name.now c.self.inside.declared.now.places c.self.invariant.each_project c.self.invariant.within (sym (c.in-None.ensures ∙ ap (λ es. slice_get es c.args.project) c.as_slice.ensures.value))))
    ∙ ap (λ d. some_of (numbers_from 0 (c.args.project, c.args.name.now) d.targets)) c.self.view_is

pub returns-in-Some : goal.returns-in-Some
unfolding numbers
returns-in-Some c =
    c.get.ensures ∙ (c.self.invariant.entries_are.each c.args.project c.in-Some.entry.now (sym (c.in-Some.ensures ∙ ap (λ es. slice_get es c.args.project) c.as_slice.ensures.value))).numbers c.args.name.now
    ∙ ap (λ d. some_of (numbers_from 0 (c.args.project, c.args.name.now) d.targets)) c.self.view_is
