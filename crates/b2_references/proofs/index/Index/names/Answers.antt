use Rattle.std.proofs.Common.{◌∙◌, map, ap, sym}
use Rattle.std.specs.List.{slice_get}
use Rattle.b2_references.specs.Indexing.{named_in, targets_in}
use Rattle.b2_references.specs.Names.{first_names, name_of}
use Rattle.b2_references.proofs.EntriesGrowByOneTarget.{none_in}
use Rattle.b2_references.proofs.index.Index.names.Goals as goal

pub returns-in-None : goal.returns-in-None
returns-in-None c =
    ap (λ ts. first_names (map name_of ts)) (sym (none_in c.self.inside.declared.now.targets c.self.inside.entries.items c.args.project c.self.inside.declared.now.places c.self.invariant.each_project c.self.invariant.within (sym (c.in-None.ensures ∙ ap (λ es. slice_get es c.args.project) c.as_slice.ensures.value))))
    ∙ ap (λ d. first_names (map name_of (targets_in c.args.project d.targets))) c.self.view_is

pub returns-in-Some : goal.returns-in-Some
returns-in-Some c =
    ap (map (named_in c.args.project)) c.as_slice-in-Some.ensures ∙ (c.self.invariant.entries_are.each c.args.project c.in-Some.entry.now (sym (c.in-Some.ensures ∙ ap (λ es. slice_get es c.args.project) c.as_slice.ensures.value))).names
    ∙ ap (λ d. first_names (map name_of (targets_in c.args.project d.targets))) c.self.view_is
