use Rattle.std.proofs.Common.{◌∙◌, position, length, ap, subst}
use Rattle.std.specs.Str.{bytes_eq}
use Rattle.b2_references.specs.Indexing.{AreEntries}
use Rattle.b2_references.specs.References.{place_at}
use Rattle.b2_references.proofs.index.Index.new.Goals as goal

pub invariant_of-result : goal.invariant_of-result
unfolding place_at
invariant_of-result c = record {
  dirs_are = λ dir. c.in_ok-dirs.ensures dir ∙ ap (position (λ p. bytes_eq p.dir dir)) c.as_slice-places.ensures;
  entries_are = subst (λ ts. AreEntries ts c.in_ok-entries.entries.items) c.as_slice.ensures c.in_ok-entries.ensures.entries;
  each_project = c.in_ok-entries.ensures.projects ∙ ap length c.as_slice-places.ensures;
  within = c.requires;
}
