use Rattle.std.proofs.Common.{[], ◌∙◌, ap}
use Rattle.std.specs.FinMap.{get, get-from_entries}
use Rattle.std.proofs.lemmas.Cmp.{nat_list_cmp_total}
use Rattle.b2_props.proofs.clashes.Clashes.new.Goals as goal

pub returns : goal.returns
returns c = record {
  values = λ q. ap (λ m. get m q) c.new.ensures ∙ get-from_entries nat_list_cmp_total [] q;
  words = λ q. ap (λ m. get m q) c.new-2.ensures ∙ get-from_entries nat_list_cmp_total [] q;
}
