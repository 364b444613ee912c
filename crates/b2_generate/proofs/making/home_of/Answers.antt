use Rattle.std.proofs.Common.{◌≡◌, ap, sym, ◌∙◌, codes, [], None, slice_get}
use Rattle.std.specs.Option.{option_map_or}
use Rattle.std.proofs.lemmas.Option.{slice_get_past}
use Rattle.b2_generate.proofs.SuppliesAreThoseDefined.{no_dir}
use Rattle.b2_generate.proofs.making.home_of.Goals as goal

pub returns-in-None : goal.returns-in-None
returns-in-None c =
    let none : slice_get c.args.declared.now.places c.args.project ≡ None =
    sym (ap (λ xs. slice_get xs c.args.project) c.as_slice.ensures) ∙ slice_get_past c.as_slice.result.now c.args.project c.in-None.ensures.lookup.3 in
    record {
      dir = c.requires.dir;
      owner = c.requires.empty ∙ sym (ap (λ o. option_map_or (λ p. p.«module») o []) none);
      file = c.requires.dir ∙ no_dir c.args.declared.now c.args.project none ∙ sym (ap (λ o. option_map_or (λ p. p.file) o (codes ".")) none);
    }
