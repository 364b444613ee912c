use Rattle.std.proofs.Common.{◌∙◌, ◌<◌, ◌++◌, sym, subst, lit<}
use Rattle.std.specs.Prelude.{codes}
use Rattle.std.proofs.lemmas.List.Elements.{All-append, All-from_recursion}
use Rattle.b2_base.specs.Bytes.{HasNoZero}
use Rattle.b2_base.proofs.path.joined_path.Goals as goal

pub path_of-requires : goal.path_of-requires
path_of-requires c =
    let slash : HasNoZero (codes "/") = All-from_recursion (λ byte. 0 < byte) (codes "/") (lit< tt, tt) in
    subst HasNoZero (sym (c.as_str.ensures.value ∙ c.in_ok-text.ensures.ok))
    (All-append (λ byte. 0 < byte) c.args.dir.now (codes "/" ++ c.args.text.now) c.requires.dir (All-append (λ byte. 0 < byte) (codes "/") c.args.text.now slash c.requires.text))
