use Rattle.std.proofs.Common.{[], ◌∷◌, ◌++◌, not, ap, ◌∙◌}
use Rattle.b2_files.specs.StoreDisks.{told}
use Rattle.b2_files.proofs.WritesStayAsTheyWere.{adds}
use Rattle.b2_files.proofs.store.Store.list_one.Goals as goal

pub returns-in_ok-push : goal.returns-in_ok-push
returns-in_ok-push c =
    adds (told c.args.self.now).now c.args.dir.now c.args.path.now c.in-Some.name.now c.args.names.now c.push.new.self c.stamp.result c.stamp.ensures (c.is_none.ensures ∙ ap not c.if-is_none.false) c.in-Some.ensures.name c.in-Some.ensures.text
    (c.in_ok-push.ensures.ok ∙ ap (λ v. c.args.names.now ++ v ∷ []) c.in_ok-new.ensures)
