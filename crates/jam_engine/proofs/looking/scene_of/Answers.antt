use Rattle.std.proofs.Common.{false, sym, subst, ◌∙◌}
use Rattle.jam_engine.specs.declared.index.Index.{Index}
use Rattle.jam_engine.specs.Tables.{IsIndexOf}
use Rattle.jam_engine.proofs.Looks.{LooksOn, looks_then}
use Rattle.jam_engine.proofs.looking.scene_of.Goals as goal

pub returns-clause-found : goal.returns-clause-found
returns-clause-found g c =
    let graph = c.args.graph.now in
    let before = g.F.Files.outside c.args.files.now in
    let acts = g.F.Files.outside c.find_acts.new.files in
    let depends = g.F.Files.outside c.find_seconds.new.files in
    let includes = g.F.Files.outside c.find_seconds-2.new.files in
    let after = g.F.Files.outside c.find_all.new.files in
    let scene = c.in_ok-scene.scene in
    let two : LooksOn graph before depends scene c.find_seconds.new.scene = looks_then graph before acts depends scene c.find_acts.new.scene c.find_seconds.new.scene c.in_ok-find_acts.ensures.found c.in_ok-find_seconds.ensures.found in
    let three : LooksOn graph before includes scene c.find_seconds-2.new.scene = looks_then graph before depends includes scene c.find_seconds.new.scene c.find_seconds-2.new.scene two c.in_ok-find_seconds-2.ensures.found in
    let all : LooksOn graph before after scene c.find_all.new.scene = looks_then graph before includes after scene c.find_seconds-2.new.scene c.find_all.new.scene three c.in_ok-find_all.ensures.found in
    (all.0, λ stands sees. (all.1 stands sees).so (c.in_ok-scene.ensures stands))

pub returns-clause-index : goal.returns-clause-index
returns-clause-index g c =
    let first = c.in_ok-scene.ensures (λ text. false) in
    subst (λ (i : Index). IsIndexOf c.args.graph.now i) (sym (c.in_ok-find_all.ensures.index ∙ c.in_ok-find_seconds-2.ensures.index ∙ c.in_ok-find_seconds.ensures.index ∙ c.in_ok-find_acts.ensures.index)) first.index

pub returns-clause-roots : goal.returns-clause-roots
returns-clause-roots g c =
    let first = c.in_ok-scene.ensures (λ text. false) in
    c.in_ok-find_all.ensures.roots ∙ c.in_ok-find_seconds-2.ensures.roots ∙ c.in_ok-find_seconds.ensures.roots ∙ c.in_ok-find_acts.ensures.roots ∙ first.roots
