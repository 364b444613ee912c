use Rattle.std.proofs.Common.{◌∙◌, ◌++◌, [], ◌∷◌, ap, subst}
use Rattle.std.proofs.lemmas.Result.{err_from_is_err_and}
use Rattle.b2_facts.specs.Asks.{IsToldGiven}
use Rattle.b2_facts.proofs.FactsGrow.{number_grows}
use Rattle.b2_facts.proofs.ListsAtPlaces.{get_some}
use Rattle.b2_endings.proofs.FilesAreAskedFor.{asks_looked, asks_no_memory}
use Rattle.b2_endings.proofs.MissingFilesAreListed.{lists_given, lists_missing}
use Rattle.b2_endings.proofs.missing.add_missing.Goals as goal

pub returns-then-branch-clause-asks : goal.returns-then-branch-clause-asks
returns-then-branch-clause-asks g c = λ steps roots.
    asks_looked steps roots c.args.facts.now c.is_given.new.self (g.F.Files.outside c.args.files.now) (g.F.Files.outside c.is_given.new.files) c.in_ok-is_given.ensures.effect (c.is_given.ensures.learns steps roots) c.is_given.ensures.told

pub returns-then-branch-clause-lists : goal.returns-then-branch-clause-lists
returns-then-branch-clause-lists g c =
    let f = c.args.facts.now in
    let h = c.is_given.new.self in
    let grows = (c.is_given.ensures.learns [] []).grows in
    let (file, is) = get_some h.files c.args.number (number_grows f h grows c.args.number c.requires.number).1 in
    lists_given f h c.args.number file c.args.missing.now grows is (subst (IsToldGiven file) c.if-branch.true (c.in_ok-is_given.ensures.given file is))

pub path-requires : goal.path-requires
path-requires g c = number_grows c.args.facts.now c.is_given.new.self (c.is_given.ensures.learns [] []).grows c.args.number c.requires.number

pub returns-in_err-copy-clause-asks : goal.returns-in_err-copy-clause-asks
returns-in_err-copy-clause-asks g c = λ steps roots.
    (let f = c.args.facts.now in
    let h = c.is_given.new.self in
    let x = g.F.Files.outside c.args.files.now in
    let y = g.F.Files.outside c.is_given.new.files in
    let (stop, e, q) = err_from_is_err_and c.from_residual-in_err-copy.result c.from_residual-in_err-copy.ensures.1 in
    asks_no_memory steps roots f h x y c.from_residual-in_err-copy.result stop e q (asks_looked steps roots f h x y c.in_ok-is_given.ensures.effect (c.is_given.ensures.learns steps roots) c.is_given.ensures.told))

pub returns-in_err-push-clause-asks : goal.returns-in_err-push-clause-asks
returns-in_err-push-clause-asks g c = λ steps roots.
    (let f = c.args.facts.now in
    let h = c.is_given.new.self in
    let x = g.F.Files.outside c.args.files.now in
    let y = g.F.Files.outside c.is_given.new.files in
    let (stop, e, q) = err_from_is_err_and c.from_residual-in_err-push.result c.from_residual-in_err-push.ensures.1 in
    asks_no_memory steps roots f h x y c.from_residual-in_err-push.result stop e q (asks_looked steps roots f h x y c.in_ok-is_given.ensures.effect (c.is_given.ensures.learns steps roots) c.is_given.ensures.told))

pub returns-clause-asks : goal.returns-clause-asks
returns-clause-asks g c = λ steps roots.
    asks_looked steps roots c.args.facts.now c.is_given.new.self (g.F.Files.outside c.args.files.now) (g.F.Files.outside c.is_given.new.files) c.in_ok-is_given.ensures.effect (c.is_given.ensures.learns steps roots) c.is_given.ensures.told

pub returns-clause-lists : goal.returns-clause-lists
returns-clause-lists g c =
    let f = c.args.facts.now in
    let h = c.is_given.new.self in
    let grows = (c.is_given.ensures.learns [] []).grows in
    let (file, is) = get_some h.files c.args.number (number_grows f h grows c.args.number c.requires.number).1 in
    lists_missing f h c.args.number file c.args.missing.now grows is c.path.result.now c.push.new.self c.requires.number c.path.ensures
    (c.in_ok-push.ensures.ok ∙ ap (λ z. c.args.missing.now ++ z ∷ []) c.in_ok-copy.ensures)
    (subst (IsToldGiven file) c.if-branch.false (c.in_ok-is_given.ensures.given file is))
