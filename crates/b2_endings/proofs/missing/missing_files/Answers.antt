use Rattle.std.proofs.Common.{◌∙◌, ◌↔◌, ◌⊎◌, inl, inr, [], ap, subst, Ok, Err, List, ℕ}
use Rattle.std.specs.List.{Contains}
use Rattle.std.proofs.lemmas.Result.{err_from_is_err_and}
use Rattle.b2_endings.specs.Missing.{ListsMissing, IsOfLacking}
use Rattle.b2_endings.proofs.FilesAreAskedFor.{asks_then, asks_err, asks_ok, asks_no_memory}
use Rattle.b2_endings.proofs.MissingFilesAreListed.{lists_then, lists_same}
use Rattle.b2_endings.proofs.missing.missing_files.Goals as goal

pub returns-in_err-add_lacking-clause-asks : goal.returns-in_err-add_lacking-clause-asks
returns-in_err-add_lacking-clause-asks g c =
    let steps = c.args.plan.now.steps in
    let roots = c.args.plan.now.roots in
    let x = g.F.Files.outside c.args.files.now in
    let y = g.F.Files.outside c.add_lacking.new.files in
    let (s, e, q) = err_from_is_err_and c.from_residual.result c.from_residual.ensures.1 in
    asks_err steps roots (Unit {0}) c.args.facts.now c.add_lacking.new.facts x y c.from_residual.result c.in_err-add_lacking.field-0.0 (e ∙ ap Err q) (c.in_err-add_lacking.ensures.asks steps roots)

pub returns-in_err-add_paths-clause-asks : goal.returns-in_err-add_paths-clause-asks
returns-in_err-add_paths-clause-asks g c =
    let steps = c.args.plan.now.steps in
    let roots = c.args.plan.now.roots in
    let f = c.args.facts.now in
    let x = g.F.Files.outside c.args.files.now in
    let y = g.F.Files.outside c.add_lacking.new.files in
    let z = g.F.Files.outside c.add_paths.new.files in
    let stop = c.in_err-add_paths.field-0.0 in
    let (s, e, q) = err_from_is_err_and c.from_residual-in_err-add_paths.result c.from_residual-in_err-add_paths.ensures.1 in
    asks_err steps roots (Unit {0}) f c.add_paths.new.facts x z c.from_residual-in_err-add_paths.result stop (e ∙ ap Err q)
    (asks_then steps roots f c.add_lacking.new.facts c.add_paths.new.facts x y z (Err stop) (c.in_ok-add_lacking.ensures.asks steps roots) c.in_err-add_paths.ensures.asks)

pub returns-in_err-distinct-clause-asks : goal.returns-in_err-distinct-clause-asks
returns-in_err-distinct-clause-asks g c =
    let steps = c.args.plan.now.steps in
    let roots = c.args.plan.now.roots in
    let f = c.args.facts.now in
    let x = g.F.Files.outside c.args.files.now in
    let y = g.F.Files.outside c.add_lacking.new.files in
    let z = g.F.Files.outside c.add_paths.new.files in
    let (stop, e, q) = err_from_is_err_and c.from_residual-in_err-distinct.result c.from_residual-in_err-distinct.ensures.1 in
    asks_no_memory steps roots f c.add_paths.new.facts x z c.from_residual-in_err-distinct.result stop e q
    (asks_then steps roots f c.add_lacking.new.facts c.add_paths.new.facts x y z (Ok tt) (c.in_ok-add_lacking.ensures.asks steps roots) c.in_ok-add_paths.ensures.asks)

pub returns-clause-asks : goal.returns-clause-asks
returns-clause-asks g c =
    let steps = c.args.plan.now.steps in
    let roots = c.args.plan.now.roots in
    let f = c.args.facts.now in
    let x = g.F.Files.outside c.args.files.now in
    let y = g.F.Files.outside c.add_lacking.new.files in
    let z = g.F.Files.outside c.add_paths.new.files in
    asks_ok steps roots f c.add_paths.new.facts x z c.in_ok-distinct.field-0
    (asks_then steps roots f c.add_lacking.new.facts c.add_paths.new.facts x y z (Ok tt) (c.in_ok-add_lacking.ensures.asks steps roots) c.in_ok-add_paths.ensures.asks)

pub returns-clause-lists : goal.returns-clause-lists
returns-clause-lists g c =
    let f = c.args.facts.now in
    let h = c.add_lacking.new.facts in
    let k = c.add_paths.new.facts in
    let P = IsOfLacking f c.args.works.now c.args.numbers.now in
    let Q : List ℕ → Type 0 = Contains c.args.plan.now.wanted in
    let R = λ (path : List ℕ). P path ⊎ Q path in
    let one : ListsMissing P h [] c.add_lacking.new.missing = subst (λ (l : List (List ℕ)). ListsMissing P h l c.add_lacking.new.missing) c.new-missing.ensures c.in_ok-add_lacking.ensures.lists in
    let two : ListsMissing Q k c.add_lacking.new.missing c.add_paths.new.missing = subst (λ (l : List (List ℕ)). ListsMissing (Contains l) k c.add_lacking.new.missing c.add_paths.new.missing) c.as_slice.ensures c.in_ok-add_paths.ensures.lists in
    lists_same R k [] c.add_paths.new.missing c.in_ok-distinct.field-0
    (subst (λ (l : List (List ℕ)). (path : List ℕ) → Contains c.in_ok-distinct.field-0 path ↔ Contains l path) c.as_slice-2.ensures c.in_ok-distinct.ensures.same)
    (lists_then P Q R h k [] c.add_lacking.new.missing c.add_paths.new.missing c.in_ok-add_paths.ensures.asks.learns.grows (λ path r. r) (λ path p. inl p) (λ path q. inr q) one two)
