use Rattle.std.proofs.Common.{◌∙◌, refl, ap, subst, length, None, [], Ok, Err, get_or, List, ℕ}
use Rattle.std.specs.List.{Contains}
use Rattle.std.proofs.lemmas.List.{get_or_read_under}
use Rattle.std.proofs.lemmas.Result.{err_from_is_err_and}
use Rattle.b2_facts.proofs.FactsGrow.{number_grows}
use Rattle.b2_endings.specs.Missing.{ListsMissing, IsPathOf, lacking_in}
use Rattle.b2_endings.proofs.FilesAreAskedFor.{asks_then, asks_err}
use Rattle.b2_endings.proofs.MissingFilesAreListed.{at_index, lists_step}
use Rattle.b2_endings.proofs.missing.add_lacking.Goals as goal

pub bounds-works-number : goal.bounds-works-number
bounds-works-number g c =
    let numbers = c.args.numbers.now in
    let i = c.loop-number.number-index in
    c.requires.within (get_or numbers i 0) (at_index numbers i 0 c.loop-number-test.true)

pub add_members-requires : goal.add_members-requires
add_members-requires g c =
    let h = c.loop-number.facts in
    let i = get_or c.args.numbers.now c.loop-number.number-index 0 in
    let works = c.args.works.now in
    let within = c.requires.within i (at_index c.args.numbers.now c.loop-number.number-index 0 c.loop-number-test.true) in
    let same = c.lacking-members.ensures ∙ ap lacking_in (get_or_read_under works i (length works) c.index-works-number.result None c.index-works-number.is within refl) in
    record { numbered = λ n among. number_grows c.args.facts.now h (c.loop-number.invariant.asks [] []).learns.grows n (c.requires.numbered i n (subst (λ (l : List ℕ). Contains l n) same among)) }

pub returns-in_err-add_members-clause-asks : goal.returns-in_err-add_members-clause-asks
returns-in_err-add_members-clause-asks g c = λ steps roots.
    (let f = c.args.facts.now in
    let x = g.F.Files.outside c.args.files.now in
    let y = g.F.Files.outside c.loop-number.files in
    let z = g.F.Files.outside c.add_members.new.files in
    let stop = c.in_err-add_members.field-0.0 in
    let (s, e, q) = err_from_is_err_and c.from_residual.result c.from_residual.ensures.1 in
    asks_err steps roots (Unit {0}) f c.add_members.new.facts x z c.from_residual.result stop (e ∙ ap Err q)
    (asks_then steps roots f c.loop-number.facts c.add_members.new.facts x y z (Err stop) (c.loop-number.invariant.asks steps roots) (c.in_err-add_members.ensures.asks steps roots)))

pub loop-number-preserved : goal.loop-number-preserved
loop-number-preserved g c =
    let f = c.args.facts.now in
    let h = c.loop-number.facts in
    let k = c.add_members.new.facts in
    let numbers = c.args.numbers.now in
    let i = c.loop-number.number-index in
    let works = c.args.works.now in
    let within = c.requires.within (get_or numbers i 0) (at_index numbers i 0 c.loop-number-test.true) in
    let same = c.lacking-members.ensures ∙ ap lacking_in (get_or_read_under works (get_or numbers i 0) (length works) c.index-works-number.result None c.index-works-number.is within refl) in
    record {
      asks = λ others roots. asks_then others roots f h k (g.F.Files.outside c.args.files.now) (g.F.Files.outside c.loop-number.files) (g.F.Files.outside c.add_members.new.files) (Ok tt) (c.loop-number.invariant.asks others roots) (c.in_ok-add_members.ensures.asks others roots);
      lists = lists_step f h k i c.args.missing.now c.loop-number.missing c.add_members.new.missing (c.loop-number.invariant.asks [] []).learns.grows (c.in_ok-add_members.ensures.asks [] []).learns.grows
          c.args.works.now numbers c.loop-number-test.true c.requires.numbered c.loop-number.invariant.lists
          (subst (λ (l : List ℕ). ListsMissing (IsPathOf h l) k c.loop-number.missing c.add_members.new.missing) same c.in_ok-add_members.ensures.lists);
    }
