use Rattle.std.proofs.Common.{◌≡◌, ◌-◌, Some, option_map, length, sym, ap, ◌∙◌}
use Rattle.regex.specs.Patterns.{Re, find_str}
use Rattle.regex.specs.Strings.{captures_names, regex_names}
use Rattle.regex_syntax.specs.Grammar.{Names}
use Rattle.jam_patterns.specs.Groups.{texts_of}
use Rattle.jam_patterns.specs.Captured.{captured_first}
use Rattle.jam_patterns.proofs.PatternsAreRead.{captured_groups}
use Rattle.jam_patterns.proofs.groups.search.Goals as goal

pub returns-in-Some : goal.returns-in-Some
returns-in-Some c =
    let regex = c.args.regex.now in
    let text = c.args.text.now in
    let captures = c.in-Some.captures in
    let found = c.in-Some.ensures.found in
    let there = ap (λ (re : Re). find_str re text 0) (sym c.in_ok-matcher.ensures.pattern) ∙ found.1 in
    let names : captures_names captures ≡ regex_names regex = c.in-Some.ensures.names ∙ c.in_ok-matcher.ensures.names in
    ap Some (
    c.in_ok-captured_texts-in-Some.ensures
    ∙ ap (λ (ns : Names). captured_first captures (length ns - 1)) names
    ∙ captured_groups captures text found.0 (length (regex_names regex) - 1) found.2
    ) ∙ sym (ap (option_map (texts_of text (regex_names regex))) there)
