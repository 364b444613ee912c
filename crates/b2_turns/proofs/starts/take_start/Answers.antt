use Rattle.std.proofs.Common.{inl, refl}
use Rattle.b2_facts.specs.Facts.{IsAbout}
use Rattle.b2_turns.proofs.OutputsAreForgotten.{forgotten_facts, about_forgotten}
use Rattle.b2_turns.proofs.StartIsTaken.{out_numbered, out_unread, looks_begin, follows_start}
use Rattle.b2_turns.proofs.starts.take_start.Goals as goal

pub forget_outs-requires-clause-numbered : goal.forget_outs-requires-clause-numbered
forget_outs-requires-clause-numbered c = λ numbers n kept among.
    out_numbered c.args._plan.now c.args.sights.now.facts c.args.looks.now c.in_ok-number.number c.requires.apart c.requires.about c.requires.looks c.in_ok-number.ensures.lowest.lowest.has numbers kept n among

pub forget_outs-requires-clause-unread : goal.forget_outs-requires-clause-unread
forget_outs-requires-clause-unread c = λ numbers n file kept among known.
    out_unread c.args._plan.now c.args.sights.now.facts c.args.looks.now c.in_ok-number.number c.requires.apart c.requires.about c.requires.looks c.in_ok-number.ensures.lowest.lowest.has numbers kept n file among known

pub returns-clause-about : goal.returns-clause-about
returns-clause-about c =
    let ready = c.requires.looks.ready c.in_ok-number.number (inl c.in_ok-number.ensures.lowest.lowest.has) in
    let forgets = c.forget_outs.ensures.facts ready.numbers ready.kept in
    forgotten_facts (IsAbout c.args._plan.now.steps c.args._plan.now.roots) ready.numbers.outs c.args.sights.now.facts c.forget_outs.new.sights.facts forgets
    (λ files is. about_forgotten ready.numbers.outs c.args.sights.now.facts files is c.args._plan.now.steps c.args._plan.now.roots c.requires.about)

pub returns-clause-looks : goal.returns-clause-looks
returns-clause-looks c =
    let ready = c.requires.looks.ready c.in_ok-number.number (inl c.in_ok-number.ensures.lowest.lowest.has) in
    let forgets = c.forget_outs.ensures.facts ready.numbers ready.kept in
    let board = c.in_ok-number.ensures.board c.args._plan.now c.args.sights.now.facts c.requires.looks.board in
    looks_begin c.args._plan.now c.args.sights.now.facts c.args.looks.now c.in_ok-number.number c.requires.apart c.requires.about c.requires.looks c.in_ok-number.ensures.lowest.lowest.has ready.numbers ready.kept
    (record c.args.looks.now { board = c.take_start.new.self }) c.forget_outs.new.sights.facts c.in_ok-number.ensures.after refl refl forgets board

pub returns-clause-follows : goal.returns-clause-follows
returns-clause-follows c = λ events follows.
    follows_start c.args.looks.now (record c.args.looks.now { board = c.take_start.new.self }) c.in_ok-number.number events c.in_ok-number.ensures.lowest.lowest.has c.in_ok-number.ensures.after refl follows
