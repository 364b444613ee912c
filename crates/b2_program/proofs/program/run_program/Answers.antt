use Rattle.b2_update.specs.Moments.{moment}
use Rattle.b2_program.proofs.StatusNamesCause as cause_
use Rattle.b2_program.proofs.program.run_program.Goals as goal

pub returns-clause-status : goal.returns-clause-status
returns-clause-status g c =
    let before = moment (g.H.Files.outside c.args.host.now) (g.S.Sink.output c.args.out.now) in
    let after = moment (g.H.Files.outside c.run.new.host) (g.S.Sink.output c.run.new.out) in
    cause_.status_low g.H.Children.made c.args.words.now before after c.run.result c.run.ensures

pub returns-clause-clean : goal.returns-clause-clean
returns-clause-clean g c =
    let before = moment (g.H.Files.outside c.args.host.now) (g.S.Sink.output c.args.out.now) in
    let after = moment (g.H.Files.outside c.run.new.host) (g.S.Sink.output c.run.new.out) in
    cause_.clean_told g.H.Children.made c.args.words.now before after c.run.result c.run.ensures

pub returns-clause-built : goal.returns-clause-built
returns-clause-built g c =
    let before = moment (g.H.Files.outside c.args.host.now) (g.S.Sink.output c.args.out.now) in
    let after = moment (g.H.Files.outside c.run.new.host) (g.S.Sink.output c.run.new.out) in
    cause_.built_told g.H.Children.made c.args.words.now before after c.run.result c.run.ensures

pub returns-clause-shown : goal.returns-clause-shown
returns-clause-shown g c =
    let before = moment (g.H.Files.outside c.args.host.now) (g.S.Sink.output c.args.out.now) in
    let after = moment (g.H.Files.outside c.run.new.host) (g.S.Sink.output c.run.new.out) in
    cause_.shown_told g.H.Children.made c.args.words.now before after c.run.result c.run.ensures

pub returns-clause-explained : goal.returns-clause-explained
returns-clause-explained g c =
    let before = moment (g.H.Files.outside c.args.host.now) (g.S.Sink.output c.args.out.now) in
    let after = moment (g.H.Files.outside c.run.new.host) (g.S.Sink.output c.run.new.out) in
    cause_.explained_told g.H.Children.made c.args.words.now before after c.run.result c.run.ensures

pub returns-clause-cleaned : goal.returns-clause-cleaned
returns-clause-cleaned g c =
    let before = moment (g.H.Files.outside c.args.host.now) (g.S.Sink.output c.args.out.now) in
    let after = moment (g.H.Files.outside c.run.new.host) (g.S.Sink.output c.run.new.out) in
    cause_.cleaned_told g.H.Children.made c.args.words.now before after c.run.result c.run.ensures

pub returns-clause-builds_anew : goal.returns-clause-builds_anew
returns-clause-builds_anew g c =
    let before = moment (g.H.Files.outside c.args.host.now) (g.S.Sink.output c.args.out.now) in
    let after = moment (g.H.Files.outside c.run.new.host) (g.S.Sink.output c.run.new.out) in
    cause_.leaves_to_build g.H.Children.made c.args.words.now before after c.run.result c.run.ensures c.next_after_cleaning.ensures

pub returns-clause-drilled : goal.returns-clause-drilled
returns-clause-drilled g c =
    let before = moment (g.H.Files.outside c.args.host.now) (g.S.Sink.output c.args.out.now) in
    let after = moment (g.H.Files.outside c.run.new.host) (g.S.Sink.output c.run.new.out) in
    cause_.drilled_told g.H.Children.made c.args.words.now before after c.run.result c.run.ensures

pub returns-clause-failed : goal.returns-clause-failed
returns-clause-failed g c =
    let before = moment (g.H.Files.outside c.args.host.now) (g.S.Sink.output c.args.out.now) in
    let after = moment (g.H.Files.outside c.run.new.host) (g.S.Sink.output c.run.new.out) in
    cause_.failed_told g.H.Children.made c.args.words.now before after c.run.result c.run.ensures

pub returns-clause-refused : goal.returns-clause-refused
returns-clause-refused g c =
    let before = moment (g.H.Files.outside c.args.host.now) (g.S.Sink.output c.args.out.now) in
    let after = moment (g.H.Files.outside c.run.new.host) (g.S.Sink.output c.run.new.out) in
    cause_.refused_told g.H.Children.made c.args.words.now before after c.run.result c.run.ensures

pub returns-clause-usage : goal.returns-clause-usage
returns-clause-usage g c =
    let before = moment (g.H.Files.outside c.args.host.now) (g.S.Sink.output c.args.out.now) in
    let after = moment (g.H.Files.outside c.run.new.host) (g.S.Sink.output c.run.new.out) in
    cause_.usage_told_so g.H.Children.made c.args.words.now before after c.run.result c.run.ensures

pub returns-clause-no_command : goal.returns-clause-no_command
returns-clause-no_command g c =
    let before = moment (g.H.Files.outside c.args.host.now) (g.S.Sink.output c.args.out.now) in
    let after = moment (g.H.Files.outside c.run.new.host) (g.S.Sink.output c.run.new.out) in
    cause_.no_command_told g.H.Children.made c.args.words.now before after c.run.result c.run.ensures

pub returns-clause-counts : goal.returns-clause-counts
returns-clause-counts g c =
    let before = moment (g.H.Files.outside c.args.host.now) (g.S.Sink.output c.args.out.now) in
    let after = moment (g.H.Files.outside c.run.new.host) (g.S.Sink.output c.run.new.out) in
    cause_.counts_told g.H.Children.made c.args.words.now before after c.run.result c.run.ensures c.requires.idle

pub returns-clause-host_fault : goal.returns-clause-host_fault
returns-clause-host_fault g c =
    let before = moment (g.H.Files.outside c.args.host.now) (g.S.Sink.output c.args.out.now) in
    let after = moment (g.H.Files.outside c.run.new.host) (g.S.Sink.output c.run.new.out) in
    cause_.host_fault_told g.H.Children.made c.args.words.now before after c.run.result c.run.ensures c.requires.idle

pub returns-clause-no_memory : goal.returns-clause-no_memory
returns-clause-no_memory g c =
    let before = moment (g.H.Files.outside c.args.host.now) (g.S.Sink.output c.args.out.now) in
    let after = moment (g.H.Files.outside c.run.new.host) (g.S.Sink.output c.run.new.out) in
    cause_.no_memory_told g.H.Children.made c.args.words.now before after c.run.result c.run.ensures c.requires.idle

pub returns-clause-sink_fault : goal.returns-clause-sink_fault
returns-clause-sink_fault g c =
    let before = moment (g.H.Files.outside c.args.host.now) (g.S.Sink.output c.args.out.now) in
    let after = moment (g.H.Files.outside c.run.new.host) (g.S.Sink.output c.run.new.out) in
    cause_.sink_fault_told g.H.Children.made c.args.words.now before after c.run.result c.run.ensures c.requires.idle

pub returns-clause-none_left : goal.returns-clause-none_left
returns-clause-none_left g c =
    let before = moment (g.H.Files.outside c.args.host.now) (g.S.Sink.output c.args.out.now) in
    let after = moment (g.H.Files.outside c.run.new.host) (g.S.Sink.output c.run.new.out) in
    (cause_.stays g.H.Children.made c.args.words.now before after c.run.result c.run.ensures c.requires.idle).none_left

pub returns-clause-keeps : goal.returns-clause-keeps
returns-clause-keeps g c =
    let before = moment (g.H.Files.outside c.args.host.now) (g.S.Sink.output c.args.out.now) in
    let after = moment (g.H.Files.outside c.run.new.host) (g.S.Sink.output c.run.new.out) in
    (cause_.stays g.H.Children.made c.args.words.now before after c.run.result c.run.ensures c.requires.idle).keeps

pub returns-clause-out_keeps : goal.returns-clause-out_keeps
returns-clause-out_keeps g c =
    let before = moment (g.H.Files.outside c.args.host.now) (g.S.Sink.output c.args.out.now) in
    let after = moment (g.H.Files.outside c.run.new.host) (g.S.Sink.output c.run.new.out) in
    (cause_.stays g.H.Children.made c.args.words.now before after c.run.result c.run.ensures c.requires.idle).out_keeps
