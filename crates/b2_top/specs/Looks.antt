-- Looks: what their words ask for, and what is written.
use Rattle.std.specs.Prelude.{ℕ, List, ◌++◌, Option, Some, None}
use Rattle.std.specs.Option.{option_map}
use Rattle.std.specs.List.{flat_map}
use Rattle.b2_generate.specs.Planning.{Line, Planned}
use Rattle.b2_request_plan.specs.declared.planned.Built.{Built}
use Rattle.b2_plan.specs.declared.step.Step.{Step}
use Rattle.b2_refusals.specs.Lines.{table_line, step_lines}
use Rattle.b2_command_line.specs.Words.{Word, reading}
use Rattle.b2_command_line.specs.declared.words.Command.{Command}
use Rattle.b2_command_line.specs.declared.words.Command.TheVariants as commands
use Rattle.b2_command_line.specs.declared.words.View.{View}
use Rattle.b2_command_line.specs.declared.words.View.TheVariants as views
use Rattle.b2_command_line.specs.declared.words.Words.{Words}
use Rattle.b2_top.specs.Reports.{echo_lines}
use Rattle.b2_top.specs.declared.look.LookRequest.{LookRequest}

-- ---- words

-- what a command shows, if it is a look
abbrev pub view_of : Command → Option View
view_of (commands.Build options) = None
view_of (commands.Look view) = Some view
view_of (commands.Explain all) = None
view_of commands.Clean = None
view_of (commands.Drill steps) = None

abbrev pub look_at : List Word → View → LookRequest
look_at free view = record { view = view; words = free }

abbrev pub look_in : Option Words → Option LookRequest
look_in None = None
look_in (Some read) = option_map (look_at read.words) (view_of read.command)

-- what words ask to be shown, and of which free words; none where they are not of the grammar, or ask for something else
abbrev pub look_of : List Word → Option LookRequest
look_of words = look_in (reading words)

-- ---- lines

abbrev pub row_line : Line → List ℕ
row_line row = table_line row.target row.alternative row.set

abbrev pub table_lines : List Built → List ℕ
table_lines table = flat_map (λ b. table_line b.target b.alternative b.set) table

abbrev pub steps_lines : List Step → List ℕ
steps_lines steps = flat_map step_lines steps

-- the steps of a plan with their texts, or its table
abbrev pub view_lines : View → Planned → List ℕ
view_lines views.Steps plan = steps_lines plan.steps
view_lines views.Table plan = flat_map row_line plan.table

-- the report of a look, which the lines of ECHO begin
abbrev pub look_report : List (List ℕ) → View → Planned → List ℕ
look_report echoes view plan = echo_lines echoes ++ view_lines view plan
