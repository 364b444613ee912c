-- What each native and declaring rule means.
use Rattle.std.specs.Prelude.{ℕ, ◌==◌, Bool, true, false, not, ◌&&◌, List, [], ◌∷◌, ◌++◌, codes, length, Option, Some, None, Result, Ok, Err, is_none, if◌then◌else◌}
use Rattle.std.specs.FinMap as map
use Rattle.std.specs.List.{find}
use Rattle.std.specs.Str.{bytes_eq}
use Rattle.b2_base.specs.Segments.{normal_of}
use Rattle.b2_base.specs.Lists.{list_at, first_of}
use Rattle.jam_patterns.specs.declared.native_fault.NativeFault.{NativeFault}
use Rattle.jam_patterns.specs.declared.native_fault.NativeFault.TheVariants as faults
use Rattle.jam_journal.specs.Tables.{Text, Table}
use Rattle.jam_journal.specs.Scopes.{Value, caller_of}
use Rattle.jam_scope.specs.declared.notes.StepNotes.{StepNotes}
use Rattle.jam_scope.specs.Rules.{Rule}
use Rattle.jam_scope.specs.Worlds.{World, Worlds}
use Rattle.jam_scope.specs.Changes.{changed, module_in, import_rule, add_roots, freeze_roots, add_depends, set_always, set_notfile}
use Rattle.jam_scope.specs.Names.{is_text, names_in}
use Rattle.jam_meaning.specs.declared.native_answer.NativeStep.{NativeStep}
use Rattle.jam_meaning.specs.declared.native_answer.NativeStep.TheVariants as steps
use Rattle.jam_meaning.specs.Settings.{Told, answers, refuses, of_native, of_arity, Meaning, Sight}
use Rattle.jam_natives.specs.declared.decl.Decl.{Decl}
use Rattle.jam_natives.specs.declared.native.Native.{Native}
use Rattle.jam_natives.specs.declared.native.Native.TheVariants as natives
use Rattle.jam_natives.specs.declared.native.ReadingRule.{ReadingRule}
use Rattle.jam_natives.specs.declared.native.ReadingRule.TheVariants as reads
use Rattle.jam_natives.specs.declared.native.Noting.{Noting}
use Rattle.jam_natives.specs.declared.native.Noting.TheVariants as notes
use Rattle.jam_natives.specs.Keeping.{Kept}
use Rattle.jam_natives.specs.Rules.{native_of, shape_of, is_declaring}
use Rattle.b2_base.specs.Shapes.{has_shape}
use Rattle.jam_natives.specs.Texts.{line_of, after_start, sorted}
use Rattle.jam_natives.specs.Matches.{Found, matches_of}
use Rattle.jam_natives.specs.Globs.{globbed, project_globbed}
use Rattle.jam_natives.specs.Targets.{first_foreign}
use Rattle.jam_natives.specs.OutputDirs.{names_output_dirs, root_paths, is_refused}

abbrev pub Answer : Type 0
Answer = Told NativeStep Kept

abbrev pub value : Value → Worlds → Kept → Answer
value texts ws kept = answers (steps.Value texts) ws kept

abbrev pub fault : NativeFault → Worlds → Kept → Answer
fault cause ws kept = refuses (of_native cause) ws kept

-- ---- rules that look at their lists and the world alone

abbrev pub matched : Found → Result NativeStep NativeFault
matched (Ok found) = Ok (steps.Value found)
matched (Err pattern) = Err (faults.PatternRefused pattern)

-- the name of a module; the global one has none, and one with a zero byte is no text
abbrev pub module_list : Text → Value
module_list owner = if bytes_eq owner [] then [] else (if is_text owner then owner ∷ [] else [])

abbrev pub read : ReadingRule → List Value → Option Text → World → Result NativeStep NativeFault
read reads.Exit lists refused w = Ok (steps.Exit (line_of (list_at 0 lists)))
read reads.Match lists refused w = matched (matches_of refused (list_at 0 lists) (list_at 1 lists))
read reads.GetValues lists refused w = Ok (steps.Value (after_start (first_of (list_at 0 lists)) (list_at 1 lists)))
read reads.RuleNames lists refused w = Ok (steps.Value (names_in w.rules (first_of (list_at 0 lists))))
read reads.VarNames lists refused w = Ok (steps.Value (names_in w.scopes.variables (first_of (list_at 0 lists))))
read reads.CallerModule lists refused w = Ok (steps.Value (module_list (caller_of w.scopes.frames)))
read reads.Sort lists refused w = Ok (steps.Value (sorted (list_at 0 lists)))
read reads.Transform lists refused w = Ok (steps.Each (list_at 0 lists) (list_at 1 lists) false)
read reads.Filter lists refused w = Ok (steps.Each (list_at 0 lists) (list_at 1 lists) true)

abbrev pub read_answer : Result NativeStep NativeFault → Worlds → Kept → Answer
read_answer (Ok step) ws kept = answers step ws kept
read_answer (Err cause) ws kept = fault cause ws kept

-- ---- rules that note something of the open step

-- what a target may name: an output of the step, for INCLUDES also an input, or one that was added
abbrev pub named_by : Noting → StepNotes → Value
named_by notes.Depends step = step.outs
named_by notes.Includes step = step.outs ++ (step.ins ++ step.depends)
named_by notes.Always step = step.outs
named_by notes.NotFile step = step.outs

abbrev pub add_each : Value → World → World
add_each [] w = w
add_each (source ∷ sources) w = add_each sources (add_depends (normal_of source) w)

abbrev pub noted : Noting → Value → World → World
noted notes.Depends sources = add_each sources
noted notes.Includes sources = add_each sources
noted notes.Always sources = set_always
noted notes.NotFile sources = set_notfile

-- the text that has no place in the open step; outside a step's rule it is the first target
abbrev pub foreign_in : Option StepNotes → Noting → List Value → Option Text
foreign_in None rule lists = Some (first_of (list_at 0 lists))
foreign_in (Some step) rule lists = first_foreign (named_by rule step) (list_at 0 lists) (list_at 1 lists)

abbrev pub name_of : Noting → Text
name_of notes.Depends = codes "DEPENDS"
name_of notes.Includes = codes "INCLUDES"
name_of notes.Always = codes "ALWAYS"
name_of notes.NotFile = codes "NOTFILE"

abbrev pub unless_foreign : Noting → Option Text → (World → World) → Worlds → Kept → Answer
unless_foreign rule (Some text) change ws kept = fault (faults.DependsElsewhere (name_of rule) text) ws kept
unless_foreign rule None change ws kept = value [] (changed change ws) kept

abbrev pub note : Noting → List Value → Worlds → Kept → Answer
note rule lists ws kept = unless_foreign rule (foreign_in ws.now.step rule lists) (noted rule (list_at 1 lists)) ws kept

-- ---- IMPORT and EXPORT

-- the first of some rules that a module has not
abbrev pub missing_rule : Table Rule → Text → Value → Option Text
missing_rule rules owner names = find (λ name. is_none (map.get rules (owner, name))) names

-- one rule after the other is put into a module, with the body and home that it has then
abbrev pub import_each : Text → Value → Text → Value → World → World
import_each from [] to places w = w
import_each from (name ∷ names) to [] w = w
import_each from (name ∷ names) to (place ∷ places) w = import_each from names to places (import_rule (from, name) to place w)

abbrev pub unless_missing : Text → Option Text → (World → World) → Worlds → Kept → Answer
unless_missing owner (Some name) change ws kept = fault (faults.NoSuchRule owner name) ws kept
unless_missing owner None change ws kept = value [] (changed change ws) kept

abbrev pub imported : Text → Value → Text → Value → Worlds → Kept → Answer
imported from names to places ws kept = unless_missing from (missing_rule ws.now.rules from names) (import_each from names to places) ws kept

-- as many names as rules
abbrev pub import_call : List Value → Worlds → Kept → Answer
import_call lists ws kept =
    if length (list_at 1 lists) == length (list_at 3 lists)
    then imported (first_of (list_at 0 lists)) (list_at 1 lists) (first_of (list_at 2 lists)) (list_at 3 lists) ws kept
    else refuses of_arity ws kept

abbrev pub export_call : List Value → Worlds → Kept → Answer
export_call lists ws kept = imported (first_of (list_at 0 lists)) (list_at 1 lists) [] (list_at 1 lists) ws kept

-- ---- what is kept

-- nothing is kept while a mark was not yet used
abbrev pub keep : List World → (Kept → Kept) → Kept → Kept
keep [] change kept = change kept
keep (world ∷ worlds) change kept = kept

abbrev pub echo : Value → Worlds → Kept → Answer
echo texts ws kept = value [] ws (keep ws.marked (λ k. record k { echoes = k.echoes ++ line_of texts ∷ [] }) kept)

abbrev pub is_project : Text → Bool
is_project name = bytes_eq name (codes "project")

abbrev pub decl_of : Text → List Value → ℕ → World → Decl
decl_of name lists line w = record {
  rule = name;
  «module» = module_in w;
  dir = w.place;
  line = line;
  lists = lists;
  refused = is_project name && is_refused w.place w.frozen lists;
}

-- output roots that a call of `project` declares are added, unless they are refused
abbrev pub with_roots : Text → List Value → World → World
with_roots name lists w =
    if is_project name && names_output_dirs lists && not (is_refused w.place w.frozen lists) then add_roots (root_paths lists) w else w

abbrev pub declare_at : List World → Text → List Value → ℕ → Worlds → Kept → Answer
declare_at [] name lists line ws kept = value [] (changed (with_roots name lists) ws) (record kept { decls = kept.decls ++ decl_of name lists line ws.now ∷ [] })
declare_at (world ∷ worlds) name lists line ws kept = value [] ws kept

abbrev pub declare : Text → List Value → ℕ → Worlds → Kept → Answer
declare name lists line ws kept = declare_at ws.marked name lists line ws kept

-- ---- all rules

abbrev pub row : Native → List Value → Sight → Option Text → Worlds → Kept → Answer
row natives.Echo lists sight refused ws kept = echo (list_at 0 lists) ws kept
row (natives.Reads rule) lists sight refused ws kept = read_answer (read rule lists refused ws.now) ws kept
row (natives.Notes rule) lists sight refused ws kept = note rule lists ws kept
row natives.Import lists sight refused ws kept = import_call lists ws kept
row natives.Export lists sight refused ws kept = export_call lists ws kept
row natives.Glob lists sight refused ws kept = value (globbed sight ws.now.roots (list_at 0 lists) (list_at 1 lists)) (changed freeze_roots ws) kept
row natives.ProjectGlob lists sight refused ws kept =
    value (project_globbed sight ws.now.roots ws.now.place (list_at 0 lists) (list_at 1 lists)) (changed freeze_roots ws) kept

-- lists of another shape are Arity
abbrev pub row_if_shaped : Native → List Value → Sight → Option Text → Worlds → Kept → Answer
row_if_shaped native lists sight refused ws kept =
    if has_shape (shape_of native) lists then row native lists sight refused ws kept else refuses of_arity ws kept

-- a name that no rule has is told so
abbrev pub declare_or_not : Text → List Value → ℕ → Worlds → Kept → Answer
declare_or_not name lists line ws kept = if is_declaring name then declare name lists line ws kept else answers steps.Unknown ws kept

abbrev pub call_of : Option Native → Text → List Value → ℕ → Sight → Option Text → Worlds → Kept → Answer
call_of (Some native) name lists line sight refused ws kept = row_if_shaped native lists sight refused ws kept
call_of None name lists line sight refused ws kept = declare_or_not name lists line ws kept

-- what the calls mean; calls of actions are never recorded
abbrev pub jam_meaning : Meaning Kept
jam_meaning = record {
  call = λ name lists line sight refused ws kept. call_of (native_of name) name lists line sight refused ws kept;
  acted = λ name lists line ws kept. answers false ws kept;
}
