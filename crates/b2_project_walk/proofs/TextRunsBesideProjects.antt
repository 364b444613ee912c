-- What is promised of a text that is no project's file, in each way in which it reads, is refused or ends.
use Rattle.std.proofs.Common.{◌≡◌, ℕ, List, [], Some, None, Result, Ok, Err, refl, sym, ap, ◌∙◌, subst, arith}
use Rattle.std.specs.Prelude.{IfErr}
use Rattle.b2_host.specs.Disks.{Folder}
use Rattle.jam_grammar.specs.declared.tree.Tree.{Tree}
use Rattle.jam_grammar.specs.Trees.{whole_tree}
use Rattle.jam_journal.specs.Tables.{Text}
use Rattle.jam_lexer.specs.declared.fault.LexFault.{LexFault}
use Rattle.jam_lexer.specs.declared.fault.LexFault.TheVariants as lexing
use Rattle.jam_parser.specs.declared.fault.SyntaxFault.TheVariants as parsing
use Rattle.jam_meaning.specs.Refused.{Refuses, TookTurn}
use Rattle.jam_meaning.specs.Settings.{Setting, Reading, is_missing, is_too_big, has_no_tokens, has_no_tree}
use Rattle.jam_meaning.specs.Eval.{run}
use Rattle.jam_natives.specs.Keeping.{Kept}
use Rattle.jam_values.specs.declared.files.FileReading.{FileReading}
use Rattle.jam_values.specs.FileReadings.{reading_of, ReadsAny}
use Rattle.jam_values.proofs.OneReading.{one_reading, file_reads}
use Rattle.jam_effects.specs.declared.fault.EvalFault.{EvalFault}
use Rattle.jam_interp.specs.FunctionParts.{run_at}
use Rattle.b2_project_walk.specs.declared.fault.LoadFault.{LoadFault}
use Rattle.b2_project_walk.specs.declared.fault.LoadFault.TheVariants as load_faults
use Rattle.b2_project_walk.specs.Faults.{refused_of, of_eval, of_lex, of_syntax, IsOfWalk}
use Rattle.b2_project_walk.specs.Finding.{Counts}
use Rattle.b2_project_walk.specs.Running.{Runs}
use Rattle.b2_project_walk.specs.Walking.{Follows}
use Rattle.b2_project_walk.specs.Walks.{Walk, Course, goes_on, lex, too_big, syntax_at, after_run, run_text}
use Rattle.b2_project_walk.specs.WalkParts.{Stand, ComeToSame, What, IsOfWalkIf, RunsBeside, reads_text, reads_tree, runs_bytes}
use Rattle.b2_project_walk.proofs.FirstFileThereIsFound.{looked_same}
use Rattle.b2_project_walk.proofs.PartsMakeTheLoad.{frames_same, stops_from}
use Rattle.b2_project_walk.proofs.VisitDoesWhatIsDefined.{machine_at, setting_of, refused_same, counts_eval, whole_eval, agrees_eval}

-- ---- a text that does not run

-- all is as before
stays : (what : What) (a : Stand) (result : Result (Unit {0}) LoadFault) → Counts result a.outside a.outside → IsOfWalkIf result → refused_of result ≡ None
    → ((setting : Setting Kept) → Follows result (what setting a.walk) a.walk) → RunsBeside what a a result
stays what a result counts whole none told = record {
  told = λ setting right refuses. told setting;
  turns = omega arith;
  budget = refl;
  frames = frames_same a.walk.state;
  looked = looked_same a.outside;
  counts = counts;
  took = subst (λ text. TookTurn text a.walk.state.left a.walk.state.left) (sym none) tt;
  whole = whole;
}

pub no_memory_to_read : (what : What) (a : Stand) → RunsBeside what a a (Err load_faults.OutOfMemory)
no_memory_to_read what a = stays what a (Err load_faults.OutOfMemory) tt tt refl (λ setting. tt)

pub text_missing : (path : Text) (a : Stand) → RunsBeside (reads_text path is_missing) a a (Ok tt)
text_missing path a = stays (reads_text path is_missing) a (Ok tt) refl tt refl (λ setting. refl)

pub text_too_big : (path : Text) (size : ℕ) (a : Stand) → RunsBeside (reads_text path (is_too_big size)) a a (Err (load_faults.TooBig path size))
text_too_big path size a =
    stays (reads_text path (is_too_big size)) a (Err (load_faults.TooBig path size)) refl (too_big path size, refl) refl (λ setting. refl)

pub text_has_no_tree : (path : Text) (line : ℕ) (found : Text) (a : Stand) → RunsBeside (reads_text path (has_no_tree line found)) a a (Err (of_syntax path line found))
text_has_no_tree path line found a =
    stays (reads_text path (has_no_tree line found)) a (Err (load_faults.Syntax path (parsing.At line found))) refl (syntax_at path line found, refl) refl (λ setting. refl)

pub text_has_no_tokens : (path : Text) (fault : LexFault) (a : Stand) → RunsBeside (reads_text path (has_no_tokens fault)) a a (Err (of_lex path fault))
text_has_no_tokens path (lexing.NotUtf8 at) a =
    stays (reads_text path (has_no_tokens (lexing.NotUtf8 at))) a (Err (load_faults.Lex path (lexing.NotUtf8 at))) refl (lex path (lexing.NotUtf8 at), refl) refl (λ setting. refl)
text_has_no_tokens path (lexing.OpenQuote line) a =
    stays (reads_text path (has_no_tokens (lexing.OpenQuote line))) a (Err (load_faults.Lex path (lexing.OpenQuote line))) refl (lex path (lexing.OpenQuote line), refl) refl (λ setting. refl)
text_has_no_tokens path (lexing.OpenActions line) a =
    stays (reads_text path (has_no_tokens (lexing.OpenActions line))) a (Err (load_faults.Lex path (lexing.OpenActions line))) refl (lex path (lexing.OpenActions line), refl) refl (λ setting. refl)
text_has_no_tokens path lexing.OutOfMemory a = no_memory_to_read (reads_text path (has_no_tokens lexing.OutOfMemory)) a

-- as it was read
pub text_read : (path : Text) (reading read : FileReading) (a b : Stand) (result : Result (Unit {0}) LoadFault) → reading ≡ read → RunsBeside (reads_text path (reading_of read)) a b result
    → RunsBeside (reads_text path (reading_of reading)) a b result
text_read path reading read a b result is h = subst (λ r. RunsBeside (reads_text path (reading_of r)) a b result) (sym is) h

-- ---- a text that runs

module _ (path : Text) (tree : Tree) (a b : Stand) where
  pub text_ended : Runs (run_at path (whole_tree tree)) (Unit {0}) (machine_at a) (machine_at b) (Ok tt) → b.walk ≡ record a.walk { state = b.walk.state } → RunsBeside (reads_tree path tree) a b (Ok tt)
  text_ended runs rest = record {
    told = λ setting right refuses. ap (λ o. after_run o (λ s. record a.walk { state = s })) (runs.told tt setting (setting_of setting a right) refuses) ∙ ap goes_on (sym rest);
    turns = runs.turns;
    budget = runs.budget;
    frames = runs.frames;
    looked = runs.looked;
    counts = runs.counts;
    took = tt;
    whole = tt;
  }

  pub text_stopped : (e : EvalFault) → Runs (run_at path (whole_tree tree)) (Unit {0}) (machine_at a) (machine_at b) (Err e) → RunsBeside (reads_tree path tree) a b (Err (of_eval e))
  text_stopped e runs = record {
    told = λ setting right refuses.
        agrees_eval setting right.natives e (run setting path (whole_tree tree) a.walk.state) (λ s. record a.walk { state = s }) b.walk.state (λ later. refl)
        (runs.told tt setting (setting_of setting a right) (subst (Refuses setting.refused a.walk.state.left b.walk.state.left) (refused_same e) refuses));
    turns = runs.turns;
    budget = runs.budget;
    frames = runs.frames;
    looked = runs.looked;
    counts = counts_eval e a.outside b.outside runs.counts;
    took = subst (λ text. TookTurn text a.walk.state.left b.walk.state.left) (sym (refused_same e)) runs.took;
    whole = whole_eval e runs.whole;
  }

-- ---- its bytes

pub follows_from : (result : Result (Unit {0}) LoadFault) (comes other : Course → Type 0) (w : Walk) → ComeToSame other comes → Follows result other w → Follows result comes w
follows_from (Ok u) comes other w f h = f.0 (goes_on w) h
follows_from (Err fault) comes other w f h = stops_from fault comes other w.state f h

-- a folder in which each path has these bytes
abbrev filled : List ℕ → Folder
filled bytes = λ path. Some (record { stamp = 0; bytes = bytes })

-- bytes read in one way
pub one_text : (bytes : List ℕ) (reading other : Reading) → ReadsAny bytes reading → ReadsAny bytes other → reading ≡ other
one_text bytes reading other h g =
    one_reading (filled bytes) [] reading other (file_reads (filled bytes) [] bytes reading refl h) (file_reads (filled bytes) [] bytes other refl g)

pub bytes_ran : (path : Text) (bytes : List ℕ) (reading : Reading) (a b : Stand) (result : Result (Unit {0}) LoadFault) → ReadsAny bytes reading → RunsBeside (reads_text path reading) a b result
    → RunsBeside (runs_bytes path bytes) a b result
bytes_ran path bytes reading a b result reads h = record {
  told = λ setting right refuses. follows_from result (runs_bytes path bytes setting a.walk) (reads_text path reading setting a.walk) b.walk (
    λ course is. (reading, reads, sym is),
    λ course (other, also, is). ap (λ r. run_text setting path r a.walk) (one_text bytes reading other reads also) ∙ sym is,
  ) (h.told setting right refuses);
  turns = h.turns;
  budget = h.budget;
  frames = h.frames;
  looked = h.looked;
  counts = h.counts;
  took = h.took;
  whole = h.whole;
}

-- ---- what is told of them

pub whole_text : (result : Result (Unit {0}) LoadFault) → IsOfWalkIf result → IfErr result IsOfWalk
whole_text (Ok u) h = tt
whole_text (Err fault) h = h
