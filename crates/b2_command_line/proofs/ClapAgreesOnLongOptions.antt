-- clap's reading of `--by`, `--show`, `--explain` and `--clean` is that of a request.
use Rattle.std.proofs.Common.{◌≢◌, Bool, true, false, cond, ◌||◌, List, [], Option, None, Some, refl, codes}
use Rattle.std.specs.Str.{bytes_eq}
use Rattle.clap.specs.Words.{Rule, Row, Text}
use Rattle.clap.specs.Walk.{arg_by_long, long_met}
use Rattle.clap.specs.Faults.{long_fault}
use Rattle.clap.specs.declared.error.kind.ErrorKind.TheVariants as kind
use Rattle.b2_command_line.proofs.RequestsReadLeftToRight.{Request, Point, by_read, flag_read, long_read, use_flag, use_option}
use Rattle.b2_command_line.proofs.RowsShowTheRequest.{br, sr, er, cr, rules, not_nil, by_step, show_step, explain_step, clean_step}
use Rattle.b2_command_line.proofs.ClapAgreesOnGroups.{held, or_else_stops, Ready, Agrees, settle, settled_at, used_then}

-- the rule of a name, by what the tests of the four names say
abbrev long_by : Bool → Bool → Bool → Bool → Option Rule
long_by by show explain clean =
    cond (by || false) (Some br) (cond (show || false) (Some sr) (cond (explain || false) (Some er) (cond (clean || false) (Some cr) None)))

-- what is read, by what they say
abbrev read_by : Option Text → Request → Bool → Bool → Bool → Bool → Option Point
read_by value r by show explain clean =
    cond by (by_read value r) (cond show (flag_read (codes "show") value r)
    (cond explain (flag_read (codes "explain") value r) (cond clean (flag_read (codes "clean") value r) None)))

module _ (r : Request) (rows : List Row) (pending : Option (Text × List Text)) (ready : Ready r rows pending) where
  abbrev LongAgrees : Option Point → Option Text → Option Rule → Type 0
  LongAgrees answer value o = Agrees answer (long_fault rules false o value (held rows pending)) (long_met rules o value (held rows pending))

  by_agrees : (value : Option Text) → LongAgrees (by_read value r) value (Some br)
  by_agrees (Some v) = used_then (use_option (codes "by") v r) _ _ _ _ ready.passes (by_step r (settled_at rows pending) ready.shows v) refl
  by_agrees None = (ready.passes, (settled_at rows pending, refl, ready.shows))

  show_agrees : (value : Option Text) → LongAgrees (flag_read (codes "show") value r) value (Some sr)
  show_agrees (Some v) = not_nil kind.TooManyValues [] _ refl
  show_agrees None = used_then (use_flag (codes "show") r) _ _ _ _ ready.passes (show_step r (settled_at rows pending) ready.shows) refl

  explain_agrees : (value : Option Text) → LongAgrees (flag_read (codes "explain") value r) value (Some er)
  explain_agrees (Some v) = not_nil kind.TooManyValues [] _ refl
  explain_agrees None = used_then (use_flag (codes "explain") r) _ _ _ _ ready.passes (explain_step r (settled_at rows pending) ready.shows) refl

  clean_agrees : (value : Option Text) → LongAgrees (flag_read (codes "clean") value r) value (Some cr)
  clean_agrees (Some v) = not_nil kind.TooManyValues [] _ refl
  clean_agrees None = used_then (use_flag (codes "clean") r) _ _ _ _ ready.passes (clean_step r (settled_at rows pending) ready.shows) refl

  by_tests : (value : Option Text) (by show explain clean : Bool) → LongAgrees (read_by value r by show explain clean) value (long_by by show explain clean)
  by_tests value true show explain clean = by_agrees value
  by_tests value false true explain clean = show_agrees value
  by_tests value false false true clean = explain_agrees value
  by_tests value false false false true = clean_agrees value
  by_tests value false false false false = not_nil kind.UnknownArgument [] _ refl

-- a long option is read as a request reads it
pub long_agrees : (name : Text) (r : Request) (rows : List Row) (pending : Option (Text × List Text)) (ready : Ready r rows pending) (value : Option Text)
    → Agrees (long_read name value r) (long_fault rules false (arg_by_long rules name) value (held rows pending)) (long_met rules (arg_by_long rules name) value (held rows pending))
long_agrees name r rows pending ready value =
    by_tests r rows pending ready value (bytes_eq (codes "by") name) (bytes_eq (codes "show") name) (bytes_eq (codes "explain") name) (bytes_eq (codes "clean") name)

-- it fails where what is pending does
module _ (rows : List Row) (pending : Option (Text × List Text)) (bad : settle rows pending ≢ []) where
  abbrev Fails : Option Text → Option Rule → Type 0
  Fails value o = long_fault rules false o value (held rows pending) ≢ []

  by_fails : (value : Option Text) → Fails value (Some br)
  by_fails (Some v) = or_else_stops _ _ bad
  by_fails None = bad

  show_fails : (value : Option Text) → Fails value (Some sr)
  show_fails (Some v) = not_nil kind.TooManyValues [] _ refl
  show_fails None = or_else_stops _ _ bad

  explain_fails : (value : Option Text) → Fails value (Some er)
  explain_fails (Some v) = not_nil kind.TooManyValues [] _ refl
  explain_fails None = or_else_stops _ _ bad

  clean_fails : (value : Option Text) → Fails value (Some cr)
  clean_fails (Some v) = not_nil kind.TooManyValues [] _ refl
  clean_fails None = or_else_stops _ _ bad

  fails_by : (value : Option Text) (by show explain clean : Bool) → Fails value (long_by by show explain clean)
  fails_by value true show explain clean = by_fails value
  fails_by value false true explain clean = show_fails value
  fails_by value false false true clean = explain_fails value
  fails_by value false false false true = clean_fails value
  fails_by value false false false false = not_nil kind.UnknownArgument [] _ refl

pub long_fails : (name : Text) (rows : List Row) (pending : Option (Text × List Text)) → settle rows pending ≢ [] → (value : Option Text)
    → long_fault rules false (arg_by_long rules name) value (held rows pending) ≢ []
long_fails name rows pending bad value =
    fails_by rows pending bad value (bytes_eq (codes "by") name) (bytes_eq (codes "show") name) (bytes_eq (codes "explain") name) (bytes_eq (codes "clean") name)
