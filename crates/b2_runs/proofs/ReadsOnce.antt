use Rattle.std.proofs.Common.{◌≡◌, ℕ, true, false, List, [], ◌∷◌, ◌++◌, inl, inr, sym, ap, ap₂, subst, ◌∙◌, Option, Some, None}
use Rattle.std.specs.List.{Contains}
use Rattle.std.proofs.lemmas.List.Elements.{Contains-push_cases}
use Rattle.b2_host.specs.declared.children.ChildEvent.{ChildEvent}
use Rattle.b2_host.specs.declared.children.ChildEvent.TheVariants.{Done}
use Rattle.b2_host.specs.Disks.{Past, IsOneEach}
use Rattle.b2_host.specs.Outside.{Read}
use Rattle.b2_host.specs.FileCalls.{log_path}
use Rattle.b2_log.specs.declared.line.LogLine.{LogLine}
use Rattle.b2_log.specs.Readings.{IsReading}
use Rattle.b2_log.specs.Finding.{find_scan}
use Rattle.b2_log.proofs.BytesHaveOneReading.{one_reading}
use Rattle.b2_runs.specs.Staleness.{Update}
use Rattle.b2_runs.specs.Runs.{Settled}
use Rattle.b2_runs.specs.FileReads.{IsLogThen, IsCalledFor, IsCalledFor.to_scan as called_to_scan, IsCalledFor.to_digest as called_to_digest}
use Rattle.b2_runs.specs.ReadLaws.{ReadsNone, ReadsMore, ReadsAlong, ReadsThroughEnd, InputThroughEnd, NeededOutThroughEnd, ReadsAsPastGrows, ScannedIsNotRead, UnscannedIsNotRead}
use Rattle.b2_runs.proofs.FirstElementOrLater.{Contains_nil}
use Rattle.b2_runs.proofs.SettledStays.{settled_grows, settled_after_end}
use Rattle.b2_runs.proofs.TooBigIsLarge.{input_up, out_up}

pub reads_none : ReadsNone
reads_none u events past read c = absurd (Contains_nil read c)

pub reads_more : ReadsMore
reads_more u events past reads read once may other c not_log = elim (Contains-push_cases reads read other c) [
  | inl old ↦ once other old not_log
  | inr e ↦ subst (IsCalledFor u events past) e (elim may [ inl is_log ↦ absurd (not_log (ap (λ (r : Read). r.path) (sym e) ∙ is_log)) | inr is ↦ is ])
]

-- what is called for stays so where more is settled
called_up : (u : Update) (events more : List ChildEvent) (past : List Past) (read : Read) → ((p : List ℕ) → Settled u events p → Settled u more p) → IsCalledFor u events past read → IsCalledFor u more past read
called_up u events more past read grows (called_to_scan stamp log scanned i at then none) = called_to_scan stamp log scanned (input_up u events more read.path grows i) at then none
called_up u events more past read grows (called_to_digest on (inl i)) = called_to_digest on (inl (input_up u events more read.path grows i))
called_up u events more past read grows (called_to_digest on (inr o)) = called_to_digest on (inr (out_up u events more read.path grows o))

pub reads_along : ReadsAlong
reads_along u events event past reads apart may once read c not_log = called_up u events (events ++ event ∷ []) past read (settled_grows u events apart event may) (once read c not_log)

pub reads_through_end : ReadsThroughEnd
reads_through_end u events i well past reads apart opened once read c not_log = called_up u events (events ++ Done i well ∷ []) past read (λ p s. settled_after_end u events i well p apart opened s) (once read c not_log)

pub input_through_end : InputThroughEnd
input_through_end u events i well path apart opened is = input_up u events (events ++ Done i well ∷ []) path (λ p s. settled_after_end u events i well p apart opened s) is

pub needed_out_through_end : NeededOutThroughEnd
needed_out_through_end u events i well path apart opened is = out_up u events (events ++ Done i well ∷ []) path (λ p s. settled_after_end u events i well p apart opened s) is

-- the log as it then stood is the same where more has stood
pub then_grows : (past more : List Past) (stamp : Option ℕ) (log : List LogLine) → ((old : Past) → Contains past old → Contains more old) → IsLogThen past stamp log → IsLogThen more stamp log
then_grows past more None log grows e = e
then_grows past more (Some stamp) log grows (bytes, good, stood, r) = (bytes, good, grows _ stood, r)

pub reads_as_past_grows : ReadsAsPastGrows
reads_as_past_grows u events past more reads grows once read c not_log = go (once read c not_log)
  where
    go : IsCalledFor u events past read → IsCalledFor u events more read
    go (called_to_scan stamp log scanned i at then none) = called_to_scan stamp log scanned i at (then_grows past more read.log log grows then) none
    go (called_to_digest on i) = called_to_digest on i

-- the log as it then stood is one
then_is_one : (past : List Past) (stamp : Option ℕ) (log other : List LogLine) → IsOneEach past → IsLogThen past stamp log → IsLogThen past stamp other → log ≡ other
then_is_one past None log other one e f = e ∙ sym f
then_is_one past (Some stamp) log other one (bytes, good, stood, r) (others, also, stood_other, s) =
    let same : others ≡ bytes = one log_path stamp others bytes stood_other stood in
    (one_reading bytes log other good also r (subst (λ (w : List ℕ). IsReading w other also) same s)).0

pub scanned_is_not_read : ScannedIsNotRead
scanned_is_not_read u events past reads read stamp log s off one once c not_log at then found = go (once read c not_log)
  where
    go : IsCalledFor u events past read → ⊥
    go (called_to_scan n lines scanned i at_n then_n none) =
        let f : Some n ≡ Some stamp = sym at_n ∙ at in
        let same : n ≡ stamp = cc in
        let e : None ≡ Some s = sym none ∙ ap₂ (λ k l. find_scan read.path k l) same (then_is_one past read.log lines log one then_n then) ∙ found in
        cc
    go (called_to_digest on i) = let f : false ≡ true = sym off ∙ on in cc

pub unscanned_is_not_read : UnscannedIsNotRead
unscanned_is_not_read u events past reads read off once c not_log none = go (once read c not_log)
  where
    go : IsCalledFor u events past read → ⊥
    go (called_to_scan n lines scanned i at_n then_n found) = let f : false ≡ true = sym none ∙ scanned in cc
    go (called_to_digest on i) = let f : false ≡ true = sym off ∙ on in cc
