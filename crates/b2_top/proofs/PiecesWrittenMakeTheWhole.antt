-- Writing one piece after another is writing all of them, also where it stops, and each end has its answer.
use Rattle.std.proofs.Common.{◌≡◌, ℕ, ◌+◌, ◌<◌, ◌≤◌, ◌==◌, Bool, true, zero, suc, List, [], ◌∷◌, ◌++◌, take, drop, length, get_or, Option, Some, None, Result, Ok, Err, IfOk, string_bytes, refl, sym, ap, subst, ◌∙◌, append_assoc, append-nil, arith}
use Rattle.std.specs.Prelude.{String}
use Rattle.std.specs.Global.{Global}
use Rattle.std.specs.Option.{option_map}
use Rattle.std.specs.List.{flat_map}
use Rattle.std.proofs.lemmas.List.{take_more, take-append-drop}
use Rattle.std.proofs.lemmas.Bool.{true≢false}
use Rattle.std.proofs.lemmas.Grind.{flat_map-append}
use Rattle.b2_host.specs.declared.fault.IoFault.{IoFault}
use Rattle.b2_host.specs.declared.fault.IoFault.TheVariants as faults
use Rattle.b2_base.specs.Bytes.{IsFrontOf}
use Rattle.b2_host.specs.Output.{Output, Prints, with_written}
use Rattle.b2_top.proofs.FaultsCountFromEarlier.{same_count, sink_failed_from}
use Rattle.b2_top.specs.declared.answer.Answer.{Answer}
use Rattle.b2_top.specs.declared.answer.Answer.TheVariants as answers
use Rattle.b2_host.specs.OutputLaws.{OutKeeps, out_keeps_prints}
use Rattle.b2_top.specs.Writing.{FailsIn, Writes, unwritten, Says, SaysFault, AnswersJam}
use Rattle.b2_top.specs.Writing.Says.{said, failed, stopped}
use Rattle.b2_top.specs.Writing.SaysFault.{fault_said, fault_failed, fault_stopped}
use Rattle.b2_refusals.specs.declared.fault.Fault.TheVariants as refusing
use Rattle.jam_graph.specs.declared.fault.JamFault.{JamFault}
use Rattle.jam_graph.specs.declared.fault.JamFault.TheVariants as jam
use Rattle.b2_top.specs.Reports.{refusal_report}

-- ---- bytes

text_none : (text : Option (List ℕ)) → text ≡ option_map (λ so_far. so_far ++ []) text
text_none None = refl
text_none (Some t) = ap Some (sym (append-nil t))

text_both : (a b : List ℕ) (text : Option (List ℕ)) → option_map (λ so_far. so_far ++ b) (option_map (λ so_far. so_far ++ a) text) ≡ option_map (λ so_far. so_far ++ (a ++ b)) text
text_both a b None = refl
text_both a b (Some t) = ap Some (append_assoc t a b)

abbrev with_text : Output → Option (List ℕ) → Output
with_text x text = record x { written = text }

-- writing nothing
pub written_none : (x : Output) → x ≡ with_written [] x
written_none x = ap (with_text x) (text_none x.written)

-- some bytes, and then others
pub written_both : (a b : List ℕ) (x y z : Output) → y ≡ with_written a x → z ≡ with_written b y → z ≡ with_written (a ++ b) x
written_both a b x y z p q = q ∙ ap (with_written b) p ∙ ap (with_text x) (text_both a b x.written)

-- ---- one write

pub prints_writes : (bytes text : List ℕ) (x y : Output) (r : Result (Unit {0}) IoFault) → bytes ≡ text → Prints bytes x y r → Writes text x y r
prints_writes bytes text x y r e p = subst (λ b. Writes b x y r) e (go r p)
  where
    go : (r : Result (Unit {0}) IoFault) → Prints bytes x y r → Writes bytes x y r
    go (Ok v) p = p
    go (Err faults.Failed) p = record {
      part = take p.count bytes;
      begins = (drop p.count bytes, sym (take-append-drop p.count bytes));
      sink = record { may = p.may_fail; faults = p.rose };
      may_fail = ap (λ (o : Output). o.may_fail) p.same;
      written = ap (λ (o : Output). o.written) p.same;
    }
    go (Err faults.OutOfMemory) p = record { part = []; begins = (bytes, refl); same = p ∙ written_none x }

-- nothing was written, for lack of memory
pub writes_nothing : (bytes : List ℕ) (x : Output) → Writes {T = Unit {0}} bytes x x (Err faults.OutOfMemory)
writes_nothing bytes x = record { part = []; begins = (bytes, refl); same = written_none x }

-- ---- one piece after another

pub front_more : (part a b : List ℕ) → IsFrontOf part a → IsFrontOf part (a ++ b)
front_more part a b f = (f.0 ++ b, ap (λ t. t ++ b) f.1 ∙ append_assoc part f.0 b)

pub front_after : (part a b : List ℕ) → IsFrontOf part b → IsFrontOf (a ++ part) (a ++ b)
front_after part a b f = (f.0, ap (λ t. a ++ t) f.1 ∙ sym (append_assoc a part f.0))

-- it stopped in the first bytes
pub writes_stop : (a b : List ℕ) (x y : Output) (fault : IoFault) → Writes {T = Unit {0}} a x y (Err fault) → Writes {T = Unit {0}} (a ++ b) x y (Err fault)
writes_stop a b x y faults.Failed w = record { part = w.part; begins = front_more w.part a b w.begins; sink = w.sink; may_fail = w.may_fail; written = w.written }
writes_stop a b x y faults.OutOfMemory w = record { part = w.part; begins = front_more w.part a b w.begins; same = w.same }

same_faults : (a : List ℕ) (x y : Output) → y ≡ with_written a x → y.faults ≡ x.faults
same_faults a x y p = ap (λ (o : Output). o.faults) p

-- the first bytes were written, and then come others
pub writes_then : (a b : List ℕ) (x y z : Output) (r : Result (Unit {0}) IoFault) → y ≡ with_written a x → Writes b y z r → Writes (a ++ b) x z r
writes_then a b x y z (Ok v) p w = written_both a b x y z p w
writes_then a b x y z (Err faults.Failed) p w = record {
  part = a ++ w.part;
  begins = front_after w.part a b w.begins;
  sink = sink_failed_from x y z (same_count x.faults y.faults (same_faults a x y p)) (ap (λ (o : Output). o.may_fail) p) w.sink;
  may_fail = w.may_fail ∙ ap (λ (o : Output). o.may_fail) p;
  written = w.written ∙ ap (λ (o : Output). option_map (λ so_far. so_far ++ w.part) o.written) p ∙ text_both a w.part x.written;
}
writes_then a b x y z (Err faults.OutOfMemory) p w = record { part = a ++ w.part; begins = front_after w.part a b w.begins; same = written_both a w.part x y z p w.same }

-- the result of a `?`
pub writes_err : (bytes : List ℕ) (x y : Output) (r : Result (Unit {0}) IoFault) (fault : IoFault) → r ≡ Err fault → Writes {T = Unit {0}} bytes x y (Err fault) → Writes bytes x y r
writes_err bytes x y r fault e w = subst (λ z. Writes bytes x y z) (sym e) w

-- ---- the pieces of a list

take_whole : {X : Type 0} (xs : List X) (i : ℕ) → length xs ≤ i → take i xs ≡ xs
take_whole [] zero h = refl
take_whole [] (suc i) h = refl
take_whole (x ∷ xs) zero h = absurd (omega arith)
take_whole (x ∷ xs) (suc i) h = ap (λ l. x ∷ l) (take_whole xs i (omega arith))

module _ {X : Type 0} (f : X → List ℕ) (xs : List X) where
  pieces_more : (i : ℕ) (d : X) → i < length xs → flat_map f (take (i + 1) xs) ≡ flat_map f (take i xs) ++ f (get_or xs i d)
  pieces_more i d h = ap (flat_map f) (take_more xs i d h) ∙ flat_map-append f (take i xs) (get_or xs i d ∷ []) ∙ ap (λ t. flat_map f (take i xs) ++ t) (append-nil (f (get_or xs i d)))

  -- one more was written
  pub list_more : (i : ℕ) (d : X) (x y z : Output) → i < length xs → d ≡ get_or xs i d → y ≡ with_written (flat_map f (take i xs)) x → z ≡ with_written (f d) y
      → z ≡ with_written (flat_map f (take (i + 1) xs)) x
  list_more i d x y z h is p q =
      written_both (flat_map f (take i xs)) (f d) x y z p q ∙ ap (λ t. with_written (flat_map f (take i xs) ++ t) x) (ap f is) ∙ ap (λ t. with_written t x) (sym (pieces_more i d h))

  -- it stopped in this one
  pub list_stops : (i : ℕ) (d : X) (x y z : Output) (fault : IoFault) → i < length xs → d ≡ get_or xs i d → y ≡ with_written (flat_map f (take i xs)) x → Writes {T = Unit {0}} (f d) y z (Err fault)
      → Writes {T = Unit {0}} (flat_map f xs) x z (Err fault)
  list_stops i d x y z fault h is p w =
      let rest = flat_map f (drop (i + 1) xs) in
      let first = writes_stop (flat_map f (take i xs) ++ f d) rest x z fault (writes_then (flat_map f (take i xs)) (f d) x y z (Err fault) p w) in
      let whole : (flat_map f (take i xs) ++ f d) ++ rest ≡ flat_map f xs =
      ap (λ t. (flat_map f (take i xs) ++ f t) ++ rest) is ∙ ap (λ t. t ++ rest) (sym (pieces_more i d h)) ∙ sym (flat_map-append f (take (i + 1) xs) (drop (i + 1) xs))
      ∙ ap (flat_map f) (take-append-drop (i + 1) xs)
      in
      subst (λ t. Writes {T = Unit {0}} t x z (Err fault)) whole first

  -- all were written
  pub list_done : (i : ℕ) (x y : Output) → length xs ≤ i → y ≡ with_written (flat_map f (take i xs)) x → y ≡ with_written (flat_map f xs) x
  list_done i x y h p = p ∙ ap (λ l. with_written (flat_map f l) x) (take_whole xs i h)

-- ---- answers

-- all was written, and this is the answer
pub says_done : (answer : Answer) (bytes : List ℕ) (x y : Output) (r : Result (Unit {0}) IoFault) (v : Unit {0}) → r ≡ Ok v → Writes bytes x y r → Says answer bytes x y answer
says_done answer bytes x y r v e w = said refl (subst (λ z. Writes bytes x y z) e w)

says_end : (answer : Answer) (bytes : List ℕ) (x y : Output) (fault : IoFault) → Writes {T = Unit {0}} bytes x y (Err fault) → Says answer bytes x y (unwritten fault)
says_end answer bytes x y faults.Failed w = failed refl w
says_end answer bytes x y faults.OutOfMemory w = stopped refl w

-- it was not, and that is the answer
pub says_not : (answer : Answer) (bytes : List ℕ) (x y : Output) (r : Result (Unit {0}) IoFault) (fault : IoFault) (result : Answer) → r ≡ Err fault → result ≡ unwritten fault → Writes bytes x y r → Says answer bytes x y result
says_not answer bytes x y r fault result e is w =
    subst (λ a. Says answer bytes x y a) (sym is) (says_end answer bytes x y fault (subst (λ z. Writes bytes x y z) e w))

-- an empty text is written
pub writes_empty : (text : List ℕ) (x : Output) (empty : Bool) → empty ≡ (length text == 0) → empty ≡ true → x ≡ with_written text x
writes_empty [] x empty e t = written_none x
writes_empty (byte ∷ text) x empty e t = let same : (length (byte ∷ text) == 0) ≡ true = sym e ∙ t in absurd (grind (arith, same))

-- ---- texts that were made

pub made_bytes : {E : Type 0} (made : Result (String Global) E) (text : String Global) (bytes : List ℕ) → made ≡ Ok text → IfOk made (λ t. string_bytes t ≡ bytes) → string_bytes text ≡ bytes
made_bytes made text bytes e h = subst (λ (r : Result (String Global) _). IfOk r (λ t. string_bytes t ≡ bytes)) e h

-- what was made of a text is what is made of an equal one
pub made_again : {E : Type 0} (made : Result (String Global) E) (f : List ℕ → List ℕ) {a b : List ℕ} → a ≡ b → IfOk made (λ t. string_bytes t ≡ f a) → IfOk made (λ t. string_bytes t ≡ f b)
made_again made f e h = subst (λ l. IfOk made (λ t. string_bytes t ≡ f l)) e h

-- ---- the answer to a fault of the host

pub fault_done : (bytes : List ℕ) (x y : Output) (r : Result (Unit {0}) IoFault) (v : Unit {0}) → r ≡ Ok v → Writes bytes x y r → SaysFault bytes x y answers.HostFault
fault_done bytes x y r v e w = fault_said refl (subst (λ z. Writes bytes x y z) e w)

pub fault_not : (bytes : List ℕ) (x y : Output) (r : Result (Unit {0}) IoFault) → r ≡ Err faults.Failed → Writes bytes x y r → SaysFault bytes x y answers.HostFault
fault_not bytes x y r e w = fault_failed refl (subst (λ z. Writes bytes x y z) e w)

pub fault_short : (bytes : List ℕ) (x y : Output) (r : Result (Unit {0}) IoFault) → r ≡ Err faults.OutOfMemory → Writes bytes x y r → SaysFault bytes x y answers.OutOfMemory
fault_short bytes x y r e w = fault_stopped refl (subst (λ z. Writes bytes x y z) e w)

-- ---- what every write keeps

pub keeps_written : (bytes : List ℕ) (x y : Output) → y ≡ with_written bytes x → OutKeeps x y
keeps_written bytes x y p = out_keeps_prints {T = Unit {0}} bytes x y (Ok tt) p

pub keeps_failed : (bytes : List ℕ) (x y : Output) → FailsIn bytes x y → OutKeeps x y
keeps_failed bytes x y f = record {
  faults = f.sink.faults.kept;
  no_fault = λ none. absurd (true≢false (sym f.sink.may ∙ none));
  may_fail = f.may_fail;
}

-- why a Jam file and targets have no plan, unless the host failed or memory ran out
pub jam_says : (echoes : List (List ℕ)) (fault : JamFault) (before after : Output) (result : Answer) → (fault ≡ jam.Host → ⊥) → (fault ≡ jam.OutOfMemory → ⊥)
    → Says (answers.Refused (refusing.Jam fault)) (refusal_report echoes [] (refusing.Jam fault)) before after result → AnswersJam echoes fault before after result
jam_says echoes (jam.NoFile path) before after result no_host no_memory h = h
jam_says echoes (jam.TooBig path size) before after result no_host no_memory h = h
jam_says echoes (jam.Lex path fault) before after result no_host no_memory h = h
jam_says echoes (jam.Syntax path fault) before after result no_host no_memory h = h
jam_says echoes (jam.Eval fault) before after result no_host no_memory h = h
jam_says echoes (jam.NoTarget name) before after result no_host no_memory h = h
jam_says echoes (jam.MixedNotFile target) before after result no_host no_memory h = h
jam_says echoes (jam.PathClash path) before after result no_host no_memory h = h
jam_says echoes (jam.LocationOutside path) before after result no_host no_memory h = h
jam_says echoes (jam.TooManySteps count) before after result no_host no_memory h = h
jam_says echoes jam.Host before after result no_host no_memory h = absurd (no_host refl)
jam_says echoes jam.OutOfMemory before after result no_host no_memory h = absurd (no_memory refl)
