-- Texts that are written one after another add up, and a stop leaves a beginning of the whole.
use Rattle.std.proofs.Common.{◌≡◌, ℕ, ◌+◌, ◌<◌, List, [], ◌∷◌, ◌++◌, take, drop, length, get_or, Option, Some, None, Result, Ok, Err, refl, sym, ap, subst, ◌∙◌, arith, append_assoc, append-nil}
use Rattle.std.specs.Option.{option_map}
use Rattle.std.specs.List.{flat_map}
use Rattle.std.proofs.lemmas.List.{take_more, take-append-drop}
use Rattle.std.proofs.lemmas.Grind.{flat_map-append}
use Rattle.b2_host.specs.declared.fault.IoFault.{IoFault}
use Rattle.b2_host.specs.declared.fault.IoFault.TheVariants as faults
use Rattle.b2_host.specs.OutsideLaws.{then_rose}
use Rattle.b2_host.specs.Output.{Output, Prints, with_written}
use Rattle.b2_runs.specs.UpdateAnswers.{SinkFailed}
use Rattle.b2_endings.specs.Writings.{Adds, AddsPart, Says}

-- ---- what is written

-- writing nothing
adds_nothing : (text : Option (List ℕ)) → Adds [] text text
adds_nothing None = refl
adds_nothing (Some t) = ap Some (sym (append-nil t))

-- one text, and then another
adds_both : (a b : List ℕ) (x y z : Option (List ℕ)) → Adds a x y → Adds b y z → Adds (a ++ b) x z
adds_both a b None y z p q = q ∙ ap (option_map (λ so_far. so_far ++ b)) p
adds_both a b (Some t) y z p q = q ∙ ap (option_map (λ so_far. so_far ++ b)) p ∙ ap Some (append_assoc t a b)

-- one text, and then the beginning of another
adds_then_part : (a b : List ℕ) (x y z : Option (List ℕ)) → Adds a x y → AddsPart b y z → AddsPart (a ++ b) x z
adds_then_part a b x y z p q = record {
  part = a ++ q.part;
  rest = q.rest;
  whole = ap (λ t. a ++ t) q.whole ∙ sym (append_assoc a q.part q.rest);
  adds = adds_both a q.part x y z p q.adds;
}

-- the beginning of a text is one of a longer text
part_of_more : (a b : List ℕ) (x y : Option (List ℕ)) → AddsPart a x y → AddsPart (a ++ b) x y
part_of_more a b x y p = record {
  part = p.part;
  rest = p.rest ++ b;
  whole = ap (λ t. t ++ b) p.whole ∙ append_assoc p.part p.rest b;
  adds = p.adds;
}

-- ---- what is said

-- what a write tells
pub says_printed : {T : Type 0} (line : List ℕ) (before after : Output) (r : Result T IoFault) → Prints line before after r → Says line before after r
says_printed line before after (Ok x) p = p
says_printed line before after (Err faults.Failed) p = (
  record { may = p.may_fail; faults = p.rose },
  record { part = take p.count line; rest = drop p.count line; whole = sym (take-append-drop p.count line); adds = ap (λ (o : Output). o.written) p.same },
  ap (λ (o : Output). o.may_fail) p.same,
)
says_printed line before after (Err faults.OutOfMemory) e = (
  ap (λ (o : Output). o.faults) e,
  record { part = []; rest = line; whole = refl; adds = ap (λ (o : Output). o.written) e ∙ adds_nothing before.written },
  ap (λ (o : Output). o.may_fail) e,
)

-- nothing was written
pub wrote_nothing : (out : Output) → out ≡ with_written [] out
wrote_nothing out = λ i. record out { written = adds_nothing out.written i }

-- a fault of the sink counts from an earlier moment too, where its count has not changed in between
sink_failed_from : (x y z : Output) → y.faults ≡ x.faults → y.may_fail ≡ x.may_fail → SinkFailed y z → SinkFailed x z
sink_failed_from x y z same may failed = record { may = sym may ∙ failed.may; faults = then_rose x.faults y.faults z.faults (omega (arith, same)) failed.faults }

-- a text was written, and then this was said of another
pub says_then : {T : Type 0} (a b : List ℕ) (x y z : Output) (r : Result T IoFault) → y ≡ with_written a x → Says b y z r → Says (a ++ b) x z r
says_then a b x y z r wrote said = go r said
  where
    add : Adds a x.written y.written
    add = ap (λ (o : Output). o.written) wrote

    same : y.faults ≡ x.faults
    same = ap (λ (o : Output). o.faults) wrote

    may : y.may_fail ≡ x.may_fail
    may = ap (λ (o : Output). o.may_fail) wrote

    go : {T : Type 0} (r : Result T IoFault) → Says b y z r → Says (a ++ b) x z r
    go (Ok v) is = λ i. record {
      written = adds_both a b x.written y.written z.written add (ap (λ (o : Output). o.written) is) i;
      faults = (ap (λ (o : Output). o.faults) is ∙ same) i;
      may_fail = (ap (λ (o : Output). o.may_fail) is ∙ may) i;
    }
    go (Err faults.Failed) (failed, part, stays) = (sink_failed_from x y z same may failed, adds_then_part a b x.written y.written z.written add part, stays ∙ may)
    go (Err faults.OutOfMemory) (quiet, part, stays) = (quiet ∙ same, adds_then_part a b x.written y.written z.written add part, stays ∙ may)

-- where the writing of a text stopped, that of a longer one did
pub says_stopped : {S : Type 0} (T : Type 0) (a b : List ℕ) (x y : Output) (r : Result S IoFault) (fault : IoFault) → r ≡ Err fault → Says {T = T} a x y (Err fault) → Says (a ++ b) x y r
says_stopped {S} T a b x y r fault e said = subst (λ z. Says {T = S} (a ++ b) x y z) (sym e) (go fault said)
  where
    go : (f : IoFault) → Says {T = T} a x y (Err f) → Says {T = S} (a ++ b) x y (Err f)
    go faults.Failed (failed, part, stays) = (failed, part_of_more a b x.written y.written part, stays)
    go faults.OutOfMemory (quiet, part, stays) = (quiet, part_of_more a b x.written y.written part, stays)

-- no memory was left after a text
pub says_no_memory : {S : Type 0} (a b : List ℕ) (x y : Output) (r : Result S IoFault) (fault : IoFault) → r ≡ Err fault → fault ≡ faults.OutOfMemory → y ≡ with_written a x → Says (a ++ b) x y r
says_no_memory {S} a b x y r fault e q wrote = subst (λ z. Says {T = S} (a ++ b) x y z) (sym (e ∙ ap Err q)) (
  ap (λ (o : Output). o.faults) wrote,
  record { part = a; rest = b; whole = refl; adds = ap (λ (o : Output). o.written) wrote },
  ap (λ (o : Output). o.may_fail) wrote,
)

-- ---- the lines of a list

-- a line more
pub lines_more : {X : Type 0} (f : X → List ℕ) (xs : List X) (i : ℕ) (d : X) → i < length xs → flat_map f (take i xs) ++ f (get_or xs i d) ≡ flat_map f (take (i + 1) xs)
lines_more f xs i d h = sym (ap (flat_map f) (take_more xs i d h) ∙ flat_map-append f (take i xs) (get_or xs i d ∷ []) ∙ ap (λ t. flat_map f (take i xs) ++ t) (append-nil (f (get_or xs i d))))

-- the first few, and the others
pub lines_rest : {X : Type 0} (f : X → List ℕ) (xs : List X) (i : ℕ) → flat_map f (take i xs) ++ flat_map f (drop i xs) ≡ flat_map f xs
lines_rest f xs i = sym (flat_map-append f (take i xs) (drop i xs)) ∙ ap (flat_map f) (take-append-drop i xs)
