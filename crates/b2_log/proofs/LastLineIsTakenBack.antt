-- The last line of a log is taken back: the places are again those of the lines before it.
use Rattle.std.proofs.Common.{◌≡◌, ◌≢◌, ℕ, ◌-◌, Bool, true, false, cond, List, [], ◌∷◌, ◌++◌, length, take, reverse, Option, Some, None, sym, ap, subst, ◌∙◌, inl, inr, arith}
use Rattle.std.specs.List.{AllByRecursion}
use Rattle.std.proofs.lemmas.Bool.{cases_Bool}
use Rattle.std.proofs.lemmas.Grind.{common_steps}
use Rattle.b2_log.specs.declared.line.LogLine.{LogLine}
use Rattle.b2_log.specs.declared.subject.Subject.{Subject}
use Rattle.b2_log.specs.declared.log.Undo.{Undo}
use Rattle.b2_log.specs.Good.{IsProper}
use Rattle.b2_log.specs.Finding.{subject_of, subject_eq}
use Rattle.b2_log.specs.Places.{place_of, IsIndexed, IsLog, TakesBack}
use Rattle.b2_log.proofs.LastLineHasLastWord.{subject_is, subject_self}
use Rattle.b2_log.proofs.PlacesFindTheLastLines.{reverse_push}

-- the place of a subject, by whether the last line is about it
place_with_last : (before after : List LogLine) (line : LogLine) (subject : Subject) → after ≡ before ++ line ∷ [] → place_of subject (reverse after) ≡ cond (subject_eq (subject_of line) subject) (Some (length (reverse before))) (place_of subject (reverse before))
place_with_last before after line subject split = ap (place_of subject) (ap reverse split ∙ reverse_push before line)

-- the subject of the last line has a place
pub has_place : (undo : Undo) (before after : List LogLine) (places : Subject → Option ℕ) → IsIndexed after places → TakesBack undo before after → places undo.subject ≢ None
has_place undo before after places indexed takes none =
    let about : subject_eq (subject_of takes.line) undo.subject ≡ true = ap (λ (s : Subject). subject_eq s undo.subject) (sym takes.subject) ∙ subject_self undo.subject in
    some_none (length (reverse before)) (ap (λ (b : Bool). cond b (Some (length (reverse before))) (place_of undo.subject (reverse before))) (sym about) ∙ sym (place_with_last before after takes.line undo.subject takes.split) ∙ sym (indexed.place undo.subject) ∙ none)
  where
    some_none : (n : ℕ) → Some n ≡ None → ⊥
    some_none n e = cc

front_is : (before after front : List LogLine) (line : LogLine) (n : ℕ) → after ≡ before ++ line ∷ [] → n ≡ length after → front ≡ take (n - 1) after → front ≡ before
front_is before after front line n split count is = grind (arith, common_steps)

all_front : (P : LogLine → Type 0) (before : List LogLine) (line : LogLine) → AllByRecursion P (before ++ line ∷ []) → AllByRecursion P before
all_front P [] line each = tt
all_front P (x ∷ xs) line each = (each.0, all_front P xs line each.1)

pub taken_back : (undo : Undo) (before after front : List LogLine) (n count : ℕ) (old new : Subject → Option ℕ) → IsLog after old count → TakesBack undo before after → n ≡ length after → front ≡ take (n - 1) after
    → ((other : Subject) → new other ≡ cond (subject_eq undo.subject other) undo.before (old other)) → IsLog front new undo.kept_count
taken_back undo before after front n count old new is_log takes size is changed = subst (λ (ls : List LogLine). IsLog ls new undo.kept_count) (sym (front_is before after front takes.line n takes.split size is)) (record {
  index = record {
    place = λ other. changed other ∙ elim (cases_Bool (subject_eq undo.subject other)) [
      | inl same ↦ ap (λ (b : Bool). cond b undo.before (old other)) same ∙ takes.place ∙ ap (λ (s : Subject). place_of s (reverse before)) (subject_is undo.subject other same)
      | inr apart ↦
          let differ : subject_eq (subject_of takes.line) other ≡ false = ap (λ (s : Subject). subject_eq s other) (sym takes.subject) ∙ apart in
          ap (λ (b : Bool). cond b undo.before (old other)) apart ∙ is_log.index.place other ∙ place_with_last before after takes.line other takes.split ∙ ap (λ (b : Bool). cond b (Some (length (reverse before))) (place_of other (reverse before))) differ
    ];
    proper = all_front IsProper before takes.line (subst (AllByRecursion IsProper) takes.split is_log.index.proper);
  };
  count = takes.kept;
})
