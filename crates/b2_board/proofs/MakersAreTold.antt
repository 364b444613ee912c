-- The makers of files are gathered one by one, and told to the schedule.
use Rattle.std.proofs.Common.{◌≡◌, ◌↔◌, inl, inr, ℕ, ◌<◌, ◌+◌, List, [], ◌∷◌, ◌++◌, length, get_or, take, option_to_list, Option, Some, None, refl, sym, ap, subst, ◌∙◌}
use Rattle.std.specs.List.{Contains}
use Rattle.std.proofs.lemmas.List.{take_more}
use Rattle.std.proofs.lemmas.List.Elements.{Contains-append_left, Contains-append_right, Contains-append_cases, Contains-push_cases, Contains-push}
use Rattle.b2_runs.proofs.FirstElementOrLater.{Contains_here, Contains_nil, Contains_cases}
use Rattle.b2_facts.specs.declared.file_facts.FileFacts.{FileFacts}
use Rattle.b2_facts.specs.Facts.{Knowledge, file_at}
use Rattle.b2_facts.proofs.ListsAtPlaces.{some_is}
use Rattle.b2_board.specs.Works.{HasOutputOf}

-- ---- the files whose makers are asked for

pub output_wider : (f : Knowledge) (members most : List ℕ) (k : ℕ) → ((n : ℕ) → Contains members n → Contains most n) → HasOutputOf f members k → HasOutputOf f most k
output_wider f members most k wider is = record { number = is.number; among = wider is.number is.among; file = is.file; file_is = is.file_is; made = is.made }

pub none_of_none : (f : Knowledge) (k : ℕ) → HasOutputOf f [] k → ⊥
none_of_none f k is = Contains_nil is.number is.among

-- one more file
pub makers_more : (f : Knowledge) (numbers : List ℕ) (i : ℕ) (file : FileFacts) (old new : List ℕ) → i < length numbers → file_at f (get_or numbers i 0) ≡ Some file → new ≡ old ++ option_to_list file.maker
    → ((k : ℕ) → Contains old k ↔ HasOutputOf f (take i numbers) k) → (k : ℕ) → Contains new k ↔ HasOutputOf f (take (i + 1) numbers) k
makers_more f numbers i file old new h at is so_far k = subst (λ l. Contains l k ↔ HasOutputOf f (take (i + 1) numbers) k) (sym is) (there, back)
  where
    last : ℕ
    last = get_or numbers i 0

    whole : take (i + 1) numbers ≡ take i numbers ++ last ∷ []
    whole = take_more numbers i 0 h

    of_last : (m : Option ℕ) → file.maker ≡ m → Contains (option_to_list m) k → HasOutputOf f (take (i + 1) numbers) k
    of_last None e c = absurd (Contains_nil k c)
    of_last (Some n) e c = elim (Contains_cases n k [] c) [
      | inl same ↦ record { number = last; among = subst (λ l. Contains l last) (sym whole) (Contains-push (take i numbers) last); file = file; file_is = at; made = e ∙ ap Some same }
      | inr none ↦ absurd (Contains_nil k none)
    ]

    there : Contains (old ++ option_to_list file.maker) k → HasOutputOf f (take (i + 1) numbers) k
    there c = elim (Contains-append_cases old (option_to_list file.maker) k c) [
      | inl a ↦ output_wider f (take i numbers) (take (i + 1) numbers) k (λ n among. subst (λ l. Contains l n) (sym whole) (Contains-append_left (take i numbers) (last ∷ []) n among)) ((so_far k).0 a)
      | inr b ↦ of_last file.maker refl b
    ]

    here : (n : ℕ) (one : FileFacts) → file_at f n ≡ Some one → one.maker ≡ Some k → last ≡ n → Contains (option_to_list file.maker) k
    here n one at_n made same =
        let e : file ≡ one = some_is file one (sym at ∙ ap (file_at f) same ∙ at_n) in
        subst (λ m. Contains (option_to_list m) k) (sym (ap (λ (x : FileFacts). x.maker) e ∙ made)) (Contains_here k [])

    back : HasOutputOf f (take (i + 1) numbers) k → Contains (old ++ option_to_list file.maker) k
    back o = elim (Contains-push_cases (take i numbers) last o.number (subst (λ l. Contains l o.number) whole o.among)) [
      | inl a ↦ Contains-append_left old (option_to_list file.maker) k ((so_far k).1 (record { number = o.number; among = a; file = o.file; file_is = o.file_is; made = o.made }))
      | inr same ↦ Contains-append_right old (option_to_list file.maker) k (here o.number o.file o.file_is o.made same)
    ]
