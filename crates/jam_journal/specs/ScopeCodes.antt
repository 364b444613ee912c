-- How scopes are stored as data.
use Rattle.std.specs.Prelude.{List, Option, refl}
use Rattle.std.specs.Coded.{Coded, code_by, coded×, coded_ℕ, coded_list, coded_option}
use Rattle.std.specs.FinMap as map
use Rattle.jam_journal.specs.Tables.{Text, Key, Table}
use Rattle.jam_journal.specs.Scopes.{Value, Binding, Frame, Scopes}

abbrev pub text_code : Coded Text
text_code = coded_list coded_ℕ

abbrev pub value_code : Coded Value
value_code = coded_list text_code

abbrev pub key_code : Coded Key
key_code = coded× text_code text_code

-- maps from pairs of texts
abbrev pub table_code : {X : Type 0} → Coded X → Coded (Table X)
table_code code = map.code key_code code

abbrev pub frame_code : Coded Frame
frame_code =
    code_by (Text × (Option Text × List Binding)) (coded× text_code (coded× (coded_option text_code) (coded_list (coded× text_code value_code))))
    (λ f. (f.owner, (f.caller, f.bindings))) (λ p. record { owner = p.0; caller = p.1.0; bindings = p.1.1 }) (λ _. refl)

abbrev pub scopes_code : Coded Scopes
scopes_code =
    code_by (List Frame × Table Value) (coded× (coded_list frame_code) (table_code value_code))
    (λ s. (s.frames, s.variables)) (λ p. record { frames = p.0; variables = p.1 }) (λ _. refl)
