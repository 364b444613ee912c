-- How worlds are stored as data.
use Rattle.std.specs.Prelude.{List, refl}
use Rattle.std.specs.Coded.{Coded, code_by, coded×, coded_bool, coded_list, coded_option}
use Rattle.std.specs.FinMap as map
use Rattle.jam_journal.specs.ScopeCodes.{text_code, value_code, key_code, scopes_code}
use Rattle.jam_scope.specs.RuleCodes.{rule_code, actions_code, notes_code}
use Rattle.jam_scope.specs.Worlds.{World, Worlds}
use Rattle.jam_scope.specs.WorldParts.{Parts, world_of}

abbrev pub parts_code : Coded Parts
parts_code =
    coded× scopes_code (coded× (map.code key_code rule_code) (coded× (map.code key_code actions_code) (coded× (map.code key_code text_code)
    (coded× (map.code key_code value_code) (coded× text_code (coded× value_code (coded× coded_bool (coded_option notes_code))))))))

abbrev pub world_code : Coded World
world_code =
    code_by Parts parts_code
    (λ w. (w.scopes, (w.rules, (w.actions, (w.parents, (w.own, (w.place, (w.roots, (w.frozen, w.step)))))))))
    world_of (λ _. refl)

abbrev pub worlds_code : Coded Worlds
worlds_code =
    code_by (World × List World) (coded× world_code (coded_list world_code)) (λ ws. (ws.now, ws.marked)) (λ p. record { now = p.0; marked = p.1 }) (λ _. refl)
