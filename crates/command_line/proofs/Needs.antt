-- What each command of the program needs is there, where the words have no fault.
use Rattle.std.proofs.Common.{◌≡◌, ℕ, List, [], Option, Some, None, true, false, codes, refl, subst, sym, arith, rules}
use Rattle.clap.proofs.ValueTestLemmas.{accepts-Accepts}
use Rattle.clap.specs.Faults.{entered_fault, fault_of, level_fault, walk_fault}
use Rattle.clap.specs.Walk.{Row, Rule, Text, arg_by_id, nothing_held, stop_after, walk_from}
use Rattle.command_line.specs.CommandLine.{check_command, import_command, init_command, migrate_command, number_from_to}
use Rattle.command_line.specs.CommandLine.{preview_command, program, serve_command, store_option, talk_command}
use Rattle.command_line.specs.CommandLine.{trial_command, wanted_option, wanted_file, wanted_within}
use Rattle.command_line.specs.OptionValues.{HasNeeds, HasNumberWithin, HasSettings, HasText, Previews, Begins, Tries}
use Rattle.command_line.specs.OptionValues.{Imports, Talks, Serves, Checks, Migrates}
use Rattle.command_line.proofs.Common.{IsSome, Shape, built, built_leaf, filled, inherited, names_of, option_map}
use Rattle.command_line.proofs.Common.{subcommand_of, with_index}
use Rattle.command_line.proofs.Rows.{ArePlain, TextOf, entered_level, first_none, has_text, level_rows, second_none}
use Rattle.command_line.proofs.Rows.{asking, text_rule}

-- a command as it is built into the program
abbrev made : Shape → Shape
made s = built_leaf (inherited program.top s)

there : (a : Rule) (rows : List Row) → TextOf a rows → HasText rows a.id
there a rows t = subst IsSome (sym t.first) (search rules)

preview_plain : ArePlain (made preview_command).rules
preview_plain = (text_rule refl refl (omega arith) refl, (text_rule refl refl (omega arith) refl, (text_rule refl refl (omega arith) refl, (asking refl refl refl, tt))))

init_plain : ArePlain (made init_command).rules
init_plain = (text_rule refl refl (omega arith) refl, (text_rule refl refl (omega arith) refl, (text_rule refl refl (omega arith) refl, (text_rule refl refl (omega arith) refl, (text_rule refl refl (omega arith) refl, (text_rule refl refl (omega arith) refl, (text_rule refl refl (omega arith) refl, (text_rule refl refl (omega arith) refl, (asking refl refl refl, tt)))))))))

trial_plain : ArePlain (made trial_command).rules
trial_plain = (text_rule refl refl (omega arith) refl, (text_rule refl refl (omega arith) refl, (text_rule refl refl (omega arith) refl, (text_rule refl refl (omega arith) refl, (text_rule refl refl (omega arith) refl, (text_rule refl refl (omega arith) refl, (text_rule refl refl (omega arith) refl, (asking refl refl refl, tt))))))))

import_plain : ArePlain (made import_command).rules
import_plain = (text_rule refl refl (omega arith) refl, (text_rule refl refl (omega arith) refl, (text_rule refl refl (omega arith) refl, (asking refl refl refl, tt))))

talk_plain : ArePlain (made talk_command).rules
talk_plain = (text_rule refl refl (omega arith) refl, (asking refl refl refl, tt))

serve_plain : ArePlain (made serve_command).rules
serve_plain = (text_rule refl refl (omega arith) refl, (text_rule refl refl (omega arith) refl, (text_rule refl refl (omega arith) refl, (asking refl refl refl, tt))))

check_plain : ArePlain (made check_command).rules
check_plain = (text_rule refl refl (omega arith) refl, (asking refl refl refl, tt))

migrate_plain : ArePlain (made migrate_command).rules
migrate_plain = (text_rule refl refl (omega arith) refl, (asking refl refl refl, tt))

-- the text of a wanted argument of a command
wanted_there : (s : Shape) (words : List Text) (a : Rule) → ArePlain s.rules → s.subcommand_negates_reqs ≡ false
    → level_fault s [] nothing_held words false [] ≡ [] → arg_by_id s.rules a.id ≡ Some a → a.required ≡ true
    → HasText (level_rows s words) a.id
wanted_there s words a good negates none own required = there a _ (has_text s words a good negates none own required)

-- the number of a wanted option of a command
number_there : (s : Shape) (words : List Text) (name : Text) (least most : ℕ) → ArePlain s.rules
    → s.subcommand_negates_reqs ≡ false → level_fault s [] nothing_held words false [] ≡ []
    → arg_by_id s.rules name ≡ Some (filled (wanted_within name least most))
    → HasNumberWithin least most (level_rows s words) name
number_there s words name least most good negates none own =
    let t = has_text s words (filled (wanted_within name least most)) good negates none own refl in
    (t.text, t.one, accepts-Accepts false (number_from_to least most) t.text t.passes)

init_settings : (ws : List Text) → level_fault (made init_command) [] nothing_held ws false [] ≡ []
    → HasSettings (level_rows (made init_command) ws)
init_settings ws e = record {
  country = wanted_there (made init_command) ws (filled (wanted_option (codes "country"))) init_plain refl e refl refl;
  repo = wanted_there (made init_command) ws (filled (wanted_option (codes "repo"))) init_plain refl e refl refl;
  seats = number_there (made init_command) ws (codes "seats") 0 4294967295 init_plain refl e refl;
  daily = number_there (made init_command) ws (codes "daily") 0 4294967295 init_plain refl e refl;
  hands = number_there (made init_command) ws (codes "hands") 0 4294967295 init_plain refl e refl;
  run_size = number_there (made init_command) ws (codes "run") 0 4294967295 init_plain refl e refl;
  day = wanted_there (made init_command) ws (filled (wanted_option (codes "day"))) init_plain refl e refl refl;
}

trial_settings : (ws : List Text) → level_fault (made trial_command) [] nothing_held ws false [] ≡ []
    → HasSettings (level_rows (made trial_command) ws)
trial_settings ws e = record {
  country = wanted_there (made trial_command) ws (filled (wanted_option (codes "country"))) trial_plain refl e refl refl;
  repo = wanted_there (made trial_command) ws (filled (wanted_option (codes "repo"))) trial_plain refl e refl refl;
  seats = number_there (made trial_command) ws (codes "seats") 0 4294967295 trial_plain refl e refl;
  daily = number_there (made trial_command) ws (codes "daily") 0 4294967295 trial_plain refl e refl;
  hands = number_there (made trial_command) ws (codes "hands") 0 4294967295 trial_plain refl e refl;
  run_size = number_there (made trial_command) ws (codes "run") 0 4294967295 trial_plain refl e refl;
  day = wanted_there (made trial_command) ws (filled (wanted_option (codes "day"))) trial_plain refl e refl refl;
}

preview_needs : (ws : List Text) → level_fault (made preview_command) [] nothing_held ws false [] ≡ []
    → HasNeeds (codes "preview") (level_rows (made preview_command) ws)
preview_needs ws e = Previews refl (wanted_there (made preview_command) ws (filled (wanted_option (codes "country"))) preview_plain refl e refl refl) (wanted_there (made preview_command) ws (filled (wanted_option (codes "repo"))) preview_plain refl e refl refl)

init_needs : (ws : List Text) → level_fault (made init_command) [] nothing_held ws false [] ≡ []
    → HasNeeds (codes "init") (level_rows (made init_command) ws)
init_needs ws e = Begins refl (wanted_there (made init_command) ws (filled store_option) init_plain refl e refl refl) (init_settings ws e)

trial_needs : (ws : List Text) → level_fault (made trial_command) [] nothing_held ws false [] ≡ []
    → HasNeeds (codes "trial") (level_rows (made trial_command) ws)
trial_needs ws e = Tries refl (trial_settings ws e)

import_needs : (ws : List Text) → level_fault (made import_command) [] nothing_held ws false [] ≡ []
    → HasNeeds (codes "import") (level_rows (made import_command) ws)
import_needs ws e = Imports refl (record {
  store = wanted_there (made import_command) ws (filled store_option) import_plain refl e refl refl;
  source = wanted_there (made import_command) ws (filled (wanted_option (codes "source"))) import_plain refl e refl refl;
  file = wanted_there (made import_command) ws (with_index 1 (filled wanted_file)) import_plain refl e refl refl;
})

talk_needs : (ws : List Text) → level_fault (made talk_command) [] nothing_held ws false [] ≡ []
    → HasNeeds (codes "talk") (level_rows (made talk_command) ws)
talk_needs ws e = Talks refl (wanted_there (made talk_command) ws (filled store_option) talk_plain refl e refl refl)

serve_needs : (ws : List Text) → level_fault (made serve_command) [] nothing_held ws false [] ≡ []
    → HasNeeds (codes "serve") (level_rows (made serve_command) ws)
serve_needs ws e = Serves refl (record {
  store = wanted_there (made serve_command) ws (filled store_option) serve_plain refl e refl refl;
  port = number_there (made serve_command) ws (codes "port") 1 65535 serve_plain refl e refl;
  connections = number_there (made serve_command) ws (codes "connections") 1 10000 serve_plain refl e refl;
})

check_needs : (ws : List Text) → level_fault (made check_command) [] nothing_held ws false [] ≡ []
    → HasNeeds (codes "check") (level_rows (made check_command) ws)
check_needs ws e = Checks refl (wanted_there (made check_command) ws (filled store_option) check_plain refl e refl refl)

migrate_needs : (ws : List Text) → level_fault (made migrate_command) [] nothing_held ws false [] ≡ []
    → HasNeeds (codes "migrate") (level_rows (made migrate_command) ws)
migrate_needs ws e = Migrates refl (wanted_there (made migrate_command) ws (filled store_option) migrate_plain refl e refl refl)

-- where the words have no fault, what the command that they name needs is there
pub needs : (words : List Text) (name : Text) (rows : List Row) → fault_of program words ≡ []
    → subcommand_of program words ≡ Some (name, rows) → HasNeeds name rows
needs words name rows none is =
    let stop = stop_after (built program).top.rules (names_of (built program)) words in
    let below : entered_fault (built program) stop ≡ [] =
    first_none _ _ (second_none (walk_fault (built program).top (names_of (built program)) (walk_from nothing_held) words) _ none) in
    entered_level HasNeeds (built program) stop (name, rows) is below
    (preview_needs, (init_needs, (trial_needs, (import_needs, (talk_needs, (serve_needs, (check_needs, (migrate_needs, tt))))))))

-- a value is there where what is read of it is
pub some_of : {X Y : Type 0} (f : X → Y) (o : Option X) (v : Option Y) → option_map f o ≡ v → IsSome v → IsSome o
some_of f (Some x) v e h = refl
some_of f None v e h = subst IsSome (sym e) h
