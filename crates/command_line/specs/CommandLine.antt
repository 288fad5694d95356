-- The command line as a `clap` command: which commands it has, with which options and files.
use Rattle.std.specs.Prelude.{List, [], ◌∷◌, ◌++◌, Some, ℕ, pos, true, codes}
use Rattle.clap.specs.Walk.{Rule, Text}
use Rattle.clap.specs.Simple.{App, Shape, new_rule, new_shape, with_subcommand}
use Rattle.clap.specs.declared.builder.value_parser.ValueParser.{ValueParser}
use Rattle.clap.specs.declared.builder.value_parser.ValueParser.TheVariants.{Signed}
use Rattle.isad_core.specs.Limits.{most_connections}

-- `--name <VALUE>`, which is required
abbrev pub wanted_option : Text → Rule
wanted_option name = record (new_rule name) { long = Some name; value_names = 1; required = true }

-- a number within limits
abbrev pub number_from_to : ℕ → ℕ → ValueParser
number_from_to least most = Signed (pos least) (pos most)

-- `--name <NUMBER>`, a number within limits, which is required
abbrev pub wanted_within : Text → ℕ → ℕ → Rule
wanted_within name least most = record (wanted_option name) { parser = Some (number_from_to least most) }

-- `--name <NUMBER>`, a number from 0 to 4294967295, which is required
abbrev pub wanted_number : Text → Rule
wanted_number name = wanted_within name 0 4294967295

-- a file, which is optional
abbrev pub optional_file : Rule
optional_file = new_rule (codes "FILE")

-- a file, which is required
abbrev pub wanted_file : Rule
wanted_file = record optional_file { required = true }

abbrev pub command : Text → List Rule → Shape
command name rules = record (new_shape name) { rules = rules }

-- the country and the repository of the office
abbrev pub repository_options : List Rule
repository_options = wanted_option (codes "country") ∷ wanted_option (codes "repo") ∷ []

-- the seats of the reading room, and how many orders a reader may place per day
abbrev pub room_options : List Rule
room_options = wanted_number (codes "seats") ∷ wanted_number (codes "daily") ∷ []

-- how many containers a reader may have, and how many a run may fetch
abbrev pub desk_options : List Rule
desk_options = wanted_number (codes "hands") ∷ wanted_number (codes "run") ∷ []

-- a command with more options, one after another
abbrev pub with_rules : List Rule → Shape → Shape
with_rules [] s = s
with_rules (rule ∷ rules) s = with_rules rules (record s { rules = s.rules ++ rule ∷ [] })

-- the settings of an office, and the day on which it opens
abbrev pub settings_options : List Rule
settings_options = repository_options ++ room_options ++ desk_options ++ wanted_option (codes "day") ∷ []

-- the office's store
abbrev pub store_option : Rule
store_option = wanted_option (codes "store")

-- `preview --country C --repo R [FILE]`
abbrev pub preview_command : Shape
preview_command = command (codes "preview") (repository_options ++ optional_file ∷ [])

-- `init --store F` and settings
abbrev pub init_command : Shape
init_command = command (codes "init") (store_option ∷ settings_options)

-- `trial` and settings
abbrev pub trial_command : Shape
trial_command = command (codes "trial") settings_options

-- `import --store F --source S FILE`
abbrev pub import_command : Shape
import_command = command (codes "import") (store_option ∷ wanted_option (codes "source") ∷ wanted_file ∷ [])

-- a command with `--store F` alone
abbrev pub store_command : Text → Shape
store_command name = command name (store_option ∷ [])

-- `talk --store F`
abbrev pub talk_command : Shape
talk_command = store_command (codes "talk")

-- `serve --store F --port P --connections N`
abbrev pub serve_command : Shape
serve_command =
    command (codes "serve")
    (store_option ∷ wanted_within (codes "port") 1 65535 ∷ wanted_within (codes "connections") 1 most_connections ∷ [])

-- `check --store F`
abbrev pub check_command : Shape
check_command = store_command (codes "check")

-- `migrate --store F`
abbrev pub migrate_command : Shape
migrate_command = store_command (codes "migrate")

-- the commands that need no store, and the one that makes it
abbrev pub new_commands : List Shape
new_commands = preview_command ∷ init_command ∷ trial_command ∷ []

-- the commands that work on an office in a file
abbrev pub work_commands : List Shape
work_commands = import_command ∷ talk_command ∷ serve_command ∷ []

-- the commands that look after an office's file
abbrev pub care_commands : List Shape
care_commands = check_command ∷ migrate_command ∷ []

-- a program with more commands, one after another
abbrev pub with_commands : List Shape → App → App
with_commands [] a = a
with_commands (s ∷ more) a = with_commands more (with_subcommand a s)

-- a command is required, `help` is not a command, and the words are those after the program's name
abbrev pub bare_program : App
bare_program = record {
  top = record (new_shape (codes "record_office")) {
    no_binary_name = true;
    subcommand_required = true;
    disable_help_subcommand = true;
  };
  subs = [];
}

abbrev pub program : App
program = with_commands (new_commands ++ work_commands ++ care_commands) bare_program
