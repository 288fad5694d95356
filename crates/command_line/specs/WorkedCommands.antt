-- Command lines that are taken and others that are not. Each was written by hand, from what the program prints as its usage.
use Rattle.std.specs.Prelude.{◌≡◌, ◌++◌, Bool, true, false, List, [], ◌∷◌, codes}
use Rattle.clap.specs.Takes.{takes}
use Rattle.clap.specs.Walk.{Text}
use Rattle.command_line.specs.CommandLine.{program}

abbrev pub Takes : List Text → Bool → Type 0
Takes words taken = takes program words ≡ taken

abbrev pub store : List Text
store = codes "--store" ∷ codes "a.db" ∷ []

abbrev pub place_words : List Text
place_words = codes "--country" ∷ codes "GB" ∷ codes "--repo" ∷ codes "0999" ∷ []

-- the number of seats, and the other limits of the reading room and the desk
abbrev pub room_words : Text → List Text
room_words seats = codes "--seats" ∷ seats ∷ codes "--daily" ∷ codes "3" ∷ codes "--hands" ∷ codes "2" ∷ codes "--run" ∷ codes "8" ∷ []

abbrev pub day : List Text
day = codes "--day" ∷ codes "2024-03-01" ∷ []

abbrev pub preview : List Text → List Text
preview more = codes "preview" ∷ more

abbrev pub trial : Text → List Text
trial seats = codes "trial" ∷ place_words ++ room_words seats ++ day

abbrev pub serve : (port connections : Text) → List Text
serve port connections = codes "serve" ∷ store ++ codes "--port" ∷ port ∷ codes "--connections" ∷ connections ∷ []

-- `trial` with these words in place of the four numbers
abbrev pub with_number_words : List Text → List Text
with_number_words words = codes "trial" ∷ place_words ++ words ++ day

pub record Previews : Type 0 where
  pub of_file : Takes (preview (place_words ++ codes "a.csv" ∷ [])) true
  pub of_input : Takes (preview place_words) true
  pub two_files : Takes (preview (place_words ++ codes "a.csv" ∷ codes "b.csv" ∷ [])) false
  pub no_country : Takes (preview (codes "--repo" ∷ codes "0999" ∷ [])) false
  pub no_repo : Takes (preview (codes "--country" ∷ codes "GB" ∷ [])) false
  pub no_code : Takes (preview (codes "--country" ∷ codes "GB" ∷ codes "--repo" ∷ [])) false
  pub with_store : Takes (preview (place_words ++ store)) false

pub record Offices : Type 0 where
  pub begun : Takes (codes "init" ∷ store ++ place_words ++ room_words (codes "10") ++ day) true
  pub begun_nowhere : Takes (codes "init" ∷ place_words ++ room_words (codes "10") ++ day) false
  pub tried : Takes (trial (codes "10")) true
  pub tried_in_store : Takes (trial (codes "10") ++ store) false
  pub most_seats : Takes (trial (codes "4294967295")) true
  pub more_seats : Takes (trial (codes "4294967296")) false
  pub no_seats : Takes (trial (codes "0")) true
  pub fewer_seats : Takes (trial (codes "-1")) false
  pub ten_seats : Takes (trial (codes "ten")) false
  pub without_seats : Takes (with_number_words (codes "--daily" ∷ codes "3" ∷ codes "--hands" ∷ codes "2" ∷ codes "--run" ∷ codes "8" ∷ [])) false
  pub without_daily : Takes (with_number_words (codes "--seats" ∷ codes "9" ∷ codes "--hands" ∷ codes "2" ∷ codes "--run" ∷ codes "8" ∷ [])) false
  pub without_hands : Takes (with_number_words (codes "--seats" ∷ codes "9" ∷ codes "--daily" ∷ codes "3" ∷ codes "--run" ∷ codes "8" ∷ [])) false
  pub without_run : Takes (with_number_words (codes "--seats" ∷ codes "9" ∷ codes "--daily" ∷ codes "3" ∷ codes "--hands" ∷ codes "2" ∷ [])) false
  pub without_day : Takes (codes "trial" ∷ place_words ++ room_words (codes "10")) false

pub record Work : Type 0 where
  pub imported : Takes (codes "import" ∷ store ++ codes "--source" ∷ codes "dock" ∷ codes "a.csv" ∷ []) true
  pub of_no_source : Takes (codes "import" ∷ store ++ codes "a.csv" ∷ []) false
  pub no_file : Takes (codes "import" ∷ store ++ codes "--source" ∷ codes "dock" ∷ []) false
  pub to_no_store : Takes (codes "import" ∷ codes "--source" ∷ codes "dock" ∷ codes "a.csv" ∷ []) false
  pub talked : Takes (codes "talk" ∷ store) true
  pub talked_to_none : Takes (codes "talk" ∷ []) false
  pub checked : Takes (codes "check" ∷ store) true
  pub migrated : Takes (codes "migrate" ∷ store) true
  pub served : Takes (serve (codes "1") (codes "1")) true
  pub most_served : Takes (serve (codes "65535") (codes "10000")) true
  pub port_zero : Takes (serve (codes "0") (codes "1")) false
  pub port_too_high : Takes (serve (codes "65536") (codes "1")) false
  pub no_connection : Takes (serve (codes "80") (codes "0")) false
  pub too_many_connections : Takes (serve (codes "80") (codes "10001")) false
  pub without_port : Takes (codes "serve" ∷ store ++ codes "--connections" ∷ codes "1" ∷ []) false
  pub without_connections : Takes (codes "serve" ∷ store ++ codes "--port" ∷ codes "80" ∷ []) false

pub record Others : Type 0 where
  pub nothing : Takes [] false
  pub help_command : Takes (codes "help" ∷ []) false
  pub help_option : Takes (codes "--help" ∷ []) false
  pub unknown : Takes (codes "export" ∷ store) false
  pub capital : Takes (codes "Talk" ∷ store) false
  pub own_name : Takes (codes "record_office" ∷ codes "talk" ∷ store) false
