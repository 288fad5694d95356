-- What the matches of a command have: the values of its options and files.
use Rattle.std.specs.Prelude.{◌≡◌, IsSome, List, ℕ, ℤ, pos, Option, Some, codes}
use Rattle.std.specs.Str.Parse.{digits_value, without_leading_plus}
use Rattle.clap.specs.Lexer.{without_minus}
use Rattle.clap.specs.Values.{IsSignedIn}
use Rattle.clap.specs.Walk.{Row, Text, first_of, one_of}
use Rattle.isad_core.specs.Days.{day_of}
use Rattle.isad_core.specs.Limits.{most_connections}

-- the value of an option in the matches
abbrev pub IsValue : List Row → Text → Text → Type 0
IsValue rows name text = first_of name rows ≡ Some text

-- the same for a number: the value of its digits
abbrev pub IsOptionNumber : List Row → Text → ℕ → Type 0
IsOptionNumber rows name n =
    (text : Text) × (one_of name rows ≡ Some text) × (digits_value 10 (without_leading_plus text) ≡ n)

-- the same for a day; there is none if the text is not a day from 1900-01-01 to 9999-12-31, as YYYY-MM-DD
abbrev pub IsDay : List Row → Text → Option ℤ → Type 0
IsDay rows name day = (text : Text) × IsValue rows name text × (day_of text ≡ day)

-- ---- what a command that was taken has

-- the option is there
abbrev pub HasText : List Row → Text → Type 0
HasText rows name = IsSome (first_of name rows)

-- the option is there, with a number within limits
abbrev pub HasNumberWithin : ℕ → ℕ → List Row → Text → Type 0
HasNumberWithin least most rows name =
    (text : Text) × (one_of name rows ≡ Some (without_minus text)) × IsSignedIn (pos least) (pos most) text

-- the same for a number from 0 to 4294967295
abbrev pub HasNumber : List Row → Text → Type 0
HasNumber = HasNumberWithin 0 4294967295

-- all of the settings are there
pub record HasSettings (rows : List Row) : Type 0 where
  pub country : HasText rows (codes "country")
  pub repo : HasText rows (codes "repo")
  pub seats : HasNumber rows (codes "seats")
  pub daily : HasNumber rows (codes "daily")
  pub hands : HasNumber rows (codes "hands")
  pub run_size : HasNumber rows (codes "run")
  pub day : HasText rows (codes "day")

-- what an import needs is there
pub record HasImport (rows : List Row) : Type 0 where
  pub store : HasText rows (codes "store")
  pub source : HasText rows (codes "source")
  pub file : HasText rows (codes "FILE")

-- what a server needs is there
pub record HasServer (rows : List Row) : Type 0 where
  pub store : HasText rows (codes "store")
  pub port : HasNumberWithin 1 65535 rows (codes "port")
  pub connections : HasNumberWithin 1 most_connections rows (codes "connections")

-- what the named command needs is there
pub data HasNeeds (name : Text) (rows : List Row) : Type 0 where
  Previews : (is : name ≡ codes "preview") → HasText rows (codes "country") → HasText rows (codes "repo")
      → HasNeeds name rows
  Begins : (is : name ≡ codes "init") → HasText rows (codes "store") → HasSettings rows → HasNeeds name rows
  Tries : (is : name ≡ codes "trial") → HasSettings rows → HasNeeds name rows
  Imports : (is : name ≡ codes "import") → HasImport rows → HasNeeds name rows
  Talks : (is : name ≡ codes "talk") → HasText rows (codes "store") → HasNeeds name rows
  Serves : (is : name ≡ codes "serve") → HasServer rows → HasNeeds name rows
  Checks : (is : name ≡ codes "check") → HasText rows (codes "store") → HasNeeds name rows
  Migrates : (is : name ≡ codes "migrate") → HasText rows (codes "store") → HasNeeds name rows
