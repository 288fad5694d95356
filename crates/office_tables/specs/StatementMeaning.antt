-- What one of our texts means.
use Rattle.std.specs.Prelude.{◌≡◌, ℕ, false, List, length}
use Rattle.sqlite.specs.Command.{Command}
use Rattle.sqlite.specs.Given.{IsPlain}
use Rattle.sqlite.specs.Listing.{understood, reads_listing}
use Rattle.office_tables.specs.Schema.{Version, schema}
use Rattle.office_tables.specs.Text.{command_of, IsWhole}

-- With the tables of this version the text is this command: one whole statement with this many parameters. It reads our
-- tables only, does not show what it changes, and does not read the clock.
pub record Means (v : Version) (sql : List ℕ) (count : ℕ) (command : Command) : Type 0 where
  pub is : command_of (understood (schema v) sql) ≡ command
  pub plain : IsPlain (understood (schema v) sql)
  pub whole : IsWhole (length sql) count (understood (schema v) sql)
  pub unlisted : reads_listing (schema v) sql ≡ false
