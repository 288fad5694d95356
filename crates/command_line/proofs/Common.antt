-- The names that several proofs of this crate cite, passed on from one place. Declares nothing.
pub use Rattle.std.proofs.lemmas.Result.{IfOk-weaker}
pub use Rattle.std.specs.Prelude.{IsSome, encode_utf8, find, fold, if◌then◌else◌, nat_lt, not, option_and_then}
pub use Rattle.std.specs.Prelude.{option_map, slice_get, ◌&&◌, ◌||◌}
pub use Rattle.std.specs.Str.Parse.{ExplainsUnsignedError, HasUnsignedDigitsIfOk, ParsesUnsigned}
pub use Rattle.clap.proofs.CallerReads.{signed_reads}
pub use Rattle.clap.proofs.WalkLemmas.{first_value-rows, one_text-rows}
pub use Rattle.clap.specs.Lexer.{long_of, short_of, without_minus}
pub use Rattle.clap.specs.Matches.{found_of}
pub use Rattle.clap.specs.Simple.{App, Shape, app_of, app_of_fields, built, built_leaf, entered, filled, inherited}
pub use Rattle.clap.specs.Simple.{label_of, names_of, on_top, rows_at, subcommand_of, with_index, with_subcommand}
