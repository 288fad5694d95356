-- The rows of the places that can be read, whether an office can have them, and what they represent.
use Rattle.std.specs.Prelude.{◌≡◌, ℕ, Bool, false, ◌||◌, not, List, length}
use Rattle.std.specs.List.{AllByRecursion}
use Rattle.sqlite.specs.Order.{Row, column}
use Rattle.sqlite.specs.Tree.{Trees, IsTable}
use Rattle.sqlite.specs.declared.types.Value.TheVariants.{Null}
use Rattle.tree_core.specs.Forest.{Forest}
use Rattle.tree_core.specs.Encodings.{TreeEncoding}
use Rattle.catalogue_core.specs.CatalogueCauses.{are_good_places}
use Rattle.catalogue_core.specs.CatalogueRows.{places_said}
use Rattle.office_tables.specs.Schema as tables
use Rattle.row_decoding.specs.TableRows.{places_in, places_are_unread}

-- some row cannot be read, or no office can have those that can be read
abbrev pub places_are_defective : TreeEncoding → Trees → Bool
places_are_defective way db = places_are_unread way db || not (are_good_places way (places_in way db))

-- ---- what rows that are not defective represent

-- The rows are sorted by their numbers, and each has its four cells, with null in the column that repeats its number.
pub record AreWholePlaces (rows : List Row) : Type 0 where
  pub rise : IsTable rows
  pub cells : AllByRecursion (λ (row : Row). length row ≡ 4) rows
  pub keys : AllByRecursion (λ (row : Row). column row 1 ≡ Null) rows

-- whole rows that an office can have represent the forest that they describe
abbrev pub RepresentsWhatItDescribes : (Trees → Forest ℕ → Type 0) → TreeEncoding → Trees → Type 0
RepresentsWhatItDescribes represents way db =
    AreWholePlaces (db tables.link.tree) → places_are_defective way db ≡ false → represents db (places_said (places_in way db))
