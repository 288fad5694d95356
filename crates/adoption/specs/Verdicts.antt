-- What tables of any origin are, judged as those of an office of one version. The verdict is the first that holds: no
-- office, another version, other tables, or the least cause that holds for the rows.
use Rattle.std.specs.Prelude.{◌≡◌, ◌≢◌, ◌<◌, ℕ, ◌&&◌, cond, nat_le, nat_lt, Option, Some, None}
use Rattle.sqlite.specs.Effect.{Database}
use Rattle.office_tables.specs.Versions.{newest, Version, version_number}
use Rattle.state_encoding.specs.CellCauses.{cell_cause}
use Rattle.office_tables.specs.Schema.{schema}
use Rattle.adoption.specs.OrderedTables.{StandInOrder}
use Rattle.adoption.specs.Versions.{LacksOfficeRow, IsToldVersion, TellsNoOther}
use Rattle.adoption.specs.declared.verdict.Verdict.{Verdict}
use Rattle.adoption.specs.declared.verdict.Verdict.TheVariants as verdict

-- the tables are this product's, of this version, as far as their definitions go
pub record AreOurs (version : Version) (db : Database) : Type 0 where
  pub version_is : TellsNoOther version db
  pub schema_is : db.schema ≡ schema version

pub record AreOthers (version : Version) (db : Database) : Type 0 where
  pub version_is : TellsNoOther version db
  pub schema_is_not : db.schema ≢ schema version

abbrev pub IsVerdict : Version → Database → Verdict → Type 0
IsVerdict version db verdict.NoOffice = LacksOfficeRow db
IsVerdict version db verdict.OldVersion = (older : Version) × (version_number older < version_number version) × IsToldVersion older db
IsVerdict version db verdict.NewVersion = (newer : Version) × (version_number version < version_number newer) × IsToldVersion newer db
IsVerdict version db verdict.OtherTables = AreOthers version db
IsVerdict version db (verdict.Unsound cause) = AreOurs version db × (StandInOrder db → cell_cause version db.trees ≡ Some cause)
IsVerdict version db verdict.Sound = AreOurs version db × (StandInOrder db → cell_cause version db.trees ≡ None)

-- ---- by the version alone

-- the verdict on tables that were expected to have the version with the first number, and have the second
abbrev pub verdict_of_version : ℕ → Option ℕ → Option Verdict
verdict_of_version own None = None
verdict_of_version own (Some told) =
    cond (nat_le 1 told && nat_lt told own) (Some verdict.OldVersion)
    (cond (nat_lt own told && nat_le told (version_number newest)) (Some verdict.NewVersion) None)

abbrev pub IsVersionVerdict : Version → Database → Option Verdict → Type 0
IsVersionVerdict version db None = TellsNoOther version db
IsVersionVerdict version db (Some told) = IsVerdict version db told
