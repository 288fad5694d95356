-- Which units the public is shown, and their head lines, as computed from heads.
use Rattle.std.specs.Prelude.{ℕ, ℤ, int_lt, Bool, false, not, ◌&&◌, ◌++◌, cond, List, [], ◌∷◌, map, filter, Option}
use Rattle.std.specs.Prelude.{Some, None}
use Rattle.std.specs.List.{list_all}
use Rattle.isad_core.specs.Texts.{Bytes}
use Rattle.isad_core.specs.Codes.{code_of}
use Rattle.isad_core.specs.declared.display.Body.{Body}
use Rattle.isad_core.specs.declared.display.Body.TheVariants.{Full, Closed}
use Rattle.isad_core.specs.declared.display.Shown.{Shown}
use Rattle.catalogue_core.specs.Aids.{Repository}
use Rattle.catalogue_core.specs.Units.{Unit}
use Rattle.visibility.specs.Marks.{is_later}
use Rattle.catalogue_statements.specs.declared.office.OfficeRow.{OfficeRow}
use Rattle.catalogue_store.specs.Heads.{head_of}
use Rattle.catalogue_store.specs.declared.heads.Head.{Head}

-- whose archives these are, by the office's own row
abbrev pub repository_of : OfficeRow → Repository
repository_of row = record { country = row.country; repo = row.repo }

-- ---- whether the last unit of a path is shown

-- the unit is not a draft, and not closed on that day
abbrev pub is_open_on : ℤ → Head → Bool
is_open_on day head = not head.draft && not (is_later day head.until)

-- no unit on the path is a draft, and none above the last is closed
abbrev pub shows_last : ℤ → List Head → Bool
shows_last day [] = false
shows_last day (head ∷ []) = not head.draft
shows_last day (head ∷ next ∷ way) = is_open_on day head && shows_last day (next ∷ way)

abbrev pub are_open : ℤ → List Head → Bool
are_open day heads = list_all (is_open_on day) heads

-- ---- units that are not drafts

-- there is such a unit, and it is no draft
abbrev pub is_published : Option Unit → Bool
is_published None = false
is_published (Some unit) = not unit.draft

-- the head of such a unit, if there is one and it is no draft
abbrev pub public_head : Option Unit → Option Head
public_head None = None
public_head (Some unit) = cond unit.draft None (Some (head_of unit))

-- those of these units that are not drafts
abbrev pub published_units : List Unit → List Unit
published_units units = filter (λ unit. not unit.draft) units

-- ---- head lines

-- what a head line needs of a unit's body: the day until which it is closed, if it is closed on this day
abbrev pub bare_body : ℤ → Option ℤ → Body
bare_body day None = Full [] []
bare_body day (Some until) = cond (int_lt day until) (Closed until) (Full [] [])

-- a unit with its head line alone; `ids` are the identifiers from the top down to it
abbrev pub head_alone : Repository → List Bytes → ℤ → Head → Shown
head_alone at ids day head = record {
  depth = 0;
  code = code_of at.country at.repo ids;
  level = head.level;
  title = head.title;
  body = bare_body day head.until;
}

-- the same for a unit below others, with its number
abbrev pub bare_below : Repository → List Bytes → ℤ → Head → ℕ × Shown
bare_below at above day head = (head.id, head_alone at (above ++ head.identifier ∷ []) day head)

abbrev pub all_bare : Repository → List Bytes → ℤ → List Head → List (ℕ × Shown)
all_bare at above day heads = map (bare_below at above day) heads

abbrev pub head_identifiers : List Head → List Bytes
head_identifiers way = map (λ head. head.identifier) way
