-- What the public cannot learn, and what it is shown.
use Rattle.std.specs.Prelude.{◌≡◌, ℕ, ℤ, Bool, true, false, cond, List, [], ◌∷◌, None}
use Rattle.std.specs.List.{flat_map, AllByRecursion}
use Rattle.isad_core.specs.Texts.{Bytes}
use Rattle.isad_core.specs.PrintedDescriptions.{aid as aid_text, page as page_text}
use Rattle.isad_core.specs.Values.{text_of}
use Rattle.isad_core.specs.declared.element.Element.TheVariants.{ReferenceCode}
use Rattle.isad_core.specs.declared.display.Page.{Page}
use Rattle.isad_core.specs.declared.display.Shown.{Shown}
use Rattle.isad_core.specs.declared.values.Values.{Values}
use Rattle.tree_core.specs.Forest.{Forest, nodes, each, has, path}
use Rattle.visibility.specs.Visibility.{public}
use Rattle.catalogue_core.specs.Units.{Unit, is_unit_closed}
use Rattle.catalogue_core.specs.CatalogueMerge.{box_number}
use Rattle.catalogue_core.specs.ContainerContents.{paths}
use Rattle.catalogue_core.specs.PublicForest.{PublicUnit}
use Rattle.catalogue_core.specs.Aids.{shown_unit}
use Rattle.catalogue_core.specs.Pages.{public_number, has_public_number, tops_text}
use Rattle.catalogue_core.specs.PublishedUnits.{boxes_told, identifiers, IsPublished, LineIsTold, BoxIsTold}
use Rattle.office_core.specs.declared.query.Query.{Query}
use Rattle.office_core.specs.declared.query.Query.TheVariants as query
use Rattle.office_core.specs.declared.query.Answer.{Answer}
use Rattle.office_core.specs.declared.query.Answer.TheVariants.{Text}
use Rattle.office_core.specs.State.{State, Settings, start}
use Rattle.office_core.specs.Queries.{answer, is_public, press, public_forest}

-- three questions are the public's, and five are the desk's
pub record DividesQuestions : Type 0 where
  pub fonds : is_public query.Fonds ≡ true
  pub aid : (u : ℕ) → is_public (query.Aid u) ≡ true
  pub page : (u : ℕ) → is_public (query.Page u) ≡ true
  pub reader_orders : (t : ℕ) → is_public (query.ReaderOrders t) ≡ false
  pub queue : (c : ℕ) → is_public (query.Queue c) ≡ false
  pub run_slip : (n : ℕ) → is_public (query.RunSlip n) ≡ false
  pub issued_now : is_public query.IssuedNow ≡ false
  pub reader_permits : (t : ℕ) → is_public (query.ReaderPermits t) ≡ false

-- the public parts of two offices are the same: the country and repository codes, the day, what the public may know of
-- the forest, and the numbers of the containers in it
pub record SamePublic (s t : State) : Type 0 where
  pub country : s.settings.country ≡ t.settings.country
  pub repo : s.settings.repo ≡ t.settings.repo
  pub day : s.day ≡ t.day
  pub forest : public_forest s ≡ public_forest t
  pub numbers : AllByRecursion
      (λ box. box_number s.catalogue.containers box ≡ box_number t.catalogue.containers box)
      (flat_map boxes_told (nodes (public_forest s)))

-- Equal public parts give equal answers to the public's questions: nothing else that an office stores is visible in
-- them.
abbrev pub AnswersAlike : State → State → Type 0
AnswersAlike s t = (asked : Query) → is_public asked ≡ true → answer s asked ≡ answer t asked

-- ---- what the public is shown

-- What is printed is what the public may know of a published unit, with its own reference code, which the identifiers
-- of its path give.
pub record ShowsPublished (s : State) (shown : Shown) : Type 0 where
  pub told : PublicUnit
  pub published : IsPublished s.day (paths s.catalogue.forest) told
  pub depth : ℕ
  pub is : shown ≡ shown_unit (press s).at s.catalogue.containers (identifiers published.way) depth told

-- the same for the unit with this number
abbrev pub ShowsNumbered : State → ℕ × Shown → Type 0
ShowsNumbered s (u, shown) = (it : ShowsPublished s shown) × (u ≡ public_number it.told)

-- the unit with this number, and others after it
abbrev pub ShowsBranch : State → ℕ → List Shown → Type 0
ShowsBranch s u [] = ⊥
ShowsBranch s u (head ∷ below) = ShowsNumbered s (u, head) × AllByRecursion (ShowsPublished s) below

-- the path of a unit, as far as the public may know of it
abbrev pub public_path : State → ℕ → List PublicUnit
public_path s u = path (has_public_number u) (public_forest s)

-- The page of a unit shows published units only: the unit, those right below it, and those of its path. Its lines and
-- its containers come from the units of its path.
pub record PageShowsPublished (s : State) (u : ℕ) (shown : Page) : Type 0 where
  pub head : ShowsNumbered s (u, shown.head)
  pub way : AllByRecursion (IsPublished s.day (paths s.catalogue.forest)) (public_path s u)
  pub lines : AllByRecursion (LineIsTold (press s).at (public_path s u)) shown.lines
  pub boxes : AllByRecursion (BoxIsTold (press s) (public_path s u)) shown.boxes
  pub below : AllByRecursion (ShowsNumbered s) shown.below

-- the text answers one of the public's questions, and is printed from published units only
abbrev pub PrintsPublished : State → Query → Bytes → Type 0
PrintsPublished s query.Fonds text =
    (tops : List (ℕ × Shown)) × (text ≡ tops_text tops) × AllByRecursion (ShowsNumbered s) tops
PrintsPublished s (query.Aid u) text = (units : List Shown) × (text ≡ aid_text units) × ShowsBranch s u units
PrintsPublished s (query.Page u) text = (shown : Page) × (text ≡ page_text shown) × PageShowsPublished s u shown
PrintsPublished s _ text = ⊥

abbrev pub ShowsOnlyPublished : State → Type 0
ShowsOnlyPublished s = (asked : Query) (text : Bytes) → is_public asked ≡ true → answer s asked ≡ Text text
    → PrintsPublished s asked text

abbrev pub is_text : Answer → Bool
is_text (Text text) = true
is_text _ = false

-- Every unit that the public may know has a finding aid and a page. No other number has either.
pub record ShowsAllPublished (s : State) : Type 0 where
  pub aid : (u : ℕ) → is_text (answer s (query.Aid u)) ≡ has (has_public_number u) (public_forest s)
  pub page : (u : ℕ) → is_text (answer s (query.Page u)) ≡ has (has_public_number u) (public_forest s)

-- ---- the office as far as it is published

-- the identifier and the level of a description
abbrev pub identifier_and_level : Values → Values
identifier_and_level values = record { level = values.level; texts = text_of ReferenceCode values ∷ []; boxes = [] }

-- a unit without its source and its number there; a closed unit has only the identifier and the level of its
-- description, and a unit that is not closed has no end of closure
abbrev pub published_unit : Unit × Bool → Unit
published_unit (unit, closed) = record unit {
  source = [];
  legacy = [];
  values = cond closed (identifier_and_level unit.values) unit.values;
  until = cond closed unit.until None;
}

-- no draft branch, and nothing below a closed unit
abbrev pub published_forest : ℤ → Forest Unit → Forest Unit
published_forest day f = each published_unit (public (λ unit. unit.draft) (is_unit_closed day) f)

-- the settings with only the country and repository codes
abbrev pub published_settings : Settings → Settings
published_settings settings = record settings { seats = 0; daily = 0; hands = 0; run_size = 0 }

-- An office that has only these: the country and repository codes, the day, what is published of its units, and its
-- containers with their numbers. It has no readers, seats, orders, runs or permits.
abbrev pub published_part : State → State
published_part s =
    record (start (published_settings s.settings) s.day) {
      catalogue = record {
        forest = published_forest s.day s.catalogue.forest;
        containers = s.catalogue.containers;
        next = 1;
      };
    }
