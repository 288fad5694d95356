-- Descriptions as they are printed. Every line ends with a line feed.
use Rattle.std.specs.Prelude.{ℕ, zero, suc, ◌+◌, ◌++◌, List, [], ◌∷◌, Option, Some, None, if◌then◌else◌, codes}
use Rattle.std.specs.List.{flat_map}
use Rattle.std.specs.Fmt.{decimal}
use Rattle.isad_core.specs.Texts.{Bytes, is_blank_text, one_line}
use Rattle.isad_core.specs.Days.{day_text}
use Rattle.isad_core.specs.Elements.{element_name, standard_number}
use Rattle.isad_core.specs.declared.element.Element.{Element}
use Rattle.isad_core.specs.declared.display.Shown.{Shown}
use Rattle.isad_core.specs.declared.display.Body.{Body}
use Rattle.isad_core.specs.declared.display.Body.TheVariants.{Full, Closed}
use Rattle.isad_core.specs.declared.display.Page.{Page}

abbrev pub line : Bytes → Bytes
line text = text ++ 10 ∷ []

-- two spaces for each step down
abbrev pub indent : ℕ → Bytes
indent zero = []
indent (suc depth) = 32 ∷ 32 ∷ indent depth

-- a text on one line, or `-` if it is blank
abbrev pub or_dash : Bytes → Bytes
or_dash text = if is_blank_text text then 45 ∷ [] else one_line text

-- ---- the head line: reference code, level and title, the elements that every unit has to have

-- a closed unit shows until when it is closed, instead of its title
abbrev pub heading : Bytes → Body → Bytes
heading title (Full lines boxes) = or_dash title
heading title (Closed day) = codes "closed until " ++ day_text day

abbrev pub head_line : Shown → Bytes
head_line unit = one_line unit.code ++ codes " [" ++ or_dash unit.level ++ codes "] "
    ++ heading unit.title unit.body

-- ---- elements and containers

abbrev pub element_text : Element → Bytes → Bytes
element_text element value =
    standard_number element ++ 32 ∷ element_name element ++ codes ": " ++ one_line value

abbrev pub container_text : ℕ → Bytes → Bytes
container_text number name = codes "Container " ++ decimal number ++ codes ": " ++ one_line name

-- ---- the finding aid: units from the general to the specific, each below its own (ISAD(G) 2.1)

abbrev pub full_lines : ℕ → List (Element × Bytes) → List (ℕ × Bytes) → Bytes
full_lines depth lines boxes = flat_map (λ l. line (indent depth ++ element_text l.0 l.1)) lines
    ++ flat_map (λ b. line (indent depth ++ container_text b.0 b.1)) boxes

abbrev pub body_lines : ℕ → Body → Bytes
body_lines depth (Full lines boxes) = full_lines depth lines boxes
body_lines depth (Closed day) = []

abbrev pub unit_lines : Shown → Bytes
unit_lines unit = line (indent unit.depth ++ head_line unit) ++ body_lines (unit.depth + 1) unit.body

abbrev pub aid : List Shown → Bytes
aid = flat_map unit_lines

-- ---- the page of one unit

-- the code of the unit that a value is from, if it was found above
abbrev pub origin : Option Bytes → Bytes
origin None = []
origin (Some code) = codes " (from " ++ one_line code ++ codes ")"

abbrev pub found_element : Element × Bytes × Option Bytes → Bytes
found_element l = line (indent 1 ++ element_text l.0 l.1 ++ origin l.2)

abbrev pub found_container : ℕ × Bytes × Option Bytes → Bytes
found_container b = line (indent 1 ++ container_text b.0 b.1 ++ origin b.2)

abbrev pub unit_below : ℕ × Shown → Bytes
unit_below u = line (indent 1 ++ codes "Unit " ++ decimal u.0 ++ codes ": " ++ head_line u.1)

abbrev pub page : Page → Bytes
page p = line (head_line p.head) ++ flat_map found_element p.lines
    ++ flat_map found_container p.boxes ++ flat_map unit_below p.below

-- ---- a list of units, each with its number

abbrev pub numbered_line : ℕ × Shown → Bytes
numbered_line u = line (decimal u.0 ++ 32 ∷ head_line u.1)
