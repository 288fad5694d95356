-- Descriptions as they are printed. The expected lines were written by hand, with the numbers and names of ISAD(G).
use Rattle.std.specs.Prelude.{◌≡◌, ◌++◌, List, [], ◌∷◌, map, filter, Some, None, codes, pos}
use Rattle.isad_core.specs.Texts.{Bytes, one_line}
use Rattle.isad_core.specs.Codes.{code_of}
use Rattle.isad_core.specs.Elements.{elements, is_found_above}
use Rattle.isad_core.specs.Levels.{rank_of}
use Rattle.isad_core.specs.PrintedDescriptions.{aid, element_text, numbered_line, page}
use Rattle.isad_core.specs.declared.element.Element.{Element}
use Rattle.isad_core.specs.declared.element.Element.TheVariants.{Dates, Creator, CreatorHistory, ArchivalHistory}
use Rattle.isad_core.specs.declared.element.Element.TheVariants.{Acquisition, Access, Reproduction, Language, Rules}
use Rattle.isad_core.specs.declared.display.Shown.{Shown}
use Rattle.isad_core.specs.declared.display.Body.TheVariants.{Full, Closed}
use Rattle.isad_core.specs.declared.display.Page.{Page}

-- an element with a text of one letter
abbrev pub with_letter : Element → Bytes
with_letter element = element_text element (codes "x")

abbrev pub lines_of_elements : List Bytes
lines_of_elements =
    codes "3.1.1 Reference code(s): x" ∷ codes "3.1.2 Title: x" ∷ codes "3.1.3 Date(s): x"
    ∷ codes "3.1.4 Level of description: x" ∷ codes "3.1.5 Extent and medium of the unit of description: x"
    ∷ codes "3.2.1 Name of creator(s): x" ∷ codes "3.2.2 Administrative / Biographical history: x"
    ∷ codes "3.2.3 Archival history: x" ∷ codes "3.2.4 Immediate source of acquisition or transfer: x"
    ∷ codes "3.3.1 Scope and content: x" ∷ codes "3.3.2 Appraisal, destruction and scheduling information: x"
    ∷ codes "3.3.3 Accruals: x" ∷ codes "3.3.4 System of arrangement: x"
    ∷ codes "3.4.1 Conditions governing access: x" ∷ codes "3.4.2 Conditions governing reproduction: x"
    ∷ codes "3.4.3 Language/scripts of material: x"
    ∷ codes "3.4.4 Physical characteristics and technical requirements: x" ∷ codes "3.4.5 Finding aids: x"
    ∷ codes "3.5.1 Existence and location of originals: x" ∷ codes "3.5.2 Existence and location of copies: x"
    ∷ codes "3.5.3 Related units of description: x" ∷ codes "3.5.4 Publication note: x"
    ∷ codes "3.6.1 Note: x" ∷ codes "3.7.1 Archivist's Note: x" ∷ codes "3.7.2 Rules or Conventions: x"
    ∷ codes "3.7.3 Date(s) of descriptions: x" ∷ []

abbrev pub found_above : List Element
found_above = Creator ∷ CreatorHistory ∷ ArchivalHistory ∷ Acquisition ∷ Access ∷ Reproduction ∷ Language ∷ Rules ∷ []

-- a series with a value of its own, one of its fonds, two containers, and a file below it without a title
abbrev pub minutes_series : Shown
minutes_series = record {
  depth = 0;
  code = codes "GB 0999 HUL/1";
  level = codes "Series";
  title = codes "Minutes";
  body = Full ((Dates, codes "1840") ∷ []) ((7, codes "Box 7") ∷ []);
}

abbrev pub untitled : Shown
untitled = record { depth = 1; code = codes "GB 0999 HUL/1/1"; level = []; title = codes " "; body = Full [] [] }

abbrev pub closed_file : Shown
closed_file =
    record { depth = 1; code = codes "GB 0999 HUL/1/2"; level = codes "File"; title = codes "Letters"; body = Closed (pos 19784) }

abbrev pub page_of_minutes : Page
page_of_minutes = record {
  head = minutes_series;
  lines = (Dates, codes "1840", None) ∷ (Creator, codes "Hull Dock\r\nCompany", Some (codes "GB 0999 HUL")) ∷ [];
  boxes = (7, codes "Box 7", None) ∷ (8, codes "Box 8", Some (codes "GB 0999 HUL")) ∷ [];
  below = (12, untitled) ∷ (13, closed_file) ∷ [];
}

pub record Printed : Type 0 where
  pub all_elements : map with_letter elements ≡ lines_of_elements
  pub from_above : filter is_found_above elements ≡ found_above
  pub ranks : map rank_of (codes "Fonds" ∷ codes "collection" ∷ codes "Sub-fonds" ∷ codes "SERIES" ∷ codes "Sub-series"
      ∷ codes "file" ∷ codes "Item" ∷ codes "box" ∷ [])
      ≡ Some 1 ∷ Some 1 ∷ Some 2 ∷ Some 3 ∷ Some 4 ∷ Some 5 ∷ Some 6 ∷ None ∷ []
  pub breaks : one_line (codes "a\r\nb\rc\nd\te") ≡ codes "a b c d\te"
  pub code : code_of (codes "GB") (codes "0999") (codes "HUL" ∷ codes " " ∷ codes "1" ∷ []) ≡ codes "GB 0999 HUL/1"
  pub aid_lines : aid (minutes_series ∷ untitled ∷ closed_file ∷ [])
      ≡ codes "GB 0999 HUL/1 [Series] Minutes\n  3.1.3 Date(s): 1840\n  Container 7: Box 7\n"
      ++ codes "  GB 0999 HUL/1/1 [-] -\n  GB 0999 HUL/1/2 [File] closed until 2024-03-02\n"
  pub page_lines : page page_of_minutes
      ≡ codes "GB 0999 HUL/1 [Series] Minutes\n  3.1.3 Date(s): 1840\n"
      ++ codes "  3.2.1 Name of creator(s): Hull Dock Company (from GB 0999 HUL)\n"
      ++ codes "  Container 7: Box 7\n  Container 8: Box 8 (from GB 0999 HUL)\n"
      ++ codes "  Unit 12: GB 0999 HUL/1/1 [-] -\n  Unit 13: GB 0999 HUL/1/2 [File] closed until 2024-03-02\n"
  pub numbered : numbered_line (12, untitled) ≡ codes "12 GB 0999 HUL/1/1 [-] -\n"
