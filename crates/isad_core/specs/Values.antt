-- The values of a description (ISAD(G) 3.1 to 3.7): which text stands for which element, and which
-- elements have a line of their own.
use Rattle.std.specs.Prelude.{ℕ, Option, Some, None, option_map, unwrap_or, slice_get, List, [], ◌∷◌, filter_map}
use Rattle.isad_core.specs.Texts.{Bytes}
use Rattle.isad_core.specs.declared.element.Element.{Element}
use Rattle.isad_core.specs.declared.element.Element.TheVariants.{ReferenceCode, Title, Dates, Level, Extent, Creator}
use Rattle.isad_core.specs.declared.element.Element.TheVariants.{CreatorHistory, ArchivalHistory, Acquisition, Scope}
use Rattle.isad_core.specs.declared.element.Element.TheVariants.{Appraisal, Accruals, Arrangement, Access, Reproduction}
use Rattle.isad_core.specs.declared.element.Element.TheVariants.{Language, Physical, FindingAids, Originals, Copies}
use Rattle.isad_core.specs.declared.element.Element.TheVariants.{RelatedUnits, PublicationNote, Note, ArchivistsNote}
use Rattle.isad_core.specs.declared.element.Element.TheVariants.{Rules, DescriptionDates}
use Rattle.isad_core.specs.declared.values.Values.{Values}

-- the place of an element's text among the texts; the level has none
abbrev pub text_place : Element → Option ℕ
text_place ReferenceCode = Some 0
text_place Title = Some 1
text_place Dates = Some 2
text_place Level = None
text_place Extent = Some 3
text_place Creator = Some 4
text_place CreatorHistory = Some 5
text_place ArchivalHistory = Some 6
text_place Acquisition = Some 7
text_place Scope = Some 8
text_place Appraisal = Some 9
text_place Accruals = Some 10
text_place Arrangement = Some 11
text_place Access = Some 12
text_place Reproduction = Some 13
text_place Language = Some 14
text_place Physical = Some 15
text_place FindingAids = Some 16
text_place Originals = Some 17
text_place Copies = Some 18
text_place RelatedUnits = Some 19
text_place PublicationNote = Some 20
text_place Note = Some 21
text_place ArchivistsNote = Some 22
text_place Rules = Some 23
text_place DescriptionDates = Some 24

-- the text of an element other than the level, if there is one
abbrev pub text_at_place : Option ℕ → Values → Option Bytes
text_at_place None values = None
text_at_place (Some i) values = unwrap_or (slice_get values.texts i) None

abbrev pub text_of : Element → Values → Option Bytes
text_of element values = text_at_place (text_place element) values

-- the text of the reference code, or the empty text if there is none
abbrev pub identifier : Values → Bytes
identifier values = unwrap_or (text_of ReferenceCode values) []

abbrev pub title : Values → Bytes
title values = unwrap_or (text_of Title values) []

-- the elements that have a line of their own; code, title and level are in the head line
abbrev pub line_elements : List Element
line_elements = Dates ∷ Extent ∷ Creator ∷ CreatorHistory ∷ ArchivalHistory ∷ Acquisition ∷ Scope
    ∷ Appraisal ∷ Accruals ∷ Arrangement ∷ Access ∷ Reproduction ∷ Language ∷ Physical ∷ FindingAids
    ∷ Originals ∷ Copies ∷ RelatedUnits ∷ PublicationNote ∷ Note ∷ ArchivistsNote ∷ Rules
    ∷ DescriptionDates ∷ []

-- the line of an element, if the unit has it
abbrev pub element_line : Values → Element → Option (Element × Bytes)
element_line values element = option_map (λ text. (element, text)) (text_of element values)

abbrev pub lines_among : List Element → Values → List (Element × Bytes)
lines_among elements values = filter_map (element_line values) elements

-- a unit's own elements that have a line
abbrev pub own_lines : Values → List (Element × Bytes)
own_lines = lines_among line_elements
