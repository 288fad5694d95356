-- The elements of a description, by number and name (ISAD(G), second edition, 3.1 to 3.7).
use Rattle.std.specs.Prelude.{ℕ, Bool, true, false, List, [], ◌∷◌, codes}
use Rattle.isad_core.specs.declared.element.Element.{Element}
use Rattle.isad_core.specs.declared.element.Element.TheVariants.{ReferenceCode, Title, Dates, Level, Extent, Creator}
use Rattle.isad_core.specs.declared.element.Element.TheVariants.{CreatorHistory, ArchivalHistory, Acquisition, Scope}
use Rattle.isad_core.specs.declared.element.Element.TheVariants.{Appraisal, Accruals, Arrangement, Access, Reproduction}
use Rattle.isad_core.specs.declared.element.Element.TheVariants.{Language, Physical, FindingAids, Originals, Copies}
use Rattle.isad_core.specs.declared.element.Element.TheVariants.{RelatedUnits, PublicationNote, Note, ArchivistsNote}
use Rattle.isad_core.specs.declared.element.Element.TheVariants.{Rules, DescriptionDates}

-- the standard's number
abbrev pub standard_number : Element → List ℕ
standard_number ReferenceCode = codes "3.1.1"
standard_number Title = codes "3.1.2"
standard_number Dates = codes "3.1.3"
standard_number Level = codes "3.1.4"
standard_number Extent = codes "3.1.5"
standard_number Creator = codes "3.2.1"
standard_number CreatorHistory = codes "3.2.2"
standard_number ArchivalHistory = codes "3.2.3"
standard_number Acquisition = codes "3.2.4"
standard_number Scope = codes "3.3.1"
standard_number Appraisal = codes "3.3.2"
standard_number Accruals = codes "3.3.3"
standard_number Arrangement = codes "3.3.4"
standard_number Access = codes "3.4.1"
standard_number Reproduction = codes "3.4.2"
standard_number Language = codes "3.4.3"
standard_number Physical = codes "3.4.4"
standard_number FindingAids = codes "3.4.5"
standard_number Originals = codes "3.5.1"
standard_number Copies = codes "3.5.2"
standard_number RelatedUnits = codes "3.5.3"
standard_number PublicationNote = codes "3.5.4"
standard_number Note = codes "3.6.1"
standard_number ArchivistsNote = codes "3.7.1"
standard_number Rules = codes "3.7.2"
standard_number DescriptionDates = codes "3.7.3"

-- the standard's name
abbrev pub element_name : Element → List ℕ
element_name ReferenceCode = codes "Reference code(s)"
element_name Title = codes "Title"
element_name Dates = codes "Date(s)"
element_name Level = codes "Level of description"
element_name Extent = codes "Extent and medium of the unit of description"
element_name Creator = codes "Name of creator(s)"
element_name CreatorHistory = codes "Administrative / Biographical history"
element_name ArchivalHistory = codes "Archival history"
element_name Acquisition = codes "Immediate source of acquisition or transfer"
element_name Scope = codes "Scope and content"
element_name Appraisal = codes "Appraisal, destruction and scheduling information"
element_name Accruals = codes "Accruals"
element_name Arrangement = codes "System of arrangement"
element_name Access = codes "Conditions governing access"
element_name Reproduction = codes "Conditions governing reproduction"
element_name Language = codes "Language/scripts of material"
element_name Physical = codes "Physical characteristics and technical requirements"
element_name FindingAids = codes "Finding aids"
element_name Originals = codes "Existence and location of originals"
element_name Copies = codes "Existence and location of copies"
element_name RelatedUnits = codes "Related units of description"
element_name PublicationNote = codes "Publication note"
element_name Note = codes "Note"
element_name ArchivistsNote = codes "Archivist's Note"
element_name Rules = codes "Rules or Conventions"
element_name DescriptionDates = codes "Date(s) of descriptions"

-- What is given for a higher unit applies to its parts and is not repeated (ISAD(G) 2.4). These are the elements that a
-- unit without them takes from the nearest unit above that has them.
abbrev pub is_found_above : Element → Bool
is_found_above Creator = true
is_found_above CreatorHistory = true
is_found_above ArchivalHistory = true
is_found_above Acquisition = true
is_found_above Access = true
is_found_above Reproduction = true
is_found_above Language = true
is_found_above Rules = true
is_found_above ReferenceCode = false
is_found_above Title = false
is_found_above Dates = false
is_found_above Level = false
is_found_above Extent = false
is_found_above Scope = false
is_found_above Appraisal = false
is_found_above Accruals = false
is_found_above Arrangement = false
is_found_above Physical = false
is_found_above FindingAids = false
is_found_above Originals = false
is_found_above Copies = false
is_found_above RelatedUnits = false
is_found_above PublicationNote = false
is_found_above Note = false
is_found_above ArchivistsNote = false
is_found_above DescriptionDates = false

-- all elements, in the standard's order
abbrev pub elements : List Element
elements = ReferenceCode ∷ Title ∷ Dates ∷ Level ∷ Extent ∷ Creator
    ∷ CreatorHistory ∷ ArchivalHistory ∷ Acquisition ∷ Scope ∷ Appraisal ∷ Accruals
    ∷ Arrangement ∷ Access ∷ Reproduction ∷ Language ∷ Physical ∷ FindingAids
    ∷ Originals ∷ Copies ∷ RelatedUnits ∷ PublicationNote ∷ Note ∷ ArchivistsNote
    ∷ Rules ∷ DescriptionDates ∷ []
