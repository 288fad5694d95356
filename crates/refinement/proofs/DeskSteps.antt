-- A command of the desk: the tables show the next state, where its desk is the one that the call made.
use Rattle.std.proofs.Common.{◌≡◌, ℕ, true, List, sym, subst}
use Rattle.desk_core.specs.DeskRows.{Desk}
use Rattle.office_tables.specs.Schema as tables
use Rattle.office_core.specs.State.{State}
use Rattle.state_encoding.specs.OfficeRows as rows
use Rattle.refinement.proofs.Common.{AreTexts, Catalogue, Database, Forest, OfficeRow, OnlyTouches, Represents}
use Rattle.refinement.proofs.Common.{RepresentsDesk, RepresentsState, Trees, Version, catalogue_trees, office_of}
use Rattle.refinement.proofs.Frames.{are_apart, catalogue_kept}

-- the catalogue and the office's own row stay
pub desk_step : (places : Trees → Forest ℕ → Type 0)
    → ((old new : Trees) (f : Forest ℕ) → new tables.link.tree ≡ old tables.link.tree → places old f → places new f)
    → (version : Version) (s t : State) (old new : Database) (touched : List ℕ)
    → are_apart touched catalogue_trees ≡ true → new.schema ≡ old.schema → OnlyTouches touched old new
    → RepresentsState places version old s → (d : Desk) → RepresentsDesk new.trees d → (rows.tables version t).desk ≡ d
    → office_of t ≡ office_of s → t.catalogue ≡ s.catalogue → AreTexts t → RepresentsState places version new t
desk_step places same version s t old new touched apart schema only it d shown is office catalogue texts = record {
  catalogue =
      subst (λ (o : OfficeRow). Represents places version new o t.catalogue) (sym office)
      (subst (λ (c : Catalogue). Represents places version new (office_of s) c) (sym catalogue)
      (catalogue_kept old new touched only places same version (office_of s) s.catalogue apart schema it.catalogue));
  desk = subst (RepresentsDesk new.trees) (sym is) shown;
  texts = texts;
}
