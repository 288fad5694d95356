-- A command that is refused, and one of the desk that is accepted.
use Rattle.std.proofs.Common.{◌≡◌, ℕ, true, List, [], ◌∷◌, Some, None, Ok, Err, sym, ap, subst, ◌∙◌}
use Rattle.desk_core.specs.DeskRows.{Desk}
use Rattle.desk_core.specs.declared.refusal.Refusal.{Refusal}
use Rattle.office_tables.specs.Schema as schema
use Rattle.office_core.proofs.Texts.{always_texts}
use Rattle.office_core.specs.Rules.{Reply, after, refusal, result_of}
use Rattle.office_core.specs.State.{State}
use Rattle.office_core.specs.declared.command.Command.{Command}
use Rattle.office_core.specs.declared.done.Done.{Done}
use Rattle.state_encoding.specs.OfficeRows as rows
use Rattle.refinement.specs.CommandSteps.{CarriesOutStep}
use Rattle.refinement.proofs.Common.{AreTexts, Database, Forest, NamesTexts, OnlyTouches, RepresentsDesk}
use Rattle.refinement.proofs.Common.{RepresentsState, Trees, Version, catalogue_trees, office_of}
use Rattle.refinement.proofs.DeskSteps.{desk_step}
use Rattle.refinement.proofs.Doings.{accepted, refused}
use Rattle.refinement.proofs.Frames.{are_apart}

module _ (places : Trees → Forest ℕ → Type 0) (version : Version) (s : State) (asked : Command) where
  pub refuses : (db : Database) (why : Refusal) → refusal s asked ≡ Some why
      → CarriesOutStep places version s asked (Err why) db
  refuses db why is = record { told = sym (ap (λ (p : State × Reply). p.1) (refused s asked why is)); represents = λ ok. absurd (cc) }

  -- the tables that the call touched show the desk of the next state
  pub accepts : ((old new : Trees) (f : Forest ℕ) → new schema.link.tree ≡ old schema.link.tree → places old f → places new f)
      → (before now : Database) (touched : List ℕ) → are_apart touched catalogue_trees ≡ true → refusal s asked ≡ None
      → NamesTexts asked
      → RepresentsState places version before s → now.schema ≡ before.schema → OnlyTouches touched before now
      → (next : State) → after s asked ≡ next → office_of next ≡ office_of s → next.catalogue ≡ s.catalogue → (d : Desk)
      → RepresentsDesk now.trees d → (rows.tables version next).desk ≡ d
      → (done : Done) → result_of s asked ≡ done → CarriesOutStep places version s asked (Ok done) now
  accepts same before now touched apart why names it schema_is only next is office catalogue d shown desk done answers =
      let one = accepted s asked why in
      let texts = always_texts s (asked ∷ []) (names, tt) it.texts in
      let to_next = ap (λ (p : State × Reply). p.0) one ∙ is in
      record {
        told = sym (ap (λ (p : State × Reply). p.1) one ∙ ap Ok answers);
        represents = λ ok. subst (RepresentsState places version now) (sym to_next)
            (desk_step places same version s next before now touched apart schema_is only it d shown desk office catalogue (subst AreTexts to_next texts));
      }
