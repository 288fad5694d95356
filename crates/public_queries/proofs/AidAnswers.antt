-- What the office answers when it is asked for a finding aid, by the path of the unit in the whole forest.
use Rattle.std.proofs.Common.{◌≡◌, ℕ, true, false, cond, List, [], ◌∷◌, refl, sym, ap, ap₂, ◌∙◌, map}
use Rattle.known_units.specs.KnownUnits.{KnowsUnits}
use Rattle.office_core.specs.State.{State}
use Rattle.office_core.specs.declared.query.Query.TheVariants as query
use Rattle.refinement.proofs.Judged.{distinct_ids}
use Rattle.public_queries.proofs.Common.{AreWalkMarks, Empty, Forest, HasDistinctIds, IsSoundOffice, IsTellable, Mark}
use Rattle.public_queries.proofs.Common.{PublicUnit, Text, Unit, Unknown, UnknownUnit, above_last, aid, aid_of, answer}
use Rattle.public_queries.proofs.Common.{before_last, each, has, has_id, has_public_number, head_identifiers, head_of}
use Rattle.public_queries.proofs.Common.{is_unit_closed, known_of, office_knows, office_of, office_places, path, press}
use Rattle.public_queries.proofs.Common.{public_forest, public_of, repository_of, shown_below, shows_last, tree, ℤ}
use Rattle.public_queries.proofs.AidPrinted.{id_same}
use Rattle.public_queries.proofs.Standing.{Finds, nowhere, seen}

-- what the public knows of the units above the last of a path has their identifiers
above_same : (day : ℤ) (way : List Unit) → above_last (map (known_of day) way) ≡ before_last (head_identifiers (map head_of way))
above_same day [] = refl
above_same day (u ∷ []) = refl
above_same day (u ∷ v ∷ way) = ap₂ ◌∷◌ (id_same (u, is_unit_closed day u)) (above_same day (v ∷ way))

module _ (s : State) (sound : IsSoundOffice s) where
  pub tellable : IsTellable s.catalogue
  tellable = record { places = office_places s sound; containers = office_knows s sound }

  pub apart : HasDistinctIds (each (λ (u : Unit). u.id) s.catalogue.forest)
  apart = distinct_ids s.catalogue sound.sound.units

  pub knows_all : {marks : List Mark} → AreWalkMarks s.catalogue.forest marks → KnowsUnits s.catalogue.forest marks
  knows_all walk = record { walk = walk; distinct = apart }

  module _ (u : ℕ) where
    abbrev way : List Unit
    way = path (has_id u) s.catalogue.forest

    abbrev branch : Forest PublicUnit
    branch = public_of s.day (tree (has_id u) s.catalogue.forest)

    stands : Finds (has_public_number u) (public_forest s) (shows_last s.day (map head_of way)) (map (known_of s.day) way) branch
    stands = seen s.day u s.catalogue.forest apart

    pub hidden : shows_last s.day (map head_of way) ≡ false → Unknown UnknownUnit ≡ answer s (query.Aid u)
    hidden e = sym (ap (λ b. cond b (Text (aid_of (press s) u (public_forest s))) (Unknown UnknownUnit)) (stands.has_is ∙ e))

    pub far_off : has (has_id u) s.catalogue.forest ≡ false → Unknown UnknownUnit ≡ answer s (query.Aid u)
    far_off far =
        let none = nowhere (has_id u) s.catalogue.forest far in
        hidden (ap (λ (w : List Unit). shows_last s.day (map head_of w)) none.0)

    pub shown : shows_last s.day (map head_of way) ≡ true
        → Text (aid (shown_below (repository_of (office_of s)) s.catalogue.containers (before_last (head_identifiers (map head_of way))) 0 branch)) ≡ answer s (query.Aid u)
    shown e =
        let there = stands.path_is ∙ ap (λ b. cond b (map (known_of s.day) way) []) e in
        let part = stands.tree_is ∙ ap (λ b. cond b branch Empty) e in
        ap Text (ap aid (ap₂ (λ ids (f : Forest PublicUnit). shown_below (repository_of (office_of s)) s.catalogue.containers ids 0 f) (sym (ap above_last there ∙ above_same s.day way)) (sym part)))
        ∙ sym (ap (λ b. cond b (Text (aid_of (press s) u (public_forest s))) (Unknown UnknownUnit)) (stands.has_is ∙ e))
