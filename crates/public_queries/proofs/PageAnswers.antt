-- What the tables of a sound office tell of a page.
use Rattle.std.proofs.Common.{◌≡◌, ℕ, true, false, not, ◌&&◌, List, [], ◌∷◌, ◌++◌, length, Some, refl, sym, ap, subst}
use Rattle.std.proofs.Common.{◌∙◌, nat_eq, Bool, arith}
use Rattle.std.specs.List.{IsDistinct, find}
use Rattle.std.specs.Prelude.{map}
use Rattle.office_core.specs.State.{State}
use Rattle.office_core.specs.declared.query.Query.TheVariants as query
use Rattle.public_queries.proofs.Common.{AllByRecursion, AreMarks, Bytes, HasDistinctIds, Head, IsSoundOffice, Mark}
use Rattle.public_queries.proofs.Common.{OfficeRow, Text, Unit, UnitValues, Unknown, UnknownUnit, all_bare, all_needed}
use Rattle.public_queries.proofs.Common.{answer}
use Rattle.public_queries.proofs.Common.{closed_page, coded_way, each, ends_closed, false≢true, filter_map, has_id}
use Rattle.public_queries.proofs.Common.{head_alone, head_identifiers, head_of, identifiers_of, is_closed_there}
use Rattle.public_queries.proofs.Common.{is_open_there, is_unit_closed, map-append, nodes, nodes-each, office_of, page}
use Rattle.public_queries.proofs.Common.{page_of_units, part_below, path, press, public_head, published_units}
use Rattle.public_queries.proofs.Common.{repository_of, shows_last, shows_marked, told_text, tops, unit_values, ℤ}
use Rattle.public_queries.proofs.FoundUnits.{path_all, found_each}
use Rattle.public_queries.proofs.MarkedPaths.{ends_same, shows_same}
use Rattle.public_queries.proofs.OwnRows.{found_node, shows_no_draft}
use Rattle.public_queries.proofs.PageNeeds.{enough_read, same_needed_identifiers}
use Rattle.public_queries.proofs.PublicHeads.{all_published, heads_found}
use Rattle.public_queries.proofs.Standing.{shown_in, Stands, stands}
use Rattle.public_queries.proofs.PagePrinted.{page_hidden, page_closed, page_told, is_there, last_same}
use Rattle.public_queries.proofs.ToldPages.{same_identifiers, told_same}

module _ (s : State) (sound : IsSoundOffice s) where
  pub distinct : HasDistinctIds (each (λ (unit : Unit). unit.id) s.catalogue.forest)
  distinct = subst (IsDistinct nat_eq) (sym (nodes-each (λ (unit : Unit). unit.id) s.catalogue.forest)) sound.sound.units.ids

  pub path_found : (u : ℕ)
      → AllByRecursion (λ (x : Unit). find (has_id x.id) (nodes s.catalogue.forest) ≡ Some x) (path (has_id u) s.catalogue.forest)
  path_found u = path_all _ (has_id u) s.catalogue.forest (found_each (nodes s.catalogue.forest) sound.sound.units.ids)

  module _ (u : ℕ) where
    pub hidden : shown_in s.day u s.catalogue.forest ≡ false → Unknown UnknownUnit ≡ answer s (query.Page u)
    hidden e = sym (page_hidden (press s) s.day u s.catalogue.forest distinct e)

    -- a path by its marks
    pub judged_marked : (row : OfficeRow) (marks : List Mark) → row ≡ office_of s
        → AreMarks (path (has_id u) s.catalogue.forest) marks
        → shown_in s.day u s.catalogue.forest ≡ shows_marked row.day marks
    judged_marked row marks e are =
        sym (shows_same s.day (path (has_id u) s.catalogue.forest) marks are) ∙ ap (λ (o : OfficeRow). shows_marked o.day marks) (sym e)

    -- a path by its heads, of which there may be none
    pub no_heads : (day : ℤ) (way : List Head) → length way ≡ 0 → shows_last day way ≡ false
    no_heads day [] none = refl
    no_heads day (head ∷ way) none = absurd (omega (arith, none))

    pub judged : (row : OfficeRow) (way : List Head) → row ≡ office_of s
        → way ≡ map head_of (path (has_id u) s.catalogue.forest)
        → shown_in s.day u s.catalogue.forest ≡ shows_last row.day way
    judged row way e k = ap (shows_last s.day) (sym k) ∙ ap (λ (o : OfficeRow). shows_last o.day way) (sym e)

    -- ---- a unit that is shown
    module _ (shown : shown_in s.day u s.catalogue.forest ≡ true) where
      it : Stands (has_id u) s.catalogue.forest
      it = stands (has_id u) s.catalogue.forest (is_there (press s) s.day u s.catalogue.forest distinct shown)

      node_is : find (has_id u) (nodes s.catalogue.forest) ≡ Some it.node
      node_is = found_node s.day u s.catalogue.forest (path_found u) it

      open_node : is_open_there s.day (find (has_id u) (nodes s.catalogue.forest)) ≡ true
          → is_unit_closed s.day it.node ≡ false
      open_node e = second (not it.node.draft) (is_unit_closed s.day it.node) (sym (ap (is_open_there s.day) node_is) ∙ e)
        where
          second : (a b : Bool) → (a && not b) ≡ true → b ≡ false
          second true true e = absurd (false≢true e)
          second true false e = refl
          second false b e = absurd (false≢true e)

      -- whether it is closed, by the marks of its path
      module _ (marks : List Mark) (are : AreMarks (path (has_id u) s.catalogue.forest) marks) where
        closed_same : ends_closed s.day marks ≡ is_unit_closed s.day it.node
        closed_same = ends_same s.day it.above it.node marks (subst (λ (w : List Unit). AreMarks w marks) it.way are)

        pub is_closed_by : ends_closed s.day marks ≡ true
            → is_closed_there s.day (find (has_id u) (nodes s.catalogue.forest)) ≡ true
        is_closed_by e = ap (is_closed_there s.day) node_is ∙ sym closed_same ∙ e

        pub is_open_by : ends_closed s.day marks ≡ false
            → is_open_there s.day (find (has_id u) (nodes s.catalogue.forest)) ≡ true
        is_open_by e =
            ap (is_open_there s.day) node_is
            ∙ at it.node.draft (is_unit_closed s.day it.node) (shows_no_draft s.day it.above it.node) (sym closed_same ∙ e)
          where
            shown_here : shows_last s.day (map head_of (it.above ++ it.node ∷ [])) ≡ true
            shown_here = sym (ap (λ (w : List Unit). shows_last s.day (map head_of w)) it.way) ∙ shown

            at : (draft closed : Bool)
                → (not draft ≡ false → shows_last s.day (map head_of (it.above ++ it.node ∷ [])) ≡ false)
                → closed ≡ false → (not draft && not closed) ≡ true
            at true closed none e = absurd (false≢true (sym (none refl) ∙ shown_here))
            at false closed none e = ap not e

      -- the heads of its path
      pub heads_of_path : (way : List ℕ) → way ≡ map (λ (x : Unit). x.id) (path (has_id u) s.catalogue.forest)
          → filter_map (λ id. public_head (find (has_id id) (nodes s.catalogue.forest))) way ≡ map head_of (path (has_id u) s.catalogue.forest)
      heads_of_path way is =
          ap (filter_map (λ id. public_head (find (has_id id) (nodes s.catalogue.forest)))) is
          ∙ heads_found s.catalogue.forest (path (has_id u) s.catalogue.forest) (path_found u)
          ∙ ap (map head_of) (all_published s.day (path (has_id u) s.catalogue.forest) shown)

      -- a closed unit, by the heads of its path
      pub answers_closed : (row : OfficeRow) (way above : List Head) (last : Head) (text : Bytes) → row ≡ office_of s
          → way ≡ map head_of (path (has_id u) s.catalogue.forest) → way ≡ above ++ last ∷ []
          → is_closed_there s.day (find (has_id u) (nodes s.catalogue.forest)) ≡ true
          → text ≡ page (closed_page (head_alone (repository_of row) (head_identifiers way) row.day last))
          → Text text ≡ answer s (query.Page u)
      answers_closed row way above last text row_is way_is ends c is =
          let last_is : last ≡ head_of it.node =
          last_same above (map head_of it.above) last (head_of it.node) (sym ends ∙ way_is ∙ ap (map head_of) it.way ∙ map-append head_of it.above (it.node ∷ [])) in
          ap Text (is
          ∙ ap (λ (o : OfficeRow). page (closed_page (head_alone (repository_of o) (head_identifiers way) o.day last))) row_is
          ∙ ap (λ l. page (closed_page (head_alone (repository_of (office_of s)) (head_identifiers l) s.day last))) way_is
          ∙ ap (λ h. page (closed_page (head_alone (repository_of (office_of s)) (head_identifiers (map head_of (path (has_id u) s.catalogue.forest))) s.day h))) last_is)
          ∙ sym (page_closed (press s) s.day u s.catalogue.forest distinct it shown (sym (ap (is_closed_there s.day) node_is) ∙ c))

      -- an open one, by what was read of its path
      pub answers_told : (row : OfficeRow) (marks : List Mark) (units : List UnitValues) (heads : List Head) (text : Bytes)
          → row ≡ office_of s → AreMarks (path (has_id u) s.catalogue.forest) marks
          → is_open_there s.day (find (has_id u) (nodes s.catalogue.forest)) ≡ true
          → units ≡ all_needed s.catalogue.containers marks (path (has_id u) s.catalogue.forest)
          → heads ≡ map head_of (published_units (tops (part_below has_id (Some u) s.catalogue.forest)))
          → text ≡ told_text (coded_way (repository_of row) [] [] units) (all_bare (repository_of row) (identifiers_of units) row.day heads)
          → Text text ≡ answer s (query.Page u)
      answers_told row marks units heads text row_is are opened us hs is =
          let boxes = s.catalogue.containers in
          let way = path (has_id u) s.catalogue.forest in
          let told = map (unit_values boxes) way in
          let read = all_needed boxes marks way in
          let below = all_bare (press s).at (head_identifiers (map head_of way)) s.day (map head_of (published_units (tops (part_below has_id (Some u) s.catalogue.forest)))) in
          let c = open_node opened in
          ap Text (is
          ∙ ap (λ (o : OfficeRow). told_text (coded_way (repository_of o) [] [] units) (all_bare (repository_of o) (identifiers_of units) o.day heads)) row_is
          ∙ ap (λ x. told_text (coded_way (press s).at [] [] x) (all_bare (press s).at (identifiers_of x) s.day heads)) us
          ∙ ap (λ x. told_text (coded_way (press s).at [] [] read) (all_bare (press s).at x s.day heads)) (same_needed_identifiers boxes marks way are ∙ same_identifiers boxes way)
          ∙ enough_read (press s).at boxes (all_bare (press s).at (head_identifiers (map head_of way)) s.day heads) marks way are
          ∙ ap (λ x. told_text (coded_way (press s).at [] [] told) (all_bare (press s).at (head_identifiers (map head_of way)) s.day x)) hs
          ∙ subst (λ (w : List Unit). told_text (coded_way (press s).at [] [] (map (unit_values boxes) w)) below ≡ page (page_of_units (head_alone (press s).at (head_identifiers (map head_of w)) s.day (head_of it.node)) (coded_way (press s).at [] [] (map (unit_values boxes) w)) below)) (sym it.way) (told_same (press s).at boxes s.day it.above it.node below c))
          ∙ sym (page_told (press s) s.day u s.catalogue.forest distinct it shown c)
