-- After a change near a unit, what is out elsewhere is open to the reader who has it, as it was.
use Rattle.std.proofs.Common.{◌≡◌, ℕ, ℤ, Bool, true, false, cond, not, List, [], ◌∷◌, ◌++◌, map, Option, Some, None}
use Rattle.std.proofs.Common.{nat_eq, refl, sym, ap, ap₂, ◌∙◌}
use Rattle.std.specs.Prelude.{◌&&◌, ◌||◌, IsPermutation, filter}
use Rattle.catalogue_core.specs.ContainerContents.{is_open}
use Rattle.office_core.specs.State.{Permit, State}
use Rattle.refinement.proofs.Judged.{judged_now}
use Rattle.access.proofs.Common.{AllByRecursion, BoxKey, CanBeJudged, Empty, Forest, HasDistinctIds, IsSoundOffice}
use Rattle.access.proofs.Common.{Node, Order, OthersAreOpen, Unit, all_append, and_parts, any_agree, branch}
use Rattle.access.proofs.Common.{branch-each, cut, distinct, each, false≢true, fun_ext, has_id, is_kept_from_holder}
use Rattle.access.proofs.Common.{is_named_near, is_permitted, is_same_box, is_some_there, is_withheld_from, last_or}
use Rattle.access.proofs.Common.{list_all, list_any, list_any-IsPermutation, list_any-map, map-append, names_container}
use Rattle.access.proofs.Common.{names_some, near, nodes, nth, opens, option_to_list, order_out, path, path-each}
use Rattle.access.proofs.Common.{some_and}
use Rattle.access.proofs.BranchesApart.{cut_alike, fewer, lying, lying_without, names_box, open_without, some_named}
use Rattle.access.proofs.NamedContainers.{names_one}
use Rattle.access.proofs.NearRows.{all_near, last_of_others}
use Rattle.access.proofs.OpenByPermits.{IsAlike, open_alike}

abbrev id_of : Unit → ℕ
id_of unit = unit.id

-- What is open, and named by no unit near this one in the new forest, stays open.
abbrev pub StaysOpen : ℕ → Forest Unit → Forest Unit → Type 0
StaysOpen u old new = (box : BoxKey) (permitted : ℕ → Bool) (day : ℤ) → list_any (names_box box) (near u new) ≡ false → is_open old box permitted day ≡ true → is_open new box permitted day ≡ true

-- ---- which containers are named, by their numbers

abbrev pub IsKnown : List BoxKey → Unit → Type 0
IsKnown cs unit = list_all (λ b. list_any (is_same_box b) cs) unit.values.boxes ≡ true

pub named_alike : (cs : List BoxKey) → distinct cs ≡ cs → (n : ℕ) (box : BoxKey) → nth cs n ≡ Some box
    → (units : List Unit) → AllByRecursion (IsKnown cs) units
    → list_any (names_container cs n) units ≡ list_any (names_box box) units
named_alike cs apart n box is [] known = refl
named_alike cs apart n box is (unit ∷ units) known =
    ap₂ ◌||◌ (names_one cs apart n unit.values.boxes known.0 ∙ ap (λ o. list_any (λ b. some_and (λ box. is_same_box box b) o) unit.values.boxes) is) (named_alike cs apart n box is units known.1)

named_near : (s : State) → CanBeJudged s → (u n : ℕ) (box : BoxKey) → nth s.catalogue.containers n ≡ Some box
    → is_named_near u s n ≡ list_any (names_box box) (near u s.catalogue.forest)
named_near s judged u n box is =
    let f = s.catalogue.forest in
    let P = IsKnown s.catalogue.containers in
    let known = judged.containers.known in
    named_alike s.catalogue.containers judged.containers.apart n box is (near u f) (all_near P u f known)

-- ---- what is out elsewhere

-- the units are others, or in other places, and there may be fewer permits
module _ (s : State) (sound : IsSoundOffice s) (f : Forest Unit) (permits : ℕ → List Permit) where
  abbrev changed : State
  changed = record s { catalogue = record s.catalogue { forest = f }; permits = permits }

  -- the container, if it is one, stays open to those to whom it is
  abbrev pub StaysOpenTo : ℕ → Type 0
  StaysOpenTo c =
      (t : ℕ) (box : BoxKey) → nth s.catalogue.containers c ≡ Some box → is_open s.catalogue.forest box (is_permitted s.day (s.permits t)) s.day ≡ true → is_open f box (is_permitted s.day (permits t)) s.day ≡ true

  pub still_open : (c : ℕ) → StaysOpenTo c → is_kept_from_holder changed c ≡ false
  still_open c stays = out (order_out (s.place c)) refl
    where
      seen : (t : ℕ) (o : Option BoxKey) → nth s.catalogue.containers c ≡ o
          → some_and (λ box. is_open s.catalogue.forest box (is_permitted s.day (s.permits t)) s.day) o ≡ true
          → some_and (λ box. is_open f box (is_permitted s.day (permits t)) s.day) o ≡ true
      seen t None is was = absurd (false≢true was)
      seen t (Some box) is was = stays t box is was

      ordered : (o : ℕ) → order_out (s.place c) ≡ Some o → (x : Option Order) → nth s.orders o ≡ x
          → some_and (λ (order : Order). not (opens changed order.ticket c)) x ≡ false
      ordered o is None known = refl
      ordered o is (Some order) known =
          ap not (seen order.ticket (nth s.catalogue.containers c) refl (sound.sound.desk.places.holders c o order is known).may_see)

      out : (x : Option ℕ) → order_out (s.place c) ≡ x
          → some_and (λ o. some_and (λ (order : Order). not (opens changed order.ticket c)) (nth s.orders o)) x ≡ false
      out None is = refl
      out (Some o) is = ordered o is (nth s.orders o) refl

-- where only units change
pub others_open : (s : State) (sound : IsSoundOffice s) (f : Forest Unit) (u : ℕ)
    → (let new : State = record s { catalogue = record s.catalogue { forest = f } } in CanBeJudged new)
    → StaysOpen u s.catalogue.forest f
    → (let new : State = record s { catalogue = record s.catalogue { forest = f } } in OthersAreOpen u new)
others_open s sound f u judged stays c far =
    let new : State = record s { catalogue = record s.catalogue { forest = f } } in
    still_open s sound f s.permits c (λ t box is was. stays box (is_permitted s.day (s.permits t)) s.day (sym (named_near new judged u c box is) ∙ far) was)

-- ---- permits that are taken back

-- A container that no unit near this one names stays open where what is left of the permits is the same for all units but
-- those of the branch.
pub stays_permitted : (s : State) → IsSoundOffice s → (u c : ℕ) → is_named_near u s c ≡ false → (box : BoxKey)
    → nth s.catalogue.containers c ≡ Some box → (permitted left : ℕ → Bool)
    → AllByRecursion (IsAlike permitted left) (nodes (cut (has_id u) s.catalogue.forest))
    → is_open s.catalogue.forest box permitted s.day ≡ is_open (cut (has_id u) s.catalogue.forest) box left s.day
stays_permitted s sound u c far box is permitted left alike =
    let judged = judged_now s sound in
    open_without s.catalogue.forest u box permitted s.day judged.units (sym (named_near s judged u c box is) ∙ far)
    ∙ open_alike permitted left (cut (has_id u) s.catalogue.forest) box s.day alike

-- ---- units that change where they are

module _ (g : Unit → Unit) (u : ℕ) (f : Forest Unit) (ids : (unit : Unit) → (g unit).id ≡ unit.id) (boxes : (unit : Unit) → (g unit).values.boxes ≡ unit.values.boxes) where
  same_test : (λ (unit : Unit). has_id u (g unit)) ≡ has_id u
  same_test = fun_ext (λ (unit : Unit). ap (nat_eq u) (ids unit))

  names_alike : (units : List Unit) → AllByRecursion (λ unit. names_some (g unit) ≡ names_some unit) units
  names_alike [] = tt
  names_alike (unit ∷ units) = (ap is_some_there (boxes unit), names_alike units)

  near_alike : near u (each g f) ≡ map g (near u f)
  near_alike =
      let way : List Unit = path (has_id u) f in
      ap₂ ◌++◌ (branch-each (has_id u) g f ∙ ap (λ is. map g (branch is f)) same_test)
      (ap (λ units. option_to_list (last_or None (filter names_some units))) (path-each (has_id u) g f ∙ ap (λ is. map g (path is f)) same_test)
      ∙ last_of_others g names_some names_some None way (names_alike way))
      ∙ sym (map-append g (branch (has_id u) f) (option_to_list (last_or None (filter names_some way))))

  named_as_before : (box : BoxKey) → list_any (names_box box) (near u (each g f)) ≡ list_any (names_box box) (near u f)
  named_as_before box =
      ap (list_any (names_box box)) near_alike
      ∙ list_any-map (names_box box) g (near u f)
      ∙ any_agree (λ unit. names_box box (g unit)) (names_box box) (near u f) (λ unit. ap (list_any (is_same_box box)) (boxes unit))

  -- all that change are of the branch
  pub stays_changed : HasDistinctIds (each id_of f) → HasDistinctIds (each id_of (each g f))
      → AllByRecursion (λ (unit : Unit). g unit ≡ unit) (nodes (cut (has_id u) f)) → StaysOpen u f (each g f)
  stays_changed once still_once all box permitted day far was =
      open_without (each g f) u box permitted day still_once far
      ∙ ap (λ h. is_open h box permitted day) (cut_alike g u f ids all)
      ∙ sym (open_without f u box permitted day once (sym (named_as_before box) ∙ far))
      ∙ was

-- ---- units that are in other places

-- the same units, in the same places but for the branch
pub stays_moved : (u : ℕ) (old new : Forest Unit) → HasDistinctIds (each id_of new)
    → cut (has_id u) new ≡ cut (has_id u) old → IsPermutation (nodes old) (nodes new) → StaysOpen u old new
unfolding is_open
stays_moved u old new once cuts same box permitted day far was =
    let seen : List Unit → Bool = λ way. not (is_withheld_from permitted day way) in
    let parts = and_parts (is_some_there (lying box [] old)) (list_all seen (lying box [] old)) was in
    let some : is_some_there (lying box [] (cut (has_id u) new)) ≡ true =
    ap is_some_there (sym (lying_without new u box once far))
    ∙ some_named box [] new refl
    ∙ sym (list_any-IsPermutation (names_box box) (nodes old) (nodes new) same)
    ∙ sym (some_named box [] old refl)
    ∙ parts.0 in
    let all : list_all seen (lying box [] (cut (has_id u) new)) ≡ true =
    ap (λ f. list_all seen (lying box [] f)) cuts ∙ fewer box u seen [] old parts.1 in
    open_without new u box permitted day once far
    ∙ ap₂ ◌&&◌ some all

-- what is left beside a branch is not its unit
pub none_left : (u : ℕ) (f : Forest Unit)
    → AllByRecursion (λ (unit : Unit). has_id u unit ≡ false) (nodes (cut (has_id u) f))
none_left u Empty = tt
none_left u (Node a c o) = at (has_id u a) refl (none_left u c) (none_left u o)
  where
    at : (b : Bool) → has_id u a ≡ b
        → AllByRecursion (λ (unit : Unit). has_id u unit ≡ false) (nodes (cut (has_id u) c))
        → AllByRecursion (λ (unit : Unit). has_id u unit ≡ false) (nodes (cut (has_id u) o))
        → AllByRecursion (λ (unit : Unit). has_id u unit ≡ false) (nodes (cond b (cut (has_id u) o) (Node a (cut (has_id u) c) (cut (has_id u) o))))
    at true e in_c in_o = in_o
    at false e in_c in_o = (e, all_append (λ (unit : Unit). has_id u unit ≡ false) (nodes (cut (has_id u) c)) (nodes (cut (has_id u) o)) in_c in_o)
