-- The statements that change the rows of holdings: what their texts mean, what they leave, and why they fail; and what that is on the whole desk.
use Rattle.std.proofs.Common.{◌≡◌, ℕ, pos, List, [], ◌∷◌, map, filter, codes, true, false, not, Option, Some, None, Ok}
use Rattle.std.proofs.Common.{Result, OnOk, IfErr, nat_eq, refl, ap, ◌∙◌}
use Rattle.std.proofs.lemmas.Map.Views.{any-filter_same}
use Rattle.sqlite.specs.Listing.{understood}
use Rattle.sqlite_rules.specs.Steps.{is_typed}
use Rattle.sqlite_schema.specs.Names.{same_name}
use Rattle.sqlite_tied.specs.Compute.{everything}
use Rattle.sqlite_trees.specs.declared.store.Store as store
use Rattle.sqlite_typing.specs.Types.{accepts_terms}
use Rattle.sqlite_value.specs.Keys.{joined}
use Rattle.office_tables.proofs.Steps.{is_referred_to}
use Rattle.office_tables.proofs.numbered.PutAgain.{put_gone}
use Rattle.office_tables.specs.Schema as tables
use Rattle.desk_store.proofs.Common.{AreByNumber, Binary, Chosen, Command, Compare, Delete, Desk, Eq, FaultsHaveCause}
use Rattle.desk_store.proofs.Common.{Goes, HasCause, HasCleanDisk, HasRows, Held, HoldingRow, Holds, Insert, Int}
use Rattle.desk_store.proofs.Common.{IsLive, IsUnlimited, IsWelcome, Leaves, Means, Null, OnlyTouches, PutsRow, Ran}
use Rattle.desk_store.proofs.Common.{RepresentsDesk, RepresentsDeskAlone, Row, Shelf, State, StoreFault, StoreUpdates}
use Rattle.desk_store.proofs.Common.{Term, Trees, Values, Version, ascending-filter, cast_int, cast_maybe, cast_null}
use Rattle.desk_store.proofs.Common.{choosing, col, cut_then, delete_faults, delete_leaves, delete_only, early, edit_of}
use Rattle.desk_store.proofs.Common.{goes_then, holding, holding_cells, insert_faults, insert_puts, last_cause}
use Rattle.desk_store.proofs.Common.{last_touched, le_refl, list_any, lit, makes_well, number_welcome, on_err_then}
use Rattle.desk_store.proofs.Common.{on_ok_then, only, op2, option_map, or_null, put_down, put_rises, put_row, put_rows}
use Rattle.desk_store.proofs.Common.{references_fit, same_number, schema, state, still_unlimited, touched_again}
use Rattle.desk_store.proofs.Common.{untouched_last, value_rows, with_place, ⊤}
use Rattle.desk_store.proofs.Frames.{with_holdings}

-- ---- a container has no row any more

abbrev pub clear_holding_text : List ℕ
clear_holding_text = codes "DELETE FROM holding WHERE container = ?1"

abbrev with_its_number : List Term
with_its_number = op2 (Compare Eq Binary) (col 1 0) (col 0 0) ∷ []

abbrev pub clear_holding_command : Command
clear_holding_command = Delete 3 (choosing holding with_its_number (col 1 0 ∷ []))

pub clear_holding_means : (v : Version) → Means v clear_holding_text 1 clear_holding_command
unfolding understood everything
clear_holding_means v = record { is = refl; plain = (refl, refl); whole = (le_refl _, refl, refl); unlisted = refl }

holding_unreferred : (v : Version) → is_referred_to (schema v) tables.holding.tree ≡ false
unfolding joined same_name
holding_unreferred v = refl

holding_fits : (v : Version) → references_fit (schema v) holding false true ≡ true
unfolding joined same_name
holding_fits v = refl

module _ (old new : State) (n : ℕ) (v : Version) (has : old.now.schema ≡ schema v) (r : Result Unit StoreFault) (ran : Ran clear_holding_text (Int (pos n) ∷ []) old new r) where
  pub clear_holding_leaves : (xs : List HoldingRow) → Holds holding holding_cells old xs
      → AreByNumber (λ (h : HoldingRow). h.container) xs
      → OnOk r (HasRows tables.holding.tree (map holding_cells (filter (λ (h : HoldingRow). not (nat_eq n h.container)) xs)) old.now new.now)
  clear_holding_leaves xs stored up =
      delete_leaves v 3 holding refl (holding_unreferred v) clear_holding_text with_its_number (col 1 0 ∷ []) (Int (pos n) ∷ []) (clear_holding_means v) old new has holding_cells (λ h. pos h.container) (λ _. refl) xs stored up
      (λ (h : HoldingRow). nat_eq n h.container) (λ h. only (same_number h.container n)) (λ h. Int (pos h.container) ∷ []) (λ _. refl) (λ _. refl) r ran

  pub clear_holding_only : OnOk r (OnlyTouches (tables.holding.tree ∷ []) old.now new.now)
  clear_holding_only = delete_only v 3 holding refl clear_holding_text _ (Int (pos n) ∷ []) old new has (holding_unreferred v) (clear_holding_means v) r ran

  pub clear_holding_faults : IsUnlimited old → IsLive old → IfErr r (HasCause old new)
  clear_holding_faults free live =
      delete_faults v 3 holding refl (holding_unreferred v) clear_holding_text with_its_number (col 1 0 ∷ []) (Int (pos n) ∷ []) (clear_holding_means v) old new has (holding_fits v) refl free live r ran

-- ---- a container has a row

abbrev pub insert_holding_text : List ℕ
insert_holding_text = codes "INSERT INTO holding (container, place, held_by) VALUES (?1, ?2, ?3)"

abbrev pub insert_holding_terms : List Term
insert_holding_terms = col 0 0 ∷ lit Null ∷ col 0 2 ∷ col 0 1 ∷ []

abbrev pub insert_holding_command : Command
insert_holding_command = Insert 3 (Values insert_holding_terms 4)

pub insert_holding_means : (v : Version) → Means v insert_holding_text 3 insert_holding_command
unfolding understood everything
insert_holding_means v = record { is = refl; plain = (refl, refl); whole = (le_refl _, refl, refl); unlisted = refl }

holding_typed : (c p : ℕ) (o : Option ℕ)
    → is_typed holding (holding_cells (record { container = c; place = p; held_by = o })) ≡ true
holding_typed c p None = refl
holding_typed c p (Some o) = refl

holding_welcome : (c p : ℕ) (o : Option ℕ) (xs : List HoldingRow) (v : Version) (db : Trees)
    → db tables.holding.tree ≡ map holding_cells xs → list_any (λ (x : HoldingRow). nat_eq c x.container) xs ≡ false
    → IsWelcome (schema v) db holding (holding_cells (record { container = c; place = p; held_by = o }))
holding_welcome c p o xs v db stored none =
    number_welcome v holding holding_cells (λ x. x.container) (λ _. refl) (record { container = c; place = p; held_by = o }) xs db stored none refl
    (record { typed = holding_typed c p o; present = refl; checked = refl; referred = refl; parents = refl })

module _ (old new : State) (c p : ℕ) (o : Option ℕ) (v : Version) (has : old.now.schema ≡ schema v) where
  abbrev h : HoldingRow
  h = record { container = c; place = p; held_by = o }

  abbrev params : Row
  params = Int (pos c) ∷ Int (pos p) ∷ or_null Int (option_map pos o) ∷ []

  news : (edit_of old.now.trees holding [] Chosen 0 (value_rows params 4 1 insert_holding_terms)).news ≡ holding_cells h ∷ []
  news = rw (cast_int (pos c), cast_null, cast_int (pos p), cast_maybe (option_map pos o)) refl

  pub insert_holding_puts : (r : Result Unit StoreFault) → Ran insert_holding_text params old new r
      → OnOk r (PutsRow tables.holding.tree (holding_cells h) old.now new.now)
  insert_holding_puts = insert_puts v 3 holding refl insert_holding_text insert_holding_terms 4 params (insert_holding_means v) old new has (holding_cells h) news

  values_type : accepts_terms insert_holding_terms params ≡ true
  values_type = elim o as (λ o. accepts_terms insert_holding_terms (Int (pos c) ∷ Int (pos p) ∷ or_null Int (option_map pos o) ∷ []) ≡ true) [ None ↦ refl | Some x ↦ refl ]

  pub insert_holding_faults : (xs : List HoldingRow) → Holds holding holding_cells old xs
      → list_any (λ (x : HoldingRow). nat_eq c x.container) xs ≡ false → IsUnlimited old → IsLive old
      → (r : Result Unit StoreFault) → Ran insert_holding_text params old new r → IfErr r (HasCause old new)
  insert_holding_faults xs stored none =
      insert_faults v 3 holding refl insert_holding_text insert_holding_terms 4 params (insert_holding_means v) old new has (holding_cells h) news values_type (holding_welcome c p o xs v old.now.trees stored none)

-- ---- on the whole desk: its row is taken out, and then put as it is now

abbrev without : ℕ → List HoldingRow → List HoldingRow
without n xs = filter (λ (h : HoldingRow). not (nat_eq n h.container)) xs

none_without : (n : ℕ) (xs : List HoldingRow)
    → list_any (λ (h : HoldingRow). nat_eq n h.container) (without n xs) ≡ false
none_without n xs = any-filter_same (λ (h : HoldingRow). nat_eq n h.container) (λ (h : HoldingRow). not (nat_eq n h.container)) false (λ h is. ap not is) xs

module _ {S : Type 0} (g : store.Ghosts S) (before mid : Held S) (n : ℕ) where
  abbrev a : State
  a = state g before

  abbrev b : State
  b = state g mid

  module _ (goes : Goes a b) (rows : HasCleanDisk b → (xs : List HoldingRow) → Holds holding holding_cells a xs → AreByNumber (λ (x : HoldingRow). x.container) xs → HasRows tables.holding.tree (map holding_cells (without n xs)) a.now b.now)
      (only : HasCleanDisk b → OnlyTouches (tables.holding.tree ∷ []) a.now b.now) where
    pub shelved : StoreUpdates g (tables.holding.tree ∷ []) RepresentsDeskAlone before mid (Ok (tt {0})) (λ _. ⊤) (λ _. ⊤) (with_place n Shelf)
    shelved = makes_well goes only (λ clean beside d shown may.
        let has = rows clean d.holdings shown.holdings shown.holdings_rise in
        with_holdings a.now b.now d shown _ has.only has.are (ascending-filter _ (λ (x : HoldingRow). not (nat_eq n x.container)) d.holdings shown.holdings_rise))

    module _ (after : Held S) (p : ℕ) (o : Option ℕ) where
      abbrev z : State
      z = state g after

      abbrev here : HoldingRow
      here = record { container = n; place = p; held_by = o }

      module _ (r : Result Unit StoreFault) (leaves : Leaves b z r) (puts : HasCleanDisk z → OnOk r (PutsRow tables.holding.tree (holding_cells here) b.now z.now))
          (faults : (xs : List HoldingRow) → Holds holding holding_cells b xs → list_any (λ (x : HoldingRow). nat_eq n x.container) xs ≡ false → FaultsHaveCause b z r) where
        back : HasCleanDisk z → HasCleanDisk b
        back = early leaves.crash

        moved : HasCleanDisk z → PutsRow tables.holding.tree (holding_cells here) b.now z.now → (d : Desk)
            → RepresentsDesk a.now.trees d
            → RepresentsDesk z.now.trees (record d { holdings = put_down here d.holdings })
        moved clean put d shown =
            let has = rows (back clean) d.holdings shown.holdings shown.holdings_rise in
            with_holdings a.now z.now d shown (put_down here d.holdings) (touched_again (tables.holding.tree ∷ []) a.now b.now z.now has.only put.only)
            (put.rows ∙ ap (put_row (holding_cells here)) has.are ∙ put_rows holding_cells (λ (x : HoldingRow). pos x.container) (λ _. refl) here (without n d.holdings)
            ∙ ap (map holding_cells) (put_gone (λ (x : HoldingRow). x.container) here d.holdings shown.holdings_rise))
            (put_rises holding_cells (λ (x : HoldingRow). pos x.container) (λ _. refl) here d.holdings shown.holdings_rise)

        pub placed : StoreUpdates g (tables.holding.tree ∷ []) RepresentsDeskAlone before after r (λ _. ⊤) (λ _. ⊤) (λ d. record d { holdings = put_down here d.holdings })
        placed = record {
          call = record {
            represents_updated = λ clean beside d shown may. on_ok_then r _ _ (λ put. moved clean put d shown) (puts clean);
            only = λ clean. on_ok_then r _ _ (λ put. touched_again (tables.holding.tree ∷ []) a.now b.now z.now (only (back clean)) put.only) (puts clean);
            goes = on_ok_then r _ _ (goes_then goes) leaves.goes;
            aborts = on_err_then r _ _ (cut_then goes.on) leaves.aborts;
            faults = λ beside d shown may kept clean free. last_cause a b z goes.on r leaves.aborts clean (λ cleaner.
                faults (without n d.holdings) (rows cleaner d.holdings shown.holdings shown.holdings_rise).are (none_without n d.holdings) clean (still_unlimited a b goes.on free));
          };
          spares = λ clean. last_touched (tables.holding.tree ∷ []) a b z goes.on only r leaves.aborts clean (untouched_last (tables.holding.tree ∷ []) b z r (leaves.spares clean));
        }
