-- Two calls that change the desk, one after the other.
use Rattle.std.proofs.Common.{◌≡◌, ℕ, true, nat_eq, List, Ok, Err, Result}
use Rattle.std.specs.Prelude.{OnErr, OnOk}
use Rattle.sqlite_trees.specs.declared.store.Store as store
use Rattle.desk_store.proofs.Common.{Desk, Goes, Held, IsAborted, IsLegible, RepresentsDeskAlone, State, StoreFault}
use Rattle.desk_store.proofs.Common.{Survives, Updates, cut_then, early, excused_then, goes_then, list_all, list_any}
use Rattle.desk_store.proofs.Common.{on_err_then, on_ok_then, state, touched_again, touched_wider, ⊤}

went : {X E : Type 0} (r : Result X E) (a b : State) → OnOk r (Goes a b) → OnErr r (IsAborted a b)
    → Survives a b (λ _. ⊥)
went (Ok x) a b goes cut = goes.on.crash
went (Err e) a b goes cut = cut.crash

module _ {S X Y : Type 0} (g : store.Ghosts S) (before mid after : Held S) (done : Y) (r : Result X StoreFault) (may later : Desk → Type 0) (first second : Desk → Desk) (one two touched : List ℕ) where
  abbrev a : State
  a = state g before

  abbrev b : State
  b = state g mid

  abbrev c : State
  c = state g after

  -- the second has a cause for each of its faults on every desk
  pub makes_then : Updates g one RepresentsDeskAlone before mid (Ok done) may IsLegible first
      → Updates g two RepresentsDeskAlone mid after r later (λ _. ⊤) second
      → ((d : Desk) → may d → later (first d))
      → list_all (λ t. list_any (nat_eq t) touched) one ≡ true → list_all (λ t. list_any (nat_eq t) touched) two ≡ true
      → Updates g touched RepresentsDeskAlone before after r may IsLegible (λ d. second (first d))
  makes_then begins goes_on may_then these those =
      let left = went r b c goes_on.goes goes_on.aborts in
      record {
        represents_updated = λ clean s d shown may. goes_on.represents_updated clean s (first d) (begins.represents_updated (early left clean) s d shown may) (may_then d may);
        only = λ clean. on_ok_then r _ _
            (λ only. touched_again touched a.now b.now c.now (touched_wider one touched a.now b.now these (begins.only (early left clean))) (touched_wider two touched b.now c.now those only))
            (goes_on.only clean);
        goes = on_ok_then r _ _ (goes_then begins.goes) goes_on.goes;
        aborts = on_err_then r _ _ (cut_then begins.goes.on) goes_on.aborts;
        faults = λ s d shown may kept. excused_then _ begins.goes.on r goes_on.aborts (λ clean. goes_on.faults s (first d) (begins.represents_updated clean s d shown may) (may_then d may) tt);
      }
