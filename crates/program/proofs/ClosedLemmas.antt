-- What a store that is closed leaves in its files.
use Rattle.std.proofs.Common.{◌≡◌, ◌∙◌, ap, inl, inr, subst, sym, arith, IsTrue}
use Rattle.sqlite.specs.Closing.{IsCopied}
use Rattle.sqlite_pool.proofs.StateLemmas.{clean_is}
use Rattle.sqlite_store.specs.FileStore as store
use Rattle.sqlite_store.specs.Laws.{settled_at}
use Rattle.sqlite_trees.proofs.Doubt.{no_doubt}
use Rattle.sqlite_trees.specs.View.{IsClean}
use Rattle.sqlite_wal.proofs.LogLemmas.{SeenMayStay}
use Rattle.sqlite_wal.specs.Reads.{AreClean}
use Rattle.program.proofs.Common.{ACheckChangesNothing, AreAsFound, AreInTheFile, Database, FileStore, Files, FindsIn}
use Rattle.program.proofs.Common.{Ghosts, HasCleanDisk, HasLeft, HaveCleanDisk, Held, Hold, Image, IsClosed, Opens}
use Rattle.program.proofs.Common.{Survives, both_ways, cases_Bool, early, file_state}
use Rattle.program.proofs.StoreLemmas.{held_in}

module _ {D : Type 0} {g : Ghosts D} (conn : Held (FileStore D g)) (files : Files D)
    (settled : HasCleanDisk (file_state conn) → IsTrue (file_state conn).is_open → (file_state conn).now ≡ (file_state conn).committed) where
  -- the log was brought over
  pub brought_over : (HaveCleanDisk g files → IsCopied conn files) → HasLeft conn files
  brought_over copied = record {
    clean = λ honest. (copied honest).was_clean;
    settled = settled;
    hold = λ honest opened.
        let there : AreInTheFile g files (file_state conn).committed.trees =
        record { now = (copied honest).seen; later = (copied honest).left } in
        inl (subst (λ (db : Database). AreInTheFile g files db.trees) (sym (settled (copied honest).was_clean opened)) there);
    shut = λ honest is_shut. absurd (both_ways _ is_shut (copied honest).was_open);
  }

  -- the log was not brought over
  pub left_over : SeenMayStay g → (last : FileStore D g) → (files.log, files.db) ≡ store.files last → IsClosed conn last
      → HasLeft conn files
  left_over stays last same closed =
      let sure : (HaveCleanDisk g files → IsClean (store.view last)) =
      λ honest. no_doubt _ (clean_is last.pool ∙ subst (λ (p : D × D). AreClean g p.0 p.1) same honest) in
      let was : (HaveCleanDisk g files → HasCleanDisk (file_state conn)) = λ honest. let is = sure honest in omega (arith, closed.quiet.clean, is) in
      record {
        clean = was;
        settled = settled;
        hold = λ honest opened. inr (
          last,
          sym same,
          λ found may. settled_at conn.store stays found opened (closed.quiet.outcomes found may) ∙ ap (λ (db : Database). db.trees) (sym (settled (was honest) opened)),
        );
        shut = λ honest is_shut. (last, sym same, λ found may. closed.quiet.outcomes found may);
      }

-- what was opened and closed without a commit is as it was found
pub as_found : {D : Type 0} {g : Ghosts D} (image : Image) (found last : Held (FileStore D g)) (files : Files D)
    → SeenMayStay g
    → (HasCleanDisk (file_state found) → Opens (file_state found))
    → (HasCleanDisk (file_state found) → FindsIn image (file_state found))
    → Survives (file_state found) (file_state last) (λ _. ⊥)
    → (HasCleanDisk (file_state last) → IsTrue (file_state last).is_open → (file_state last).now ≡ (file_state found).now)
    → HasLeft last files → AreAsFound g image files
as_found {D} {g} image found last files stays opens finds survives same left = λ honest.
    let clean = left.clean honest in
    let clean_found = early survives clean in
    let opened = opens clean_found in
    let held : Hold g files (file_state found).now.trees = elim (cases_Bool (file_state last).is_open) [
      | inl is_open ↦ subst (λ (db : Database). Hold g files db.trees) (same clean is_open) (left.hold honest is_open)
      | inr is_shut ↦
          let (it, over, only) = left.shut honest is_shut in
          inr (
            it,
            over,
            λ tables may. elim (survives.crash clean tables (only tables may)) [
              | inl before ↦ settled_at found.store stays tables opened.is_open before ∙ ap (λ (db : Database). db.trees) (sym opened.clean)
              | inr none ↦ absurd none
            ],
          )
    ] in
    ((file_state found).now.trees, held_in image (file_state found) opened (finds clean_found), held)

pub changes_nothing : {D : Type 0} (g : Ghosts D) (image : Image) → ACheckChangesNothing g image
changes_nothing g image judged files was honest tables holds =
    let (found, held, hold) = was.stays honest in
    subst (Hold g files) (held.holds tables holds) hold

-- an office is seen as its connection
pub seen_as : {D : Type 0} {g : Ghosts D} (conn office : Held (FileStore D g)) (files : Files D) → conn ≡ office
    → HasLeft conn files → HasLeft office files
seen_as {D} {g} conn office files same left = subst (λ (h : Held (FileStore D g)). HasLeft h files) same left
