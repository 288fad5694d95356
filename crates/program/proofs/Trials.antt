-- What a session with a new office on a disk in memory did.
use Rattle.std.proofs.Common.{◌≡◌, ◌∙◌, ℕ, Result, Ok, Err, subst, sym}
use Rattle.std.specs.Prelude.{IfErr, OnOk}
use Rattle.sqlite_pool.proofs.StateLemmas.{clean_is}
use Rattle.sqlite_trees.proofs.Doubt.{no_doubt}
use Rattle.sqlite_wal.specs.Reads.{AreClean}
use Rattle.tree_core.specs.Forest.{Forest}
use Rattle.http_desk.specs.Exchanges.{Talks}
use Rattle.program.specs.declared.faults.Break.{Break}
use Rattle.program.specs.declared.faults.Fault.TheVariants as fault
use Rattle.program.proofs.Common.{AgreesWithCalls, Ended, EndsWell, Fault, FileStore, Founding, Ghosts, HasCleanDisk}
use Rattle.program.proofs.Common.{Held, IsIn, IsSoundOffice, Stream, Talked, Trees, TrialDone, TrialFails, Version}
use Rattle.program.proofs.Common.{ended_by, file_state, founded, has_clean_disk, is_shown, is_still_open, over_files}

-- an office over disks that always return what was written
pub always_clean : {D : Type 0} {g : Ghosts D} → ((log db : D) → AreClean g log db) → (office : Held (FileStore D g))
    → HasCleanDisk (file_state office)
always_clean all office = no_doubt _ (clean_is office.store.pool ∙ all _ _)

module _ {D : Type 0} (g : Ghosts D) (clean : (office : Held (FileStore D g)) → HasCleanDisk (file_state office)) (places : Trees → Forest ℕ → Type 0) (version : Version) (founding : Founding) (reader reader_after out out_after : Stream) (before after : Held (FileStore D g)) (end : Ended) where
  -- what was said to a new office is a session with it
  pub talked : IsSoundOffice (founded founding) → IsIn places version (founded founding) (file_state before)
      → Talks (is_shown (over_files {g = g}) places version) (has_clean_disk (over_files {g = g})) (is_still_open (over_files {g = g})) (λ _ _ _. ⊥) reader.bytes reader_after.bytes out.bytes out_after.bytes before end after
      → AgreesWithCalls reader reader_after out out_after end
      → Talked founding reader reader_after out out_after end
  talked sound shown (read, written, gone, told, through) agrees =
      let (t, is, session) = through (clean after) (founded founding) (sound, shown) in
      (read, written, gone, told, agrees, t, session.0)

-- it ended well, or broke off
pub done_by : (founding : Founding) (reader reader_after out out_after : Stream) (end : Ended) (r : Result (Unit {0}) Fault)
    → Talked founding reader reader_after out out_after end
    → OnOk r (EndsWell end) → OnOk r (TrialDone founding reader reader_after out out_after)
done_by founding reader reader_after out out_after end (Ok u) talk well = (end, well, talk)
done_by founding reader reader_after out out_after end (Err f) talk well = tt

pub broken_by : (founding : Founding) (reader reader_after out out_after : Stream) (end : Ended) (r : Result (Unit {0}) Fault)
    → Talked founding reader reader_after out out_after end
    → IfErr r (λ f. (broken : Break) × (f ≡ fault.Session broken) × (end ≡ ended_by broken))
    → IfErr r (TrialFails founding reader reader_after out out_after)
broken_by founding reader reader_after out out_after end (Ok u) talk why = tt
broken_by founding reader reader_after out out_after end (Err f) talk (broken, is, by) =
    subst (TrialFails founding reader reader_after out out_after) (sym is) (subst (Talked founding reader reader_after out out_after) by talk)
