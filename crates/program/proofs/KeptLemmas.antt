-- What a file held when it was opened, and the office that was found there.
use Rattle.std.proofs.Common.{◌≡◌, IsTrue, subst, subst₂, sym}
use Rattle.sqlite.specs.State as store
use Rattle.office_core.specs.State.{State}
use Rattle.adoption.specs.Verdicts.{IsVerdict}
use Rattle.adoption.specs.declared.verdict.Verdict.TheVariants as verdict
use Rattle.program.proofs.Common.{AreHeld, Database, HoldsOffice, Image, IsIn, IsInTheStateThatWasLeft}
use Rattle.program.proofs.Common.{RepresentsSpanRows, RepresentsState, Second}

-- a file holds one database at most
pub left_so : (image : Image) (s : State) (found : Database) → IsInTheStateThatWasLeft image s found
left_so image s found (tables, holds, represents) held verdict =
    subst₂ (λ k t. RepresentsState RepresentsSpanRows Second (record { schema = k; trees = t }) s) (sym verdict.0.schema_is) (sym (held.holds tables holds)) represents

-- so the office that is found there is in the state that was left
pub opens_so : (image : Image) (found : Database) (at : store.State) → AreHeld image found.trees
    → IsVerdict Second found verdict.Sound → (IsTrue at.is_open → at.now ≡ found)
    → (s : State) → HoldsOffice image s → IsIn RepresentsSpanRows Second s at
opens_so image found at held sound same s left opened =
    subst (λ (db : Database). RepresentsState RepresentsSpanRows Second db s) (sym (same opened)) (left_so image s found left held sound)
