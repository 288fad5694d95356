-- What the files hold once a command is done.
use Rattle.std.proofs.Common.{IsTrue, [], ◌∷◌, inl, inr, refl}
use Rattle.http_desk.specs.BusyMessages.{WasBusyWith}
use Rattle.program.proofs.Common.{AreTablesAfter, Ghosts, HoldState, Image, WereBusyWith, WhatWasBroughtOverIsHeld}
use Rattle.program.proofs.Common.{WhatWasMadeIsHeld, WhatWasNotMadeIsLeft, WhatWasSaidIsHeld, WhatWasServedIsHeld}
use Rattle.program.proofs.Common.{WhatWasTakenInIsHeld, early, file_state}
use Rattle.program.proofs.CrashLemmas.{found_such, left_only, open_so}
use Rattle.program.proofs.HeadlineLemmas.{held_so}

module _ {D : Type 0} (g : Ghosts D) (image : Image) where
  pub made : WhatWasMadeIsHeld g image
  made founding files it honest =
      let clean = it.left.clean honest in
      held_so g image it.office files _ it.left honest (it.represents clean (it.kept clean)) (it.kept clean)

  pub taken_in : WhatWasTakenInIsHeld g image
  taken_in source done files it honest s holds sound =
      let clean = it.closed.clean honest in
      let before = early it.crash clean in
      let opened = it.kept clean refl in
      let after = (it.step clean s sound ((it.opened before).left s holds)).1 in
      held_so g image it.after files _ it.closed honest (after opened) opened

  pub said : WhatWasSaidIsHeld g image
  said reader reader_after out out_after end files it honest s holds sound =
      let clean = it.closed.clean honest in
      let found = it.opened (it.intact clean) in
      let (t, kept, talked) = it.session clean s (sound, found.left s holds) in
      let held : IsTrue (file_state it.after).is_open → HoldState g files t = λ opened. held_so g image it.after files t it.closed honest (kept.1 opened) opened in (
        t,
        talked.0,
        λ either. elim either as (λ _. HoldState g files t) [ inl leaves ↦ held (talked.1 leaves) | inr opened ↦ held opened ],
        λ shut. left_only g it.after files (AreTablesAfter (WasBusyWith talked.0) t) it.closed honest shut (λ db may. elim (talked.2 [] (open_so it.office s found.kept)) [
          | inl still ↦ found_such (WasBusyWith talked.0) [] tt t db (still shut db may)
          | inr (command, busy, after) ↦ found_such (WasBusyWith talked.0) (command ∷ []) (busy, tt) t db (after shut db may)
        ]),
      )

  pub served : WhatWasServedIsHeld g image
  served connections all told told_after files it honest s holds sound =
      let clean = it.closed.clean honest in
      let found = it.opened (it.intact clean) in
      let (t, kept, served) = it.sessions.sessions clean s (sound, found.left s holds) in
      let held : IsTrue (file_state it.after).is_open → HoldState g files t = λ opened. held_so g image it.after files t it.closed honest (kept.1 opened) opened in (
        t,
        served.0,
        λ either. elim either as (λ _. HoldState g files t) [ inl leaves ↦ held (served.1 leaves) | inr opened ↦ held opened ],
        λ shut.
            let (more, busy, after) = served.2 [] (open_so it.office s found.kept) in
            let Busy = WereBusyWith it.sessions.connections s t served.0 in
            left_only g it.after files (AreTablesAfter Busy t) it.closed honest shut (λ db may. found_such Busy more busy t db (after shut db may)),
      )

  pub not_made : WhatWasNotMadeIsLeft g image
  not_made founding fault files it honest shut =
      left_only g it.after files _ it.closed honest shut (it.crash.crash (it.closed.clean honest))

  pub brought_over : WhatWasBroughtOverIsHeld g image
  brought_over files it honest =
      let clean = it.closed.clean honest in
      let before = early it.crash clean in
      held_so g image it.after files _ it.closed honest ((it.same clean).represents (it.is_store before).1) (it.kept clean)
