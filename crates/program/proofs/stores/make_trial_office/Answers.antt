use Rattle.std.proofs.Common.{IsTrue, refl, subst, sym}
use Rattle.program.proofs.Common.{IsIn, RepresentsSpanRows, Second, file_state, founded}
use Rattle.program.proofs.Trials.{always_clean}
use Rattle.program.proofs.stores.make_trial_office.Goals as goal

pub known_sound-requires : goal.known_sound-requires
known_sound-requires c = record {
  sound = λ clean. (founded c.args.settings, (c.in-Ok-create.ensures.sound, c.in-Ok-create.ensures.represents clean));
}

pub returns-in-Ok-create-clause-founded : goal.returns-in-Ok-create-clause-founded
returns-in-Ok-create-clause-founded c =
    subst (λ office. IsIn RepresentsSpanRows Second (founded c.args.settings) (file_state office)) (sym c.known_sound.ensures.same)
    (c.in-Ok-create.ensures.represents (always_clean (λ _ _. refl) c.in-Ok-create.office))

pub returns-in-Ok-create-clause-kept : goal.returns-in-Ok-create-clause-kept
returns-in-Ok-create-clause-kept c =
    subst (λ office. IsTrue (file_state office).is_open) (sym c.known_sound.ensures.same)
    (c.in-Ok-create.ensures.kept (always_clean (λ _ _. refl) c.in-Ok-create.office))
