-- Queries among commands change nothing, and each answer is of the state that it finds.
use Rattle.std.proofs.Common.{◌≡◌, List, [], ◌∷◌, ◌++◌, refl, ap, ◌∙◌}
use Rattle.office_core.specs.MixedRuns.{Asked, ToDo, ToTell, Answered, state_after_all, all_told, commands_of}
use Rattle.office_core.specs.MixedRuns.{next_state, replies_of, told_of}
use Rattle.office_core.specs.declared.query.Query.{Query}
use Rattle.office_core.proofs.Common.{State, answer, replies, state_after, step}

pub only_commands : (s : State) (asked : List Asked) → state_after_all s asked ≡ state_after s (commands_of asked)
only_commands s [] = refl
only_commands s (ToDo command ∷ later) = only_commands (step s command).0 later
only_commands s (ToTell query ∷ later) = only_commands s later

pub same_replies : (s : State) (asked : List Asked) → replies_of (all_told s asked) ≡ replies s (commands_of asked)
same_replies s [] = refl
same_replies s (ToDo command ∷ later) = ap (λ l. (step s command).1 ∷ l) (same_replies (step s command).0 later)
same_replies s (ToTell query ∷ later) = same_replies s later

told_then : (s : State) (before later : List Asked)
    → all_told s (before ++ later) ≡ all_told s before ++ all_told (state_after_all s before) later
told_then s [] later = refl
told_then s (asked ∷ before) later = ap (λ l. told_of s asked ∷ l) (told_then (next_state s asked) before later)

pub answered_then : (s : State) (before later : List Asked) (query : Query)
    → all_told s (before ++ ToTell query ∷ later) ≡ all_told s before ++ Answered (answer (state_after s (commands_of before)) query) ∷ all_told (state_after s (commands_of before)) later
answered_then s before later query =
    told_then s before (ToTell query ∷ later)
    ∙ ap (λ t. all_told s before ++ Answered (answer t query) ∷ all_told t later) (only_commands s before)
