use Rattle.std.proofs.Common.{◌≡◌, ℕ, Ok, List, [], ◌∷◌, map, take, slice_get, refl, ap, ◌∙◌}
use Rattle.catalogue_statements.proofs.Common.{BoxKey, IfOk-weaker, known_query, looks_up}
use Rattle.catalogue_statements.proofs.ContainerStatements.{last_container_means, last_container_finds}
use Rattle.catalogue_statements.proofs.ContainerStatements.{last_container_faults}
use Rattle.catalogue_statements.proofs.containers.last_container.Goals as goal

first_of_one : (xs : List ℕ) → slice_get (take 1 xs) 0 ≡ slice_get xs 0
first_of_one [] = refl
first_of_one (x ∷ xs) = refl

pub find_one-requires : goal.find_one-requires
find_one-requires g c = known_query (last_container_means g.P.Versioned.version)

pub returns : goal.returns
returns g c =
    looks_up g.P.Versioned.version c.find_one.ensures.reads c.find_one.ensures.ran
    (λ v has found xs stored _. IfOk-weaker c.find_one.result _ _ (λ first it.
    let all = last_container_finds _ _ v has xs stored (λ l. l) (Ok it.0) it.1 in
    (all.0, all.1, it.2 ∙ ap (λ l. slice_get l 0) all.2 ∙ first_of_one (map (λ (c : ℕ × BoxKey). c.0) all.0))) found)
    (λ v has missed xs stored _ free. last_container_faults _ _ v has xs stored (λ _. []) c.find_one.result free missed)
