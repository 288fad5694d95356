-- Equal public parts give equal public answers.
use Rattle.std.proofs.Common.{◌≡◌, ℕ, cond, true, List, [], ◌∷◌, ◌++◌, refl, sym, ap, ◌∙◌}
use Rattle.isad_core.specs.PrintedDescriptions.{aid, head_line, line}
use Rattle.isad_core.specs.declared.display.Shown.{Shown}
use Rattle.catalogue_core.proofs.PagesAlike.{AllAlike, each_alike, path_alike, tree_alike, shown_alike, with_boxes}
use Rattle.catalogue_core.proofs.PagesAlike.{beside_alike, page_at_alike, alike_unit}
use Rattle.catalogue_core.specs.Aids.{Repository}
use Rattle.office_core.specs.declared.query.Answer.TheVariants.{Text, Unknown}
use Rattle.office_core.specs.declared.query.Query.{Query}
use Rattle.office_core.specs.declared.query.Query.TheVariants as query
use Rattle.office_core.proofs.Common.{AnswersAlike, BoxKey, Forest, PublicUnit, SamePublic, State, UnknownUnit}
use Rattle.office_core.proofs.Common.{above_last, answer, decimal, flat_map, has, has_public_number, is_public, nodes}
use Rattle.office_core.proofs.Common.{page_answer, path, press, public_answer, public_forest, tree}

fonds_alike : (at : Repository) (xs ys : List BoxKey) (f : Forest PublicUnit) → AllAlike xs ys (nodes f)
    → public_answer (with_boxes at xs) f query.Fonds ≡ public_answer (with_boxes at ys) f query.Fonds
fonds_alike at xs ys f h =
    ap (λ tops. Text (flat_map (λ (top : ℕ × Shown). line (decimal top.0 ++ 32 ∷ head_line top.1)) tops)) (beside_alike at xs ys [] f h)

aid_alike : (at : Repository) (xs ys : List BoxKey) (u : ℕ) (f : Forest PublicUnit) → AllAlike xs ys (nodes f)
    → public_answer (with_boxes at xs) f (query.Aid u) ≡ public_answer (with_boxes at ys) f (query.Aid u)
aid_alike at xs ys u f h =
    ap (λ units. cond (has (has_public_number u) f) (Text (aid units)) (Unknown UnknownUnit))
    (shown_alike at xs ys (above_last (path (has_public_number u) f)) 0 (tree (has_public_number u) f) (tree_alike (alike_unit xs ys) (has_public_number u) f h))

page_alike : (at : Repository) (xs ys : List BoxKey) (u : ℕ) (f : Forest PublicUnit) → AllAlike xs ys (nodes f)
    → public_answer (with_boxes at xs) f (query.Page u) ≡ public_answer (with_boxes at ys) f (query.Page u)
page_alike at xs ys u f h =
    ap page_answer
    (page_at_alike at xs ys (path (has_public_number u) f) (tree (has_public_number u) f) (path_alike (alike_unit xs ys) (has_public_number u) f h) (tree_alike (alike_unit xs ys) (has_public_number u) f h))

public_alike : (at : Repository) (xs ys : List BoxKey) (f : Forest PublicUnit) → AllAlike xs ys (nodes f)
    → (asked : Query) → is_public asked ≡ true
    → public_answer (with_boxes at xs) f asked ≡ public_answer (with_boxes at ys) f asked
public_alike at xs ys f h query.Fonds p = fonds_alike at xs ys f h
public_alike at xs ys f h (query.Aid u) p = aid_alike at xs ys u f h
public_alike at xs ys f h (query.Page u) p = page_alike at xs ys u f h
public_alike at xs ys f h _ p = cc

pub public_is : (s : State) (asked : Query) → is_public asked ≡ true
    → answer s asked ≡ public_answer (press s) (public_forest s) asked
public_is s asked p = rw p refl

pub answers_alike : (s t : State) → SamePublic s t → AnswersAlike s t
answers_alike s t same asked public =
    let here : Repository = record { country = s.settings.country; repo = s.settings.repo } in
    let there : Repository = record { country = t.settings.country; repo = t.settings.repo } in
    let one : here ≡ there =
    ap (λ c. record { country = c; repo = s.settings.repo }) same.country
    ∙ ap (λ r. record { country = t.settings.country; repo = r }) same.repo in
    let h = each_alike s.catalogue.containers t.catalogue.containers (nodes (public_forest s)) same.numbers in
    let move : (question : Query) → public_answer (with_boxes here t.catalogue.containers) (public_forest s) question ≡ public_answer (with_boxes there t.catalogue.containers) (public_forest t) question =
    λ question. ap (λ at. public_answer (with_boxes at t.catalogue.containers) (public_forest s) question) one
    ∙ ap (λ f. public_answer (with_boxes there t.catalogue.containers) f question) same.forest in
    public_is s asked public
    ∙ public_alike here s.catalogue.containers t.catalogue.containers (public_forest s) h asked public
    ∙ move asked
    ∙ sym (public_is t asked public)
