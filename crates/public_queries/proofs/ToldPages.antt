-- The page of a unit that is not closed: its head line, made of its values, is the one that is made of its head.
use Rattle.std.proofs.Common.{◌≡◌, ℕ, false, cond, List, [], ◌∷◌, ◌++◌, Option, Some, None, refl, sym, ap, ◌∙◌}
use Rattle.std.specs.Prelude.{map}
use Rattle.public_queries.proofs.Common.{BoxKey, Closed, Full, OnPath, Repository, Shown, Unit, bare_body, code_of}
use Rattle.public_queries.proofs.Common.{coded_way, head_alone, head_identifiers, head_of, identifier, identifiers_of}
use Rattle.public_queries.proofs.Common.{is_later, is_unit_closed, map-append, page, page_of_units, title, told_head}
use Rattle.public_queries.proofs.Common.{told_text, unit_values, ℤ}
use Rattle.public_queries.proofs.CodedWays.{coded_way-push}

-- a unit that is not closed shows its title
bare_full : (day : ℤ) (until : Option ℤ) → is_later day until ≡ false → Full [] [] ≡ bare_body day until
bare_full day None e = refl
bare_full day (Some d) e = sym (ap (λ b. cond b (Closed d) (Full [] [])) e)

pub same_identifiers : (boxes : List BoxKey) (w : List Unit)
    → identifiers_of (map (unit_values boxes) w) ≡ head_identifiers (map head_of w)
same_identifiers boxes [] = refl
same_identifiers boxes (a ∷ w) = ap (λ l. identifier a.values ∷ l) (same_identifiers boxes w)

identifiers_push : (boxes : List BoxKey) (above : List Unit) (node : Unit)
    → identifiers_of (map (unit_values boxes) above) ++ identifier node.values ∷ [] ≡ head_identifiers (map head_of (above ++ node ∷ []))
identifiers_push boxes [] node = refl
identifiers_push boxes (a ∷ above) node = ap (λ l. identifier a.values ∷ l) (identifiers_push boxes above node)

pub text_of_first : (units : List OnPath) (unit : OnPath) (higher : List OnPath) (below : List (ℕ × Shown))
    → units ≡ unit ∷ higher → told_text units below ≡ page (page_of_units (told_head unit) units below)
text_of_first units unit higher below e =
    ap (λ l. told_text l below) e ∙ sym (ap (λ l. page (page_of_units (told_head unit) l below)) e)

pub told_same : (at : Repository) (boxes : List BoxKey) (day : ℤ) (above : List Unit) (node : Unit) (below : List (ℕ × Shown))
    → is_unit_closed day node ≡ false
    → told_text (coded_way at [] [] (map (unit_values boxes) (above ++ node ∷ []))) below
    ≡ page (page_of_units (head_alone at (head_identifiers (map head_of (above ++ node ∷ []))) day (head_of node)) (coded_way at [] [] (map (unit_values boxes) (above ++ node ∷ []))) below)
told_same at boxes day above node below opened =
    let us = map (unit_values boxes) above in
    let u = unit_values boxes node in
    let units = coded_way at [] [] (map (unit_values boxes) (above ++ node ∷ [])) in
    let first : OnPath = record { code = code_of at.country at.repo (identifiers_of us ++ identifier node.values ∷ []); unit = u } in
    let is : units ≡ first ∷ coded_way at [] [] us =
    ap (coded_way at [] []) (map-append (unit_values boxes) above (node ∷ [])) ∙ coded_way-push at [] [] us u in
    text_of_first units first (coded_way at [] [] us) below is
    ∙ ap (λ ids. page (page_of_units (let h : Shown = record { depth = 0; code = code_of at.country at.repo ids; level = node.values.level; title = title node.values; body = Full [] [] } in h) units below)) (identifiers_push boxes above node)
    ∙ ap (λ b. page (page_of_units (let h : Shown = record { depth = 0; code = code_of at.country at.repo (head_identifiers (map head_of (above ++ node ∷ []))); level = node.values.level; title = title node.values; body = b } in h) units below)) (bare_full day node.until opened)
