-- The codes of the units of a path, one unit further.
use Rattle.std.proofs.Common.{◌≡◌, List, [], ◌∷◌, ◌++◌, sym, ap, ◌∙◌, append_assoc, append-nil}
use Rattle.std.specs.Prelude.{map}
use Rattle.public_queries.proofs.Common.{Bytes, OnPath, Repository, UnitValues, code_of, coded_way, identifier, reverse}
use Rattle.public_queries.proofs.Common.{reverse-append}

pub coded_way-push : (at : Repository) (above : List Bytes) (higher : List OnPath) (us : List UnitValues) (u : UnitValues)
    → coded_way at above higher (us ++ u ∷ []) ≡ record { code = code_of at.country at.repo ((above ++ map (λ (v : UnitValues). identifier v.values) us) ++ identifier u.values ∷ []); unit = u } ∷ coded_way at above higher us
coded_way-push at above higher [] u =
    ap (λ l. record { code = code_of at.country at.repo (l ++ identifier u.values ∷ []); unit = u } ∷ higher) (sym (append-nil above))
coded_way-push at above higher (v ∷ us) u =
    coded_way-push at (above ++ identifier v.values ∷ []) (record { code = code_of at.country at.repo (above ++ identifier v.values ∷ []); unit = v } ∷ higher) us u
    ∙ ap (λ l. record { code = code_of at.country at.repo (l ++ identifier u.values ∷ []); unit = u } ∷ coded_way at above higher (v ∷ us)) (append_assoc above (identifier v.values ∷ []) (map (λ (v : UnitValues). identifier v.values) us))

pub coded_more : (at : Repository) (units : List OnPath) (us : List UnitValues) (u : UnitValues) (code : Bytes)
    → reverse units ≡ coded_way at [] [] us
    → code ≡ code_of at.country at.repo (map (λ (v : UnitValues). identifier v.values) us ++ identifier u.values ∷ [])
    → reverse (units ++ record { code = code; unit = u } ∷ []) ≡ coded_way at [] [] (us ++ u ∷ [])
coded_more at units us u code e is =
    let x : OnPath = record { code = code; unit = u } in
    reverse-append units (x ∷ []) ∙ ap (λ l. x ∷ l) e ∙ ap (λ c. record { code = c; unit = u } ∷ coded_way at [] [] us) is ∙ sym (coded_way-push at [] [] us u)
