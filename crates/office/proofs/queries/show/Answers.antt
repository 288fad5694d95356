use Rattle.std.proofs.Common.{◌≡◌, ℕ, true, refl}
use Rattle.office_core.specs.declared.query.Query.TheVariants as query
use Rattle.office.proofs.Common.{Query, is_public}
use Rattle.office.proofs.queries.show.Goals as goal

-- there are three questions of the public
others : {X : Type 0} (asked : Query) → is_public asked ≡ true → (asked ≡ query.Fonds → ⊥)
    → ((u : ℕ) → asked ≡ query.Aid u → ⊥) → ((u : ℕ) → asked ≡ query.Page u → ⊥) → X
others query.Fonds is fonds aid page = absurd (fonds refl)
others (query.Aid u) is fonds aid page = absurd (aid u refl)
others (query.Page u) is fonds aid page = absurd (page u refl)
others (query.ReaderOrders t) is fonds aid page = absurd (cc)
others (query.Queue c) is fonds aid page = absurd (cc)
others (query.RunSlip r) is fonds aid page = absurd (cc)
others query.IssuedNow is fonds aid page = absurd (cc)
others (query.ReaderPermits t) is fonds aid page = absurd (cc)

pub returns-in_default : goal.returns-in_default
returns-in_default g c =
    others c.args.query c.requires c.in_default.not-Fonds c.in_default.not-Aid c.in_default.not-Page
