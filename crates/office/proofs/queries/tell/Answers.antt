use Rattle.std.proofs.Common.{◌≡◌, ℕ, false, refl}
use Rattle.office_core.specs.declared.query.Query.TheVariants as query
use Rattle.office.proofs.Common.{Query, is_public}
use Rattle.office.proofs.queries.tell.Goals as goal

-- there are five questions of the desk
others : {X : Type 0} (asked : Query) → is_public asked ≡ false → ((t : ℕ) → asked ≡ query.ReaderOrders t → ⊥)
    → ((k : ℕ) → asked ≡ query.Queue k → ⊥) → ((r : ℕ) → asked ≡ query.RunSlip r → ⊥) → (asked ≡ query.IssuedNow → ⊥)
    → ((t : ℕ) → asked ≡ query.ReaderPermits t → ⊥) → X
others query.Fonds is orders queue slip issued permits = absurd (cc)
others (query.Aid u) is orders queue slip issued permits = absurd (cc)
others (query.Page u) is orders queue slip issued permits = absurd (cc)
others (query.ReaderOrders t) is orders queue slip issued permits = absurd (orders t refl)
others (query.Queue k) is orders queue slip issued permits = absurd (queue k refl)
others (query.RunSlip r) is orders queue slip issued permits = absurd (slip r refl)
others query.IssuedNow is orders queue slip issued permits = absurd (issued refl)
others (query.ReaderPermits t) is orders queue slip issued permits = absurd (permits t refl)

pub returns-in_default : goal.returns-in_default
returns-in_default g c =
    others c.args.query c.requires c.in_default.not-ReaderOrders c.in_default.not-Queue c.in_default.not-RunSlip c.in_default.not-IssuedNow c.in_default.not-ReaderPermits
