-- Which state the tables represent inside a transaction, and what its commit leaves of it.
use Rattle.std.proofs.Common.{◌≡◌, ℕ, true, sym, subst}
use Rattle.sqlite.specs.State.{State}
use Rattle.office_core.specs.State as office
use Rattle.office.proofs.Common.{Database, Forest, IsIn, RepresentsState, Shows, Trees, Version, schema}

module _ (places : Trees → Forest ℕ → Type 0) (version : Version) (s : office.State) where
  -- once a transaction has begun, the office's tables represent the state that the office is in
  pub shown_begun : (a b : State) → Shows a b a.now a.committed true → IsIn places version s a
      → RepresentsState places version b.now s
  shown_begun a b begun is =
      subst (λ (db : Database). RepresentsState places version db s) (sym begun.now_is) (is begun.was_open)

  -- what is committed represents the state that the tables represented
  pub found_committed : (now : Database) → RepresentsState places version now s → (db : Trees) → db ≡ now.trees
      → RepresentsState places version (record { schema = schema version; trees = db }) s
  found_committed now represents db same =
      subst (λ (t : Trees). RepresentsState places version (record { schema = schema version; trees = t }) s) (sym same)
      (subst (λ sc. RepresentsState places version (record { schema = sc; trees = now.trees }) s) represents.catalogue.catalogue.schema_is represents)
