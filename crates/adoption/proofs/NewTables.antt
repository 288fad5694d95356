-- The tables of a new office, which are plain.
use Rattle.std.proofs.Common.{◌≡◌, [], IsTrue, refl}
use Rattle.sqlite.specs.State.{State}
use Rattle.office_tables.specs.Creation.{IsMaking}
use Rattle.adoption.proofs.Common.{desk_schema, desk_tables, no_schema, schema}

-- ---- as they are made

pub making : (a : State) → a.now.schema ≡ no_schema → IsTrue a.in_transaction → IsMaking [] no_schema a.now a
making a blank inside clean = (record { schema_is = blank; kept = tt; empty = tt }, inside)

-- the desk's tables are there, and others are made beside them
pub made_desk : (a b : State) → IsMaking [] desk_schema a.now b → IsMaking desk_tables desk_schema b.now b
made_desk a b made clean =
    let it = made clean in
    (record { schema_is = it.0.schema_is; kept = (refl, (refl, (refl, (refl, (refl, (refl, (refl, tt))))))); empty = tt }, it.1)
