-- What the definitions of the tables make.
use Rattle.std.proofs.Common.{◌≡◌, ℕ, List, [], ◌∷◌, codes, slice_get, ◌++◌, drop, length, false, cond, Some, None, Ok}
use Rattle.std.proofs.Common.{inl, inr, refl, sym, ap, subst, ◌∙◌}
use Rattle.std.specs.Str.{chars, is_utf8}
use Rattle.sqlite.specs.Change.{created, indexed, next_tree, KeepsRows}
use Rattle.sqlite.specs.Listing.{understood}
use Rattle.sqlite.specs.State.{Writes}
use Rattle.sqlite_tied.specs.Compute.{everything}
use Rattle.sqlite_trees.specs.Sound.{same_name, begins, is_free_name, fits_kind}
use Rattle.sqlite_value.specs.Order.{value_cmp}
use lib.Ieee.{is_nan, lt}
use lib.Utf8.{encode}
use Rattle.office_tables.specs.Versions.{First}
use Rattle.office_tables.proofs.Common.{AllByRecursion, CreateIndex, CreateTable, Database, DefinesIndex, DefinesTable}
use Rattle.office_tables.proofs.Common.{Executes, HasMade, Schema, Shows, State, Table, Tally, Trees, container}
use Rattle.office_tables.proofs.Common.{desk_schema, desk_tables, element, housing, index, lacks_sequence, link, office}
use Rattle.office_tables.proofs.Common.{runs_as, schema, unit}
use Rattle.office_tables.proofs.Steps.{went, same_value}

-- all that unfolds when a name and the text that defines it are judged
unfoldable pub naming : Unit {0}
unfolding is_utf8 chars encode value_cmp is_nan lt fits_kind begins is_free_name same_name
naming = tt

abbrev pub office_text : List ℕ
office_text = codes "CREATE TABLE office (one INTEGER PRIMARY KEY, version INTEGER NOT NULL, country TEXT NOT NULL, repo TEXT NOT NULL, seats INTEGER NOT NULL, daily INTEGER NOT NULL, hands INTEGER NOT NULL, run_size INTEGER NOT NULL, day INTEGER NOT NULL, next_unit INTEGER NOT NULL) STRICT"

abbrev pub unit_text : List ℕ
unit_text = codes "CREATE TABLE unit (id INTEGER PRIMARY KEY, source TEXT NOT NULL, legacy TEXT NOT NULL, level TEXT NOT NULL, until INTEGER, draft INTEGER NOT NULL, UNIQUE (source, legacy)) STRICT"

abbrev pub element_text : List ℕ
element_text = codes "CREATE TABLE element (unit INTEGER NOT NULL REFERENCES unit ON DELETE CASCADE, k INTEGER NOT NULL, value TEXT NOT NULL, PRIMARY KEY (unit, k)) STRICT"

abbrev pub container_text : List ℕ
container_text = codes "CREATE TABLE container (id INTEGER PRIMARY KEY, name TEXT NOT NULL, location TEXT NOT NULL, kind TEXT NOT NULL, UNIQUE (name, location, kind)) STRICT"

abbrev pub housing_text : List ℕ
housing_text = codes "CREATE TABLE housing (unit INTEGER NOT NULL REFERENCES unit ON DELETE CASCADE, ord INTEGER NOT NULL, container INTEGER NOT NULL, PRIMARY KEY (unit, ord), UNIQUE (container, unit)) STRICT"

abbrev pub link_index_text : List ℕ
link_index_text = codes "CREATE INDEX link_by_parent ON link (parent, ord)"

abbrev pub link_text : List ℕ
link_text = codes "CREATE TABLE link (id INTEGER PRIMARY KEY, parent INTEGER, ord INTEGER NOT NULL) STRICT"

-- ---- the schema after each definition in turn

abbrev pub free : Table → Table
free t = record t { tree = 0 }

abbrev pub s1 : Schema
s1 = created desk_schema (free office)

abbrev pub s2 : Schema
s2 = created s1 (free unit)

abbrev pub s3 : Schema
s3 = created s2 (free element)

abbrev pub s4 : Schema
s4 = created s3 (free container)

abbrev pub s5 : Schema
s5 = created s4 (free housing)

abbrev pub s6 : Schema
s6 = created s5 (free link)

pub office_defined : DefinesTable desk_tables desk_schema office_text s1
unfolding understood everything naming
office_defined = record { table = free office; says = record { is = refl; plain = (refl, refl); whole = refl; alone = (refl, refl) }; defined = refl; allowed = record { named = record { free = refl; utf8 = refl; unreserved = refl }; guards = refl; formed = refl; fit = refl; trees = refl; reals = refl; key_reals = refl }; uncounted = refl; is = refl; more = []; first = refl; rest = refl; last = refl }

pub unit_defined : DefinesTable desk_tables s1 unit_text s2
unfolding understood everything naming
unit_defined = record { table = free unit; says = record { is = refl; plain = (refl, refl); whole = refl; alone = (refl, refl) }; defined = refl; allowed = record { named = record { free = refl; utf8 = refl; unreserved = refl }; guards = refl; formed = refl; fit = refl; trees = refl; reals = refl; key_reals = refl }; uncounted = refl; is = refl; more = office ∷ []; first = refl; rest = refl; last = refl }

pub element_defined : DefinesTable desk_tables s2 element_text s3
unfolding understood everything naming
element_defined = record { table = free element; says = record { is = refl; plain = (refl, refl); whole = refl; alone = (refl, refl) }; defined = refl; allowed = record { named = record { free = refl; utf8 = refl; unreserved = refl }; guards = refl; formed = refl; fit = refl; trees = refl; reals = refl; key_reals = refl }; uncounted = refl; is = refl; more = office ∷ unit ∷ []; first = refl; rest = refl; last = refl }

pub container_defined : DefinesTable desk_tables s3 container_text s4
unfolding understood everything naming
container_defined = record { table = free container; says = record { is = refl; plain = (refl, refl); whole = refl; alone = (refl, refl) }; defined = refl; allowed = record { named = record { free = refl; utf8 = refl; unreserved = refl }; guards = refl; formed = refl; fit = refl; trees = refl; reals = refl; key_reals = refl }; uncounted = refl; is = refl; more = office ∷ unit ∷ element ∷ []; first = refl; rest = refl; last = refl }

pub housing_defined : DefinesTable desk_tables s4 housing_text s5
unfolding understood everything naming
housing_defined = record { table = free housing; says = record { is = refl; plain = (refl, refl); whole = refl; alone = (refl, refl) }; defined = refl; allowed = record { named = record { free = refl; utf8 = refl; unreserved = refl }; guards = refl; formed = refl; fit = refl; trees = refl; reals = refl; key_reals = refl }; uncounted = refl; is = refl; more = office ∷ unit ∷ element ∷ container ∷ []; first = refl; rest = refl; last = refl }

pub link_defined : DefinesTable desk_tables s5 link_text s6
unfolding understood everything naming
link_defined = record { table = free link; says = record { is = refl; plain = (refl, refl); whole = refl; alone = (refl, refl) }; defined = refl; allowed = record { named = record { free = refl; utf8 = refl; unreserved = refl }; guards = refl; formed = refl; fit = refl; trees = refl; reals = refl; key_reals = refl }; uncounted = refl; is = refl; more = office ∷ unit ∷ element ∷ container ∷ housing ∷ []; first = refl; rest = refl; last = refl }

pub link_indexed : DefinesIndex desk_tables s6 link_index_text (schema First)
unfolding understood everything naming
link_indexed = record { at = 12; table = link; index = index (codes "link_by_parent") 0 link (2 ∷ 3 ∷ []); says = record { is = refl; plain = (refl, refl); whole = refl; alone = (refl, refl) }; place = refl; defined = refl; allowed = record { named = record { free = refl; utf8 = refl; unreserved = refl }; utf8 = refl; fit = refl; trees = refl; reals = refl; key_reals = refl }; is = refl; same = refl; more = office ∷ unit ∷ element ∷ container ∷ housing ∷ link ∷ []; first = refl; rest = refl; among = inr (inr (inr (inr (inr (inl refl))))) }

-- ---- what a definition makes

kept_desk : (old mid new : Trees) (desk more : List Table) → KeepsRows desk old mid → KeepsRows (desk ++ more) mid new
    → KeepsRows desk old new
kept_desk old mid new [] more a b = tt
kept_desk old mid new (t ∷ desk) more a b = (b.0 ∙ a.0, kept_desk old mid new desk more a.1 b.1)

kept_more : (mid new : Trees) (desk more : List Table) → AllByRecursion (λ t. mid t.tree ≡ []) more
    → KeepsRows (desk ++ more) mid new → AllByRecursion (λ t. new t.tree ≡ []) more
kept_more mid new [] [] e b = tt
kept_more mid new [] (t ∷ more) e b = (b.0 ∙ e.0, kept_more mid new [] more e.1 b.1)
kept_more mid new (t ∷ desk) more e b = kept_more mid new desk more e b.1

one_more : (new : Trees) (more : List Table) (t : Table) → AllByRecursion (λ t. new t.tree ≡ []) more → new t.tree ≡ []
    → AllByRecursion (λ t. new t.tree ≡ []) (more ++ t ∷ [])
one_more new [] t e h = (h, tt)
one_more new (u ∷ more) t e h = (e.0, one_more new more t e.1 h)

module _ (there : List Table) (before after : Schema) (text : List ℕ) (start : Database) (old new : State) (count : ℕ) (made : HasMade there before start old.now) (h : Executes text [] old new (Ok count)) where
  pub creates : DefinesTable there before text after
      → HasMade there after start new.now × Shows old new new.now (cond old.in_transaction old.committed new.now) old.in_transaction
  creates defines =
      let has = made.schema_is in
      let w = subst (λ t. Writes old new None CreateTable t [] count) defines.says.whole (runs_as text [] old new before has CreateTable defines.says.is defines.says.plain count h) in
      let all = went w.changed in
      let first = went all.1 in
      let it = first.1 in
      let both : Ok it.table ≡ Ok defines.table = sym it.defined ∙ defines.defined in
      let is : first.0.schema ≡ created before defines.table =
      it.is ∙ ap (λ s. created s it.table) has ∙ ap (created before) (same_value both) in
      let plain : lacks_sequence first.0.schema ≡ false = ap lacks_sequence is ∙ defines.uncounted in
      let now : new.now ≡ first.0 =
      ap (λ (p : Tally × Database). p.1) (same_value all.2) ∙ same_value (rw plain at first.2) in
      let trees : new.now.trees ≡ first.0.trees = ap (λ (d : Database). d.trees) now in
      let kept : KeepsRows before.tables old.now.trees new.now.trees =
      subst (λ d. KeepsRows before.tables old.now.trees d) (sym trees) (subst (λ (s : Schema). KeepsRows s.tables old.now.trees first.0.trees) has it.others) in
      let fresh : new.now.trees (next_tree before) ≡ [] =
      ap (λ (d : Trees). d (next_tree before)) trees ∙ subst (λ s. first.0.trees (next_tree s) ≡ []) has it.empty in
      let kept' = subst (λ ts. KeepsRows ts old.now.trees new.now.trees) defines.first kept in
      let empty' = subst (λ ts. AllByRecursion (λ t. old.now.trees t.tree ≡ []) ts) defines.rest made.empty in
      let done : HasMade there after start new.now = record {
        schema_is = ap (λ (d : Database). d.schema) now ∙ is ∙ defines.is;
        kept = kept_desk start.trees old.now.trees new.now.trees there defines.more made.kept kept';
        empty = subst (λ ts. AllByRecursion (λ t. new.now.trees t.tree ≡ []) ts) (sym defines.last)
            (one_more new.now.trees defines.more (record defines.table { tree = next_tree before }) (kept_more old.now.trees new.now.trees there defines.more empty' kept') fresh);
      } in
      (done, w.shown)

  pub indexes : DefinesIndex there before text after
      → HasMade there after start new.now × Shows old new new.now (cond old.in_transaction old.committed new.now) old.in_transaction
  indexes defines =
      let has = made.schema_is in
      let w = subst (λ t. Writes old new None (CreateIndex defines.at) t [] count) defines.says.whole (runs_as text [] old new before has (CreateIndex defines.at) defines.says.is defines.says.plain count h) in
      let placed : slice_get old.now.schema.tables defines.at ≡ Some defines.table =
      ap (λ (s : Schema). slice_get s.tables defines.at) has ∙ defines.place in
      let all = went (rw placed at w.changed) in
      let it = all.1 in
      let both : Ok it.index ≡ Ok defines.index = sym it.defined ∙ defines.defined in
      let is : all.0.schema ≡ indexed before defines.table defines.index =
      it.is ∙ ap (λ s. indexed s defines.table it.index) has ∙ ap (indexed before defines.table) (same_value both) in
      let now : new.now ≡ all.0 = ap (λ (p : Tally × Database). p.1) (same_value all.2) in
      let kept = subst (λ (d : Database). KeepsRows before.tables old.now.trees d.trees) (sym now) (subst (λ (s : Schema). KeepsRows s.tables old.now.trees all.0.trees) has it.rows) in
      let kept' = subst (λ ts. KeepsRows ts old.now.trees new.now.trees) defines.first kept in
      let empty' = subst (λ ts. AllByRecursion (λ t. old.now.trees t.tree ≡ []) ts) defines.rest made.empty in
      let done : HasMade there after start new.now = record {
        schema_is = ap (λ (d : Database). d.schema) now ∙ is ∙ defines.is;
        kept = kept_desk start.trees old.now.trees new.now.trees there defines.more made.kept kept';
        empty = subst (λ ts. AllByRecursion (λ t. new.now.trees t.tree ≡ []) ts) (sym (ap (drop (length there)) defines.same ∙ defines.rest))
            (kept_more old.now.trees new.now.trees there defines.more empty' kept');
      } in
      (done, w.shown)
