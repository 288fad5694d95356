-- Containers of a unit that are told one after another.
use Rattle.std.proofs.Common.{◌≡◌, ℕ, ℤ, ◌+◌, List, [], ◌∷◌, ◌++◌, length, map, true, refl, sym, ap, ap₂, subst, ◌∙◌}
use Rattle.std.proofs.Common.{arith}
use Rattle.std.specs.Prelude.{unwrap_or}
use Rattle.catalogue_core.proofs.DistinctFront.{distinct_front}
use Rattle.office_tables.specs.Schema as tables
use Rattle.catalogue_statements.proofs.Common.{AreHoused, BoxKey, Database, HousingRow, IsPermutation-refl, OnlyTouches}
use Rattle.catalogue_statements.proofs.Common.{PutsRow, RepresentsContainers, Trees, WithHousings, and_parts}
use Rattle.catalogue_statements.proofs.Common.{append_assoc, box_number, counted_from, distinct, distinct_again}
use Rattle.catalogue_statements.proofs.Common.{housing_row, is_same_box, list_all, list_any, map-append, next_rowid}
use Rattle.catalogue_statements.proofs.Common.{one_more, still_numbered, with_boxes}
use Rattle.catalogue_statements.proofs.BoxNumbers.{all_known, keeps_number}

abbrev new_row : Trees → ℕ → ℕ → ℕ → ℤ × HousingRow
new_row db unit ord container =
    (next_rowid (db tables.housing.tree), record { unit = unit; ord = ord; container = container })

-- one row is put
one_housing : (old new : Database) (unit ord container : ℕ) (boxes : List BoxKey) (xs : List HousingRow)
    → AreHoused old.trees boxes xs
    → PutsRow tables.housing.tree (housing_row (new_row old.trees unit ord container)) old new
    → (ys : List HousingRow) × AreHoused new.trees boxes ys × WithHousings unit ((ord, container) ∷ []) xs ys
one_housing old new unit ord container boxes xs at puts =
    let row : HousingRow = record { unit = unit; ord = ord; container = container } in
    let there : AreHoused new.trees boxes (row ∷ xs) = record {
      containers = puts.only tables.container.tree refl refl ∙ at.containers;
      apart = at.apart;
      rows = one_more housing_row (λ _. refl) (old.trees tables.housing.tree) (new.trees tables.housing.tree) xs (next_rowid (old.trees tables.housing.tree)) row at.rows puts.rows puts.fresh;
    } in
    (row ∷ xs, there, record { more = row ∷ []; are = IsPermutation-refl (row ∷ xs); tell = IsPermutation-refl ((ord, container) ∷ []); theirs = (refl, tt) })

-- a container is numbered, and then the unit lies in it
pub housed : (old mid new : Database) (unit ord n : ℕ) (key : BoxKey) (boxes : List BoxKey) (xs : List HousingRow)
    → AreHoused old.trees boxes xs
    → (n ≡ box_number (with_boxes boxes (key ∷ [])) key) × RepresentsContainers mid.trees (with_boxes boxes (key ∷ []))
    → OnlyTouches (tables.container.tree ∷ []) old mid
    → PutsRow tables.housing.tree (housing_row (new_row mid.trees unit ord n)) mid new
    → (ys : List HousingRow) × AreHoused new.trees (with_boxes boxes (key ∷ [])) ys × WithHousings unit ((ord, box_number (with_boxes boxes (key ∷ [])) key) ∷ []) xs ys
housed old mid new unit ord n key boxes xs at numbered kept puts =
    let all = with_boxes boxes (key ∷ []) in
    let there : AreHoused mid.trees all xs = record {
      containers = numbered.1;
      apart = distinct_again (boxes ++ key ∷ []);
      rows = still_numbered housing_row (old.trees tables.housing.tree) (mid.trees tables.housing.tree) xs (kept tables.housing.tree refl refl) at.rows;
    } in
    let it = one_housing mid new unit ord n all xs there puts in
    (it.0, it.1, subst (λ m. WithHousings unit ((ord, m) ∷ []) xs it.0) numbered.0 it.2)

-- ---- one after another

-- these containers in their order, each by its place from 1 with its number
abbrev pub cells_in : List BoxKey → List BoxKey → List (ℕ × ℕ)
cells_in containers boxes = map (λ box. (box.0, box_number containers box.1)) (counted_from 1 boxes)

counted_more : (n : ℕ) (bs : List BoxKey) (b : BoxKey)
    → counted_from n (bs ++ b ∷ []) ≡ counted_from n bs ++ (n + length bs, b) ∷ []
counted_more n [] b = ap (λ m. (let x : ℕ × BoxKey = (m, b) in x) ∷ []) (omega arith)
counted_more n (c ∷ bs) b =
    ap (λ l. (let x : ℕ × BoxKey = (n, c) in x) ∷ l) (counted_more (n + 1) bs b ∙ ap (λ m. counted_from (n + 1) bs ++ (let x : ℕ × BoxKey = (m, b) in x) ∷ []) (omega arith))

-- containers that are known keep their numbers when more become known
pub same_cells : (cs bs known : List BoxKey) (n : ℕ) → distinct cs ≡ cs
    → list_all (λ b. list_any (is_same_box b) cs) known ≡ true
    → map (λ (box : ℕ × BoxKey). (let c : ℕ × ℕ = (box.0, box_number (with_boxes cs bs) box.1) in c)) (counted_from n known) ≡ map (λ (box : ℕ × BoxKey). (let c : ℕ × ℕ = (box.0, box_number cs box.1) in c)) (counted_from n known)
same_cells cs bs [] n apart all = refl
same_cells cs bs (b ∷ known) n apart all =
    let parts = and_parts (list_any (is_same_box b) cs) (list_all (λ b. list_any (is_same_box b) cs) known) all in
    ap₂ (λ m l. (let c : ℕ × ℕ = (n, unwrap_or m 0) in c) ∷ l) (keeps_number cs bs b apart parts.0) (same_cells cs bs known (n + 1) apart parts.1)

-- one container more
pub boxes_more : (boxes seen : List BoxKey) (b : BoxKey) → distinct boxes ≡ boxes
    → with_boxes (with_boxes boxes seen) (b ∷ []) ≡ with_boxes boxes (seen ++ b ∷ [])
boxes_more boxes seen b apart = distinct_front (boxes ++ seen) (b ∷ []) ∙ ap distinct (append_assoc boxes seen (b ∷ []))

pub housing_more : (boxes seen : List BoxKey) (b : BoxKey) (place : ℕ) → distinct boxes ≡ boxes → place ≡ length seen
    → cells_in (with_boxes boxes seen) seen ++ (place + 1, box_number (with_boxes (with_boxes boxes seen) (b ∷ [])) b) ∷ [] ≡ cells_in (with_boxes boxes (seen ++ b ∷ [])) (seen ++ b ∷ [])
housing_more boxes seen b place apart is =
    let now = with_boxes boxes seen in
    let next = with_boxes now (b ∷ []) in
    let told = λ (cs : List BoxKey) (box : ℕ × BoxKey). (let c : ℕ × ℕ = (box.0, box_number cs box.1) in c) in
    let same : cells_in next seen ≡ cells_in now seen =
    same_cells now (b ∷ []) seen 1 (distinct_again (boxes ++ seen)) (all_known boxes seen) in
    let more : cells_in next (seen ++ b ∷ []) ≡ cells_in next seen ++ (1 + length seen, box_number next b) ∷ [] =
    ap (map (told next)) (counted_more 1 seen b)
    ∙ map-append (told next) (counted_from 1 seen) ((1 + length seen, b) ∷ []) in
    let at : place + 1 ≡ 1 + length seen = omega (arith, is) in
    ap₂ (λ l n. l ++ (let c : ℕ × ℕ = (n, box_number next b) in c) ∷ []) (sym same) at ∙ sym more ∙ ap (λ cs. cells_in cs (seen ++ b ∷ [])) (boxes_more boxes seen b apart)
