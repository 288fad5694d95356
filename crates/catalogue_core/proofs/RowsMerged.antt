-- A file's rows, entered one by one, are merged.
use Rattle.std.proofs.Common.{◌≡◌, ℕ, ◌+◌, Bool, true, false, cond, List, [], ◌++◌, Some, Ok, refl, sym, ap, ◌∙◌, arith}
use Rattle.std.proofs.Common.{append-nil}
use Rattle.atom_csv.proofs.ToldLemmas.{file_sound}
use Rattle.catalogue_core.specs.Intake.{take}
use Rattle.catalogue_core.proofs.Common.{AllDiffer, AreGoodUnits, BoxKey, Bytes, Catalogue, File, Forest, Row, Unit}
use Rattle.catalogue_core.proofs.Common.{bytes_eq, distinct, file_of, merge, merged, nodes, revised, take_rows}
use Rattle.catalogue_core.proofs.Common.{with_file, with_rows}
use Rattle.catalogue_core.proofs.EachOf.{all_true}
use Rattle.catalogue_core.proofs.ImportedAgain.{merged_none}
use Rattle.catalogue_core.proofs.RowByRow.{IsApart, StandsSo, goes}

pub none_merged : (c : Catalogue) (source : Bytes) → distinct c.containers ≡ c.containers → merged c source [] [] ≡ c
none_merged c source apart =
    let next : c.next + 0 ≡ c.next = omega arith in
    ap (λ f. made_of f (distinct (c.containers ++ [])) (c.next + 0)) (merged_none source [] c.forest (all_true (λ u. revised source [] u ≡ u) (λ u. at (bytes_eq u.source source) u) (nodes c.forest)))
    ∙ (ap (λ bs. made_of c.forest bs (c.next + 0)) (ap distinct (append-nil c.containers) ∙ apart)
    ∙ ap (λ n. made_of c.forest c.containers n) next)
  where
    made_of : Forest Unit → List BoxKey → ℕ → Catalogue
    made_of f bs n = record { forest = f; containers = bs; next = n }

    at : (b : Bool) (u : Unit) → cond b (record u { values = u.values }) u ≡ u
    at true u = refl
    at false u = refl

pub begins : (c : Catalogue) (source : Bytes) (good : AreGoodUnits c) → distinct c.containers ≡ c.containers
    → StandsSo c source good [] []
begins c source good apart =
    let same = ap (λ (d : Catalogue). d.forest) (none_merged c source apart) in
    let next : c.next + 0 ≡ c.next = omega arith in
    record {
      part = λ row h. tt;
      depths = λ legacy. ap (λ f. Rattle.catalogue_core.specs.CatalogueMerge.depth_under f source (Some legacy) []) same;
      numbers = λ legacy. ap (λ f. Rattle.catalogue_core.specs.CatalogueMerge.parent_number f source (c.next + 0) [] legacy) same;
    }

pub row_by_row : (c : Catalogue) (source : Bytes) (rows : List Row) → AreGoodUnits c
    → distinct c.containers ≡ c.containers → AllDiffer (λ (a b : Row). bytes_eq a.legacy b.legacy) rows
    → with_rows source rows c ≡ merge c source rows
row_by_row c source rows good apart once =
    ap (with_rows source rows) (sym (none_merged c source apart))
    ∙ goes c source good rows [] [] (begins c source good apart) (all_true (λ (r : Row). IsApart r []) (λ r. tt) rows) once

pub taken_row_by_row : (c : Catalogue) (source file : Bytes) (read : File) → file_of file ≡ Ok read → AreGoodUnits c
    → distinct c.containers ≡ c.containers → take c source file ≡ with_file read (with_rows source read.rows c)
unfolding take
taken_row_by_row c source file read e good apart =
    ap (take_rows c source) e ∙ ap (with_file read) (sym (row_by_row c source read.rows good apart (file_sound file read e).once))
