use Rattle.std.proofs.Common.{◌≡◌, List, ℕ, Ok, Err, subst, sym}
use Rattle.atom_csv.specs.ReadProgress.{IfBad}
use Rattle.program.specs.ReadFiles.{path_of}
use Rattle.program.proofs.Common.{ReadsInput, preview_result}
use Rattle.program.proofs.PerformedLemmas.{broken_off, refused_fails}
use Rattle.program.proofs.previews.print_preview.Goals as goal

pub returns-in_err-write_whole-in-Ok-clause-fault :
    goal.returns-in_err-write_whole-in-Ok-clause-fault
returns-in_err-write_whole-in-Ok-clause-fault g c =
    let reads = subst (ReadsInput (path_of c.args.input) _ _) (sym c.as_slice.ensures.value) c.in_ok-file.ensures.reads in
    let of_country = subst (λ (t : List ℕ). preview_result t c.as_str-2.result.now c.as_slice.result.now ≡ Ok c.in-Ok.aids.items) c.as_str.ensures c.in-Ok.ensures.text in
    let of_repo = subst (λ (t : List ℕ). preview_result c.args.country.now t c.as_slice.result.now ≡ Ok c.in-Ok.aids.items) c.as_str-2.ensures of_country in
    let prints = subst (λ (t : List ℕ). preview_result c.args.country.now c.args.repo.now c.as_slice.result.now ≡ Ok t) (sym c.as_slice-in-Ok.ensures.value) of_repo in
    broken_off c.args.country.now c.args.repo.now (path_of c.args.input) _ _ _ _ c.from_residual-in_err-write_whole-in-Ok.result
    c.from_residual-in_err-write_whole-in-Ok.ensures.1
    (c.as_slice.result.now, c.as_slice-in-Ok.result.now, reads, prints, c.in_err-write_whole-in-Ok.ensures.part)

pub returns-clause-fault : goal.returns-clause-fault
returns-clause-fault g c =
    let of_country = subst (λ (t : List ℕ). IfBad c.in-Err.fault (λ row cause. preview_result t c.as_str-2.result.now c.as_slice.result.now ≡ Err (row, cause))) c.as_str.ensures c.in-Err.ensures.bad in
    let bad = subst (λ (t : List ℕ). IfBad c.in-Err.fault (λ row cause. preview_result c.args.country.now t c.as_slice.result.now ≡ Err (row, cause))) c.as_str-2.ensures of_country in
    refused_fails c.args.country.now c.args.repo.now (path_of c.args.input) _ _ _ c.as_slice.result.now c.in-Err.fault c.refused_file.result
    c.refused_file.ensures (subst (ReadsInput (path_of c.args.input) _ _) (sym c.as_slice.ensures.value) c.in_ok-file.ensures.reads) bad c.read_file.ensures.front
