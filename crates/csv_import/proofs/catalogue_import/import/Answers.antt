use Rattle.std.proofs.Common.{◌≡◌, Err, subst}
use Rattle.atom_csv.specs.ReadProgress.{IfBad}
use Rattle.atom_csv.specs.declared.file.FileFault.{FileFault}
use Rattle.csv_import.proofs.Common.{file_of, is_refused, looks_nowhere}
use Rattle.csv_import.proofs.FileBounds.{file_bounded}
use Rattle.csv_import.proofs.Refused.{bad}
use Rattle.csv_import.proofs.catalogue_import.import.Goals as goal

pub returns-in-Bad : goal.returns-in-Bad
returns-in-Bad g c =
    let bytes = c.args.file.now in
    let is : file_of bytes ≡ Err (c.in-Bad.row, c.in-Bad.cause) = subst (λ (e : FileFault). IfBad e (λ row cause. file_of c.args.file.now ≡ Err (row, cause))) c.in-Bad.is c.in-Err.ensures.bad in
    is_refused looks_nowhere (λ clean s sound so it. bad s c.args.source.now bytes c.in-Bad.row c.in-Bad.cause so.1 is)

pub import_read-requires : goal.import_read-requires
import_read-requires g c = record { few = (file_bounded c.args.file.now c.in-Ok.read c.in-Ok.ensures.rows).rows }
