use Rattle.std.proofs.Common.{◌≡◌, ◌∙◌, sym, ap, [], option_map, Some, None, Option, Bor, refl}
use Rattle.atom_csv.proofs.Common.{Bytes, fields_of, trimmed, unwrap_or}
use Rattle.atom_csv.proofs.FieldLemmas.{trimmed_at}
use Rattle.atom_csv.proofs.header.field_at.Goals as goal

now_or : (o : Option (Bor Bytes)) (d : Bor Bytes) → d.now ≡ [] → (unwrap_or o d).now ≡ unwrap_or (option_map (λ b. b.now) o) []
now_or None d e = e
now_or (Some b) d e = refl

pub returns-in-Some : goal.returns-in-Some
returns-in-Some c =
    let fields = fields_of c.args.row.now in
    let got = ap (λ (b : Bor Bytes). b.now) c.unwrap_or.ensures ∙ now_or c.get.result _ refl ∙ ap (λ o. unwrap_or o []) c.get.ensures.value in
    rw c.in-Some.is (c.trim.ensures ∙ ap trimmed got ∙ sym (trimmed_at fields c.in-Some.i))
