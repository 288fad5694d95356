use Rattle.std.proofs.Common.{◌∙◌, ap, inr, Some}
use Rattle.csv.specs.Reading.{strip_bom}
use Rattle.atom_csv.proofs.Common.{builder_is_flexible}
use Rattle.atom_csv.proofs.TextLemmas.{unmarked_text}
use Rattle.atom_csv.proofs.records.reader.Goals as goal

pub returns-clause-reading : goal.returns-clause-reading
returns-clause-reading c =
    let made = c.from_reader.ensures in
    let headers = c.has_headers.ensures in
    let flexible = c.flexible.ensures in
    record {
      config = rw (flexible, headers) at made.config ∙ c.new.ensures.config;
      trim = rw (flexible, headers) at made.trim ∙ c.new.ensures.trim;
      ready = inr (inr (rw (flexible, headers) at made.has_headers, made.headers));
      flexible = made.flexible ∙ ap builder_is_flexible flexible;
      text = strip_bom c.args.text.now;
      source = made.source ∙ ap (λ bs. Some (strip_bom bs)) c.as_bytes.ensures.value;
      utf8 = unmarked_text c.args.text.now c.utf8.text;
    }
