-- What a reader of records has left, after a read.
use Rattle.std.proofs.Common.{◌≡◌, ◌∙◌, ◌+◌, true, false, List, [], ◌∷◌, length, Option, Some, None, refl, sym, ap, ap₂}
use Rattle.std.proofs.Common.{subst, inl, Bor}
use Rattle.std.specs.Option.{option_map_or}
use Rattle.std.specs.Str.{IsUtf8}
use Rattle.csv.proofs.ReadFacts.{rows-end, rows-more}
use Rattle.csv.specs.Machine.{next_record}
use Rattle.csv.specs.Reading.{Reached, records_from}
use Rattle.csv.specs.Records.{AllText}
use Rattle.csv.specs.declared.error.ErrorKind.{ErrorKind}
use Rattle.csv.specs.declared.error.ErrorKind.TheVariants as kind
use Rattle.csv.specs.declared.parser.Config.{Config}
use Rattle.atom_csv.proofs.Common.{Bytes, ExplainsRead, IsReading, NextIs, Read, ReadRecord, ReadsNext, Source, State}
use Rattle.atom_csv.proofs.Common.{default_config, is_flexible, pending_of, rows_left, took_first, unread_bytes}
use Rattle.atom_csv.proofs.RecordLemmas.{records_none, records_taken}
use Rattle.atom_csv.proofs.TextLemmas.{record_text}

abbrev known : Bor Bytes → Option Bytes
known s = Some s.now

left_is : (r : Source) (text : Bytes) → unread_bytes r ≡ Some text
    → rows_left r ≡ records_from default_config (length text + 1) r.state text
left_is r text is = ap (λ o. option_map_or (λ ys. records_from default_config (length ys + 1) r.state ys) o []) is

-- a record that was read is the first of those that were left
pub read_more : (a b : Source) (fields : List Bytes) → IsReading a → ReadRecord known a b true fields
    → took_first b ≡ true → is_flexible b ≡ is_flexible a
    → IsReading b × (rows_left a ≡ fields ∷ rows_left b)
unfolding Reached
read_more a b fields reading r first flexible =
    let (z, source, (p, next, head, (state, rest))) = rows-more known a b fields default_config a.state reading.text reading.text [] reading.config reading.source (refl, refl) r in (
      record {
        config = r.2 ∙ reading.config;
        trim = r.3 ∙ reading.trim;
        ready = inl first;
        flexible = flexible ∙ reading.flexible;
        text = z;
        source = source;
        utf8 = subst IsUtf8 rest (record_text a.state reading.text p reading.utf8 next).1;
      },
      left_is a reading.text reading.source
          ∙ (records_taken a.state reading.text p next
          ∙ (ap₂ (λ (h : List Bytes) rs. h ∷ rs) (sym head) (ap₂ (λ s (ys : Bytes). records_from default_config (length ys + 1) s ys) state rest)
          ∙ ap (λ rs. fields ∷ rs) (sym (left_is b z source)))),
    )

-- where there was no record, none was left
pub read_none : (a b : Source) (fields : List Bytes) → IsReading a → ReadRecord known a b false fields
    → rows_left a ≡ []
read_none a b fields reading r =
    left_is a reading.text reading.source
    ∙ records_none a.state reading.text (rows-end known a b fields default_config reading.text reading.config reading.source r)

-- ---- failures

true_not_false : false ≡ true → ⊥
true_not_false e = cc e

took : (s s2 : State) (xs : Bytes) (o : Option Bytes) (fields : List Bytes)
    → ReadsNext default_config s (Some xs) o true fields s2
    → (p : Read) × (next_record default_config s [] [] xs ≡ Some p) × (fields ≡ p.0)
took s s2 xs None fields r = absurd r
took s s2 xs (Some ys) fields r = go (next_record default_config s [] [] xs) refl r
  where
    go : (n : Option Read) → next_record default_config s [] [] xs ≡ n → NextIs n true fields s2 ys
        → (p : Read) × (next_record default_config s [] [] xs ≡ Some p) × (fields ≡ p.0)
    go None e r = absurd (true_not_false (sym r))
    go (Some p) e r = (p, e, r.1)

-- a reader of a text fails for memory or for what is underneath alone
pub fails_outside : (a b : Source) (k : ErrorKind) → IsReading a → ExplainsRead known a b true k
    → ((e : _) → k ≡ kind.Io e → ⊥) → (k ≡ kind.OutOfMemory → ⊥) → ⊥
fails_outside a b (kind.Io e) reading why io memory = io e refl
fails_outside a b kind.OutOfMemory reading why io memory = memory refl
fails_outside a b (kind.UnequalLengths pos expected len) reading why io memory =
    true_not_false (sym why.0 ∙ reading.flexible)
fails_outside a b (kind.Utf8 pos err) reading (text, fields, read, none) io memory =
    let from : ReadsNext default_config a.state (Some reading.text) (pending_of (known b.rdr) b) true fields b.state =
    subst (λ (cfg : Config). ReadsNext cfg a.state (Some reading.text) (pending_of (known b.rdr) b) true fields b.state) reading.config
    (subst (λ (o : Option Bytes). ReadsNext a.config a.state o (pending_of (known b.rdr) b) true fields b.state) reading.source read) in
    let (p, next, is) = took a.state b.state reading.text (pending_of (known b.rdr) b) fields from in
    none (subst AllText (sym is) (record_text a.state reading.text p reading.utf8 next).0)
fails_outside a b (kind.Serialize text) reading why io memory = absurd why
fails_outside a b (kind.Deserialize pos err) reading why io memory = absurd why
