use Rattle.std.proofs.Common.{◌≡◌, ◌∙◌, ◌∷◌, [], Bool, List, true, false, refl, subst, Bor, Some, Option}
use Rattle.atom_csv.proofs.Common.{Bytes, ReadRecord, Source, error_kind, fields_of, if◌then◌else◌, rows_left}
use Rattle.atom_csv.proofs.SourceLemmas.{fails_outside, read_more, read_none}
use Rattle.atom_csv.proofs.records.take_record.Goals as goal

pub unreachable-requires : goal.unreachable-requires
unreachable-requires c =
    let why = c.in-Err.ensures.why c.requires.trim c.requires.ready in
    let k = c.kind.ensures in
    fails_outside c.args.reader.now c.read_record.new.self (error_kind c.in-Err.error) c.requires why (λ e is. c.in_default.not-Io e (k ∙ is)) (λ is. c.in_default.not-OutOfMemory (k ∙ is))

abbrev known : Bor Bytes → Option Bytes
known s = Some s.now

pub returns-in-Ok-clause-reading : goal.returns-in-Ok-clause-reading
returns-in-Ok-clause-reading c = λ found.
    let read = c.in-Ok.ensures.reads c.requires.trim c.requires.ready in
    let a = c.args.reader.now in
    let b = c.read_record.new.self in
    let fields = fields_of c.read_record.new.row in
    (read_more a b fields c.requires (subst (λ (f : Bool). ReadRecord known a b f fields) found read) (c.in-Ok.ensures.ready c.requires.trim) c.in-Ok.ensures.flexible).0

chosen : (a b : Source) (fields : List Bytes) (found : Bool) → (found ≡ true → rows_left a ≡ fields ∷ rows_left b) → (found ≡ false → rows_left a ≡ []) → rows_left a ≡ (if found then fields ∷ rows_left b else [])
chosen a b fields true more none = more refl
chosen a b fields false more none = none refl

pub returns-in-Ok-clause-taken : goal.returns-in-Ok-clause-taken
returns-in-Ok-clause-taken c =
    let read = c.in-Ok.ensures.reads c.requires.trim c.requires.ready in
    let a = c.args.reader.now in
    let b = c.read_record.new.self in
    let fields = fields_of c.read_record.new.row in
    chosen a b fields c.in-Ok.found
    (λ is. (read_more a b fields c.requires (subst (λ (f : Bool). ReadRecord known a b f fields) is read) (c.in-Ok.ensures.ready c.requires.trim) c.in-Ok.ensures.flexible).1)
    (λ is. read_none a b fields c.requires (subst (λ (f : Bool). ReadRecord known a b f fields) is read))
