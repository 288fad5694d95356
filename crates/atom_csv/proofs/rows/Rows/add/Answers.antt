use Rattle.std.proofs.Common.{◌≡◌, ◌∙◌, ◌+◌, ◌++◌, ◌∷◌, [], List, Some, true, false, sym, ap, ap₂, option_map, add-zero}
use Rattle.std.proofs.Common.{ℕ}
use Rattle.std.specs.BTreeMap.{get_by_text}
use Rattle.std.specs.Prelude.{Err, not}
use Rattle.atom_csv.specs.Findings.{causes_of, findings}
use Rattle.atom_csv.specs.declared.file.Row.{Row}
use Rattle.atom_csv.proofs.Common.{Bytes, bytes_eq, if◌then◌else◌, is_blank, is_some, is_told_again, is_translation}
use Rattle.atom_csv.proofs.Common.{lowest, rows, stood_above, trimmed_fields, ◌&&◌, ◌||◌}
use Rattle.atom_csv.proofs.LineLemmas.{fault_step, knows_blank, knows_new, knows_stood, line_at, none_step, rows_kept}
use Rattle.atom_csv.proofs.LineLemmas.{rows_passed, told, told_is, translation_stood, translations_step}
use Rattle.atom_csv.proofs.rows.Rows.add.Goals as goal

pub returns-in-Some-clause-bad : goal.returns-in-Some-clause-bad
returns-in-Some-clause-bad c = λ above later at h.
    let header = c.args.header.now in
    let x = trimmed_fields c.args.row.now in
    let stood = option_map (λ t. t.now) c.culture_of.result in
    let stood_is : stood ≡ stood_above header (line_at above x) = c.culture_of.ensures ∙ (ap (told (get_by_text c.args.self.now.cultures)) c.value-id.ensures ∙ told_is header above x _ h.known) in
    let is = c.in-Some.ensures.lowest ∙ ap (λ f. lowest (causes_of f)) c.of-found.ensures in
    fault_step header above x later stood c.args.number c.in-Some.cause h.none stood_is at is ∙ ap (λ (n : ℕ). Err (c.args.number, n)) (sym c.number-cause.ensures)

pub returns-then-found-clause-told : goal.returns-then-found-clause-told
returns-then-found-clause-told c = λ above at h.
    let header = c.args.header.now in
    let x = trimmed_fields c.args.row.now in
    let n = c.args.number in
    let get = get_by_text c.args.self.now.cultures in
    let stood = option_map (λ t. t.now) c.culture_of.result in
    let stood_is : stood ≡ stood_above header (line_at above x) = c.culture_of.ensures ∙ (ap (told get) c.value-id.ensures ∙ told_is header above x get h.known) in
    let found_is : c.of-found.result ≡ findings header x stood n = c.of-found.ensures in
    let is = c.in_default.ensures.lowest ∙ ap (λ f. lowest (causes_of f)) found_is in
    let blank : is_blank x ≡ true = sym (ap (λ f. f.is_blank) found_is) ∙ c.if-found.true in
    record {
      none = none_step header above x stood n h.none stood_is at is;
      rows = h.rows ∙ sym (rows_passed header above x (ap (λ a. a || is_told_again header (line_at above x)) blank));
      translations = h.translations ∙ sym (translations_step header above x false (ap (λ a. not a && is_told_again header (line_at above x)) blank) ∙ add-zero _);
      known = knows_blank header above x get h.known blank;
    }

pub returns-then-found-2-clause-told : goal.returns-then-found-2-clause-told
returns-then-found-2-clause-told c = λ above at h.
    let header = c.args.header.now in
    let x = trimmed_fields c.args.row.now in
    let n = c.args.number in
    let get = get_by_text c.args.self.now.cultures in
    let stood = option_map (λ t. t.now) c.culture_of.result in
    let stood_is : stood ≡ stood_above header (line_at above x) = c.culture_of.ensures ∙ (ap (told get) c.value-id.ensures ∙ told_is header above x get h.known) in
    let found_is : c.of-found.result ≡ findings header x stood n = c.of-found.ensures in
    let is = c.in_default.ensures.lowest ∙ ap (λ f. lowest (causes_of f)) found_is in
    let blank : is_blank x ≡ false = sym (ap (λ f. f.is_blank) found_is) ∙ c.if-found.false in
    let again : is_told_again header (line_at above x) ≡ true =
    sym (ap (λ f. f.is_translation) found_is ∙ ap (is_translation header x) stood_is) ∙ c.if-found-2.true in
    record {
      none = none_step header above x stood n h.none stood_is at is;
      rows = h.rows ∙ sym (rows_passed header above x (ap₂ (λ a b. a || b) blank again));
      translations = ap (λ (k : ℕ). k + 1) h.translations ∙ sym (translations_step header above x true (ap₂ (λ a b. not a && b) blank again));
      known = knows_stood header above x get h.known (translation_stood header x _ again);
    }

pub returns-clause-told : goal.returns-clause-told
returns-clause-told c = λ above at h.
    let header = c.args.header.now in
    let x = trimmed_fields c.args.row.now in
    let n = c.args.number in
    let get = get_by_text c.args.self.now.cultures in
    let stood = option_map (λ t. t.now) c.culture_of.result in
    let stood_is : stood ≡ stood_above header (line_at above x) = c.culture_of.ensures ∙ (ap (told get) c.value-id.ensures ∙ told_is header above x get h.known) in
    let found_is : c.of-found.result ≡ findings header x stood n = c.of-found.ensures in
    let is = c.in_default.ensures.lowest ∙ ap (λ f. lowest (causes_of f)) found_is in
    let blank : is_blank x ≡ false = sym (ap (λ f. f.is_blank) found_is) ∙ c.if-found.false in
    let again : is_told_again header (line_at above x) ≡ false =
    sym (ap (λ f. f.is_translation) found_is ∙ ap (is_translation header x) stood_is) ∙ c.if-found-2.false in
    let new = c.in_default.ensures.new c.if-found.false c.if-found-2.false in
    let there = sym (ap (λ f. f.no_legacy) found_is) ∙ new.0 in
    let none = sym (ap (λ f. f.stood) found_is ∙ ap is_some stood_is) ∙ new.1 in
    record {
      none = none_step header above x stood n h.none stood_is at is;
      rows = c.in_ok-push.ensures.ok ∙ (ap (λ (rs : List Row). rs ++ c.in_ok-described.described ∷ []) h.rows ∙ (ap (λ (r : Row). rows header above ++ r ∷ []) c.in_ok-described.ensures
          ∙ sym (rows_kept header above x n (ap₂ (λ a b. a || b) blank again) at)));
      translations = h.translations ∙ sym (translations_step header above x false (ap₂ (λ a b. not a && b) blank again) ∙ add-zero _);
      known = knows_new header above x get (get_by_text c.remember.new.kept) h.known there none
          (λ q. c.in_ok-remember.ensures q ∙ ap₂ (λ (a b : Bytes). if bytes_eq q a then Some b else get q) (ap (λ (r : Row). r.legacy) c.in_ok-described.ensures) (c.in_ok-culture.ensures ∙ c.value.ensures));
    }
