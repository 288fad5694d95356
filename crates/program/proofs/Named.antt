-- What a command needs, by its name; and the values that are refused.
use Rattle.std.proofs.Common.{◌≡◌, List, codes, subst, sym}
use Rattle.std.specs.Str.{bytes_eq}
use Rattle.command_line.specs.OptionValues.{HasImport, HasNeeds, HasServer, HasSettings, HasText, Previews, Begins}
use Rattle.command_line.specs.OptionValues.{Tries, Imports, Talks, Serves, Checks, Migrates}
use Rattle.program.proofs.Common.{MatchBool, Row, Text}

abbrev pub NeedsOf : Text → List Row → Type 0
NeedsOf name rows =
    MatchBool (bytes_eq name (codes "preview")) (HasText rows (codes "country") × HasText rows (codes "repo")) (
    MatchBool (bytes_eq name (codes "init")) (HasText rows (codes "store") × HasSettings rows) (
    MatchBool (bytes_eq name (codes "trial")) (HasSettings rows) (
    MatchBool (bytes_eq name (codes "import")) (HasImport rows) (
    MatchBool (bytes_eq name (codes "talk")) (HasText rows (codes "store")) (
    MatchBool (bytes_eq name (codes "serve")) (HasServer rows) (
    MatchBool (bytes_eq name (codes "check")) (HasText rows (codes "store")) (
    MatchBool (bytes_eq name (codes "migrate")) (HasText rows (codes "store")) (
    ⊥))))))))

pub needed : (name : Text) (rows : List Row) → HasNeeds name rows → NeedsOf name rows
needed name rows (Previews is country repo) = subst (λ n. NeedsOf n rows) (sym is) (country, repo)
needed name rows (Begins is store settings) = subst (λ n. NeedsOf n rows) (sym is) (store, settings)
needed name rows (Tries is settings) = subst (λ n. NeedsOf n rows) (sym is) settings
needed name rows (Imports is there) = subst (λ n. NeedsOf n rows) (sym is) there
needed name rows (Talks is store) = subst (λ n. NeedsOf n rows) (sym is) store
needed name rows (Serves is there) = subst (λ n. NeedsOf n rows) (sym is) there
needed name rows (Checks is store) = subst (λ n. NeedsOf n rows) (sym is) store
needed name rows (Migrates is store) = subst (λ n. NeedsOf n rows) (sym is) store

-- the needs of the command of that name
pub needs_at : (name word : Text) (rows : List Row) → HasNeeds name rows → name ≡ word → NeedsOf word rows
needs_at name word rows has is = subst (λ n. NeedsOf n rows) is (needed name rows has)
