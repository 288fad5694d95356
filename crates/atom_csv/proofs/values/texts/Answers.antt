use Rattle.std.proofs.Common.{rules, ◌≡◌, ℕ, ◌+◌, ◌<◌, List, ◌∷◌, [], ◌++◌, ◌∙◌, ap, arith, get_or, length, map, suc}
use Rattle.std.proofs.Common.{sym, take}
use Rattle.std.proofs.lemmas.Grind.{take-set_at}
use Rattle.isad_core.specs.Values.{line_elements}
use Rattle.isad_core.specs.declared.element.Element.TheVariants as element
use Rattle.atom_csv.specs.Values.{text_elements}
use Rattle.atom_csv.proofs.Common.{map-append, nonblank, take-suc, take_all, text_in_columns, trimmed_fields}
use Rattle.atom_csv.proofs.values.texts.Goals as goal

-- what is told of one more
one_more : {X Y : Type 0} (tell : X → Y) (xs : List X) (i : ℕ) (d : X) (y : Y) → i < length xs → y ≡ tell (get_or xs i d) → map tell (take i xs) ++ y ∷ [] ≡ map tell (take (i + 1) xs)
one_more tell xs i d y low is =
    ap (λ z. map tell (take i xs) ++ z ∷ []) is
    ∙ (sym (map-append tell (take i xs) (get_or xs i d ∷ [])) ∙ ap (map tell) (sym (take-suc xs i d low) ∙ ap (λ n. take n xs) (let up : suc i ≡ i + 1 = omega arith in up)))

pub loop-i-preserved : goal.loop-i-preserved
loop-i-preserved c =
    let i = c.loop-i.i in
    let low = c.loop-i-test.true in
    let set = take-set_at c.loop-i.texts (i + 2) (i + 1 + 2) c.in_ok-texts-3.field-0 (omega arith) (omega (arith, c.loop-i.invariant.long, low)) in
    let next = one_more {X = element.the_data} (λ e. nonblank (text_in_columns c.args.header.now (trimmed_fields c.args.row.now) e)) line_elements i element.ReferenceCode c.in_ok-texts-3.field-0 low (search rules) in
    record {
      long = search rules;
      done = set ∙ (ap (λ ts. ts ++ c.in_ok-texts-3.field-0 ∷ []) c.loop-i.invariant.done ∙ ap (λ ts. nonblank (text_in_columns c.args.header.now (trimmed_fields c.args.row.now) element.ReferenceCode) ∷ nonblank (text_in_columns c.args.header.now (trimmed_fields c.args.row.now) element.Title) ∷ ts) next);
    }

pub returns : goal.returns
unfolding text_elements
returns c =
    let i = c.loop-i.i in
    let last = c.loop-i-test.false in
    let end : i ≡ 23 = (omega (arith, last, c.loop-i.auto.i-end)) in
    sym (take_all (i + 2) c.loop-i.texts (omega (arith, c.loop-i.invariant.long, last)))
    ∙ (c.loop-i.invariant.done ∙ ap (λ (n : ℕ). map (λ e. nonblank (text_in_columns c.args.header.now (trimmed_fields c.args.row.now) e)) (element.ReferenceCode ∷ element.Title ∷ take n line_elements)) end)
