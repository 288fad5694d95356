-- Lists in which nothing stands twice.
use Rattle.std.proofs.Common.{◌≡◌, Bool, false, List, [], ◌∷◌, ◌++◌, map}
use Rattle.std.specs.List.{IsDistinct}
use Rattle.catalogue_core.proofs.Common.{AllByRecursion}
use Rattle.catalogue_core.proofs.EachOf.{all_append, all_split}

pub all_mapped : {X Y : Type 0} (P : Y → Type 0) (g : X → Y) (xs : List X) → AllByRecursion (λ x. P (g x)) xs
    → AllByRecursion P (map g xs)
all_mapped P g [] h = tt
all_mapped P g (x ∷ xs) h = (h.0, all_mapped P g xs h.1)

pub all_so : {X : Type 0} (P Q : X → Type 0) → ((x : X) → P x → Q x) → (xs : List X) → AllByRecursion P xs
    → AllByRecursion Q xs
all_so P Q f [] h = tt
all_so P Q f (x ∷ xs) h = (f x h.0, all_so P Q f xs h.1)

pub distinct_so : {X : Type 0} (e d : X → X → Bool) → ((x y : X) → e x y ≡ false → d x y ≡ false) → (xs : List X)
    → IsDistinct e xs → IsDistinct d xs
unfolding IsDistinct
distinct_so e d f [] h = tt
distinct_so e d f (x ∷ xs) h = (all_so (λ y. e x y ≡ false) (λ y. d x y ≡ false) (f x) xs h.0, distinct_so e d f xs h.1)

pub distinct_mapped : {X Y : Type 0} (e : Y → Y → Bool) (g : X → Y) (xs : List X) → IsDistinct (λ x y. e (g x) (g y)) xs
    → IsDistinct e (map g xs)
unfolding IsDistinct
distinct_mapped e g [] h = tt
distinct_mapped e g (x ∷ xs) h = (all_mapped (λ y. e (g x) y ≡ false) g xs h.0, distinct_mapped e g xs h.1)

-- and nothing in both of two lists
pub distinct_beside : {X : Type 0} (e : X → X → Bool) (xs ys : List X) → IsDistinct e xs → IsDistinct e ys
    → AllByRecursion (λ x. AllByRecursion (λ y. e x y ≡ false) ys) xs → IsDistinct e (xs ++ ys)
unfolding IsDistinct
distinct_beside e [] ys d h k = h
distinct_beside e (x ∷ xs) ys d h k = (all_append (λ y. e x y ≡ false) xs ys d.0 k.0, distinct_beside e xs ys d.1 h k.1)

pub all_unmapped : {X Y : Type 0} (P : Y → Type 0) (g : X → Y) (xs : List X) → AllByRecursion P (map g xs)
    → AllByRecursion (λ x. P (g x)) xs
all_unmapped P g [] h = tt
all_unmapped P g (x ∷ xs) h = (h.0, all_unmapped P g xs h.1)

pub distinct_unmapped : {X Y : Type 0} (e : Y → Y → Bool) (g : X → Y) (xs : List X) → IsDistinct e (map g xs)
    → IsDistinct (λ x y. e (g x) (g y)) xs
unfolding IsDistinct
distinct_unmapped e g [] h = tt
distinct_unmapped e g (x ∷ xs) h = (all_unmapped (λ y. e (g x) y ≡ false) g xs h.0, distinct_unmapped e g xs h.1)

pub distinct_parts : {X : Type 0} (e : X → X → Bool) (xs ys : List X) → IsDistinct e (xs ++ ys)
    → IsDistinct e xs × IsDistinct e ys × AllByRecursion (λ x. AllByRecursion (λ y. e x y ≡ false) ys) xs
unfolding IsDistinct
distinct_parts e [] ys d = (tt, d, tt)
distinct_parts e (x ∷ xs) ys d =
    let r = distinct_parts e xs ys d.1 in
    let s = all_split (λ y. e x y ≡ false) xs ys d.0 in
    ((s.0, r.0), r.1, (s.1, r.2))
