-- What holds of all that an option can have.
use Rattle.std.proofs.Common.{◌≡◌, Bool, true, false, refl, Option, None, Some, cond}
use Rattle.http_desk.proofs.Common.{IfSome, option_and_then, option_map}

module _ {A B : Type 0} (P : B → Type 0) where
  pub each_then : (f : A → Option B) (o : Option A) → ((a : A) → IfSome (f a) P) → IfSome (option_and_then f o) P
  each_then f None h = tt
  each_then f (Some a) h = h a

  pub each_map : (f : A → B) (o : Option A) → ((a : A) → P (f a)) → IfSome (option_map f o) P
  each_map f None h = tt
  each_map f (Some a) h = h a

  pub known_then : (Q : A → Type 0) (f : A → Option B) (o : Option A) → IfSome o Q → ((a : A) → Q a → IfSome (f a) P)
      → IfSome (option_and_then f o) P
  known_then Q f None q h = tt
  known_then Q f (Some a) q h = h a q

  pub known_map : (Q : A → Type 0) (f : A → B) (o : Option A) → IfSome o Q → ((a : A) → Q a → P (f a))
      → IfSome (option_map f o) P
  known_map Q f None q h = tt
  known_map Q f (Some a) q h = h a q

pub if_some : {A : Type 0} (P : A → Type 0) (b : Bool) (a : A) → (b ≡ true → P a) → IfSome (cond b (Some a) None) P
if_some P true a h = h refl
if_some P false a h = tt

pub if_then : {A : Type 0} (P : A → Type 0) (b : Bool) (o : Option A) → (b ≡ true → IfSome o P)
    → IfSome (cond b o None) P
if_then P true o h = h refl
if_then P false o h = tt

pub either_way : {A : Type 0} (P : A → Type 0) (b : Bool) (o p : Option A) → (b ≡ true → IfSome o P)
    → (b ≡ false → IfSome p P) → IfSome (cond b o p) P
either_way P true o p h k = h refl
either_way P false o p h k = k refl
