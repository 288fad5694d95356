-- The containers that are already known, as the code stores them.
use Rattle.std.specs.Prelude.{◌≡◌, Bool, List}
use Rattle.std.specs.List.{list_any}
use Rattle.std.specs.Borrow.{Bor}
use Rattle.std.specs.BTreeSet.{BTreeSet}
use Rattle.isad_core.specs.Texts.{Bytes}
use Rattle.isad_core.specs.declared.values.BoxKey.{BoxKey}
use Rattle.isad_core.specs.Boxes.{distinct, is_same_box}

-- the container with these three texts
abbrev pub box_with : Bytes → Bytes → Bytes → BoxKey
box_with name location kind = record { name = name; location = location; kind = kind }

-- the container is among those that are kept
abbrev pub has_box : BTreeSet (Bor Bytes × Bor Bytes × Bor Bytes) → BoxKey → Bool
has_box known b = list_any (λ k. is_same_box b (box_with k.0.now k.1.now k.2.now)) known.keys

-- `known` and `boxes` have the containers of `told`, each once
pub record HoldsContainers (known : BTreeSet (Bor Bytes × Bor Bytes × Bor Bytes)) (boxes told : List BoxKey) : Type 0 where
  pub kept : boxes ≡ distinct told
  pub stood : (q : BoxKey) → has_box known q ≡ list_any (is_same_box q) told
