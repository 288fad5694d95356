-- Levels of description (ISAD(G) 3.1.4), and how far each lies from the top of its fonds.
use Rattle.std.specs.Prelude.{ℕ, Bool, not, ◌==◌, Option, List, [], ◌∷◌, filter, find, option_map, codes}
use Rattle.std.specs.Str.{str_eq_ignore_ascii_case}
use Rattle.isad_core.specs.Texts.{Bytes}

-- hyphens do not matter: `Sub-series` and `Subseries` name the same level
abbrev pub without_hyphens : Bytes → Bytes
without_hyphens = filter (λ b. not (b == 45))

-- a text names a level; the case of ASCII letters does not matter
abbrev pub names_level : Bytes → Bytes → Bool
names_level text name = str_eq_ignore_ascii_case (without_hyphens text) name

pub record Level : Type 0 where
  pub name : Bytes
  pub rank : ℕ

-- the levels that the standard names, from the general to the specific (ISAD(G) 2.1)
abbrev pub levels : List Level
levels = record { name = codes "fonds"; rank = 1 }
    ∷ record { name = codes "collection"; rank = 1 }
    ∷ record { name = codes "subfonds"; rank = 2 }
    ∷ record { name = codes "series"; rank = 3 }
    ∷ record { name = codes "subseries"; rank = 4 }
    ∷ record { name = codes "file"; rank = 5 }
    ∷ record { name = codes "item"; rank = 6 } ∷ []

-- the rank of the level that a text names: a smaller rank is nearer to the top
abbrev pub rank_of : Bytes → Option ℕ
rank_of text = option_map (λ level. level.rank) (find (λ level. names_level text level.name) levels)
