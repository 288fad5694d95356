-- What a unit's own line shows of it (ISAD(G) 3.1: its identity).
use Rattle.isad_core.specs.Values.{identifier, title}
use Rattle.catalogue_core.specs.Units.{Unit}
use Rattle.catalogue_store.specs.declared.heads.Head.{Head}

-- the number, the level, the identifier and the title of a unit, whether it is a draft, and its closure
abbrev pub head_of : Unit → Head
head_of u = record {
  id = u.id;
  level = u.values.level;
  identifier = identifier u.values;
  title = title u.values;
  draft = u.draft;
  until = u.until;
}
