-- A resource by its type, and its id or its name.
use Rattle.std.specs.Prelude.{ℕ, ◌&&◌, Bool, false, List, Option, None, Some, bytes_eq}
use Rattle.std.specs.Ordering.{int_eq}
use Rattle.mac_base.specs.declared.resource.Resource.{Resource}
use Rattle.fork_list.specs.declared.find.Key.{Key}
use Rattle.fork_list.specs.declared.find.Key.TheVariants.{Id, Name}
use Rattle.fork_list.specs.declared.find.Wanted.{Wanted}

-- whether a resource has this name
abbrev pub is_named : List ℕ → Option (List ℕ) → Bool
is_named name None = false
is_named name (Some own) = bytes_eq own name

-- whether a row has this id, or this name
abbrev pub has_key : {X : Type 0} → Key → Resource X → Bool
has_key (Id id) row = int_eq row.id id
has_key (Name name) row = is_named name.items row.name

-- whether a row is of the type that is wanted, and has its id or its name
abbrev pub is_wanted : {X : Type 0} → Wanted → Resource X → Bool
is_wanted wanted row = bytes_eq row.kind wanted.kind && has_key wanted.key row
