-- What each plan to read a fork is, and what a cursor has left of it.
use Rattle.std.specs.Prelude.{◌≡◌, ◌≢◌, ℕ, ◌+◌, ◌*◌, ◌<◌, ◌≤◌, ◌++◌, List, length}
use Rattle.std.specs.BTreeMap.{BTreeMap, get}
use Rattle.std.specs.Cmp.Lexicographic.{slice_cmp}
use Rattle.std.specs.Ordering.{nat_cmp}
use Rattle.fork_bytes.specs.Fork.{Reference, places}
use Rattle.fork_salvage.specs.declared.place.Span.{Span}
use Rattle.fork_salvage.specs.declared.entry.Types.{Types}
use Rattle.fork_salvage.specs.declared.plan.Plan.{Plan}
use Rattle.fork_salvage.specs.declared.cursor.Cursor.{Cursor}
use Rattle.fork_salvage.specs.declared.salvage.Chain.{Chain}
use Rattle.fork_salvage.specs.declared.salvage.Item.{Item}
use Rattle.fork_salvage.specs.declared.reference.MapReference.{MapReference}
use Rattle.fork_salvage.specs.Faults.{earlier_type}
use Rattle.fork_salvage.specs.Salvage.{told_list, map_in, references_at, references_from, items_of, runs, told_plan}

-- a part lies within the fork
abbrev pub IsWithin : List ℕ → Span → Type 0
IsWithin fork span = span.start + span.length ≤ length fork

-- the type list lies within the map, which has a header
pub record IsTypes (resource_map : List ℕ) (types : Types) : Type 0 where
  pub place : types.place < 65536
  pub count : types.count < 65536
  pub header : 0 < types.count → 28 ≤ length resource_map
  pub entries : 0 < types.count → types.place + 2 + 8 * types.count ≤ length resource_map

-- it has, of each type, the index of the first of so many entries that has it
abbrev pub AreFirsts : BTreeMap (List ℕ) ℕ → List ℕ → Types → ℕ → Type 0
AreFirsts firsts resource_map types n = (kind : List ℕ) → get (slice_cmp nat_cmp) firsts kind ≡ earlier_type resource_map types kind (places n 0 1)

-- of so many entries no two have one type
abbrev pub AreDistinct : List ℕ → Types → ℕ → Type 0
AreDistinct resource_map types n = (i j : ℕ) → i < j → j < n → (told_list resource_map types i).kind ≢ (told_list resource_map types j).kind

-- an entry has the type of an earlier one, and of the entries before it no two have one type
pub record IsRepeat (resource_map : List ℕ) (types : Types) (first second : ℕ) : Type 0 where
  pub order : first < second
  pub inside : second < types.count
  pub same : (told_list resource_map types first).kind ≡ (told_list resource_map types second).kind
  pub before : AreDistinct resource_map types second

-- the parts of a plan lie within the fork
pub record IsPlan (fork : List ℕ) (plan : Plan) : Type 0 where
  pub map : IsWithin fork plan.map
  pub bytes : IsWithin fork plan.«data»
  pub types : IsTypes (map_in fork plan) plan.types

-- a plan as the fork gives it, of which the map has a header and the type list
pub record IsTold (fork : List ℕ) (plan : Plan) : Type 0 where
  pub told : plan ≡ told_plan fork
  pub within : IsPlan fork plan
  pub header : 28 ≤ length (map_in fork plan)
  pub inside : plan.types.place + 2 + 8 * plan.types.count ≤ length (map_in fork plan)

-- what a cursor has left: the rest of a list, and the lists of the entries from one on
abbrev pub left_of : List ℕ → Plan → Cursor → List Reference
left_of fork plan cursor = references_at cursor.list ++ references_from fork plan cursor.next

-- a reference as the definitions of forks have it
abbrev pub reference_of : MapReference → Reference
reference_of reference = record { kind = reference.kind; place = reference.place }

-- a cursor within the type list, and a list of small numbers
pub record IsCursor (plan : Plan) (cursor : Cursor) : Type 0 where
  pub next : cursor.next ≤ plan.types.count
  pub small : cursor.list.start + 12 * cursor.list.count < 2000000
  pub types : 0 < cursor.list.count → 0 < plan.types.count

-- the items that are left, of so many references at most
abbrev pub items_left : List ℕ → Plan → Cursor → ℕ → Chain → List Item
items_left fork plan cursor room chain = items_of fork plan (left_of fork plan cursor) room ++ runs chain.most chain.at fork
