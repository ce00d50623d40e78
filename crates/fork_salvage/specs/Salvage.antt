-- What can still be read of a damaged fork.
use Rattle.std.specs.Prelude.{ℕ, zero, suc, ◌+◌, ◌-◌, ◌*◌, ◌/◌, ◌==◌, ◌&&◌, not, nat_le, nat_lt, min, max, if◌then◌else◌, Bool, true, false, List, [], ◌∷◌, ◌++◌, length, take, sum_by, slice_index, None, Some, Result, Ok, Err, is_ok}
use Rattle.std.specs.List.{flat_map, list_all}
use Rattle.std.specs.Int.{w16, cast_signed}
use Rattle.fork_bytes.specs.Fork.{number_at, bytes_at, count_at, attributes_of, places, type_list, name_list, Reference, references_in, format_limits, most_rows, most_bytes}
use Rattle.fork_salvage.specs.declared.place.Span.{Span}
use Rattle.fork_salvage.specs.declared.place.NameSpan.{NameSpan}
use Rattle.fork_salvage.specs.declared.place.Parts.{Parts}
use Rattle.fork_salvage.specs.declared.entry.Types.{Types}
use Rattle.fork_salvage.specs.declared.entry.ReferenceList.{ReferenceList}
use Rattle.fork_salvage.specs.declared.reference.FoundName.{FoundName}
use Rattle.fork_salvage.specs.declared.reference.FoundName.TheVariants.{Unnamed, Named, Outside}
use Rattle.fork_salvage.specs.declared.reference.Loss.{Loss}
use Rattle.fork_salvage.specs.declared.reference.Loss.TheVariants as loss
use Rattle.fork_salvage.specs.declared.plan.Plan.{Plan}
use Rattle.fork_salvage.specs.declared.found.FoundRow.{FoundRow}
use Rattle.fork_salvage.specs.declared.salvage.LostRow.{LostRow}
use Rattle.fork_salvage.specs.declared.salvage.Item.{Item}
use Rattle.fork_salvage.specs.declared.salvage.Item.TheVariants.{Row, Lost, More, Run}

-- the bytes of a part of a fork
abbrev pub part : List ℕ → Span → List ℕ
part fork span = bytes_at span.length span.start fork

-- the bytes of a name
abbrev pub name_part : List ℕ → NameSpan → List ℕ
name_part fork span = part fork (record { start = span.start; length = span.length })

-- the map and the data, where a plan says that they are
abbrev pub map_in : List ℕ → Plan → List ℕ
map_in fork plan = part fork plan.map

abbrev pub data_in : List ℕ → Plan → List ℕ
data_in fork plan = part fork plan.«data»

-- the list of references that an entry names
abbrev pub told_list : List ℕ → Types → ℕ → ReferenceList
told_list resource_map types i = let at = types.place + 2 + 8 * i in record {
  kind = bytes_at 4 at resource_map;
  count = count_at (at + 4) resource_map;
  start = types.place + number_at 2 (at + 6) resource_map;
}

-- how many references the entries name
abbrev pub told_count : List ℕ → Types → ℕ
told_count resource_map types = sum_by (λ i. (told_list resource_map types i).count) (places types.count 0 1)

-- where a list of references ends
abbrev pub list_end : ReferenceList → ℕ
list_end list = list.start + 12 * list.count

-- where the list before that of an entry ends; before the first it is the type list
abbrev pub end_before : List ℕ → Types → ℕ → ℕ
end_before resource_map types i =
    if i == 0 then types.place + 2 + 8 * types.count else list_end (told_list resource_map types (i - 1))

-- where the list after that of an entry begins; after the last it is the name list, whose place counts from the map's
-- start
abbrev pub next_start : List ℕ → Types → ℕ → ℕ
next_start resource_map types i =
    if nat_lt (i + 1) types.count then (told_list resource_map types (i + 1)).start else name_list resource_map

-- the references of a list
abbrev pub references_at : ReferenceList → List Reference
references_at list = references_in (record { kind = list.kind; count = list.count; start = list.start })

-- where the bytes are whose length is at a place of the data
abbrev pub datum_found : List ℕ → Plan → ℕ → Result Span Loss
datum_found fork plan datum =
    let bytes = data_in fork plan in let place = plan.«data».start + datum in let count = number_at 4 datum bytes in
    if nat_lt (length bytes) (datum + 4) then Err (loss.Length (record { place = place; wanted = 4; left = length bytes - datum }))
    else (if nat_lt (length bytes) (datum + 4 + count) then Err (loss.Bytes (record { place = place; wanted = count; left = length bytes - (datum + 4) }))
    else Ok (record { start = place + 4; length = count }))

-- where the bytes of the reference at a place of the map are in the fork, or what of it ends outside
abbrev pub bytes_found : List ℕ → Plan → ℕ → Result Span Loss
bytes_found fork plan at = let resource_map = map_in fork plan in
    if nat_lt (length resource_map) (at + 12) then Err (loss.Reference (record { place = plan.map.start + at; wanted = 12; left = length resource_map - at }))
    else datum_found fork plan (number_at 3 (at + 5) resource_map)

-- the name of the reference at a place of the map: where its bytes are in the fork, unless it has none or ends
-- outside
abbrev pub name_found : List ℕ → Plan → ℕ → FoundName
name_found fork plan at =
    let resource_map = map_in fork plan in let offset = number_at 2 (at + 2) resource_map in
    let start = name_list resource_map + offset in
    if offset == 65535 then Unnamed
    else (if nat_le (start + 1 + slice_index resource_map start) (length resource_map)
    then Named (record { start = plan.map.start + start + 1; length = slice_index resource_map start }) else Outside (plan.map.start + start))

-- the reference has its bytes
abbrev pub has_bytes : List ℕ → Plan → ℕ → Bool
has_bytes fork plan at = is_ok (bytes_found fork plan at)

-- the reference has its name, or none
abbrev pub is_inside : FoundName → Bool
is_inside Unnamed = true
is_inside (Named span) = true
is_inside (Outside place) = false

-- all references of a list have their bytes
abbrev pub is_whole : List ℕ → Plan → ReferenceList → Bool
is_whole fork plan list = list_all (λ (r : Reference). has_bytes fork plan r.place) (references_at list)

-- the list of an entry in the room between the lists beside it: of as many references as its entry says, or as many as
-- have room
abbrev pub list_in_room : ReferenceList → ℕ → ℕ → ReferenceList
list_in_room told room next =
    if room + 12 * told.count == next then record told { start = room }
    else (if (told.start == room) && nat_lt room next then record told { count = (next - room) / 12 } else told)

-- the list of an entry, as the entry says where the list is whole or the plan is not mended, or else in its room; in a
-- crowded map none is taken to be whole
abbrev pub list_of : List ℕ → Plan → ℕ → ReferenceList
list_of fork plan i =
    let resource_map = map_in fork plan in let told = told_list resource_map plan.types i in
    if not plan.mended then told
    else (if not plan.crowded && is_whole fork plan told then told else list_in_room told (end_before resource_map plan.types i) (next_start resource_map plan.types i))

-- the references of the entries from one on
abbrev pub references_from : List ℕ → Plan → ℕ → List Reference
references_from fork plan i = flat_map (λ k. references_at (list_of fork plan k)) (places (plan.types.count - i) i 1)

-- all references, in the map's order
abbrev pub references : List ℕ → Plan → List Reference
references fork plan = references_from fork plan 0

-- those that are looked at: no more than the map has room for
abbrev pub most_listed : List ℕ → Plan → ℕ
most_listed fork plan = most_rows format_limits (length (map_in fork plan))

-- how many bytes all resources have at most, with their lengths
abbrev pub most_summed : List ℕ → Plan → ℕ
most_summed fork plan = most_bytes format_limits (length (data_in fork plan))

abbrev pub listed : List ℕ → Plan → List Reference
listed fork plan = take (most_listed fork plan) (references fork plan)

-- a reference is neither without its bytes nor without its name
abbrev pub is_kept : List ℕ → Plan → Reference → Bool
is_kept fork plan r = has_bytes fork plan r.place && is_inside (name_found fork plan r.place)

-- so are all that are looked at
abbrev pub keeps_all : List ℕ → Plan → Bool
keeps_all fork plan = list_all (is_kept fork plan) (listed fork plan)

-- the parts that the header at an offset of the fork says
abbrev pub parts_at : ℕ → List ℕ → Parts
parts_at at fork = record {
  map = record { start = number_at 4 (at + 4) fork; length = number_at 4 (at + 12) fork };
  «data» = record { start = number_at 4 at fork; length = number_at 4 (at + 8) fork };
}

-- the parts lie within a fork of so many bytes, and the map has a header
abbrev pub lies_within : ℕ → Parts → Bool
lies_within fork_length parts =
    nat_le (parts.«data».start + parts.«data».length) fork_length && nat_le (parts.map.start + parts.map.length) fork_length && nat_le 28 parts.map.length

-- the type list, where the map says that it is, with as many types as it says
abbrev pub told_types : List ℕ → Types
told_types resource_map = record { place = type_list resource_map; count = count_at (type_list resource_map) resource_map }

-- the fork as its header and its map give it
abbrev pub told_plan : List ℕ → Plan
told_plan fork = let parts = parts_at 0 fork in record {
  map = parts.map;
  «data» = parts.«data»;
  types = told_types (part fork parts.map);
  mended = false;
  crowded = false;
}

-- so it may be read: its parts and its type list lie within it
abbrev pub may_be_told : List ℕ → Bool
may_be_told fork = let plan = told_plan fork in
    nat_le 16 (length fork) && lies_within (length fork) (parts_at 0 fork) && nat_le (plan.types.place + 2 + 8 * plan.types.count) (length (map_in fork plan))

-- a header is where it says itself that the map is: this is the map's copy of it
abbrev pub is_copy : List ℕ → ℕ → Bool
is_copy fork at = let parts = parts_at at fork in (parts.map.start == at) && lies_within (length fork) parts

-- the parts of a fork: its header's, or those with the map after the data or the data before the map; the first that
-- lie within it
abbrev pub parts_beside : ℕ → Parts → Parts
parts_beside fork_length own =
    let map_after = record own { map = record { start = own.«data».start + own.«data».length; length = own.map.length } } in
    let data_before = record own { «data» = record { start = own.map.start - own.«data».length; length = own.«data».length } } in
    if lies_within fork_length own then own
    else (if lies_within fork_length map_after then map_after
    else (if lies_within fork_length data_before then data_before else own))

-- the parts of a damaged fork: by a copy of the header at the map, or at the end of the data; else by its own header;
-- of fewer than 16 bytes there are none
abbrev pub mended_parts : List ℕ → Parts
mended_parts fork =
    let own = parts_at 0 fork in let after = own.«data».start + own.«data».length in
    if nat_lt (length fork) 16 then record { map = record { start = 0; length = 0 }; «data» = record { start = 0; length = 0 } }
    else (if is_copy fork own.map.start then parts_at own.map.start fork
    else (if is_copy fork after then parts_at after fork else parts_beside (length fork) own))

-- the first list of references begins right after the type list
abbrev pub fits : List ℕ → Types → Bool
fits resource_map types = not (types.count == 0) && ((told_list resource_map types 0).start == types.place + 2 + 8 * types.count)

-- the type list with so many types as lie within the map
abbrev pub clipped : List ℕ → ℕ → Types
clipped resource_map place = record { place = place; count = min (count_at place resource_map) ((length resource_map - (place + 2)) / 8) }

-- the type list, where the map says that it is; or at 28, where it mostly is, if it fits there alone
abbrev pub types_found : List ℕ → Types
types_found resource_map = let told = clipped resource_map (type_list resource_map) in let usual = clipped resource_map 28 in
    if not (fits resource_map told) && fits resource_map usual then usual else told

-- as many types as lie before the first list of references, if that list ends where the next one begins
abbrev pub types_before_lists : List ℕ → Types → Types
types_before_lists resource_map types =
    let first = told_list resource_map types 0 in
    let fewer = record types { count = (first.start - (types.place + 2)) / 8 } in
    if nat_lt fewer.count types.count && fits resource_map fewer && (list_end first == next_start resource_map fewer 0) then fewer else types

-- the types of a damaged fork's map; none where it has no header
abbrev pub mended_types : List ℕ → Types
mended_types resource_map =
    if nat_lt (length resource_map) 28 then record { place = 0; count = 0 } else types_before_lists resource_map (types_found resource_map)

-- the parts, as far as they lie within the fork: the map goes on to its end, and the data at least to the map
abbrev pub stretched : ℕ → Parts → Parts
stretched fork_length parts =
    let data_end = min fork_length (max (parts.«data».start + parts.«data».length) parts.map.start) in record {
      map = record { start = min parts.map.start fork_length; length = fork_length - parts.map.start };
      «data» = record { start = min parts.«data».start fork_length; length = data_end - parts.«data».start };
    }

-- the entries name more references than the map has room for
abbrev pub is_crowded : List ℕ → Types → Bool
is_crowded resource_map types = nat_lt (most_rows format_limits (length resource_map)) (told_count resource_map types)

-- the plan of a damaged fork
abbrev pub mended_plan : List ℕ → Plan
mended_plan fork =
    let parts = stretched (length fork) (mended_parts fork) in let resource_map = part fork parts.map in let types = mended_types resource_map in record {
      map = parts.map;
      «data» = parts.«data»;
      types = types;
      mended = true;
      crowded = is_crowded resource_map types;
    }

-- how the fork is read: as it says, if nothing is lost by that
abbrev pub plan_of : List ℕ → Plan
plan_of fork = if may_be_told fork && keeps_all fork (told_plan fork) then told_plan fork else mended_plan fork

-- the attributes of a map, if it has a header
abbrev pub attributes_in : List ℕ → ℕ
attributes_in resource_map = if nat_lt (length resource_map) 28 then 0 else attributes_of resource_map

abbrev pub attributes_found : List ℕ → ℕ
attributes_found fork = attributes_in (map_in fork (plan_of fork))

-- a reference that has its bytes, and one that hasn't
abbrev pub found_row : List ℕ → Plan → Reference → Span → FoundRow
found_row fork plan reference bytes = let at = reference.place in let resource_map = map_in fork plan in record {
  kind = reference.kind;
  id = cast_signed w16 (number_at 2 at resource_map);
  name = name_found fork plan at;
  attributes = record { 0 = slice_index resource_map (at + 4) };
  reference = plan.map.start + at;
  bytes = bytes;
}

abbrev pub lost_row : List ℕ → Plan → Reference → Loss → LostRow
lost_row fork plan reference cause = let at = reference.place in let resource_map = map_in fork plan in record {
  kind = reference.kind;
  id = if nat_le (at + 2) (length resource_map) then Some (cast_signed w16 (number_at 2 at resource_map)) else None;
  reference = plan.map.start + at;
  loss = cause;
}

abbrev pub item_with : List ℕ → Plan → Reference → Result Span Loss → Item
item_with fork plan reference (Ok bytes) = Row (found_row fork plan reference bytes)
item_with fork plan reference (Err cause) = Lost (lost_row fork plan reference cause)

-- each reference is given or reported
abbrev pub item_of : List ℕ → Plan → Reference → Item
item_of fork plan reference = item_with fork plan reference (bytes_found fork plan reference.place)

-- runs of a length and so many bytes, each right after the one before, as far as they lie within the fork; so many at
-- most
abbrev pub runs : ℕ → ℕ → List ℕ → List Item
runs zero at fork = []
runs (suc most) at fork = let count = number_at 4 at fork in
    if nat_le (at + 4 + count) (length fork) then Run (record { start = at + 4; length = count }) ∷ runs most (at + 4 + count) fork else []

-- where the data begins if nothing else is known
abbrev pub runs_start : List ℕ → Plan → ℕ
runs_start fork plan = let start = plan.«data».start in if nat_le 16 start && nat_lt start (length fork) then start else 256

-- the runs of a damaged fork in which no type is found
abbrev pub runs_of : List ℕ → Plan → List Item
runs_of fork plan = if plan.mended && (plan.types.count == 0) then runs (length fork) (runs_start fork plan) fork else []

-- an item for each of these references, of so many at most: that there are more is the last
abbrev pub items_of : List ℕ → Plan → List Reference → ℕ → List Item
items_of fork plan [] most = []
items_of fork plan (r ∷ rs) zero = More ∷ []
items_of fork plan (r ∷ rs) (suc most) = item_of fork plan r ∷ items_of fork plan rs most

-- all that can be read: an item for each reference that the map has room for, or the runs
abbrev pub items : List ℕ → List Item
items fork = let plan = plan_of fork in items_of fork plan (references fork plan) (most_listed fork plan) ++ runs_of fork plan
