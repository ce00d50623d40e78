-- Requests for room, when they fit, and which handles may be purged for them.
use Rattle.std.specs.Prelude.{ℕ, ◌+◌, Bool, true, false, not, ◌&&◌, ◌||◌, ◌==◌, nat_le, if◌then◌else◌, List, [], ◌∷◌, filter, filter_map, sum, Option}
use Rattle.std.specs.Option.{option_map_or}
use Rattle.std.specs.List.{list_any}
use Rattle.mac_base.specs.declared.block.Entry.{Entry}
use Rattle.mac_base.specs.declared.request.Request.{Request}
use Rattle.mac_base.specs.declared.request.Request.TheVariants.{NewBlock, NewEmpty, NewPointer, NewMaster, Reserve, Resize, Replace}
use Rattle.mac_base.specs.HeadKind.{Shape, need, master_length}
use Rattle.mac_base.specs.ZoneMap.{ZoneMap, is_named, handle_of, sizes, released}
use Rattle.mac_base.specs.HandleTable.{HandleTable, is_locked, is_pointer, is_purgeable}
use Rattle.mac_base.specs.Gap.{Gap, gaps, room, some_gap_has, own_gap, gap_after}

-- the bytes of contents that it asks for
abbrev pub length_asked : Request → ℕ
length_asked (NewBlock n) = n
length_asked NewEmpty = 0
length_asked (NewPointer n) = n
length_asked NewMaster = master_length
length_asked (Reserve n) = n
length_asked (Resize x n) = n
length_asked (Replace h n) = n

-- the physical size that it needs
abbrev pub size_needed : Shape → Request → ℕ
size_needed s r = need s.heads (length_asked r)

-- the map in which it looks for room: a block that is to be replaced counts as free
abbrev pub searched : Request → ZoneMap → ZoneMap
searched (Replace h n) m = released h m
searched _ m = m

-- whether the block of x stays where it is
abbrev pub stays : HandleTable → ℕ → Bool
stays t x = is_pointer t x || is_locked t x

-- the size of the block that x names
abbrev pub size_of : ℕ → ZoneMap → ℕ
size_of x m = sum (sizes (is_named x) m)

-- the gap in which the block of x can grow without a new place
abbrev pub gap_to_grow : HandleTable → ℕ → ZoneMap → Option Gap
gap_to_grow t x m = if stays t x then gap_after x (gaps t m) else own_gap x (gaps t m)

-- the room of a gap, if there is one
abbrev pub room_of : Option Gap → ℕ
room_of g = option_map_or room g 0

-- whether the block of x can be made k bytes long. One that stays can use only the gap right after it
abbrev pub can_grow : HandleTable → ℕ → ℕ → ZoneMap → Bool
can_grow t x k m = nat_le k (size_of x m + room_of (gap_to_grow t x m)) || (not (stays t x) && some_gap_has k (gaps t m))

-- whether a request for k bytes can be served in this map by moving blocks alone
abbrev pub fits_size : HandleTable → ℕ → ZoneMap → Request → Bool
fits_size t k m NewEmpty = true
fits_size t k m (Resize x n) = can_grow t x k m
fits_size t k m _ = some_gap_has k (gaps t m)

-- whether the request fits
abbrev pub fits : Shape → HandleTable → Request → ZoneMap → Bool
fits s t r m = fits_size t (size_needed s r) (searched r m) r

-- whether a handle is among those that a running call protects
abbrev pub is_among : List ℕ → ℕ → Bool
is_among xs x = list_any (λ y. y == x) xs

-- the handles of these blocks that may be purged, in order of address
abbrev pub candidates_in : HandleTable → List ℕ → ZoneMap → List ℕ
candidates_in t protected m = filter (λ h. is_purgeable t h && not (is_among protected h)) (filter_map (λ (e : Entry). handle_of e.kind) m)

-- the blocks among which a request may purge: for one that stays and grows those of the gap right after it
abbrev pub blocks_to_purge : HandleTable → Request → ZoneMap → ZoneMap
blocks_to_purge t (Resize x n) m = if stays t x then option_map_or (λ (g : Gap). g.blocks) (gap_after x (gaps t m)) [] else m
blocks_to_purge t _ m = m

-- the handles that may be purged for a request, in order of address
abbrev pub candidates : HandleTable → List ℕ → Request → ZoneMap → List ℕ
candidates t protected r m = candidates_in t protected (blocks_to_purge t r m)

-- the shortest prefix of the handles after whose release the map passes the test, and all where none does
abbrev pub purged_until : (ZoneMap → Bool) → List ℕ → ZoneMap → List ℕ
purged_until enough [] m = []
purged_until enough (h ∷ hs) m = if enough m then [] else h ∷ purged_until enough hs (released h m)

-- whether a request makes a handle
abbrev pub makes_handle : Request → Bool
makes_handle (NewBlock n) = true
makes_handle NewEmpty = true
makes_handle _ = false
