-- What is found of a zone, as text.
use Rattle.std.specs.Prelude.{ℕ, ◌^◌, ◌-◌, ◌&&◌, not, min, length, Bool, true, false, if◌then◌else◌, List, [], ◌∷◌, ◌++◌, drop, codes, Option, Some, None}
use Rattle.std.specs.List.{filter, flat_map, sum_by}
use Rattle.std.specs.Fmt.{decimal, digits, format_spec, padded_integral}
use Rattle.mac_base.specs.declared.block.Block.{Block}
use Rattle.mac_base.specs.declared.block.Flags.{Flags}
use Rattle.mac_base.specs.declared.block.Kind.{Kind}
use Rattle.mac_base.specs.declared.block.Kind.TheVariants.{Free, Master, Ptr, Rel}
use Rattle.zone_look.specs.Memory.{problem_number}
use Rattle.zone_look.specs.declared.fault.Fault.{Fault}
use Rattle.zone_look.specs.declared.fault.Problem.{Problem}
use Rattle.zone_look.specs.declared.fault.Problem.TheVariants.{ShortZone, LowLimit, HighLimit, CutHeader, Overlaps, LeavesZone, OddSize, BadTag, BadZone, BadHandle, BadMaster, BadFree, EndlessFree}
use Rattle.zone_look.specs.declared.looking.Found.{Found}
use Rattle.zone_view.specs.declared.shown.Share.{Share}
use Rattle.zone_view.specs.declared.shown.Class.{Class}
use Rattle.zone_view.specs.declared.shown.Class.TheVariants as classes

-- an address: a dollar sign and eight hexadecimal digits
abbrev pub address_text : ℕ → List ℕ
address_text n = 36 ∷ padded_integral (format_spec 32 0 4 8 (2 ^ 64 - 1)) false [] (digits 16 true n)

-- a flag's letter where it is set, else `-`
abbrev pub flag_text : Bool → ℕ → ℕ
flag_text flag letter = if flag then letter else 45

-- the letters L, P and R of a handle's flags
abbrev pub flags_text : Flags → List ℕ
flags_text flags = flag_text flags.lock 76 ∷ flag_text flags.purge 80 ∷ flag_text flags.resource 82 ∷ []

-- what a block is for; of one with an owner also how many bytes its contents have, and of a handle's the handle and its
-- flags
abbrev pub kind_text : Kind → ℕ → Flags → List ℕ
kind_text Free length flags = codes "free"
kind_text Master length flags = codes "master"
kind_text (Ptr pointer) length flags = codes "ptr " ++ decimal length
kind_text (Rel handle) length flags = codes "rel " ++ (address_text handle ++ (32 ∷ (decimal length ++ (32 ∷ flags_text flags))))

-- the line of a block: its address, its physical size, and that
abbrev pub block_line : Block → List ℕ
block_line block = address_text block.address ++ (32 ∷ (decimal block.entry.size ++ (32 ∷ (kind_text block.entry.kind block.length block.flags ++ 10 ∷ []))))

-- a truth of JSON
abbrev pub truth : Bool → List ℕ
truth b = if b then codes "true" else codes "false"

-- what a block is for, as a word
abbrev pub kind_word : Kind → List ℕ
kind_word Free = codes "free"
kind_word Master = codes "master"
kind_word (Ptr pointer) = codes "ptr"
kind_word (Rel handle) = codes "rel"

-- the members of a relocatable block alone: its handle and the flags
abbrev pub handle_members : Kind → Flags → List ℕ
handle_members Free flags = []
handle_members Master flags = []
handle_members (Ptr pointer) flags = []
handle_members (Rel handle) flags = codes ",\"handle\":" ++ (decimal handle ++ (codes ",\"lock\":" ++ (truth flags.lock ++ (codes ",\"purge\":" ++ (truth flags.purge ++ (codes ",\"resource\":" ++ truth flags.resource))))))

-- a block as an object of JSON
abbrev pub block_object : Block → List ℕ
block_object block = codes "{\"address\":" ++ (decimal block.address ++ (codes ",\"size\":" ++ (decimal block.entry.size ++ (codes ",\"kind\":\"" ++ (kind_word block.entry.kind
    ++ (codes "\",\"length\":" ++ (decimal block.length ++ (handle_members block.entry.kind block.flags ++ codes "}"))))))))

-- what is wrong, in words
abbrev pub problem_text : Problem → List ℕ
problem_text ShortZone = codes "there are fewer bytes than the header of a zone has"
problem_text LowLimit = codes "bkLim is before the first block"
problem_text HighLimit = codes "bkLim is after the last byte of the file"
problem_text CutHeader = codes "fewer bytes are left than the header of a block has"
problem_text Overlaps = codes "a block is so small that it overlaps the next"
problem_text LeavesZone = codes "a block leaves the zone"
problem_text OddSize = codes "a block has an odd size"
problem_text BadTag = codes "a block has no kind"
problem_text BadZone = codes "a nonrelocatable block says that it is in another zone"
problem_text BadHandle = codes "a block's master pointer isn't in the zone"
problem_text BadMaster = codes "a master pointer doesn't lead to its block"
problem_text BadFree = codes "a free master pointer isn't in the zone"
problem_text EndlessFree = codes "the list of free master pointers has no end"

-- the line of a fault: its number, the address of what is wrong, what it is, the number there, and the one that would be
-- right
abbrev pub fault_line : Option Fault → List ℕ
fault_line None = []
fault_line (Some fault) = codes "fault " ++ (decimal (problem_number fault.problem) ++ (codes " at " ++ (address_text fault.place ++ (codes ": " ++ (problem_text fault.problem
    ++ (codes ": " ++ (address_text fault.found ++ (codes ", and not " ++ (address_text fault.wanted ++ 10 ∷ [])))))))))

-- a fault as an object of JSON
abbrev pub fault_object : Option Fault → List ℕ
fault_object None = codes "null"
fault_object (Some fault) = codes "{\"problem\":" ++ (decimal (problem_number fault.problem) ++ (codes ",\"place\":" ++ (decimal fault.place
    ++ (codes ",\"found\":" ++ (decimal fault.found ++ (codes ",\"wanted\":" ++ (decimal fault.wanted ++ codes "}")))))))

-- whether a block is free, nonrelocatable or relocatable; and of relocatable ones, whether it is locked, or may be purged
abbrev pub is_of : Class → Block → Bool
is_of class block = of_kind class block.entry.kind block.flags
  where
    of_kind : Class → Kind → Flags → Bool
    of_kind classes.Free Free flags = true
    of_kind classes.Fixed Master flags = true
    of_kind classes.Fixed (Ptr pointer) flags = true
    of_kind classes.Relocatable (Rel handle) flags = true
    of_kind classes.Locked (Rel handle) flags = flags.lock
    of_kind classes.Purgeable (Rel handle) flags = flags.purge && not flags.lock
    of_kind other kind flags = false

-- the blocks of a class
abbrev pub blocks_of : Class → List Block → List Block
blocks_of class blocks = filter (is_of class) blocks

-- how many bytes blocks have together; a number that no zone comes near stays at its last value
abbrev pub bytes_of : List Block → ℕ
bytes_of blocks = min (sum_by (λ block. block.entry.size) blocks) (2 ^ 64 - 1)

-- how many blocks are of a class, and how many bytes these have
abbrev pub share_of : Class → List Block → Share
share_of class blocks = record { count = length (blocks_of class blocks); bytes = bytes_of (blocks_of class blocks) }

-- a number of blocks and of their bytes
abbrev pub share_text : Share → List ℕ
share_text share = decimal share.count ++ (codes " (" ++ (decimal share.bytes ++ codes " bytes)"))

-- these totals in a line
abbrev pub totals_text : Share → Share → Share → Share → Share → List ℕ
totals_text free fixed relocatable locked purgeable = codes "free " ++ (share_text free ++ (codes ", nonrelocatable " ++ (share_text fixed ++ (codes ", relocatable " ++ (share_text relocatable
    ++ (codes ": locked " ++ (share_text locked ++ (codes ", purgeable " ++ (share_text purgeable ++ 10 ∷ [])))))))))

-- the totals of all blocks, in a line
abbrev pub totals_line : List Block → List ℕ
totals_line blocks = totals_text (share_of classes.Free blocks) (share_of classes.Fixed blocks) (share_of classes.Relocatable blocks) (share_of classes.Locked blocks) (share_of classes.Purgeable blocks)

-- the number of free master pointers and the trailer's size, in a line
abbrev pub masters_line : Found → List ℕ
masters_line found = decimal found.free_masters ++ (codes " free master pointers, trailer of " ++ (decimal found.trailer ++ codes " bytes\n"))

-- what is written before the rows: nothing; of JSON the name of the list, and the first block
abbrev pub opening_text : Bool → List Block → List ℕ
opening_text false blocks = []
opening_text true [] = codes "{\"blocks\":["
opening_text true (block ∷ blocks) = codes "{\"blocks\":[\n" ++ block_object block

-- the blocks of which a row is written: of JSON those after the first
abbrev pub rows_of : Bool → List Block → List Block
rows_of false blocks = blocks
rows_of true blocks = drop 1 blocks

-- the row of a block: a line, or an object of JSON in a line after a comma
abbrev pub row_text : Bool → Block → List ℕ
row_text false block = block_line block
row_text true block = codes ",\n" ++ block_object block

-- what is written after the rows: what is found beside the blocks
abbrev pub closing_text : Bool → List Block → Found → List ℕ
closing_text false blocks found = totals_line blocks ++ (masters_line found ++ fault_line found.fault)
closing_text true blocks found = codes "],\n\"free_masters\":" ++ (decimal found.free_masters ++ (codes ",\"trailer\":" ++ (decimal found.trailer ++ (codes ",\n\"fault\":" ++ (fault_object found.fault ++ codes "}\n")))))

-- all that is shown of these blocks and of what is found beside them, as lines or as JSON
abbrev pub look_text : Bool → List Block → Found → List ℕ
look_text is_json blocks found = opening_text is_json blocks ++ (flat_map (row_text is_json) (rows_of is_json blocks) ++ closing_text is_json blocks found)
