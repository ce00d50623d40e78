-- The Finder flags of a file (Inside Macintosh: Macintosh Toolbox Essentials).
use Rattle.std.specs.Prelude.{ℕ, ◌==◌, ◌/◌, ◌%◌, not, Bool, List, [], ◌∷◌, codes}
use Rattle.std.specs.List.{filter}
use Rattle.std.specs.Int.RustNames.{bit_and}
use Rattle.file_facts.specs.declared.flag.Flag.{Flag}
use Rattle.file_facts.specs.declared.flag.Flag.TheVariants as flag

-- the bit of a flag, and the word for it
abbrev pub named : Flag → ℕ × List ℕ
named flag.IsAlias = (0x8000, codes "isAlias")
named flag.IsInvisible = (0x4000, codes "isInvisible")
named flag.HasBundle = (0x2000, codes "hasBundle")
named flag.NameLocked = (0x1000, codes "nameLocked")
named flag.IsStationery = (0x0800, codes "isStationery")
named flag.HasCustomIcon = (0x0400, codes "hasCustomIcon")
named flag.Bit9 = (0x0200, codes "bit9")
named flag.HasBeenInited = (0x0100, codes "hasBeenInited")
named flag.HasNoInits = (0x0080, codes "hasNoINITs")
named flag.IsShared = (0x0040, codes "isShared")
named flag.Bit5 = (0x0020, codes "bit5")
named flag.Bit4 = (0x0010, codes "bit4")
named flag.IsOnDesk = (0x0001, codes "isOnDesk")

abbrev pub bit_of : Flag → ℕ
bit_of flag = (named flag).0

abbrev pub word_of : Flag → List ℕ
word_of flag = (named flag).1

-- all flags but the color, the highest bit first
abbrev pub all_flags : List Flag
all_flags = flag.IsAlias ∷ flag.IsInvisible ∷ flag.HasBundle ∷ flag.NameLocked ∷ flag.IsStationery ∷ flag.HasCustomIcon ∷ flag.Bit9
    ∷ flag.HasBeenInited ∷ flag.HasNoInits ∷ flag.IsShared ∷ flag.Bit5 ∷ flag.Bit4 ∷ flag.IsOnDesk ∷ []

-- the flag is set
abbrev pub is_set : ℕ → Flag → Bool
is_set flags flag = not (bit_and flags (bit_of flag) == 0)

-- those of these flags that are set
abbrev pub set_among : ℕ → List Flag → List Flag
set_among flags all = filter (is_set flags) all

-- the number of the color, from 1 to 7; 0 is none
abbrev pub color : ℕ → ℕ
color flags = flags / 2 % 8
