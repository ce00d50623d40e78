-- The kinds of pictures, by the types of resources.
use Rattle.std.specs.Prelude.{ℕ, if◌then◌else◌, List, codes, bytes_eq, Option, Some, None}
use Rattle.fork_pictures.specs.declared.kind.IconColours.TheVariants.{Sixteen, All}
use Rattle.fork_pictures.specs.declared.kind.IconSize.{IconSize}
use Rattle.fork_pictures.specs.declared.kind.IconSize.TheVariants.{Large, Small, Mini}
use Rattle.fork_pictures.specs.declared.kind.Kind.{Kind}
use Rattle.fork_pictures.specs.declared.kind.Kind.TheVariants.{Icon, Masked, InColour, SmallIcons, Cursor, Pattern, Patterns, ColourIcon, ColourCursor, ColourPattern, ColourTable, Palette}

-- the kind of the resources of a type
abbrev pub kind_of : List ℕ → Option Kind
kind_of kind =
    if bytes_eq kind (codes "ICON") then Some Icon
    else if bytes_eq kind (codes "ICN#") then Some (Masked Large)
    else if bytes_eq kind (codes "ics#") then Some (Masked Small)
    else if bytes_eq kind (codes "icm#") then Some (Masked Mini)
    else if bytes_eq kind (codes "icl4") then Some (InColour Large Sixteen)
    else if bytes_eq kind (codes "ics4") then Some (InColour Small Sixteen)
    else if bytes_eq kind (codes "icm4") then Some (InColour Mini Sixteen)
    else if bytes_eq kind (codes "icl8") then Some (InColour Large All)
    else if bytes_eq kind (codes "ics8") then Some (InColour Small All)
    else if bytes_eq kind (codes "icm8") then Some (InColour Mini All)
    else if bytes_eq kind (codes "SICN") then Some SmallIcons
    else if bytes_eq kind (codes "CURS") then Some Cursor
    else if bytes_eq kind (codes "PAT ") then Some Pattern
    else if bytes_eq kind (codes "PAT#") then Some Patterns
    else if bytes_eq kind (codes "cicn") then Some ColourIcon
    else if bytes_eq kind (codes "crsr") then Some ColourCursor
    else if bytes_eq kind (codes "ppat") then Some ColourPattern
    else if bytes_eq kind (codes "clut") then Some ColourTable
    else if bytes_eq kind (codes "pltt") then Some Palette
    else None

-- the type of the resource that has the mask, of icons in colour
abbrev pub mask_type : Kind → Option (List ℕ)
mask_type (InColour Large colours) = Some (codes "ICN#")
mask_type (InColour Small colours) = Some (codes "ics#")
mask_type (InColour Mini colours) = Some (codes "icm#")
mask_type kind = None

-- how many pixels an icon is wide and high
abbrev pub width_of : IconSize → ℕ
width_of Large = 32
width_of Small = 16
width_of Mini = 16

abbrev pub height_of : IconSize → ℕ
height_of Large = 32
height_of Small = 16
height_of Mini = 12
