-- What can be read of a fork as text.
use Rattle.std.specs.Prelude.{ℕ, ℤ, ◌^◌, ◌-◌, true, false, List, [], ◌∷◌, ◌++◌, codes, take, Option, None, Some}
use Rattle.std.specs.List.{flat_map}
use Rattle.std.specs.Fmt.{decimal, digits, format_spec, padded_integral, styled_decimal, styled_signed_decimal}
use Rattle.fork_list.specs.declared.letters.Letters.{Letters}
use Rattle.fork_list.specs.Compressed.{unpacked_length}
use Rattle.fork_list.specs.Listing.{cells_text, kind_text}
use Rattle.fork_salvage.specs.declared.place.Gap.{Gap}
use Rattle.fork_salvage.specs.declared.place.Span.{Span}
use Rattle.fork_salvage.specs.declared.found.FoundRow.{FoundRow}
use Rattle.fork_salvage.specs.declared.salvage.LostRow.{LostRow}
use Rattle.fork_salvage.specs.declared.reference.FoundName.{FoundName}
use Rattle.fork_salvage.specs.declared.reference.FoundName.TheVariants.{Unnamed, Named, Outside}
use Rattle.fork_salvage.specs.declared.reference.Loss.{Loss}
use Rattle.fork_salvage.specs.declared.reference.Loss.TheVariants as loss
use Rattle.fork_salvage.specs.declared.salvage.Item.{Item}
use Rattle.fork_salvage.specs.declared.salvage.Item.TheVariants as item
use Rattle.fork_salvage.specs.Salvage.{items, part}
use Rattle.fork_salvage.specs.Laws.{name_shown}

-- a place in a fork: a dollar sign, and six hexadecimal digits or more
abbrev pub place_text : ℕ → List ℕ
place_text place = 36 ∷ padded_integral (format_spec 32 0 4 6 (2 ^ 64 - 1)) false [] (digits 16 true place)

-- what is missing: how many bytes, where they should be, and how many are left there
abbrev pub gap_text : Gap → List ℕ
gap_text gap = decimal gap.wanted ++ (codes " bytes at " ++ (place_text gap.place ++ (codes ", where " ++ (decimal gap.left ++ codes " are left"))))

-- why a resource can't be read
abbrev pub loss_text : Loss → List ℕ
loss_text (loss.Reference gap) = codes "its reference has " ++ gap_text gap
loss_text (loss.Length gap) = codes "its length has " ++ gap_text gap
loss_text (loss.Bytes gap) = codes "it has " ++ gap_text gap

-- an id to the right of its column
abbrev pub id_text : Option ℤ → List ℕ
id_text None = codes "     ?"
id_text (Some id) = styled_signed_decimal (format_spec 32 3 0 6 (2 ^ 64 - 1)) id

-- a line about a name that ends outside
abbrev pub name_line : FoundName → List ℕ
name_line Unnamed = []
name_line (Named span) = []
name_line (Outside place) = codes "  its name, at " ++ (place_text place ++ codes ", ends outside of the map\n")

-- the line of a resource that can be read, as a list shows it
abbrev pub found_line : Letters → List ℕ → FoundRow → List ℕ
found_line letters fork found =
    cells_text letters found.kind found.id found.bytes.length found.attributes (name_shown fork found.name) (unpacked_length found.attributes.0 (part fork found.bytes)) ++ (10 ∷ name_line found.name)

-- the line of one that can't be read
abbrev pub lost_line : Letters → LostRow → List ℕ
lost_line letters lost =
    kind_text letters lost.kind ++ (32 ∷ (id_text lost.id ++ (codes "        ? can't be read: " ++ (loss_text lost.loss
    ++ (codes "; its reference is at " ++ (place_text lost.reference ++ 10 ∷ []))))))

-- the line of a run of bytes, without type and id
abbrev pub run_line : Span → List ℕ
run_line span = codes "-         - " ++ (styled_decimal (format_spec 32 3 0 8 (2 ^ 64 - 1)) span.length ++ (codes " at " ++ (place_text span.start ++ 10 ∷ [])))

-- the line that there are more resources than the map has room for
abbrev pub more_line : List ℕ
more_line = codes "-         -        ? more can't be read: the map has no room for so many\n"

-- the line of each item
abbrev pub item_line : Letters → List ℕ → Item → List ℕ
item_line letters fork (item.Row found) = found_line letters fork found
item_line letters fork (item.Lost lost) = lost_line letters lost
item_line letters fork item.More = more_line
item_line letters fork (item.Run span) = run_line span

-- the lines of so many items
abbrev pub salvage_listing : Letters → List ℕ → ℕ → List ℕ
salvage_listing letters fork most = flat_map (item_line letters fork) (take most (items fork))
