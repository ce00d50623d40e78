-- A resource on a page.
use Rattle.std.specs.Prelude.{ℕ, ℤ, min, List, [], ◌∷◌, ◌++◌, length, codes, string_bytes, Option}
use Rattle.std.specs.Fmt.{decimal, signed_decimal}
use Rattle.base64.specs.Engines.{standard}
use Rattle.base64.specs.GeneralPurpose.{encode_of}
use Rattle.fork_bytes.specs.Rows.{Row}
use Rattle.fork_list.specs.declared.letters.Letters.TheVariants.{Roman}
use Rattle.fork_list.specs.Listing.{name_text}
use Rattle.fork_list.specs.Quoted.{quoted}
use Rattle.html_text.specs.declared.tag.AttributeName.TheVariants.{Alternative, Controls, Label, Source}
use Rattle.html_text.specs.declared.tag.Tag.{Tag}
use Rattle.html_text.specs.declared.tag.Tag.TheVariants.{Article, Audio, Details, Heading3, Image, Paragraph, Preformatted, Summary}
use Rattle.html_text.specs.Texts.{end_tag, html_text, start_tag}
use Rattle.fork_page.specs.declared.shown.Shown.{Shown}
use Rattle.fork_page.specs.declared.shown.Shown.TheVariants as shown
use Rattle.fork_page.specs.declared.shown.TheConstants.{FRONT}

-- its title: type, id, and its name if it has one
abbrev pub title_text : List ℕ → ℤ → Option (List ℕ) → List ℕ
title_text kind id name = quoted Roman 39 kind ++ (32 ∷ (signed_decimal id ++ name_text Roman name))

-- an element that has a text alone
unfoldable pub element : Tag → List ℕ → List ℕ
element tag text = start_tag tag [] ++ (html_text text ++ end_tag tag)

-- where a file within the page is, after what kind of file it is
abbrev pub source_text : List ℕ → List ℕ → List ℕ
source_text kind file = kind ++ encode_of standard file

-- a picture, with what is read in its place
abbrev pub picture : List ℕ → List ℕ → List ℕ
picture png title = start_tag Image ((Source, source_text (codes "data:image/png;base64,") png) ∷ (Alternative, title) ∷ [])

-- the tag at which the player of a sound begins, with what it is called
unfoldable pub player_start : List ℕ → List ℕ → List ℕ
player_start wav title = start_tag Audio ((Controls, []) ∷ (Label, title) ∷ (Source, source_text (codes "data:audio/wav;base64,") wav) ∷ [])

-- the player of a sound
abbrev pub player : List ℕ → List ℕ → List ℕ
player wav title = player_start wav title ++ end_tag Audio

-- a text that is hidden until it is asked for
abbrev pub hidden : List ℕ → List ℕ → List ℕ
hidden summary text = start_tag Details [] ++ (element Summary summary ++ (element Preformatted text ++ end_tag Details))

-- that it is compressed, and how many bytes it would have
abbrev pub compressed : ℕ → List ℕ
compressed unpacked = element Paragraph (codes "compressed, " ++ (decimal unpacked ++ codes " bytes unpacked"))

-- what is shown of one with so many bytes
abbrev pub body : List ℕ → ℕ → Shown → List ℕ
body title size (shown.Picture png) = picture png.items title
body title size (shown.Sound wav) = player wav.items title
body title size (shown.Text text) = element Preformatted (string_bytes text)
body title size (shown.Compressed unpacked) = compressed unpacked
body title size (shown.Digits digits) = hidden (codes "the first " ++ (decimal (min size FRONT) ++ codes " bytes")) (string_bytes digits)

-- a resource: its title, how many bytes it has, and what is shown
abbrev pub article : Row → Shown → List ℕ
article row it =
    let title = title_text row.kind row.id row.name in
    start_tag Article [] ++ (element Heading3 title ++ (element Paragraph (decimal (length row.datum) ++ codes " bytes")
    ++ (body title (length row.datum) it ++ end_tag Article)))
