-- What is written of texts and tags.
use Rattle.std.specs.Prelude.{ℕ, ◌==◌, if◌then◌else◌, List, [], ◌∷◌, ◌++◌, codes}
use Rattle.std.specs.List.{flat_map}
use Rattle.html_text.specs.declared.tag.Attribute.{Attribute}
use Rattle.html_text.specs.declared.tag.AttributeName.{AttributeName}
use Rattle.html_text.specs.declared.tag.AttributeName.TheVariants as attribute_name
use Rattle.html_text.specs.declared.tag.Tag.{Tag}
use Rattle.html_text.specs.declared.tag.Tag.TheVariants as tag

-- a byte of a text: a reference to `&`, `<`, `>` and both quotes, and each other byte itself
abbrev pub escaped : ℕ → List ℕ
escaped byte =
    if byte == 38 then codes "&amp;"
    else if byte == 60 then codes "&lt;"
    else if byte == 62 then codes "&gt;"
    else if byte == 34 then codes "&quot;"
    else if byte == 39 then codes "&apos;"
    else byte ∷ []

-- a text
abbrev pub html_text : List ℕ → List ℕ
html_text text = flat_map escaped text

-- the names of elements
abbrev pub tag_name : Tag → List ℕ
tag_name tag.Article = codes "article"
tag_name tag.Audio = codes "audio"
tag_name tag.Code = codes "code"
tag_name tag.Details = codes "details"
tag_name tag.Division = codes "div"
tag_name tag.FigureCaption = codes "figcaption"
tag_name tag.Figure = codes "figure"
tag_name tag.Heading2 = codes "h2"
tag_name tag.Heading3 = codes "h3"
tag_name tag.Image = codes "img"
tag_name tag.Paragraph = codes "p"
tag_name tag.Preformatted = codes "pre"
tag_name tag.Section = codes "section"
tag_name tag.Span = codes "span"
tag_name tag.Summary = codes "summary"

-- and of their attributes
abbrev pub name_of : AttributeName → List ℕ
name_of attribute_name.Alternative = codes "alt"
name_of attribute_name.Class = codes "class"
name_of attribute_name.Controls = codes "controls"
name_of attribute_name.Id = codes "id"
name_of attribute_name.Label = codes "aria-label"
name_of attribute_name.Source = codes "src"
name_of attribute_name.Width = codes "width"

-- an attribute's name, and its value
abbrev pub Pair : Type 0
Pair = AttributeName × List ℕ

abbrev pub pair_of : Attribute → Pair
pair_of it = (it.name, it.value.now)

-- an attribute with its value
abbrev pub attribute_text : Pair → List ℕ
attribute_text it = 32 ∷ (name_of it.0 ++ (codes "=\"" ++ (html_text it.1 ++ 34 ∷ [])))

abbrev pub attributes_text : List Pair → List ℕ
attributes_text all = flat_map attribute_text all

-- the tag at which an element begins
abbrev pub start_tag : Tag → List Pair → List ℕ
start_tag tag all = 60 ∷ (tag_name tag ++ (attributes_text all ++ 62 ∷ []))

-- and the one at which it ends
abbrev pub end_tag : Tag → List ℕ
end_tag tag = codes "</" ++ (tag_name tag ++ 62 ∷ [])
