-- How a page is read. (HTML Living Standard, 13.2.5: tokenization.)
use Rattle.std.specs.Prelude.{◌≡◌, ℕ, ◌==◌, Bool, true, false, not, if◌then◌else◌, List, [], ◌∷◌, ◌++◌, codes, bytes_eq, Option, None, Some}
use Rattle.std.specs.List.{flat_map}
use Rattle.html_text.specs.declared.tag.Tag.{Tag}
use Rattle.html_text.specs.Texts.{Pair, end_tag, html_text, name_of, start_tag, tag_name}

-- The tags of a page, without the values in them. A tag is from `<` to the next `>` that is in no value, and a value is from
-- one `"` to the next.
unfoldable pub tags_in : Option (List ℕ) → Bool → List ℕ → List (List ℕ)
tags_in tag in_value [] = []
tags_in None in_value (byte ∷ rest) = if byte == 60 then tags_in (Some []) false rest else tags_in None false rest
tags_in (Some tag) in_value (byte ∷ rest) =
    if byte == 34 then tags_in (Some (tag ++ byte ∷ [])) (not in_value) rest
    else if in_value then tags_in (Some tag) true rest
    else if byte == 62 then tag ∷ tags_in None false rest
    else tags_in (Some (tag ++ byte ∷ [])) false rest

abbrev pub tags_of : List ℕ → List (List ℕ)
tags_of page = tags_in None false page

-- the character of a reference
abbrev pub referred : List ℕ → List ℕ
referred name =
    if bytes_eq name (codes "amp") then codes "&"
    else if bytes_eq name (codes "lt") then codes "<"
    else if bytes_eq name (codes "gt") then codes ">"
    else if bytes_eq name (codes "quot") then codes "\""
    else if bytes_eq name (codes "apos") then codes "'"
    else []

-- The text that is shown of bytes between tags, or that a value has. A reference is from `&` to the next `;`.
unfoldable pub text_in : Option (List ℕ) → List ℕ → List ℕ
text_in name [] = []
text_in None (byte ∷ rest) = if byte == 38 then text_in (Some []) rest else byte ∷ text_in None rest
text_in (Some name) (byte ∷ rest) = if byte == 59 then referred name ++ text_in None rest else text_in (Some (name ++ byte ∷ [])) rest

-- a tag without the values in it
abbrev pub bare_start : Tag → List Pair → List ℕ
bare_start tag all = tag_name tag ++ flat_map (λ (it : Pair). 32 ∷ (name_of it.0 ++ codes "=\"\"")) all

abbrev pub bare_end : Tag → List ℕ
bare_end tag = 47 ∷ tag_name tag

-- A text is shown as it is, and has no tags.
pub record IsNoMarkup : Type 0 where
  pub shown : (text : List ℕ) → text_in None (html_text text) ≡ text
  pub no_tags : (text rest : List ℕ) → tags_of (html_text text ++ rest) ≡ tags_of rest

-- A tag is that tag alone, whatever its values are.
pub record IsOneTag : Type 0 where
  pub start : (tag : Tag) (all : List Pair) (rest : List ℕ) → tags_of (start_tag tag all ++ rest) ≡ bare_start tag all ∷ tags_of rest
  pub end : (tag : Tag) (rest : List ℕ) → tags_of (end_tag tag ++ rest) ≡ bare_end tag ∷ tags_of rest
