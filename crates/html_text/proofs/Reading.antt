-- A reader finds texts and tags as they were written.
use Rattle.std.proofs.Common.{◌≡◌, ℕ, ◌==◌, Bool, true, false, List, [], ◌∷◌, ◌++◌, None, Some, refl, ap, sym, ◌∙◌, arith, append-nil, append_assoc, codes}
use Rattle.std.specs.Prelude.{not, ◌&&◌}
use Rattle.std.specs.List.{flat_map, list_all}
use Rattle.std.proofs.lemmas.Bool.{and_parts}
use Rattle.html_text.specs.declared.tag.AttributeName.{AttributeName}
use Rattle.html_text.specs.declared.tag.Tag.{Tag}
use Rattle.html_text.specs.Texts.{Pair, escaped, html_text, attribute_text, attributes_text, name_of, tag_name, start_tag, end_tag}
use Rattle.html_text.specs.Reader.{tags_in, text_in, tags_of, bare_start, bare_end, IsNoMarkup, IsOneTag}

-- a byte of a text is shown
byte_shown : (byte : ℕ) (rest : List ℕ) → text_in None (escaped byte ++ rest) ≡ byte ∷ text_in None rest
unfolding text_in
byte_shown byte rest = grind arith

text_shown : (text : List ℕ) → text_in None (html_text text) ≡ text
unfolding text_in
text_shown [] = refl
text_shown (byte ∷ text) = byte_shown byte (html_text text) ∙ ap (λ all. byte ∷ all) (text_shown text)

byte_no_tag : (byte : ℕ) (rest : List ℕ) → tags_in None false (escaped byte ++ rest) ≡ tags_in None false rest
unfolding tags_in
byte_no_tag byte rest = grind arith

text_no_tags : (text rest : List ℕ) → tags_of (html_text text ++ rest) ≡ tags_of rest
unfolding tags_in
text_no_tags [] rest = refl
text_no_tags (byte ∷ text) rest = ap tags_of (append_assoc (escaped byte) (html_text text) rest) ∙ byte_no_tag byte (html_text text ++ rest) ∙ text_no_tags text rest

pub no_markup : IsNoMarkup
no_markup = record { shown = text_shown; no_tags = text_no_tags }

-- a byte of a value adds nothing to the tags
byte_in_value : (byte : ℕ) (tag rest : List ℕ) → tags_in (Some tag) true (escaped byte ++ rest) ≡ tags_in (Some tag) true rest
unfolding tags_in
byte_in_value byte tag rest = grind arith

text_in_value : (text tag rest : List ℕ) → tags_in (Some tag) true (html_text text ++ rest) ≡ tags_in (Some tag) true rest
text_in_value [] tag rest = refl
text_in_value (byte ∷ text) tag rest =
    ap (tags_in (Some tag) true) (append_assoc (escaped byte) (html_text text) rest) ∙ byte_in_value byte tag (html_text text ++ rest) ∙ text_in_value text tag rest

-- a byte of a name
abbrev is_of_name : ℕ → Bool
is_of_name byte = not (byte == 34) && not (byte == 62)

byte_of_name : (byte : ℕ) (tag rest : List ℕ) → is_of_name byte ≡ true → tags_in (Some tag) false (byte ∷ rest) ≡ tags_in (Some (tag ++ byte ∷ [])) false rest
unfolding tags_in
byte_of_name byte tag rest plain = grind arith

name_is_read : (name tag rest : List ℕ) → list_all is_of_name name ≡ true → tags_in (Some tag) false (name ++ rest) ≡ tags_in (Some (tag ++ name)) false rest
name_is_read [] tag rest plain = ap (λ all. tags_in (Some all) false rest) (sym (append-nil tag))
name_is_read (byte ∷ name) tag rest plain =
    let parts = and_parts (is_of_name byte) (list_all is_of_name name) plain in
    byte_of_name byte tag (name ++ rest) parts.0 ∙ name_is_read name (tag ++ byte ∷ []) rest parts.1
    ∙ ap (λ all. tags_in (Some all) false rest) (append_assoc tag (byte ∷ []) name)

element_is_name : (it : Tag) → list_all is_of_name (tag_name it) ≡ true
element_is_name it = grind arith

attribute_is_name : (it : AttributeName) → list_all is_of_name (name_of it) ≡ true
attribute_is_name it = grind arith

-- an attribute without its value
abbrev bare : Pair → List ℕ
bare it = 32 ∷ (name_of it.0 ++ codes "=\"\"")

value_is_read : (value tag rest : List ℕ) → tags_in (Some tag) false (codes "=\"" ++ (html_text value ++ (34 ∷ rest))) ≡ tags_in (Some (tag ++ codes "=\"\"")) false rest
unfolding tags_in
value_is_read value tag rest =
    text_in_value value ((tag ++ 61 ∷ []) ++ 34 ∷ []) (34 ∷ rest)
    ∙ ap (λ all. tags_in (Some all) false rest) (append_assoc (tag ++ 61 ∷ []) (34 ∷ []) (34 ∷ []) ∙ append_assoc tag (61 ∷ []) (34 ∷ 34 ∷ []))

attribute_is_read : (it : Pair) (tag rest : List ℕ) → tags_in (Some tag) false (attribute_text it ++ rest) ≡ tags_in (Some (tag ++ bare it)) false rest
attribute_is_read it tag rest =
    let name = name_of it.0 in
    ap (λ all. tags_in (Some tag) false (32 ∷ all)) (append_assoc name (codes "=\"" ++ (html_text it.1 ++ 34 ∷ [])) rest
    ∙ ap (λ all. name ++ (codes "=\"" ++ all)) (append_assoc (html_text it.1) (34 ∷ []) rest))
    ∙ byte_of_name 32 tag (name ++ (codes "=\"" ++ (html_text it.1 ++ 34 ∷ rest))) refl
    ∙ name_is_read name (tag ++ 32 ∷ []) (codes "=\"" ++ (html_text it.1 ++ 34 ∷ rest)) (attribute_is_name it.0)
    ∙ value_is_read it.1 ((tag ++ 32 ∷ []) ++ name) rest
    ∙ ap (λ all. tags_in (Some all) false rest) (append_assoc (tag ++ 32 ∷ []) name (codes "=\"\"") ∙ append_assoc tag (32 ∷ []) (name ++ codes "=\"\""))

attributes_are_read : (all : List Pair) (tag rest : List ℕ) → tags_in (Some tag) false (attributes_text all ++ rest) ≡ tags_in (Some (tag ++ flat_map bare all)) false rest
attributes_are_read [] tag rest = ap (λ all. tags_in (Some all) false rest) (sym (append-nil tag))
attributes_are_read (it ∷ all) tag rest =
    ap (tags_in (Some tag) false) (append_assoc (attribute_text it) (attributes_text all) rest) ∙ attribute_is_read it tag (attributes_text all ++ rest)
    ∙ attributes_are_read all (tag ++ bare it) rest ∙ ap (λ all. tags_in (Some all) false rest) (append_assoc tag (bare it) (flat_map bare all))

start_is_read : (it : Tag) (all : List Pair) (rest : List ℕ) → tags_of (start_tag it all ++ rest) ≡ bare_start it all ∷ tags_of rest
unfolding tags_in
start_is_read it all rest =
    ap (tags_in (Some []) false) (append_assoc (tag_name it) (attributes_text all ++ 62 ∷ []) rest) ∙ name_is_read (tag_name it) [] ((attributes_text all ++ 62 ∷ []) ++ rest) (element_is_name it)
    ∙ ap (tags_in (Some (tag_name it)) false) (append_assoc (attributes_text all) (62 ∷ []) rest) ∙ attributes_are_read all (tag_name it) (62 ∷ rest)

end_is_read : (it : Tag) (rest : List ℕ) → tags_of (end_tag it ++ rest) ≡ bare_end it ∷ tags_of rest
unfolding tags_in
end_is_read it rest =
    ap (tags_in (Some (47 ∷ [])) false) (append_assoc (tag_name it) (62 ∷ []) rest) ∙ name_is_read (tag_name it) (47 ∷ []) (62 ∷ rest) (element_is_name it)

pub one_tag : IsOneTag
one_tag = record { start = start_is_read; end = end_is_read }
