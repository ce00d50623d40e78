-- The types of resources that have texts, field by field (Inside Macintosh: Macintosh Toolbox Essentials; Text).
use Rattle.std.specs.Prelude.{ℕ, Bool, true, false, List, [], ◌∷◌, ◌++◌, codes, bytes_eq, Option, None, Some}
use Rattle.std.specs.List.{find}
use Rattle.res_types.specs.declared.declaration.Declaration.{Declaration}
use Rattle.res_types.specs.declared.declaration.Tail.{Tail}
use Rattle.res_types.specs.declared.declaration.Tail.TheVariants as tails
use Rattle.res_types.specs.declared.field.Count.{Count}
use Rattle.res_types.specs.declared.field.CountSize.TheVariants.{Byte, Integer}
use Rattle.res_types.specs.declared.field.Field.{Field}
use Rattle.res_types.specs.declared.field.Field.TheVariants as fields
use Rattle.res_types.specs.declared.field.Mark.{Mark}
use Rattle.res_types.specs.declared.field.TextForm.{TextForm}
use Rattle.res_types.specs.declared.field.TextForm.TheVariants.{Counted}
use Rattle.res_types.specs.declared.field.Zeros.{Zeros}
use Rattle.res_types.specs.declared.field.Zeros.TheVariants.{AlignWord}
use Rattle.fork_texts.specs.declared.kinds.Naming.{Naming}
use Rattle.fork_texts.specs.declared.kinds.Naming.TheVariants.{Whole, Title, ShortAndLong, Numbered, TitleAndNumbered, DialogItems}
use Rattle.fork_texts.specs.declared.kinds.TextType.{TextType}

-- a field, or where elements begin and end
pub data Word : Type 0 where
  -- a number in so many bits
  Bits : ℕ → Word
  -- a text
  Letters : TextForm → Word
  -- bits that are 0
  Pad : Zeros → Word
  -- so many elements as a count says
  Several : Count → Word
  -- elements up to a mark
  UpTo : Mark → Word
  -- elements up to the last bit
  Onward : Word
  -- the end of an element
  End : Word
  -- a text up to the last bit
  Rest : Word
  -- something else
  Other : Word

abbrev pub number_word : Option ℕ → ℕ → Word
number_word None width = Bits width
number_word (Some only) width = Other

-- fields, one after the other
abbrev pub field_words : Field → List Word
field_words fields.Nothing = []
field_words (fields.Then' p first q others) = field_words first ++ field_words others
field_words (fields.Number field) = number_word field.only field.width ∷ []
field_words (fields.Text form style) = Letters form ∷ []
field_words (fields.Zeros zeros) = Pad zeros ∷ []
field_words (fields.Repeated' n p body) = Other ∷ []
field_words (fields.Counted' count p between q body) = Several count ∷ (field_words between ++ (field_words body ++ End ∷ []))
field_words (fields.Marked' mark p body) = UpTo mark ∷ (field_words body ++ End ∷ [])
field_words (fields.Case' key p chosen q other) = Other ∷ []
field_words fields.NoCase = Other ∷ []

abbrev pub tail_words : Tail → List Word
tail_words tails.Nothing = []
tail_words (tails.Text style) = Rest ∷ []
tail_words (tails.Elements body) = Onward ∷ (field_words body ++ End ∷ [])

-- a type, field by field
abbrev pub words_of : Declaration → List Word
words_of declaration = field_words declaration.fields ++ tail_words declaration.tail

-- a text after a byte that counts it
abbrev pub pascal : Word
pascal = Letters (Counted Byte)

-- two points
abbrev pub rectangle : List Word → List Word
rectangle others = Bits 16 ∷ Bits 16 ∷ Bits 16 ∷ Bits 16 ∷ others

-- where System 7 puts a window on the screen, on a whole word
abbrev pub position : List Word
position = Onward ∷ Pad AlignWord ∷ Bits 16 ∷ End ∷ []

-- strings, after their count
abbrev pub string_list_words : List Word
string_list_words = Several (record { size = Integer; less_one = false }) ∷ pascal ∷ End ∷ []

-- id, width, height, procedure, filler, what is enabled, title; of each item a text, icon, key, mark and style; 0
abbrev pub menu_words : List Word
menu_words =
    Bits 16 ∷ Bits 16 ∷ Bits 16 ∷ Bits 16 ∷ Bits 16 ∷ Bits 32 ∷ pascal
    ∷ UpTo (record { width = 8; value = 0 }) ∷ pascal ∷ Bits 8 ∷ Bits 8 ∷ Bits 8 ∷ Bits 8 ∷ End ∷ []

-- a count less one; of each item a place for a handle, a rectangle, its type and its text or other data, a whole word
abbrev pub item_list_words : List Word
item_list_words =
    Several (record { size = Integer; less_one = true }) ∷ Bits 32 ∷ rectangle (Bits 8 ∷ pascal ∷ Pad AlignWord ∷ End ∷ [])

-- a rectangle, procedure, whether it is visible and can be closed, each with a filler, and a number; then these
abbrev pub window_front : List Word → List Word
window_front others = rectangle (Bits 16 ∷ Bits 8 ∷ Bits 8 ∷ Bits 8 ∷ Bits 8 ∷ Bits 32 ∷ others)

-- a rectangle, value, whether it is visible, filler, greatest and least value, procedure, a number, and the title
abbrev pub control_words : List Word
control_words = rectangle (Bits 16 ∷ Bits 8 ∷ Bits 8 ∷ Bits 16 ∷ Bits 16 ∷ Bits 16 ∷ Bits 32 ∷ pascal ∷ [])

-- number, stage, country, and two texts
abbrev pub version_words : List Word
version_words = Bits 8 ∷ Bits 8 ∷ Bits 8 ∷ Bits 8 ∷ Bits 16 ∷ pascal ∷ pascal ∷ []

-- a type, how its texts are called, and its fields
abbrev pub seen : TextType → List ℕ × Naming × List Word
seen one = (one.kind, one.naming, words_of one.declaration)

-- the types that have texts
abbrev pub known : List (List ℕ × Naming × List Word)
known =
    (codes "STR ", Whole, pascal ∷ [])
    ∷ (codes "STR#", Numbered, string_list_words)
    ∷ (codes "TEXT", Whole, Rest ∷ [])
    ∷ (codes "MENU", TitleAndNumbered, menu_words)
    ∷ (codes "DITL", DialogItems, item_list_words)
    ∷ (codes "DLOG", Title, window_front (Bits 16 ∷ pascal ∷ position))
    ∷ (codes "WIND", Title, window_front (pascal ∷ position))
    ∷ (codes "CNTL", Title, control_words)
    ∷ (codes "vers", ShortAndLong, version_words)
    ∷ []

-- the one of these types that is called so
abbrev pub type_of : List TextType → List ℕ → Option TextType
type_of types kind = find (λ one. bytes_eq one.kind kind) types
