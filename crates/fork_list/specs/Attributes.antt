-- The attributes of a resource in words.
use Rattle.std.specs.Prelude.{ℕ, ◌==◌, if◌then◌else◌, List, [], ◌∷◌, ◌++◌, codes}
use Rattle.std.specs.Int.RustNames.{bit_and}
use Rattle.fork_list.specs.declared.attribute.Attribute.{Attribute}
use Rattle.fork_list.specs.declared.attribute.Attribute.TheVariants.{Bit7, SysHeap, Purgeable, Locked, Protected, Preload, Changed, Bit0}

-- the bit of an attribute, and the word for it
abbrev pub named : Attribute → ℕ × List ℕ
named Bit7 = (128, codes "bit7")
named SysHeap = (64, codes "sysHeap")
named Purgeable = (32, codes "purgeable")
named Locked = (16, codes "locked")
named Protected = (8, codes "protected")
named Preload = (4, codes "preload")
named Changed = (2, codes "changed")
named Bit0 = (1, codes "bit0")

abbrev pub bit_of : Attribute → ℕ
bit_of attribute = (named attribute).0

abbrev pub word_of : Attribute → List ℕ
word_of attribute = (named attribute).1

-- the words for those of these attributes that are set, each with a comma before it, but the first with this
abbrev pub words_of : List ℕ → ℕ → List Attribute → List ℕ
words_of before bits [] = []
words_of before bits (first ∷ others) =
    if bit_and bits (bit_of first) == 0 then words_of before bits others
    else before ++ (word_of first ++ words_of (codes ",") bits others)

-- the words for the attributes that are set, the highest bit first, with commas between them; `-` where none is
abbrev pub attributes_text : ℕ → List ℕ
attributes_text bits =
    if bits == 0 then codes "-"
    else words_of [] bits (Bit7 ∷ SysHeap ∷ Purgeable ∷ Locked ∷ Protected ∷ Preload ∷ Changed ∷ Bit0 ∷ [])
