-- Worked examples of names, computed.
use Rattle.std.proofs.Common.{◌≡◌, refl, ℕ, ℤ, pos, true, false, List, [], ◌∷◌, map, codes, Some, None}
use Rattle.res_table.specs.declared.row.Row.{Row}
use Rattle.res_table.specs.declared.chain.ResourceTable.{ResourceTable}
use Rattle.res_table.specs.Names.{capital, is_same_name}
use Rattle.res_table.specs.OpenFiles.{OpenFiles, name_here, place_of_name}

-- letters of the two cases are the same: of a to z, and of those with marks that have capitals (ä and Ä are $8A and
-- $80)
letters : map capital (0x61 ∷ 0x7A ∷ 0x88 ∷ 0x8A ∷ 0x8B ∷ 0x8C ∷ 0x8D ∷ 0x8E ∷ 0x96 ∷ 0x9A ∷ 0x9B ∷ 0x9F ∷ 0xBE ∷ 0xBF ∷ 0xCF ∷ [])
    ≡ 0x41 ∷ 0x5A ∷ 0xCB ∷ 0x80 ∷ 0xCC ∷ 0x81 ∷ 0x82 ∷ 0x83 ∷ 0x84 ∷ 0x85 ∷ 0xCD ∷ 0x86 ∷ 0xAE ∷ 0xAF ∷ 0xCE ∷ []
letters = refl

-- no other byte has another capital: so it is of those beside the letters, of á ($87) and Á ($E7), and of ÿ ($D8)
others : map capital (0x40 ∷ 0x5B ∷ 0x60 ∷ 0x7B ∷ 0x87 ∷ 0xE7 ∷ 0xD8 ∷ 0xD9 ∷ []) ≡ 0x40 ∷ 0x5B ∷ 0x60 ∷ 0x7B ∷ 0x87 ∷ 0xE7 ∷ 0xD8 ∷ 0xD9 ∷ []
others = refl

-- Bär and BÄR are the same, and Bar and a longer name aren't
same_bear : is_same_name (0x42 ∷ 0x8A ∷ 0x72 ∷ []) (0x42 ∷ 0x80 ∷ 0x52 ∷ []) ≡ true
same_bear = refl

other_bear : is_same_name (0x42 ∷ 0x8A ∷ 0x72 ∷ []) (codes "Bar") ≡ false
other_bear = refl

longer : is_same_name (codes "Bar") (codes "Bars") ≡ false
longer = refl

-- two files, the second opened after the first, and the number of the current one
abbrev row : List ℕ → ℤ → List ℕ → Row ℕ
row kind id name = record { resource = record { kind = kind; id = id; name = Some name; attributes = record { 0 = 0 }; datum = 0 }; handle = None }

abbrev table : List (Row ℕ) → ResourceTable ℕ
table rows = record { rows = rows; extra = []; map_attributes = 0 }

abbrev two_files : ℕ → OpenFiles ℕ
two_files current = record {
  files = record { number = 1; table = table (row (codes "TEXT") (pos 128) (codes "Read Me") ∷ row (codes "TEXT") (pos 129) (codes "read me") ∷ []) }
      ∷ record { number = 2; table = table (row (codes "STR ") (pos 7) (codes "READ ME") ∷ []) } ∷ [];
  current = Some current;
}

-- the first of its type in the current file or in one before it, and no other type's
earlier_file : place_of_name (codes "TEXT") (codes "READ ME") (two_files 2) ≡ Some (record { file = 1; index = 0 })
earlier_file = refl

current_file : place_of_name (codes "STR ") (codes "read me") (two_files 2) ≡ Some (record { file = 2; index = 0 })
current_file = refl

later_file : place_of_name (codes "STR ") (codes "read me") (two_files 1) ≡ None
later_file = refl

this_file : name_here (codes "TEXT") (codes "READ ME") (two_files 2) ≡ None
this_file = refl
