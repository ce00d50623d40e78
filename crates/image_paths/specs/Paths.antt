-- A path in an image, as it is typed in MacRoman.
use Rattle.std.specs.Prelude.{◌≡◌, ⊤, map, ℕ, zero, suc, ◌+◌, ◌==◌, nat_lt, if◌then◌else◌, Bool, true, false, List, [], ◌∷◌, ◌++◌, length, take, drop, slice_index, position, Option, None, Some, unwrap_or, Result, Ok, Err}
use Rattle.std.specs.Global.{Vec}
use Rattle.fork_list.specs.Roman.{AreBytes, roman_text}
use Rattle.image_paths.specs.Names.{name_from}
use Rattle.image_paths.specs.declared.path.ImagePath.{ImagePath}
use Rattle.image_paths.specs.declared.path.PathFault.{PathFault}
use Rattle.image_paths.specs.declared.path.PathFault.TheVariants.{Empty, NotRoman, Escape, TooLong, HostFull}

-- where the first name ends: at a slash, or with the text
abbrev pub end_of : List ℕ → ℕ
end_of text = unwrap_or (position (λ byte. byte == 47) text) (length text)

-- a name has 1 to 255 bytes
abbrev pub checked : ℕ → Option (List ℕ) → Result (List ℕ) PathFault
checked number None = Err (Escape number)
checked number (Some name) =
    if length name == 0 then Err (Empty number) else if nat_lt 255 (length name) then Err (TooLong number) else Ok name

-- the name of this number that a text is
abbrev pub name_in : ℕ → List ℕ → Result (List ℕ) PathFault
name_in number text = checked number (name_from (length text) text)

abbrev pub names_before : List (List ℕ) → Result (List (List ℕ)) PathFault → Result (List (List ℕ)) PathFault
names_before names (Ok others) = Ok (names ++ others)
names_before names (Err fault) = Err fault

abbrev pub with_name : Result (List ℕ) PathFault → Result (List (List ℕ)) PathFault → Result (List (List ℕ)) PathFault
with_name (Ok name) others = names_before (name ∷ []) others
with_name (Err fault) others = Err fault

-- the names in a text of so many bytes at most, from a number on, each up to a slash; or the first fault
unfoldable pub names_from : ℕ → ℕ → List ℕ → Result (List (List ℕ)) PathFault
names_from zero number text = Ok []
names_from (suc more) number [] = Ok []
names_from (suc more) number (c ∷ rest) = let text = c ∷ rest in
    with_name (name_in number (take (end_of text) text)) (names_from more (number + 1) (drop (end_of text + 1) text))

abbrev pub names_in : List ℕ → Result (List (List ℕ)) PathFault
names_in text = names_from (length text) 1 text

-- a text without bytes, or one that ends with a slash, asks for a folder
abbrev pub asks_folder : List ℕ → Bool
asks_folder [] = true
asks_folder (c ∷ rest) = slice_index (c ∷ rest) (length rest) == 47

abbrev pub items_of : Vec ℕ → List ℕ
items_of name = name.items

-- the text is this path: it is in MacRoman, and its bytes have these names
pub record IsPath (text : List ℕ) (path : ImagePath) : Type 0 where
  pub bytes : List ℕ
  pub roman : roman_text bytes ≡ text
  pub names : names_in bytes ≡ Ok (map items_of path.names.items)
  pub folder : path.is_folder ≡ asks_folder bytes

-- a reading of bytes stops for this fault, unless memory runs out
abbrev pub StopsFor : {T : Type 0} → Result T PathFault → PathFault → Type 0
StopsFor read HostFull = ⊤
StopsFor read (NotRoman number) = ⊥
StopsFor read (Empty number) = read ≡ Err (Empty number)
StopsFor read (Escape number) = read ≡ Err (Escape number)
StopsFor read (TooLong number) = read ≡ Err (TooLong number)

-- the bytes of the text stop for this fault
pub record IsStopped (text : List ℕ) (fault : PathFault) : Type 0 where
  pub bytes : List ℕ
  pub roman : roman_text bytes ≡ text
  pub stops : names_in bytes ≡ Err fault

-- a text is refused for this: it isn't in MacRoman, or its bytes stop for it
abbrev pub Refuses : List ℕ → PathFault → Type 0
Refuses text HostFull = ⊤
Refuses text (NotRoman number) = (bytes : List ℕ) → AreBytes bytes → ¬ (roman_text bytes ≡ text)
Refuses text (Empty number) = IsStopped text (Empty number)
Refuses text (Escape number) = IsStopped text (Escape number)
Refuses text (TooLong number) = IsStopped text (TooLong number)
