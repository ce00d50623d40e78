-- What is made of the texts and numbers of a manifest.
use Rattle.std.specs.Prelude.{◌≡◌, ℕ, List, [], ◌∷◌, Ok, string_bytes, option_map, IfSome, ⊤}
use Rattle.std.specs.List.{AllByRecursion}
use Rattle.hex.specs.Hex.{decode_of}
use Rattle.fork_list.specs.Roman.{AreBytes, roman_text}
use Rattle.fork_folder.specs.declared.manifest.Manifest.{Manifest}
use Rattle.fork_folder.specs.declared.manifest.Resource.{Resource}
use Rattle.fork_folder.specs.Packed.{Listed}

-- a text is these bytes, in hexadecimal digits
abbrev pub IsHexOf : List ℕ → List ℕ → Type 0
IsHexOf text bytes = decode_of text ≡ Ok bytes

-- the manifest says of a resource what is listed of it: its type and its name are those that the texts show in MacRoman
pub record Says (resource : Resource) (one : Listed) : Type 0 where
  pub kind : roman_text one.kind ≡ string_bytes resource.kind
  pub id : one.id ≡ resource.id
  pub name : option_map roman_text one.name ≡ option_map string_bytes resource.name
  pub attributes : one.attributes.0 ≡ resource.attributes
  pub file : one.file ≡ string_bytes resource.file

-- the manifest says of resources what is listed of them, one after the other
abbrev pub AllSay : List Resource → List Listed → Type 0
AllSay [] [] = ⊤
AllSay [] (one ∷ ones) = ⊥
AllSay (resource ∷ resources) [] = ⊥
AllSay (resource ∷ resources) (one ∷ ones) = Says resource one × AllSay resources ones

-- the manifest says of a fork: its 240 extra bytes, the attributes of its map, and its resources
pub record SaysFork (manifest : Manifest) (bytes : List ℕ) (bits : ℕ) (ones : List Listed) : Type 0 where
  pub extra : IsHexOf (string_bytes manifest.extra) bytes
  pub map_attributes : bits ≡ manifest.map_attributes
  pub resources : AllSay manifest.resources.items ones

-- a type and a name of bytes
pub record IsOfBytes (one : Listed) : Type 0 where
  pub kind : AreBytes one.kind
  pub name : IfSome one.name AreBytes

-- two resources of which the same is listed
pub record IsSame (one other : Listed) : Type 0 where
  pub kind : one.kind ≡ other.kind
  pub id : one.id ≡ other.id
  pub name : one.name ≡ other.name
  pub attributes : one.attributes.0 ≡ other.attributes.0
  pub file : one.file ≡ other.file

-- the manifest says of a resource what it says of no other
abbrev pub IsReadAgain : Type 0
IsReadAgain = (resource : Resource) (one other : Listed) → IsOfBytes one → IsOfBytes other → Says resource one → Says resource other → IsSame one other

-- the same is listed of resources, one after the other
abbrev pub AllSame : List Listed → List Listed → Type 0
AllSame [] [] = ⊤
AllSame [] (other ∷ others) = ⊥
AllSame (one ∷ ones) [] = ⊥
AllSame (one ∷ ones) (other ∷ others) = IsSame one other × AllSame ones others

-- it says of a fork what it says of no other
abbrev pub IsForkReadAgain : Type 0
IsForkReadAgain = (manifest : Manifest) (extra extra' : List ℕ) (map map' : ℕ) (ones others : List Listed)
    → AllByRecursion IsOfBytes ones → AllByRecursion IsOfBytes others → SaysFork manifest extra map ones → SaysFork manifest extra' map' others
    → (extra ≡ extra') × (map ≡ map') × AllSame ones others
