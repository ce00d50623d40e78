-- The JSON of `resources.json`.
use Rattle.std.specs.Prelude.{◌≡◌, ◌⊎◌, ◌<◌, ◌^◌, ℕ, ℤ, pos, negsuc, FitsSigned, List, [], ◌∷◌, length, map, Option, None, Some, option_and_then, option_map, codes, string_bytes, ⊤}
use Rattle.std.specs.Int.{w16}
use Rattle.std.specs.List.{AllPass}
use Rattle.hex.specs.Hex.{is_hex_digit}
use Rattle.serde_json.specs.Data.{Data, null, number, unsigned, negative, string, array, object, Num, member, no_members}
use Rattle.serde_json.specs.Find.{as_array, as_i64, as_number, as_str, as_u64, get}
use Rattle.serde_json.specs.Read.{read}
use Rattle.serde_json.specs.View.{items_of}
use Rattle.fork_folder.specs.Manifest.{SaysFork}
use Rattle.fork_folder.specs.Packed.{Listed, listed}
use Rattle.fork_folder.specs.declared.manifest.Manifest.{Manifest}
use Rattle.fork_folder.specs.declared.manifest.Origin.{Origin}
use Rattle.fork_folder.specs.declared.manifest.Packing.{Packing}
use Rattle.fork_folder.specs.declared.manifest.Resource.{Resource}
use Rattle.fork_folder.specs.declared.rows.PackFault.{PackFault}
use Rattle.fork_folder.specs.declared.rows.PackFault.TheVariants.{BadEntry, BadExtra, BadManifest, BadMember, HostFull}

-- a text, or null where there is none
abbrev pub text_data : Option (List ℕ) → Data
text_data None = null
text_data (Some text) = string text

-- a number, or null where there is none
abbrev pub number_data : Option ℕ → Data
number_data None = null
number_data (Some n) = number (unsigned n)

-- an id
abbrev pub id_num : ℤ → Num
id_num (pos n) = unsigned n
id_num (negsuc n) = negative (negsuc n)

-- what is written of a resource
abbrev pub resource_data : Resource → Data
resource_data resource = object (member (codes "attributes") (number (unsigned resource.attributes)) (member (codes "file") (string (string_bytes resource.file))
    (member (codes "id") (number (id_num resource.id)) (member (codes "name") (text_data (option_map string_bytes resource.name))
    (member (codes "type") (string (string_bytes resource.kind)) no_members)))))

-- what is written of a fork, and of the file that it is from
abbrev pub manifest_data : Origin → Manifest → Data
manifest_data origin manifest = object (member (codes "container") (text_data (option_map string_bytes origin.container)) (member (codes "created") (number_data origin.created)
    (member (codes "creator") (text_data (option_map string_bytes origin.creator)) (member (codes "extra") (string (string_bytes manifest.extra))
    (member (codes "flags") (number_data origin.flags) (member (codes "map_attributes") (number (unsigned manifest.map_attributes))
    (member (codes "modified") (number_data origin.modified) (member (codes "resources") (array (items_of (map resource_data manifest.resources.items)))
    (member (codes "type") (text_data (option_map string_bytes origin.kind)) no_members)))))))))

-- a member is this text
abbrev pub IsText : Option Data → List ℕ → Type 0
IsText found text = option_and_then as_str found ≡ Some text

-- a member is this number of so many bits
abbrev pub IsBits : ℕ → Option Data → ℕ → Type 0
IsBits width found n = (option_and_then as_u64 (option_and_then as_number found) ≡ Some n) × (n < 2 ^ width)

-- a member is this id
abbrev pub IsIdIn : Option Data → ℤ → Type 0
IsIdIn found id = (option_and_then as_i64 (option_and_then as_number found) ≡ Some id) × FitsSigned w16 id

-- the text of a member that may be left out, or be null; none where it is another value
abbrev pub text_or_null : Option Data → Option (Option (List ℕ))
text_or_null None = Some None
text_or_null (Some null) = Some None
text_or_null (Some (string text)) = Some (Some text)
text_or_null (Some other) = None

-- JSON that says this of a resource
pub record IsResourceIn (datum : Data) (resource : Resource) : Type 0 where
  pub kind : IsText (get (codes "type") datum) (string_bytes resource.kind)
  pub id : IsIdIn (get (codes "id") datum) resource.id
  pub name : text_or_null (get (codes "name") datum) ≡ Some (option_map string_bytes resource.name)
  pub attributes : IsBits 8 (get (codes "attributes") datum) resource.attributes
  pub file : IsText (get (codes "file") datum) (string_bytes resource.file)

-- the same of several, one after the other
abbrev pub AreResourcesIn : List Data → List Resource → Type 0
AreResourcesIn [] [] = ⊤
AreResourcesIn [] (resource ∷ resources) = ⊥
AreResourcesIn (datum ∷ values) [] = ⊥
AreResourcesIn (datum ∷ values) (resource ∷ resources) = IsResourceIn datum resource × AreResourcesIn values resources

-- a member is a list that says this of resources
abbrev pub IsListIn : Option Data → List Resource → Type 0
IsListIn found resources = (values : List Data) × (option_and_then as_array found ≡ Some (items_of values)) × AreResourcesIn values resources

-- JSON that says this of a fork
pub record IsManifestIn (datum : Data) (manifest : Manifest) : Type 0 where
  pub extra : IsText (get (codes "extra") datum) (string_bytes manifest.extra)
  pub map_attributes : IsBits 16 (get (codes "map_attributes") datum) manifest.map_attributes
  pub resources : IsListIn (get (codes "resources") datum) manifest.resources.items

-- why nothing is read of JSON that should say something: it says nothing, or the host has no memory
abbrev pub IsUnread : {X : Type 0} → (X → Type 0) → PackFault → Type 0
IsUnread {X} says (BadMember key) = (one : X) → ¬ says one
IsUnread {X} says HostFull = ⊤
IsUnread {X} says other = ⊥

-- why a text isn't read: it is no JSON, or JSON that says nothing of a fork; or the host has no memory
abbrev pub IsUnreadText : List ℕ → PackFault → Type 0
IsUnreadText text (BadManifest error) = read text ≡ None
IsUnreadText text (BadMember key) = (datum : Data) × (read text ≡ Some datum) × ((manifest : Manifest) → ¬ IsManifestIn datum manifest)
IsUnreadText text HostFull = ⊤
IsUnreadText text other = ⊥

-- a text is JSON that says this of a fork, which is packed
abbrev pub IsPackingIn : List ℕ → Packing → Type 0
IsPackingIn text packing = (datum : Data) × (manifest : Manifest) × (read text ≡ Some datum) × IsManifestIn datum manifest
    × SaysFork manifest packing.extra packing.map_attributes (map listed packing.entries.items)

-- what is bad in a manifest: the extra bytes, which aren't 480 hexadecimal digits, or an entry; or the host has no memory
abbrev pub IsBad : Manifest → PackFault → Type 0
IsBad manifest BadExtra = ¬ ((length (string_bytes manifest.extra) ≡ 480) × AllPass is_hex_digit (string_bytes manifest.extra))
IsBad manifest (BadEntry file what) = ⊤
IsBad manifest HostFull = ⊤
IsBad manifest other = ⊥

-- why nothing is packed by a text: it isn't read, or what it says is bad
abbrev pub IsNoManifest : List ℕ → PackFault → Type 0
IsNoManifest text why = IsUnreadText text why ⊎ ((datum : Data) × (manifest : Manifest) × (read text ≡ Some datum) × IsManifestIn datum manifest × IsBad manifest why)

-- what is read of JSON that was written says of a fork what was written
abbrev pub IsReadBack : Type 0
IsReadBack = (origin : Origin) (written found : Manifest) (extra : List ℕ) (bits : ℕ) (ones : List Listed)
    → IsManifestIn (manifest_data origin written) found → SaysFork written extra bits ones → SaysFork found extra bits ones
