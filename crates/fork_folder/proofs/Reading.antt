-- JSON that is read and written, member by member.
use Rattle.std.proofs.Common.{◌≡◌, ◌∙◌, ℕ, ℤ, pos, negsuc, zero, suc, ◌+◌, ◌^◌, ◌<◌, ◌≤◌, Bool, true, false, if◌then◌else◌, nat_lt, List, [], ◌∷◌, ◌++◌, length, map, take, get_or, Option, None, Some, refl, sym, ap, subst, arith}
use Rattle.std.specs.Prelude.{codes, max, option_and_then, option_map, string_bytes}
use Rattle.std.proofs.lemmas.List.{map_push, take_more}
use Rattle.serde_json.specs.Data.{Data, array, depth, items_depth, number, string, unsigned}
use Rattle.serde_json.specs.Find.{as_array, as_i64, as_number, as_str, as_u64, get}
use Rattle.serde_json.specs.View.{items_of, view}
use Rattle.serde_json.specs.declared.value.Value.{Value}
use Rattle.fork_folder.specs.Json.{AreResourcesIn, IsManifestIn, IsResourceIn, IsUnread, id_num, manifest_data, number_data, resource_data, text_data, text_or_null}
use Rattle.fork_folder.specs.Manifest.{AllSay, IsHexOf, Says, SaysFork}
use Rattle.fork_folder.specs.Packed.{Listed}
use Rattle.fork_folder.specs.declared.manifest.Manifest.{Manifest}
use Rattle.fork_folder.specs.declared.manifest.Origin.{Origin}
use Rattle.fork_folder.specs.declared.manifest.Resource.{Resource}
use Rattle.fork_folder.specs.declared.rows.PackFault.{PackFault}
use Rattle.fork_folder.specs.declared.rows.PackFault.TheVariants.{BadEntry, BadExtra, BadManifest, BadMember, HostFull, NoFile, Taken, Unlisted, Unnamed}

-- one more
read_more : (values : List Data) (resources : List Resource) (datum : Data) (resource : Resource) → AreResourcesIn values resources → IsResourceIn datum resource
    → AreResourcesIn (values ++ datum ∷ []) (resources ++ resource ∷ [])
read_more [] [] datum resource are one = (one, tt)
read_more [] (other ∷ resources) datum resource are one = absurd are
read_more (first ∷ values) [] datum resource are one = absurd are
read_more (first ∷ values) (other ∷ resources) datum resource are one = (are.0, read_more values resources datum resource are.1 one)

pub read_at : (list : List Value) (at : ℕ) (other : Value) (resources : List Resource) (resource : Resource) → at < length list
    → AreResourcesIn (map view (take at list)) resources → IsResourceIn (view (get_or list at other)) resource
    → AreResourcesIn (map view (take (at + 1) list)) (resources ++ resource ∷ [])
read_at list at other resources resource within are one =
    let P : List Data → Type 0 = λ values. AreResourcesIn values (resources ++ resource ∷ []) in
    let same = ap (λ (some : List Value). map view some) (take_more list at other within) ∙ map_push view (take at list) (get_or list at other) in
    subst P (sym same) (read_more (map view (take at list)) resources (view (get_or list at other)) resource are one)

-- one that says nothing of a resource
says_none : (list : List Value) (at : ℕ) (other : Value) → at < length list → ((resource : Resource) → ¬ IsResourceIn (view (get_or list at other)) resource)
    → (resources : List Resource) → ¬ AreResourcesIn (map view list) resources
says_none [] at other within none resources are = absurd (omega arith)
says_none (value ∷ list) at other within none [] are = are
says_none (value ∷ list) zero other within none (resource ∷ resources) are = none resource are.0
says_none (value ∷ list) (suc at) other within none (resource ∷ resources) are = says_none list at other (omega arith) none resources are.1

pub unread_at : (list : List Value) (at : ℕ) (other : Value) (why : PackFault) → at < length list → IsUnread (IsResourceIn (view (get_or list at other))) why
    → IsUnread (AreResourcesIn (map view list)) why
unread_at list at other (BadMember key) within none = says_none list at other within none
unread_at list at other HostFull within none = tt
unread_at list at other (BadManifest error) within none = none
unread_at list at other (BadEntry file what) within none = none
unread_at list at other BadExtra within none = none
unread_at list at other (NoFile path) within none = none
unread_at list at other (Unlisted path) within none = none
unread_at list at other (Unnamed path) within none = none
unread_at list at other (Taken path) within none = none

-- a list of JSON is that of no other values
items_same : (values others : List Data) → items_of values ≡ items_of others → values ≡ others
items_same [] [] is = refl
items_same [] (other ∷ others) is = absurd cc
items_same (value ∷ values) [] is = absurd cc
items_same (value ∷ values) (other ∷ others) is =
    let first : value ≡ other = cc in
    let rest : items_of values ≡ items_of others = cc in
    let all : values ≡ others = items_same values others rest in
    cc

-- where nothing is read of the list, nothing is of the manifest
list_unread : (datum : Data) (values : List Data) → option_and_then as_array (get (codes "resources") datum) ≡ Some (items_of values)
    → ((resources : List Resource) → ¬ AreResourcesIn values resources) → (manifest : Manifest) → ¬ IsManifestIn datum manifest
list_unread datum values found none manifest says =
    let found' = says.resources.1 in
    let same : items_of values ≡ items_of says.resources.0 = cc in
    let P : List Data → Type 0 = λ all. AreResourcesIn all manifest.resources.items in
    none manifest.resources.items (subst P (sym (items_same values says.resources.0 same)) says.resources.2)

pub manifest_unread : (datum : Data) (values : List Data) (why : PackFault) → option_and_then as_array (get (codes "resources") datum) ≡ Some (items_of values)
    → IsUnread (AreResourcesIn values) why → IsUnread (IsManifestIn datum) why
manifest_unread datum values (BadMember key) found none = list_unread datum values found none
manifest_unread datum values HostFull found none = tt
manifest_unread datum values (BadManifest error) found none = none
manifest_unread datum values (BadEntry file what) found none = none
manifest_unread datum values BadExtra found none = none
manifest_unread datum values (NoFile path) found none = none
manifest_unread datum values (Unlisted path) found none = none
manifest_unread datum values (Unnamed path) found none = none
manifest_unread datum values (Taken path) found none = none

-- one more that is written
pub written_at : (resources : List Resource) (at : ℕ) (other : Resource) (values : List Value) (value : Value) → at < length resources
    → map view values ≡ map resource_data (take at resources) → view value ≡ resource_data (get_or resources at other)
    → map view (values ++ value ∷ []) ≡ map resource_data (take (at + 1) resources)
written_at resources at other values value within are one =
    map_push view values value ∙ ap (λ (all : List Data). all ++ view value ∷ []) are ∙ ap (λ (last : Data). map resource_data (take at resources) ++ last ∷ []) one
    ∙ sym (map_push resource_data (take at resources) (get_or resources at other)) ∙ ap (λ (some : List Resource). map resource_data some) (sym (take_more resources at other within))

-- how deep it nests
most : (a b n : ℕ) → a ≤ n → b ≤ n → max a b ≤ n
most a b n low high = omega arith

text_flat : (text : Option (List ℕ)) (n : ℕ) → depth (text_data text) ≤ n
text_flat None n = omega arith
text_flat (Some text) n = omega arith

number_flat : (found : Option ℕ) (n : ℕ) → depth (number_data found) ≤ n
number_flat None n = omega arith
number_flat (Some found) n = omega arith

resource_flat : (resource : Resource) → depth (resource_data resource) ≤ 1
resource_flat resource =
    let name : depth (text_data (option_map string_bytes resource.name)) ≤ 0 = text_flat (option_map string_bytes resource.name) 0 in
    let members : max 0 (max 0 (max 0 (max (depth (text_data (option_map string_bytes resource.name))) (max 0 0)))) ≤ 0 = omega arith in
    omega arith

resources_flat : (resources : List Resource) → items_depth (items_of (map resource_data resources)) ≤ 1
resources_flat [] = omega arith
resources_flat (resource ∷ resources) = most _ _ 1 (resource_flat resource) (resources_flat resources)

pub manifest_flat : (origin : Origin) (manifest : Manifest) → depth (manifest_data origin manifest) ≤ 127
manifest_flat origin manifest =
    let all : depth (array (items_of (map resource_data manifest.resources.items))) ≤ 2 = let deep = resources_flat manifest.resources.items in omega arith in
    let text = λ (o : Option (List ℕ)). text_flat o 2 in
    let zeroes : 0 ≤ 2 = omega arith in
    let members = most _ _ 2 (text (option_map string_bytes origin.container)) (most _ _ 2 (number_flat origin.created 2) (most _ _ 2 (text (option_map string_bytes origin.creator))
    (most _ _ 2 zeroes (most _ _ 2 (number_flat origin.flags 2) (most _ _ 2 zeroes (most _ _ 2 (number_flat origin.modified 2) (most _ _ 2 all
    (most _ _ 2 (text (option_map string_bytes origin.kind)) zeroes)))))))) in
    omega arith

-- What is read of what was written.

text_is : (text other : List ℕ) → option_and_then as_str (Some (string text)) ≡ Some other → other ≡ text
text_is text other is = cc

id_is : (id other : ℤ) → option_and_then as_i64 (option_and_then as_number (Some (number (id_num id)))) ≡ Some other → other ≡ id
id_is (negsuc n) other is = cc
id_is (pos n) other is = by_case (nat_lt n (2 ^ 63)) is
  where
    by_case : (small : Bool) → (if small then Some (pos n) else None) ≡ Some other → other ≡ pos n
    by_case true so = cc
    by_case false so = absurd cc

name_is : (name other : Option (List ℕ)) → text_or_null (Some (text_data name)) ≡ Some other → other ≡ name
name_is None other is = cc
name_is (Some name) other is = cc

number_is : (n other : ℕ) → option_and_then as_u64 (option_and_then as_number (Some (number (unsigned n)))) ≡ Some other → n ≡ other
number_is n other is = cc

resource_back : (written found : Resource) (one : Listed) → IsResourceIn (resource_data written) found → Says written one → Says found one
resource_back written found one is says = record {
  kind = says.kind ∙ sym (text_is (string_bytes written.kind) (string_bytes found.kind) is.kind);
  id = says.id ∙ sym (id_is written.id found.id is.id.0);
  name = says.name ∙ sym (name_is (option_map string_bytes written.name) (option_map string_bytes found.name) is.name);
  attributes = says.attributes ∙ number_is written.attributes found.attributes is.attributes.0;
  file = says.file ∙ sym (text_is (string_bytes written.file) (string_bytes found.file) is.file);
}

resources_back : (written found : List Resource) (ones : List Listed) → AreResourcesIn (map resource_data written) found → AllSay written ones → AllSay found ones
resources_back [] [] ones are say = say
resources_back [] (resource ∷ found) ones are say = absurd are
resources_back (first ∷ written) [] ones are say = absurd are
resources_back (first ∷ written) (resource ∷ found) [] are say = absurd say
resources_back (first ∷ written) (resource ∷ found) (one ∷ ones) are say =
    (resource_back first resource one are.0 say.0, resources_back written found ones are.1 say.1)

array_is : (values others : List Data) → option_and_then as_array (Some (array (items_of values))) ≡ Some (items_of others) → others ≡ values
array_is values others is = let same : items_of others ≡ items_of values = cc in items_same others values same

pub read_back : (origin : Origin) (written found : Manifest) (extra : List ℕ) (bits : ℕ) (ones : List Listed)
    → IsManifestIn (manifest_data origin written) found → SaysFork written extra bits ones → SaysFork found extra bits ones
read_back origin written found extra bits ones is says =
    let P : List ℕ → Type 0 = λ text. IsHexOf text extra in
    let R : List Data → Type 0 = λ values. AreResourcesIn values found.resources.items in
    record {
      extra = subst P (sym (text_is (string_bytes written.extra) (string_bytes found.extra) is.extra)) says.extra;
      map_attributes = says.map_attributes ∙ number_is written.map_attributes found.map_attributes is.map_attributes.0;
      resources = resources_back written.resources.items found.resources.items ones
          (subst R (array_is (map resource_data written.resources.items) is.resources.0 is.resources.1) is.resources.2) says.resources;
    }
