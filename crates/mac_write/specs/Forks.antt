-- A file with another resource fork in the place of its own.
use Rattle.std.specs.Prelude.{◌≡◌, ℕ, if◌then◌else◌, List, [], ◌∷◌, map, drop, Option, None, Some, option_map, ⊤, true}
use Rattle.std.specs.Option.{option_or}
use Rattle.mac_files.specs.declared.container.Container.{Container}
use Rattle.mac_files.specs.declared.container.Container.TheVariants.{Raw, AppleSingle, AppleDouble, MacBinary}
use Rattle.mac_files.specs.declared.container.Version.{Version}
use Rattle.mac_files.specs.declared.fault.Entry.{Entry}
use Rattle.mac_files.specs.Apple.{entries_of}
use Rattle.mac_files.specs.Containers.{container_of, contents_of, data_in, fault_of, fork_in, is_fork_header}
use Rattle.mac_files.specs.Faults.{apple_fault, mac_binary_fault}
use Rattle.mac_files.specs.Parts.{bytes_of}
use Rattle.mac_write.specs.declared.refusal.Refusal.{Refusal}
use Rattle.mac_write.specs.declared.refusal.Refusal.TheVariants.{Damaged, HostFull}
use Rattle.mac_write.specs.Apple.{all_entries, apple_refusal, apple_with_fork, is_fork}
use Rattle.mac_files.specs.MacBinary.{comment_place}
use Rattle.mac_write.specs.MacBinary.{binary_refusal, binary_with_fork}

-- the new file
abbrev pub with_fork : Container → List ℕ → List ℕ → List ℕ
with_fork Raw file fork = fork
with_fork AppleSingle file fork = apple_with_fork file fork
with_fork AppleDouble file fork = apple_with_fork file fork
with_fork (MacBinary version) file fork = binary_with_fork version file fork

-- why the fork of so many bytes isn't written: first the file's own fault
abbrev pub apple_why : List ℕ → ℕ → Option Refusal
apple_why file count = option_or (option_map Damaged (apple_fault file)) (apple_refusal file count)

abbrev pub binary_why : Version → List ℕ → ℕ → Option Refusal
binary_why version file count = option_or (option_map Damaged (mac_binary_fault version file)) (binary_refusal version count)

abbrev pub refusal : Container → List ℕ → ℕ → Option Refusal
refusal Raw file count = None
refusal AppleSingle file count = apple_why file count
refusal AppleDouble file count = apple_why file count
refusal (MacBinary version) file count = binary_why version file count

-- the function refuses exactly so, unless memory ran out
abbrev pub Refuses : Option Refusal → Option Refusal → Type 0
Refuses None why = why ≡ None
Refuses (Some HostFull) why = ⊤
Refuses (Some refused) why = why ≡ Some refused

-- a fork of no bytes is none
abbrev pub fork_of : List ℕ → Option (List ℕ)
fork_of [] = None
fork_of (byte ∷ bytes) = Some (byte ∷ bytes)

-- the name in a file
abbrev pub name_in : Container → List ℕ → Option (List ℕ)
name_in container file = option_map (λ part. bytes_of part file) (contents_of container file).name

-- The file is of the same container and has no fault, the fork is in it, and all else that a container says is as it
-- was. A file of nothing but a fork is known by this fork alone.
pub record ChangesFork (container : Container) (file fork new : List ℕ) : Type 0 where
  pub known : container_of file ≡ Some container → (container ≡ Raw → is_fork_header fork ≡ true) → container_of new ≡ Some container
  pub whole : fault_of container new ≡ None
  pub resource_fork : fork_in container new ≡ fork_of fork
  pub data_fork : data_in container new ≡ data_in container file
  pub name : name_in container new ≡ name_in container file
  pub finder : (contents_of container new).finder ≡ (contents_of container file).finder
  pub dates : (contents_of container new).dates ≡ (contents_of container file).dates

-- the id and the bytes of an entry
abbrev pub told : List ℕ → Entry → ℕ × List ℕ
told file e = (e.id, bytes_of e.part file)

-- the same where the entry of the resource fork has these bytes
abbrev pub told_with : List ℕ → List ℕ → Entry → ℕ × List ℕ
told_with fork file e = if is_fork file e then (2, fork) else told file e

-- every entry but that of the resource fork is as it was, in the order of the list
abbrev pub KeepsEntries : List ℕ → List ℕ → List ℕ → Type 0
KeepsEntries file fork new = map (told new) (entries_of new) ≡ map (told_with fork file) (all_entries file)

-- what follows the resource fork, the comment first, is as it was
abbrev pub KeepsComment : List ℕ → List ℕ → Type 0
KeepsComment file new = drop (comment_place new) new ≡ drop (comment_place file) file

-- what a container has beside that
abbrev pub KeepsRest : Container → List ℕ → List ℕ → List ℕ → Type 0
KeepsRest Raw file fork new = ⊤
KeepsRest AppleSingle file fork new = KeepsEntries file fork new
KeepsRest AppleDouble file fork new = KeepsEntries file fork new
KeepsRest (MacBinary version) file fork new = KeepsComment file new
