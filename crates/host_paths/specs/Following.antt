-- How a path is followed over links.
use Rattle.std.specs.Prelude.{◌≡◌, ℕ, ◌+◌, ◌*◌, Bool, true, false, List, [], ◌∷◌, length, Option, None, Some, Ok, Err, unwrap_or}
use Rattle.std.specs.Path.{path_join, path_parent}
use Rattle.std.specs.declared.io.ErrorKind.{ErrorKind}
use Rattle.std.specs.declared.io.ErrorKind.TheVariants.{FilesystemLoop, OutOfMemory}
use Rattle.host_paths.specs.Asked.{Log, answer_of}
use Rattle.host_paths.specs.declared.host.Answer.TheVariants.{Failed}
use Rattle.host_paths.specs.declared.host.FileKind.{FileKind}
use Rattle.host_paths.specs.declared.host.FileKind.TheVariants as kinds
use Rattle.host_paths.specs.declared.host.Found.{Found}
use Rattle.host_paths.specs.declared.host.HostCall.TheVariants.{At, ReadLink}

-- how many links a path may lead over
abbrev pub most_links : ℕ
most_links = 40

-- a link
abbrev pub is_link : FileKind → Bool
is_link kinds.Link = true
is_link kind = false

-- the path that a link at a path names: one that isn't absolute begins in the folder of the link
abbrev pub after_link : List ℕ → List ℕ → List ℕ
after_link path named = path_join (unwrap_or (path_parent path) []) named

-- what was found at a path is a link
abbrev pub is_link_found : Option Found → Bool
is_link_found None = false
is_link_found (Some found) = is_link found.kind

-- from a path each link was read, one after the other, as far as this one
pub data LeadsOver (path : List ℕ) (old : Log) : List ℕ → Log → Type 0 where
  at_first : (to : List ℕ) → to ≡ path → LeadsOver path old to old
  and_over : (link named next : List ℕ) (found : Option Found) (mid new : Log) → LeadsOver path old link mid → is_link_found found ≡ true
      → next ≡ after_link link named → new ≡ ReadLink link (Ok named) ∷ At link (answer_of (Ok found)) ∷ mid → LeadsOver path old next new

-- a path leads to this one, over links which were all read, and which isn't one itself
abbrev pub Follows : List ℕ → List ℕ → Log → Log → Type 0
Follows path to old new = (mid : Log) × (found : Option Found) × LeadsOver path old to mid × (is_link_found found ≡ false) × (new ≡ At to (answer_of (Ok found)) ∷ mid)

-- A path can't be followed to its end, with an error of this kind: it can't be asked what is at one that is reached, or
-- which path the link there names; there are too many links; or the host has no memory for this path, or for the next.
pub data CantFollow (path : List ℕ) (kind : ErrorKind) (old new : Log) : Type 0 where
  no_answer : (here : List ℕ) (mid : Log) → LeadsOver path old here mid → new ≡ At here (Failed kind) ∷ mid → CantFollow path kind old new
  no_name : (link : List ℕ) (found : Option Found) (mid : Log) → LeadsOver path old link mid → is_link_found found ≡ true
      → new ≡ ReadLink link (Err kind) ∷ At link (answer_of (Ok found)) ∷ mid → CantFollow path kind old new
  too_many : (here : List ℕ) → LeadsOver path old here new → length new ≡ length old + 2 * most_links → kind ≡ FilesystemLoop → CantFollow path kind old new
  no_memory : new ≡ old → kind ≡ OutOfMemory → CantFollow path kind old new
  no_memory_for_next : (link named : List ℕ) (found : Option Found) (mid : Log) → LeadsOver path old link mid → is_link_found found ≡ true
      → new ≡ ReadLink link (Ok named) ∷ At link (answer_of (Ok found)) ∷ mid → kind ≡ OutOfMemory → CantFollow path kind old new
