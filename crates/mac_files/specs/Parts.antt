-- Parts of a file.
use Rattle.std.specs.Prelude.{◌≡◌, ℕ, ◌+◌, ◌==◌, nat_le, ◌||◌, if◌then◌else◌, Bool, List, take, drop, Option, None, Some, IfSome, true}
use Rattle.mac_files.specs.declared.part.Part.{Part}
use Rattle.mac_files.specs.declared.contents.Contents.{Contents}

-- the bytes of a part
abbrev pub bytes_of : Part → List ℕ → List ℕ
bytes_of part file = take part.length (drop part.offset file)

-- a part lies within a file of so many bytes; one of no bytes lies anywhere
abbrev pub lies_within : ℕ → Part → Bool
lies_within length part = (part.length == 0) || nat_le (part.offset + part.length) length

-- the forks, the name and the comment lie within a file of so many bytes
pub record AreWithin (length : ℕ) (contents : Contents) : Type 0 where
  pub resource_fork : IfSome contents.resource_fork (λ part. lies_within length part ≡ true)
  pub data_fork : IfSome contents.data_fork (λ part. lies_within length part ≡ true)
  pub name : IfSome contents.name (λ part. lies_within length part ≡ true)
  pub comment : IfSome contents.comment (λ part. lies_within length part ≡ true)

-- the part, unless it has no bytes
abbrev pub has_bytes : Part → Option Part
has_bytes part = if part.length == 0 then None else Some part
