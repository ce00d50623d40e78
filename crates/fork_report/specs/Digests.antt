-- Digests of resources and of forks.
use Rattle.std.specs.Prelude.{ℕ, List, [], ◌∷◌, ◌++◌, length, if◌then◌else◌}
use Rattle.std.specs.List.{flat_map}
use Rattle.hex.specs.Hex.{encode_lower}
use Rattle.sha2.specs.Sha256.{sha256}
use Rattle.fork_bytes.specs.Rows.{Row}
use Rattle.fork_list.specs.declared.letters.Letters.{Letters}
use Rattle.fork_list.specs.Compressed.{unpacked_length}
use Rattle.fork_list.specs.Listing.{is_chosen, row_text}

-- the SHA-256 digest of bytes, in hexadecimal digits
abbrev pub digest_text : List ℕ → List ℕ
digest_text bytes = encode_lower (sha256 bytes)

-- the line of a resource, as a list shows it, and the digest of its bytes after it, if its type is chosen
abbrev pub digest_line : Letters → List (List ℕ) → Row → List ℕ
digest_line letters kinds row =
    if is_chosen kinds row.kind then row_text length unpacked_length letters row ++ (32 ∷ (digest_text row.datum ++ 10 ∷ [])) else []

-- a line for each resource of these types
abbrev pub digest_listing : Letters → List (List ℕ) → List Row → List ℕ
digest_listing letters kinds rows = flat_map (digest_line letters kinds) rows
