-- What `find` asks for.
use Rattle.std.specs.Prelude.{◌≡◌, ℕ, ℤ, List, codes, Option, None, Some, option_map}
use Rattle.clap.specs.Matches.{first_value}
use Rattle.clap.specs.declared.parser.matches.Found.{Found}
use Rattle.fork_words.specs.Given.{texts_of, words_of}
use Rattle.fork_words.specs.Kinds.{NameKinds}
use Rattle.fork_words.specs.Named.{IsNamed, NamesId}
use Rattle.fork_words.specs.declared.find.Finding.{Finding}

-- an id is the one that a word names, where there is one
abbrev pub IsIdGiven : Option (List ℕ) → Option ℤ → Type 0
IsIdGiven None id = id ≡ None
IsIdGiven (Some word) (Some id) = NamesId word id
IsIdGiven (Some word) None = ⊥

-- the types, the id, the letters of a name and the bytes that are sought, and where
pub record IsFinding (found : Found) (asked : Finding) : Type 0 where
  pub kinds : NameKinds (words_of found (codes "type")) asked.sought.kinds.items
  pub id : IsIdGiven (first_value found (codes "id")) asked.sought.id
  pub name : IsNamed (first_value found (codes "name")) (option_map (λ bytes. bytes.items) asked.sought.name)
  pub text : IsNamed (first_value found (codes "text")) (option_map (λ bytes. bytes.items) asked.sought.bytes)
  pub files : texts_of asked.files.items ≡ words_of found (codes "file")
