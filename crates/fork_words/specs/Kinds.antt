-- The types that words name.
use Rattle.std.specs.Prelude.{◌≡◌, ◌⊎◌, ℕ, List, [], ◌∷◌}
use Rattle.fork_list.specs.Roman.{AreBytes, roman_text}
use Rattle.fork_list.specs.Kind.{ShowsKind}
use Rattle.fork_words.specs.declared.asked.NotAsked.{NotAsked}
use Rattle.fork_words.specs.declared.asked.NotAsked.TheVariants as not_asked
use Rattle.fork_words.specs.declared.fault.Fault.TheVariants as fault

-- the word names this type, in MacRoman
abbrev pub NamesKind : List ℕ → List ℕ → Type 0
NamesKind word kind = (bytes : List ℕ) × (roman_text bytes ≡ word) × ShowsKind bytes kind

-- the word has a character that MacRoman hasn't, or its bytes show no type
abbrev pub NamesNoKind : List ℕ → Type 0
NamesNoKind word = ((bytes : List ℕ) → AreBytes bytes → ¬ (roman_text bytes ≡ word))
    ⊎ ((bytes : List ℕ) × (roman_text bytes ≡ word) × ((kind : List ℕ) → ¬ ShowsKind bytes kind))

-- why a word names no type, or the host has no memory
abbrev pub IsKindRefused : List ℕ → NotAsked → Type 0
IsKindRefused word why = (why ≡ not_asked.HostFull) ⊎ ((why ≡ not_asked.Fault fault.NoType) × NamesNoKind word)

-- the words name these types, one each
abbrev pub NameKinds : List (List ℕ) → List (List ℕ) → Type 0
NameKinds [] [] = Unit {0}
NameKinds (word ∷ words) (kind ∷ kinds) = NamesKind word kind × NameKinds words kinds
NameKinds [] (kind ∷ kinds) = ⊥
NameKinds (word ∷ words) [] = ⊥
