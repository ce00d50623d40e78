-- Sizes in words.
use Rattle.std.specs.Prelude.{◌≡◌, ◌⊎◌, ◌*◌, ◌^◌, ℕ, List, [], ◌++◌, codes, Option, None, Some}
use Rattle.std.specs.Str.Parse.{IsNumeral, digits_value}
use Rattle.fork_words.specs.declared.size.TheConstants.{LIMIT}

-- how many bytes one counts in a number with this letter after it, or with none
abbrev pub IsUnit : List ℕ → ℕ → Type 0
IsUnit letter unit = ((letter ≡ []) × (unit ≡ 1)) ⊎ ((letter ≡ codes "K") × (unit ≡ 1024))
    ⊎ ((letter ≡ codes "M") × (unit ≡ 1024 ^ 2)) ⊎ ((letter ≡ codes "G") × (unit ≡ 1024 ^ 3))

-- a word is these digits and the letter of a unit
abbrev pub HasUnit : List ℕ → List ℕ → ℕ → Type 0
HasUnit word digits unit = (letter : List ℕ) × (word ≡ digits ++ letter) × IsUnit letter unit

-- the word is a number and a letter or none, and names this size
abbrev pub NamesSize : List ℕ → ℕ → Type 0
NamesSize word size = (digits : List ℕ) × (unit : ℕ) × HasUnit word digits unit × IsNumeral 10 digits × (size ≡ digits_value 10 digits * unit)

-- how many bytes are read: as a word says, and else 1 GB
abbrev pub IsLimit : Option (List ℕ) → ℕ → Type 0
IsLimit None limit = limit ≡ LIMIT
IsLimit (Some word) limit = NamesSize word limit
