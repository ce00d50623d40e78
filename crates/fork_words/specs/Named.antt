-- Ids, names, attributes and resources that words name.
use Rattle.std.specs.Prelude.{◌≡◌, ◌≢◌, ◌⊎◌, ◌+◌, ◌^◌, ◌<◌, ◌==◌, ℕ, ℤ, true, false, List, [], ◌∷◌, ◌++◌, Option, None, Some, codes, length, FitsSigned}
use Rattle.std.specs.Int.{w16}
use Rattle.std.specs.Int.RustNames.{bit_or}
use Rattle.std.specs.List.{slice_split}
use Rattle.std.specs.Str.Parse.{IsNumeral, digits_value, signed_digits_value, without_leading_plus, without_leading_sign}
use Rattle.bitflags.specs.Sets.{without}
use Rattle.clap.specs.Matches.{first_value}
use Rattle.clap.specs.declared.parser.matches.Found.{Found}
use Rattle.fork_change.specs.declared.copying.Choice.{Choice}
use Rattle.fork_change.specs.declared.copying.Choice.TheVariants as choice
use Rattle.fork_change.specs.declared.row.AttributeChange.{AttributeChange}
use Rattle.fork_change.specs.declared.row.NameChange.{NameChange}
use Rattle.fork_change.specs.declared.row.NameChange.TheVariants as name_change
use Rattle.fork_change.specs.declared.row.ResourceId.{ResourceId}
use Rattle.fork_list.specs.Attributes.{attributes_text}
use Rattle.fork_list.specs.Names.{ShowsName}
use Rattle.fork_list.specs.Roman.{roman_text}
use Rattle.fork_list.specs.declared.find.Key.{Key}
use Rattle.fork_list.specs.declared.find.Key.TheVariants as key
use Rattle.fork_words.specs.Given.{is_given}
use Rattle.fork_words.specs.Kinds.{NamesKind}

-- the word is a number that an i16 holds
abbrev pub IsId : List ℕ → Type 0
IsId word = IsNumeral 10 (without_leading_sign word) × FitsSigned w16 (signed_digits_value 10 word)

-- the word is this id
abbrev pub NamesId : List ℕ → ℤ → Type 0
NamesId word id = IsId word × (id ≡ signed_digits_value 10 word)

-- two words name this type and this id
abbrev pub NamesResource : List ℕ → List ℕ → ResourceId → Type 0
NamesResource kind id what = NamesKind kind what.kind × NamesId id what.id

-- the word names the id of a resource of this type
abbrev pub NamesIdOf : List ℕ → List ℕ → ResourceId → Type 0
NamesIdOf kind word what = (what.kind ≡ kind) × NamesId word what.id

-- each of the words names one of these, in their order
abbrev pub Each : {X : Type 0} → (List ℕ → X → Type 0) → List (List ℕ) → List X → Type 0
Each names [] [] = Unit {0}
Each names (word ∷ words) (first ∷ others) = names word first × Each names words others
Each names [] (first ∷ others) = ⊥
Each names (word ∷ words) [] = ⊥

-- the word shows this name, in MacRoman
abbrev pub NamesName : List ℕ → List ℕ → Type 0
NamesName word name = (bytes : List ℕ) × (roman_text bytes ≡ word) × ShowsName bytes name

-- a name is the one that a word shows, where there is one
abbrev pub IsNamed : Option (List ℕ) → Option (List ℕ) → Type 0
IsNamed None name = name ≡ None
IsNamed (Some word) (Some name) = NamesName word name
IsNamed (Some word) None = ⊥

-- the word is this id, or else shows this name
abbrev pub NamesKey : List ℕ → Key → Type 0
NamesKey word (key.Id id) = NamesId word id
NamesKey word (key.Name name) = ¬ IsId word × NamesName word name.items

-- the word counts from 1 on, and comes after so many
abbrev pub NamesNth : List ℕ → ℕ → Type 0
NamesNth word nth = IsNumeral 10 (without_leading_plus word) × (digits_value 10 (without_leading_plus word) ≡ nth + 1)

-- the name of a resource goes by `--no-name`, becomes what `--name` shows, or stays
abbrev pub IsNameChange : Found → NameChange → Type 0
IsNameChange found name_change.Clear = is_given found (codes "no-name") ≡ true
IsNameChange found name_change.Keep = (is_given found (codes "no-name") ≡ false) × (first_value found (codes "name") ≡ None)
IsNameChange found (name_change.To name) = (is_given found (codes "no-name") ≡ false)
    × ((word : List ℕ) × (first_value found (codes "name") ≡ Some word) × NamesName word name)

-- the word is the one that a list of resources has for the attribute with this bit
abbrev pub NamesBit : List ℕ → ℕ → Type 0
NamesBit word bit = (place : ℕ) × (place < 8) × (bit ≡ 2 ^ place) × (word ≡ attributes_text bit)

-- what is between the commas of a text
abbrev pub between_commas : List ℕ → List (List ℕ)
between_commas words = slice_split (λ letter. letter == 44) words

-- these bits and those that the words name come to those bits
abbrev pub NameBits : ℕ → List (List ℕ) → ℕ → Type 0
NameBits before [] after = after ≡ before
NameBits before (word ∷ words) after = (bit : ℕ) × NamesBit word bit × NameBits (bit_or before bit) words after

-- a word with a sign names a bit that is set, by `+`, or cleared, by `-`, and no other
abbrev pub ChangesBit : AttributeChange → List ℕ → AttributeChange → Type 0
ChangesBit before word after = (name : List ℕ) × (bit : ℕ) × NamesBit name bit × (after.take.0 ≡ bit_or before.take.0 bit)
    × (((word ≡ codes "+" ++ name) × (after.add.0 ≡ bit_or before.add.0 bit))
    ⊎ ((word ≡ codes "-" ++ name) × (after.add.0 ≡ without 8 before.add.0 bit)))

-- words with signs, one after the other
abbrev pub ChangeBits : AttributeChange → List (List ℕ) → AttributeChange → Type 0
ChangeBits before [] after = after ≡ before
ChangeBits before (word ∷ words) after = (next : AttributeChange) × ChangesBit before word next × ChangeBits next words after

-- no attribute is changed
abbrev pub no_change : AttributeChange
no_change = record { take = record { 0 = 0 }; add = record { 0 = 0 } }

-- what becomes of the attributes: they stay; `-` clears all; words with signs change some; words name those that are set
abbrev pub IsAttributeChange : Option (List ℕ) → AttributeChange → Type 0
IsAttributeChange None change = change ≡ no_change
IsAttributeChange (Some words) change = ((words ≡ codes "-") × (change.take.0 ≡ 255) × (change.add.0 ≡ 0))
    ⊎ (ChangeBits no_change (between_commas words) change
    ⊎ ((change.take.0 ≡ 255) × NameBits 0 (between_commas words) change.add.0))

-- the word is TYPE:ID, and not a type of four bytes
abbrev pub NamesOne : List ℕ → List ℕ → List ℕ → Type 0
NamesOne word kind id = (length word ≢ 4) × (word ≡ kind ++ (codes ":" ++ id)) × IsId id

-- a word of `cp` names this: TYPE:ID, or else TYPE
abbrev pub NamesChoice : List ℕ → Choice → Type 0
NamesChoice word choice.All = ⊥
NamesChoice word (choice.One what) = (kind : List ℕ) × (id : List ℕ) × NamesOne word kind id × NamesResource kind id what
NamesChoice word (choice.Kind kind) = NamesKind word kind × ((kind : List ℕ) (id : List ℕ) → ¬ NamesOne word kind id)

-- the words of `cp` name these: all resources where there are none
abbrev pub NameChoices : List (List ℕ) → List Choice → Type 0
NameChoices [] chosen = chosen ≡ choice.All ∷ []
NameChoices (word ∷ words) chosen = Each NamesChoice (word ∷ words) chosen
