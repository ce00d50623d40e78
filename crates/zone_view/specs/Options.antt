-- The options of a look, and the numbers that they give.
use Rattle.std.specs.Prelude.{◌≡◌, ◌⊎◌, ℕ, ◌<◌, ◌^◌, Bool, false, bytes_eq, if◌then◌else◌, List, ◌++◌, Option, Some, None, codes}
use Rattle.std.specs.Str.Parse.{IsNumeral, digits_value}
use Rattle.clap.specs.Words.{App, Rule, Text, Kinds, new_app, new_rule, with_rule, matches_of, first_of, fault_of}
use Rattle.clap.specs.declared.builder.ArgAction.TheVariants.{Set, SetTrue}
use Rattle.mac_base.specs.declared.block.HeadKind.{HeadKind}
use Rattle.mac_base.specs.declared.block.HeadKind.TheVariants.{Bits24, Bits32}

-- an option that is there at most once, as `--name`, and takes a value
abbrev pub option_named : Text → Rule
option_named name = record (new_rule name) { long = Some name; action = Some Set; value_names = 1 }

-- an option that takes no value and is there at most once, as `--name`
abbrev pub flag_option : Text → Rule
flag_option name = record (new_rule name) { long = Some name; action = Some SetTrue }

-- the program and the options of a look
abbrev pub options : App
options = with_rule (with_rule (with_rule (with_rule (with_rule (new_app (codes "macheap")) (option_named (codes "look"))) (option_named (codes "base"))) (option_named (codes "from"))) (option_named (codes "mode"))) (flag_option (codes "json"))

-- the ways in which the words don't match the options, of which `--help` is one; none where they do
abbrev pub faults : List Text → Kinds
faults words = fault_of options words

-- the value that the words give an option
abbrev pub value_of : Text → List Text → Option Text
value_of name words = first_of name (matches_of options words)

-- a flag with this value was given
abbrev pub is_set : Option Text → Bool
is_set None = false
is_set (Some text) = bytes_eq text (codes "true")

-- digits in this radix, one or more, of this number, which is below 2 ^ 32
pub record IsWrittenIn (radix : ℕ) (digits : Text) (n : ℕ) : Type 0 where
  pub digits_are : IsNumeral radix digits
  pub value : n ≡ digits_value radix digits
  pub fits : n < 2 ^ 32

-- a text is this number: decimal digits, or `$` and hexadecimal ones
abbrev pub IsNumber : Text → ℕ → Type 0
IsNumber text n = IsWrittenIn 10 text n ⊎ ((digits : Text) × (text ≡ codes "$" ++ digits) × IsWrittenIn 16 digits n)

-- a text is no number
abbrev pub IsNoNumber : Text → Type 0
IsNoNumber text = (n : ℕ) → ¬ IsNumber text n

-- an option's value is this number, which is 0 where the option isn't there
abbrev pub IsNumberOf : Option Text → ℕ → Type 0
IsNumberOf None n = n ≡ 0
IsNumberOf (Some text) n = IsNumber text n

-- an option has a value that is no number
abbrev pub HasNoNumber : Option Text → Type 0
HasNoNumber None = ⊥
HasNoNumber (Some text) = IsNoNumber text

-- how blocks are headed in a mode, if there is such a mode: there are two, 24 and 32; without one it is 24
abbrev pub heads_of : Option Text → Option HeadKind
heads_of None = Some Bits24
heads_of (Some mode) = if bytes_eq mode (codes "24") then Some Bits24 else if bytes_eq mode (codes "32") then Some Bits32 else None
