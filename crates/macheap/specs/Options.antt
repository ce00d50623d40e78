-- The options of the command line, and the numbers that they give.
use Rattle.std.specs.Prelude.{◌≡◌, ℕ, ◌<◌, ◌^◌, ◌==◌, Bool, true, false, bytes_eq, if◌then◌else◌, List, [], Option, Some, None, unwrap_or, codes}
use Rattle.std.specs.Str.Parse.{IsNumeral, digits_value}
use Rattle.clap.specs.Words.{App, Rule, Text, Kinds, new_app, new_rule, with_rule, matches_of, all_of, first_of, fault_of}
use Rattle.mac_base.specs.declared.block.HeadKind.{HeadKind}
use Rattle.mac_base.specs.declared.block.HeadKind.TheVariants.{Bits24, Bits32}
use Rattle.clap.specs.declared.builder.ArgAction.TheVariants.{Set, SetTrue, Append}

-- an option that is there at most once, as `--name`, and takes a value
abbrev pub option_named : Text → Rule
option_named name = record (new_rule name) { long = Some name; action = Some Set; value_names = 1 }

-- an option that may be there several times, as `--name`, and takes a value each time
abbrev pub file_option : Text → Rule
file_option name = record (new_rule name) { long = Some name; action = Some Append; value_names = 1 }

-- an option that takes no value and is there at most once, as `--name`
abbrev pub flag_option : Text → Rule
flag_option name = record (new_rule name) { long = Some name; action = Some SetTrue }

-- a program that says its version when it is asked
abbrev pub with_version : App → App
with_version app = record app { top = record app.top { has_version = true } }

-- the program, without its options
abbrev pub program : App
program = with_version (new_app (codes "macheap"))

-- the program and its options
abbrev pub options : App
options = with_rule (with_rule (with_rule (with_rule (with_rule (with_rule (with_rule program (option_named (codes "zone"))) (option_named (codes "limit"))) (option_named (codes "base"))) (option_named (codes "mode"))) (file_option (codes "fork"))) (file_option (codes "journal"))) (flag_option (codes "large"))

-- the ways in which the words don't match the options, of which `--help` is one; none where they do
abbrev pub faults : List Text → Kinds
faults words = fault_of options words

-- the value that the words give an option
abbrev pub value_of : Text → List Text → Option Text
value_of name words = first_of name (matches_of options words)

-- a flag with this value was given
abbrev pub is_set : Option Text → Bool
is_set None = false
is_set (Some text) = bytes_eq text (codes "true")

-- the words allow a large zone
abbrev pub allows_large : List Text → Bool
allows_large words = is_set (value_of (codes "large") words)

-- the values that the words give an option that may be there several times, in order
abbrev pub values_of : Text → List Text → List Text
values_of name words = unwrap_or (all_of name (matches_of options words)) []

-- the names of the files that the words give
abbrev pub forks_of : List Text → List Text
forks_of words = values_of (codes "fork") words

-- the names of the files of their journals
abbrev pub journals_of : List Text → List Text
journals_of words = values_of (codes "journal") words

-- decimal digits, one or more, of a number below 2 ^ 32
pub record IsDecimal (text : List ℕ) : Type 0 where
  pub digits : IsNumeral 10 text
  pub fits : digits_value 10 text < 2 ^ 32

-- an option's value is this number; where the option isn't there, the number is the default
abbrev pub IsNumberOf : Option Text → ℕ → ℕ → Type 0
IsNumberOf None default n = n ≡ default
IsNumberOf (Some text) default n = IsDecimal text × (n ≡ digits_value 10 text)

-- an option has a value that is no number
abbrev pub IsNoNumber : Option Text → Type 0
IsNoNumber None = ⊥
IsNoNumber (Some text) = ¬ IsDecimal text

-- how blocks are headed in this mode: there are two, 24 and 32
abbrev pub heads_of : ℕ → Option HeadKind
heads_of mode = if mode == 24 then Some Bits24 else if mode == 32 then Some Bits32 else None
