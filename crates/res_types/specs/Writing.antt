-- The bits of parts.
use Rattle.std.specs.Prelude.{ℕ, zero, suc, ◌+◌, ◌-◌, ◌^◌, ◌==◌, ◌&&◌, not, Bool, false, nat_le, nat_lt, max, if◌then◌else◌, List, [], ◌∷◌, ◌++◌, length, replicate, Option, None, Some, is_none, Result, Ok, Err}
use Rattle.res_types.specs.declared.field.Count.{Count}
use Rattle.res_types.specs.declared.field.Mark.{Mark}
use Rattle.res_types.specs.declared.field.Key.{Key}
use Rattle.res_types.specs.declared.field.NumberField.{NumberField}
use Rattle.res_types.specs.declared.field.TextForm.{TextForm}
use Rattle.res_types.specs.declared.field.Field.{Field}
use Rattle.res_types.specs.declared.field.Field.TheVariants.{Nothing, Then', Number, Text, Zeros as Zero_bits, Repeated', Counted', Marked', Case', NoCase}
use Rattle.res_types.specs.declared.value.Part.{Part}
use Rattle.res_types.specs.declared.value.Part.TheVariants as parts
use Rattle.res_types.specs.declared.writing.Element.{Element}
use Rattle.res_types.specs.declared.writing.Element.TheVariants.{Any, Unlike}
use Rattle.res_types.specs.Bits.{bits_of, byte_bits}
use Rattle.res_types.specs.Texts.{width_of, greatest, are_bytes, text_bits}
use Rattle.res_types.specs.Reading.{◌>>=◌, zero_count, has_key, after_mark}

-- the bits of the first parts, and the parts after them; or how many parts are left where they are of other fields
abbrev pub Written : Type 0
Written = Result (List Bool × List Part) ℕ

-- these bits, and then those that were written
abbrev pub with_bits : List Bool → Written → Written
with_bits front written = written >>= λ x. Ok (front ++ x.0, x.1)

-- a number in so many bits, if it has them
unfoldable pub number_bits : ℕ → ℕ → Option (List Bool)
number_bits width number = if nat_le width 32 && nat_lt number (2 ^ width) then Some (bits_of width number) else None

-- bits that are there, and these parts after them; or else so many parts are left
abbrev pub or_none : Option (List Bool) → ℕ → List Part → Written
or_none None left rest = Err left
or_none (Some bits) left rest = Ok (bits, rest)

-- a number that begins the parts
abbrev pub write_part : ℕ → List Part → Written
write_part width [] = Err 0
write_part width (parts.Number number ∷ rest) = or_none (number_bits width number) (length rest + 1) rest
write_part width (parts.Text text ∷ rest) = Err (length rest + 1)
write_part width (parts.Elements n ∷ rest) = Err (length rest + 1)
write_part width (parts.Case n ∷ rest) = Err (length rest + 1)

-- a number that is always the same, or that begins the parts
unfoldable pub write_number : NumberField → List Part → Written
write_number field ps = elim field.only [ Some only ↦ or_none (number_bits field.width only) (length ps) ps | None ↦ write_part field.width ps ]

-- a text that begins the parts
unfoldable pub write_text : TextForm → List Part → Written
write_text form [] = Err 0
write_text form (parts.Text text ∷ rest) = or_none (text_bits form text) (length rest + 1) rest
write_text form (parts.Number n ∷ rest) = Err (length rest + 1)
write_text form (parts.Elements n ∷ rest) = Err (length rest + 1)
write_text form (parts.Case n ∷ rest) = Err (length rest + 1)

-- how many elements the parts begin with, and the parts after that
abbrev pub elements_in : List Part → Result (ℕ × List Part) ℕ
elements_in [] = Err 0
elements_in (parts.Elements n ∷ rest) = Ok (n, rest)
elements_in (parts.Number n ∷ rest) = Err (length rest + 1)
elements_in (parts.Text text ∷ rest) = Err (length rest + 1)
elements_in (parts.Case n ∷ rest) = Err (length rest + 1)

-- whether the parts begin with the case or another, and the parts after that
abbrev pub case_in : List Part → Result (Bool × List Part) ℕ
case_in [] = Err 0
case_in (parts.Case chosen ∷ rest) = Ok (chosen, rest)
case_in (parts.Number n ∷ rest) = Err (length rest + 1)
case_in (parts.Text text ∷ rest) = Err (length rest + 1)
case_in (parts.Elements n ∷ rest) = Err (length rest + 1)

-- the bits are of an element: there are some, at least as many as the mark, and they don't begin with it
unfoldable pub fits : Element → List Bool → Bool
fits Any bits = nat_lt 0 (length bits)
fits (Unlike mark) bits = nat_le (max 1 mark.width) (length bits) && is_none (after_mark mark bits)

-- what was written, if its bits are so
abbrev pub if_fits : (List Bool → Bool) → ℕ → Written → Written
if_fits fits left written = do
  found ← written
  if fits found.0 then Ok found else Err left

-- so many elements, whose bits are so
unfoldable pub write_elements : (ℕ → List Part → Written) → (List Bool → Bool) → ℕ → ℕ → List Part → Written
write_elements write fits zero at ps = Ok ([], ps)
write_elements write fits (suc n) at ps = do
  first ← if_fits fits (length ps) (write at ps)
  with_bits first.0 (write_elements write fits n (at + length first.0) first.1)

-- the number that counts so many elements, if one does
abbrev pub number_of_count : Count → ℕ → Option ℕ
number_of_count count n =
    if nat_le n (greatest count.size) then Some (if count.less_one then (if n == 0 then greatest count.size else n - 1) else n) else None

unfoldable pub count_bits : Count → ℕ → Option (List Bool)
count_bits count n = elim (number_of_count count n) [ None ↦ None | Some number ↦ Some (bits_of (width_of count.size) number) ]

-- the key's place is among the bits, which have the key, or haven't
unfoldable pub is_keyed : Key → Bool → List Bool → Bool
is_keyed key chosen bits = nat_le (key.offset + key.width) (length bits) && (if chosen then has_key key bits else not (has_key key bits))

-- elements, whose number is before them
unfoldable pub write_list : (ℕ → List Part → Written) → ℕ → List Part → Written
write_list write at ps = elements_in ps >>= λ n. write_elements write (fits Any) n.0 at n.1

-- a text of any length that begins the parts
unfoldable pub write_whole_text : List Part → Written
write_whole_text [] = Err 0
write_whole_text (parts.Text text ∷ rest) = if are_bytes text then Ok (byte_bits text, rest) else Err (length rest + 1)
write_whole_text (parts.Number n ∷ rest) = Err (length rest + 1)
write_whole_text (parts.Elements n ∷ rest) = Err (length rest + 1)
write_whole_text (parts.Case n ∷ rest) = Err (length rest + 1)

-- a count, fields, and so many elements
unfoldable pub write_counted : Count → (ℕ → List Part → Written) → (ℕ → List Part → Written) → ℕ → List Part → Written
write_counted count between element at ps = do
  n ← elements_in ps
  x ← or_none (count_bits count n.0) (length ps) n.1
  with_bits x.0 (between (at + length x.0) x.1 >>= λ y. with_bits y.0 (write_elements element (fits Any) n.0 (at + length x.0 + length y.0) y.1))

-- elements and the mark after them
unfoldable pub write_marked : Mark → (ℕ → List Part → Written) → ℕ → List Part → Written
write_marked mark element at ps = do
  n ← elements_in ps
  x ← write_elements element (fits (Unlike mark)) n.0 at n.1
  with_bits x.0 (or_none (number_bits mark.width mark.value) (length x.1) x.1)

-- a case, or another
unfoldable pub write_case : Key → (ℕ → List Part → Written) → (ℕ → List Part → Written) → ℕ → List Part → Written
write_case key chosen other at ps = do
  x ← case_in ps
  if_fits (is_keyed key x.0) (length ps) (if x.0 then chosen at x.1 else other at x.1)

-- the bits of the first parts as these fields, after so many bits of the resource
abbrev pub write : Field → ℕ → List Part → Written
write Nothing at ps = Ok ([], ps)
write (Then' p first q second) at ps = write first at ps >>= λ x. with_bits x.0 (write second (at + length x.0) x.1)
write (Number field) at ps = write_number field ps
write (Text form style) at ps = write_text form ps
write (Zero_bits zeros) at ps = Ok (replicate (zero_count zeros at) false, ps)
write (Repeated' n p body) at ps = write_elements (write body) (fits Any) n at ps
write (Counted' count p between q body) at ps = write_counted count (write between) (write body) at ps
write (Marked' mark p body) at ps = write_marked mark (write body) at ps
write (Case' key p chosen q other) at ps = write_case key (write chosen) (write other) at ps
write NoCase at ps = Err (length ps)
