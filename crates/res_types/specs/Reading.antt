-- How bits are read as the parts of fields, from left to right, and where they are none.
use Rattle.std.specs.Prelude.{◌≡◌, ℕ, zero, suc, ◌+◌, ◌-◌, ◌/◌, ◌%◌, ◌==◌, ◌&&◌, not, Bool, true, false, nat_le, max, if◌then◌else◌, List, [], ◌∷◌, ◌++◌, length, take, drop, Option, None, Some, Result, Ok, Err}
use Rattle.std.specs.List.{list_all}
use Rattle.res_types.specs.declared.field.Count.{Count}
use Rattle.res_types.specs.declared.field.Mark.{Mark}
use Rattle.res_types.specs.declared.field.Key.{Key}
use Rattle.res_types.specs.declared.field.NumberField.{NumberField}
use Rattle.res_types.specs.declared.field.TextForm.{TextForm}
use Rattle.res_types.specs.declared.field.Zeros.{Zeros}
use Rattle.res_types.specs.declared.field.Zeros.TheVariants.{Fill, AlignByte, AlignWord, AlignLong}
use Rattle.res_types.specs.declared.field.Field.{Field}
use Rattle.res_types.specs.declared.field.Field.TheVariants.{Nothing, Then', Number, Text, Zeros as Zero_bits, Repeated', Counted', Marked', Case', NoCase}
use Rattle.res_types.specs.declared.value.Part.{Part}
use Rattle.res_types.specs.declared.value.Part.TheVariants as parts
use Rattle.res_types.specs.declared.reading.End.{End}
use Rattle.res_types.specs.declared.reading.End.TheVariants.{At, Whole}
use Rattle.res_types.specs.declared.stop.Stop.{Stop}
use Rattle.res_types.specs.declared.stop.Stop.TheVariants as stops
use Rattle.res_types.specs.Bits.{number_at, bytes_at}
use Rattle.res_types.specs.Texts.{width_of, greatest, text_at}

infixl 10 ◌>>=◌
abbrev pub ◌>>=◌ : {A B : Type 0} → Result A ℕ → (A → Result B ℕ) → Result B ℕ
(Ok x) >>= f = f x
(Err e) >>= f = Err e

-- what a function returned, seen by view, is what a definition gives, unless the host has no memory
abbrev pub Fails : {Y : Type 0} → Stop → Result Y ℕ → Type 0
Fails stops.HostFull given = Unit {0}
Fails (stops.Unfit left) given = given ≡ Err left

abbrev pub Gives : {X Y : Type 0} → (X → Y) → Result X Stop → Result Y ℕ → Type 0
Gives view (Ok x) given = given ≡ Ok (view x)
Gives view (Err e) given = Fails e given

-- the parts of fields, and the bits after them; or how many bits are left where they are none
abbrev pub Read : Type 0
Read = Result (List Part × List Bool) ℕ

-- what is there, or else no field with these bits left
abbrev pub or_fails : {A : Type 0} → List Bool → Option A → Result A ℕ
or_fails bits None = Err (length bits)
or_fails bits (Some x) = Ok x

-- these parts, and then those that were read
abbrev pub with_front : List Part → Read → Read
with_front front read = read >>= λ x. Ok (front ++ x.0, x.1)

-- the part of a number, unless it is always this one
abbrev pub part_of_number : Option ℕ → ℕ → List Bool → List Bool → Read
part_of_number None number bits rest = Ok (parts.Number number ∷ [], rest)
part_of_number (Some only) number bits rest = if number == only then Ok ([], rest) else Err (length bits)

unfoldable pub read_number : NumberField → List Bool → Read
read_number field bits = do
  number ← or_fails bits (number_at field.width bits)
  part_of_number field.only number.0 bits number.1

unfoldable pub read_text : TextForm → List Bool → Read
read_text form bits = do
  text ← or_fails bits (text_at form bits)
  Ok (parts.Text text.0 ∷ [], text.1)

-- a text that goes on to the last whole byte
unfoldable pub read_whole_text : List Bool → Read
read_whole_text bits = do
  text ← or_fails bits (bytes_at (length bits / 8) bits)
  Ok (parts.Text text.0 ∷ [], text.1)

-- how many bits are before the next multiple
abbrev pub gap : ℕ → ℕ → ℕ
gap multiple at = (multiple - at % multiple) % multiple

-- how many zeros there are after so many bits
abbrev pub zero_count : Zeros → ℕ → ℕ
zero_count (Fill n) at = n
zero_count AlignByte at = gap 8 at
zero_count AlignWord at = gap 16 at
zero_count AlignLong at = gap 32 at

-- the bits after so many zeros
unfoldable pub after_zeros : ℕ → List Bool → Option (List Bool)
after_zeros n bits = if nat_le n (length bits) && list_all not (take n bits) then Some (drop n bits) else None

unfoldable pub read_zeros : Zeros → ℕ → List Bool → Read
read_zeros zeros at bits = do
  rest ← or_fails bits (after_zeros (zero_count zeros at) bits)
  Ok ([], rest)

-- what was read, if it has at least so many of these bits
abbrev pub with_least : ℕ → List Bool → Read → Read
with_least least bits read = do
  found ← read
  if nat_le least (length bits - length found.1) then Ok found else Err (length bits)

-- so many elements, each of at least one bit
unfoldable pub read_elements : (List Bool → Read) → ℕ → List Bool → Read
read_elements read zero bits = Ok ([], bits)
read_elements read (suc n) bits = do
  first ← with_least 1 bits (read bits)
  with_front first.0 (read_elements read n first.1)

-- how many elements a count says
abbrev pub elements_of : Count → ℕ → ℕ
elements_of count number = if count.less_one then (if nat_le (greatest count.size) number then 0 else number + 1) else number

unfoldable pub count_at : Count → List Bool → Option (ℕ × List Bool)
count_at count bits = elim (number_at (width_of count.size) bits) [ None ↦ None | Some x ↦ Some (elements_of count x.0, x.1) ]

-- the bits after a mark, if they begin with it
unfoldable pub after_mark : Mark → List Bool → Option (List Bool)
after_mark mark bits = elim (number_at mark.width bits) [ None ↦ None | Some x ↦ if x.0 == mark.value then Some x.1 else None ]

-- the bits after the end of a list, if these begin with it
abbrev pub after_end : End → List Bool → Option (List Bool)
after_end (At mark) bits = after_mark mark bits
after_end Whole [] = Some []
after_end Whole (bit ∷ bits) = None

-- how many bits an element has at least, so that it isn't the end
abbrev pub least_of : End → ℕ
least_of (At mark) = max 1 mark.width
least_of Whole = 1

-- all elements up to the end, in so many turns at most: how many, their parts, and the bits after the end
unfoldable pub read_list : (List Bool → Read) → End → ℕ → List Bool → Result (ℕ × List Part × List Bool) ℕ
read_list read end zero bits = Err (length bits)
read_list read end (suc turns) bits = elim (after_end end bits) [
  | Some rest ↦ Ok (0, [], rest)
  | None ↦ (do
    first ← with_least (least_of end) bits (read bits)
    others ← read_list read end turns first.1
    Ok (others.0 + 1, first.0 ++ others.1, others.2))
]

-- so many elements and their parts before those that were read
abbrev pub with_found : ℕ → List Part → Result (ℕ × List Part × List Bool) ℕ → Result (ℕ × List Part × List Bool) ℕ
with_found n front found = found >>= λ x. Ok (n + x.0, front ++ x.1, x.2)

-- the same with the part that says how many elements there are
unfoldable pub read_whole_list : (List Bool → Read) → End → List Bool → Read
read_whole_list read end bits = do
  found ← read_list read end (length bits + 1) bits
  Ok (parts.Elements found.0 ∷ found.1, found.2)

-- whether the bits have the key in its place
unfoldable pub has_key : Key → List Bool → Bool
has_key key bits = elim (number_at key.width (drop key.offset bits)) [ None ↦ false | Some x ↦ x.0 == key.value ]

-- the parts of a case, or of the others
abbrev pub read_case : Key → (List Bool → Read) → (List Bool → Read) → List Bool → Read
read_case key chosen other bits = with_least (key.offset + key.width) bits
    (if has_key key bits then with_front (parts.Case true ∷ []) (chosen bits) else with_front (parts.Case false ∷ []) (other bits))

-- a count, fields, and so many elements
abbrev pub read_counted : Count → (List Bool → Read) → (List Bool → Read) → List Bool → Read
read_counted count between element bits = do
  n ← or_fails bits (count_at count bits)
  with_front (parts.Elements n.0 ∷ []) (between n.1 >>= λ x. with_front x.0 (read_elements element n.0 x.1))

-- the parts of fields that begin with these bits, where the resource has so many bits in all
abbrev pub read : ℕ → Field → List Bool → Read
read whole Nothing bits = Ok ([], bits)
read whole (Then' p first q second) bits = read whole first bits >>= λ x. with_front x.0 (read whole second x.1)
read whole (Number field) bits = read_number field bits
read whole (Text form style) bits = read_text form bits
read whole (Zero_bits zeros) bits = read_zeros zeros (whole - length bits) bits
read whole (Repeated' n p body) bits = read_elements (read whole body) n bits
read whole (Counted' count p between q body) bits = read_counted count (read whole between) (read whole body) bits
read whole (Marked' mark p body) bits = read_whole_list (read whole body) (At mark) bits
read whole (Case' key p chosen q other) bits = read_case key (read whole chosen) (read whole other) bits
read whole NoCase bits = Err (length bits)
