-- How a text of `data` statements is read, from left to right, and the first place where it is none.
use Rattle.std.specs.Prelude.{◌≡◌, ℕ, ℤ, pos, zero, suc, ◌+◌, ◌-◌, ◌*◌, ◌==◌, ◌&&◌, ◌||◌, Bool, false, nat_le, nat_lt, if◌then◌else◌, List, [], ◌∷◌, ◌++◌, length, take, drop, replicate, codes, bytes_eq, Option, None, Some, is_some, Result, Ok, Err, neg_ℤ}
use Rattle.std.specs.List.{find, push}
use Rattle.std.specs.Int.RustNames.{bit_or}
use Rattle.std.specs.Char.{digit_value}
use Rattle.byteorder.specs.Endian.{big_number}
use Rattle.fork_bytes.specs.Rows.{Row}
use Rattle.fork_bytes.specs.declared.table.Table.{Table}
use Rattle.fork_rez.specs.declared.attribute.Attribute.{Attribute}
use Rattle.fork_rez.specs.declared.fault.Expected.{Expected}
use Rattle.fork_rez.specs.declared.fault.Expected.TheVariants.{Statement, DataNot, Mark, Kind, Id, NameInQuotes, AttributeWord, Character, Digits, CommentEnd, MapBytes, MapFirst}
use Rattle.fork_rez.specs.declared.fault.Fault.{Fault}
use Rattle.fork_rez.specs.declared.fault.ReadError.{ReadError}
use Rattle.fork_rez.specs.declared.fault.ReadError.TheVariants as errors
use Rattle.fork_rez.specs.declared.blanks.Skipping.{Skipping}
use Rattle.fork_rez.specs.declared.blanks.Skipping.TheVariants.{Between, Slash, Line, Block, Star}
use Rattle.fork_rez.specs.declared.quoted.Quotes.{Quotes}
use Rattle.fork_rez.specs.declared.quoted.Quotes.TheVariants.{Single, Double, Hexadecimal}
use Rattle.fork_rez.specs.declared.unread.Unread.{Unread}
use Rattle.fork_rez.specs.declared.unread.Unread.TheVariants.{Resource, Read, Include, TypeDeclaration, Change, Delete, Directive}
use Rattle.fork_rez.specs.Text.{attributes, bit_of, word_of, is_printable, map_word}

infixl 10 ◌>>=◌
abbrev pub ◌>>=◌ : {A B : Type 0} → Result A Fault → (A → Result B Fault) → Result B Fault
(Ok x) >>= f = f x
(Err e) >>= f = Err e

-- what a function returned, seen by view, is what reading gives, unless the host has no memory
abbrev pub Fails : {Y : Type 0} → ReadError → Result Y Fault → Type 0
Fails errors.HostFull read = Unit {0}
Fails (errors.Refused f) read = read ≡ Err f

abbrev pub Gives : {X Y : Type 0} → (X → Y) → Result X ReadError → Result Y Fault → Type 0
Gives view (Ok x) read = read ≡ Ok (view x)
Gives view (Err e) read = Fails e read

-- something else is expected where this text is left
abbrev pub fails : {A : Type 0} → List ℕ → Expected → Result A Fault
fails text expected = Err (record { left = length text; expected = expected })

-- what is there, or else this is expected
abbrev pub or_fails : {A : Type 0} → List ℕ → Expected → Option A → Result A Fault
or_fails text expected found = elim found [ None ↦ fails text expected | Some x ↦ Ok x ]

-- one thing of what is there, and another where nothing is
abbrev pub if_there : {A B : Type 0} → Option A → (A → B) → B → B
if_there (Some x) one other = one x
if_there None one other = other

-- a blank, a tab, and the ends of lines
abbrev pub is_blank : ℕ → Bool
is_blank byte = byte == 32 || (byte == 9 || (byte == 10 || byte == 13))

-- where a text is after a byte between two words, if the byte is of blanks or a comment: `/*` to `*/`, or `//` to the
-- line's end
abbrev pub skipping : Skipping → ℕ → Option Skipping
skipping Between byte = if is_blank byte then Some Between else if byte == 47 then Some Slash else None
skipping Slash byte = if byte == 42 then Some Block else if byte == 47 then Some Line else None
skipping Line byte = if byte == 10 || byte == 13 then Some Between else Some Line
skipping Block byte = if byte == 42 then Some Star else Some Block
skipping Star byte = if byte == 47 then Some Between else if byte == 42 then Some Star else Some Block

-- no more is skipped: a comment must be at its end
abbrev pub skipped : Skipping → List ℕ → Result (List ℕ) Fault
skipped Between text = Ok text
skipped Line text = Ok text
skipped Slash text = fails text CommentEnd
skipped Block text = fails text CommentEnd
skipped Star text = fails text CommentEnd

-- the text after this word, if it begins with it
abbrev pub after_word : List ℕ → List ℕ → Option (List ℕ)
after_word word text = if bytes_eq (take (length word) text) word then Some (drop (length word) text) else None

-- whether the comment with the map's bytes begins here
abbrev pub is_map : Skipping → List ℕ → Bool
is_map Between text = is_some (after_word map_word text)
is_map Slash text = false
is_map Line text = false
is_map Block text = false
is_map Star text = false

-- the text after blanks and comments, none of which may be that with the map's bytes
abbrev pub skip : Skipping → List ℕ → Result (List ℕ) Fault
skip at [] = skipped at []
skip at (byte ∷ text) =
    if is_map at (byte ∷ text) then fails (byte ∷ text) MapFirst
    else if_there (skipping at byte) (λ next. skip next text) (skipped at (byte ∷ text))

unfoldable pub after_blanks : List ℕ → Result (List ℕ) Fault
after_blanks text = skip Between text

-- the text after blanks and this word
unfoldable pub word_at : List ℕ → Expected → List ℕ → Result (List ℕ) Fault
word_at word expected text = do
  start ← after_blanks text
  or_fails start expected (after_word word start)

-- things one after the other, so many at most, each added to those so far, up to where there is no other
abbrev pub many : {A B : Type 0} → (B → A → B) → (List ℕ → Result (Option A × List ℕ) Fault) → ℕ → B → List ℕ → Result (B × List ℕ) Fault
many add item zero so_far text = Ok (so_far, text)
many add item (suc n) so_far text = do
  next ← item text
  if_there next.0 (λ one. many add item n (add so_far one) next.1) (Ok (so_far, next.1))

-- as many as a text may have: each has a byte at least
abbrev pub all_of : {A B : Type 0} → (B → A → B) → (List ℕ → Result (Option A × List ℕ) Fault) → B → List ℕ → Result (B × List ℕ) Fault
all_of add item none text = many add item (suc (length text)) none text

-- a byte in two hexadecimal digits of either case
unfoldable pub byte_at : List ℕ → Result (ℕ × List ℕ) Fault
byte_at [] = fails [] Digits
byte_at (high ∷ []) = fails (high ∷ []) Digits
byte_at (high ∷ low ∷ text) =
    if nat_lt (digit_value high) 16 && nat_lt (digit_value low) 16 then Ok (16 * digit_value high + digit_value low, text)
    else fails (high ∷ low ∷ text) Digits

-- what is after a backslash: a quote, a backslash, or `0x` and two digits
unfoldable pub escape_at : List ℕ → Result (ℕ × List ℕ) Fault
escape_at [] = fails [] Character
escape_at (byte ∷ text) =
    if byte == 34 || (byte == 39 || byte == 92) then Ok (byte, text)
    else (do
      digits ← or_fails (byte ∷ text) Character (after_word (codes "0x") (byte ∷ text))
      byte_at digits)

-- the byte that stands for itself or after a backslash, up to this quote
unfoldable pub character_at : ℕ → List ℕ → Result (Option ℕ × List ℕ) Fault
character_at quote [] = fails [] Character
character_at quote (byte ∷ text) =
    if byte == quote then Ok (None, text)
    else if byte == 92 then (do
      escape ← escape_at text
      Ok (Some escape.0, escape.1))
    else if is_printable byte then Ok (Some byte, text)
    else fails (byte ∷ text) Character

-- a byte in digits, up to the quote
unfoldable pub digits_at : List ℕ → Result (Option ℕ × List ℕ) Fault
digits_at text = do
  start ← after_blanks text
  if_there (after_word (34 ∷ []) start) (λ rest. Ok (None, rest)) (byte_at start >>= λ byte. Ok (Some byte.0, byte.1))

-- a byte between quotes
abbrev pub unit_at : Quotes → List ℕ → Result (Option ℕ × List ℕ) Fault
unit_at Single text = character_at 39 text
unit_at Double text = character_at 34 text
unit_at Hexadecimal text = digits_at text

-- the bytes up to a quote
unfoldable pub quoted_at : Quotes → List ℕ → Result (List ℕ × List ℕ) Fault
quoted_at quotes text = all_of push (unit_at quotes) [] text

-- four bytes up to a single quote
unfoldable pub kind_in : List ℕ → Result (List ℕ × List ℕ) Fault
kind_in text = do
  kind ← quoted_at Single text
  if length kind.0 == 4 then Ok kind else fails text Kind

-- a type
unfoldable pub kind_at : List ℕ → Result (List ℕ × List ℕ) Fault
kind_at text = do
  start ← word_at (39 ∷ []) Kind text
  kind_in start

-- whether a byte is a decimal digit
abbrev pub is_digit : ℕ → Bool
is_digit byte = nat_le 48 byte && nat_le byte 57

-- the number that these digits go on with, up to a limit
abbrev pub number_from : ℕ → ℕ → List ℕ → Result (ℕ × List ℕ) Fault
number_from limit so_far [] = Ok (so_far, [])
number_from limit so_far (byte ∷ text) =
    if is_digit byte then (if nat_le (10 * so_far + (byte - 48)) limit then number_from limit (10 * so_far + (byte - 48)) text else fails (byte ∷ text) Id)
    else Ok (so_far, byte ∷ text)

-- a number in digits
unfoldable pub number_at : ℕ → List ℕ → Result (ℕ × List ℕ) Fault
number_at limit [] = fails [] Id
number_at limit (byte ∷ text) = if is_digit byte then number_from limit 0 (byte ∷ text) else fails (byte ∷ text) Id

-- an id, from -32768 to 32767
unfoldable pub id_at : List ℕ → Result (ℤ × List ℕ) Fault
id_at text = do
  start ← after_blanks text
  if_there (after_word (45 ∷ []) start)
      (λ digits. number_at 32768 digits >>= λ number. Ok (neg_ℤ (pos number.0), number.1))
      (number_at 32767 start >>= λ number. Ok (pos number.0, number.1))

-- a name between double quotes
unfoldable pub name_in : List ℕ → Result (Option (List ℕ) × List ℕ) Fault
name_in text = do
  name ← quoted_at Double text
  if nat_lt 255 (length name.0) then fails text NameInQuotes else Ok (Some name.0, name.1)

-- a name after a comma, if there is one
unfoldable pub name_at : List ℕ → Result (Option (List ℕ) × List ℕ) Fault
name_at text = do
  start ← after_blanks text
  if_there (after_word (44 ∷ []) start)
      (λ more. after_blanks more >>= λ next. if_there (after_word (34 ∷ []) next) name_in (Ok (None, start)))
      (Ok (None, start))

-- the bit of the word that a text begins with
abbrev pub word_among : List Attribute → List ℕ → Option (ℕ × List ℕ)
word_among [] text = None
word_among (first ∷ others) text = if_there (after_word (word_of first) text) (λ rest. Some (bit_of first, rest)) (word_among others text)

-- the bits of a word, or of `$` and two digits
unfoldable pub bits_at : List ℕ → Result (ℕ × List ℕ) Fault
bits_at text = if_there (after_word (36 ∷ []) text) byte_at (or_fails text AttributeWord (word_among attributes text))

-- the bits of an attribute after a comma, if there is one
unfoldable pub attribute_at : List ℕ → Result (Option ℕ × List ℕ) Fault
attribute_at text = do
  start ← after_blanks text
  if_there (after_word (44 ∷ []) start)
      (λ more. after_blanks more >>= λ next. bits_at next >>= λ bits. Ok (Some bits.0, bits.1))
      (Ok (None, start))

unfoldable pub attributes_at : List ℕ → Result (ℕ × List ℕ) Fault
attributes_at text = all_of bit_or attribute_at 0 text

-- a string of bytes between quotes
abbrev pub string_in : Quotes → List ℕ → Result (Option (List ℕ) × List ℕ) Fault
string_in quotes text = quoted_at quotes text >>= λ bytes. Ok (Some bytes.0, bytes.1)

-- a string of bytes, in digits or in letters, if there is one
unfoldable pub string_at : List ℕ → Result (Option (List ℕ) × List ℕ) Fault
string_at text = do
  start ← after_blanks text
  if_there (after_word (codes "$\"") start) (string_in Hexadecimal)
      (if_there (after_word (34 ∷ []) start) (string_in Double) (Ok (None, start)))

-- the bytes of all strings
unfoldable pub data_at : List ℕ → Result (List ℕ × List ℕ) Fault
data_at text = all_of (λ so_far one. so_far ++ one) string_at [] text

-- a resource after the word `data`
unfoldable pub resource_at : List ℕ → Result (Row × List ℕ) Fault
resource_at text = do
  kind ← kind_at text
  opened ← word_at (40 ∷ []) (Mark 40) kind.1
  id ← id_at opened
  name ← name_at id.1
  attributes ← attributes_at name.1
  closed ← word_at (41 ∷ []) (Mark 41) attributes.1
  inside ← word_at (123 ∷ []) (Mark 123) closed
  datum ← data_at inside
  outside ← word_at (125 ∷ []) (Mark 125) datum.1
  rest ← word_at (59 ∷ []) (Mark 59) outside
  Ok (record { kind = kind.0; id = id.0; name = name.0; attributes = record { 0 = attributes.0 }; datum = datum.0 }, rest)

-- a statement, if there is one
unfoldable pub row_at : List ℕ → Result (Option Row × List ℕ) Fault
row_at text = do
  start ← after_blanks text
  if_there (after_word (codes "data") start) (λ more. resource_at more >>= λ row. Ok (Some row.0, row.1)) (Ok (None, start))

-- the map's bytes in a comment
unfoldable pub map_in : List ℕ → Result (List ℕ × List ℕ) Fault
map_in text = do
  bytes ← data_at text
  rest ← word_at (codes "*/") CommentEnd bytes.1
  if length bytes.0 == 242 then Ok (bytes.0, rest) else fails text MapBytes

-- the map's bytes in the comment that the text begins with, if it has them, and else zeros; its lines end as any
unfoldable pub map_at : List ℕ → Result (List ℕ × List ℕ) Fault
map_at text = if_there (after_word map_word text) map_in (Ok (replicate 242 0, text))

-- the word of a statement that isn't read
abbrev pub word_of_unread : Unread → List ℕ
word_of_unread Resource = codes "resource"
word_of_unread Read = codes "read"
word_of_unread Include = codes "include"
word_of_unread TypeDeclaration = codes "type"
word_of_unread Change = codes "change"
word_of_unread Delete = codes "delete"
word_of_unread Directive = codes "#"

-- the statements that aren't read
abbrev pub unreads : List Unread
unreads = Resource ∷ Read ∷ Include ∷ TypeDeclaration ∷ Change ∷ Delete ∷ Directive ∷ []

-- a text begins with the word of such a statement
abbrev pub begins : List ℕ → Unread → Bool
begins text unread = is_some (after_word (word_of_unread unread) text)

-- what is expected where the statements of a text end, and the text goes on
abbrev pub expected_at : List ℕ → Expected
expected_at text = elim (find (begins text) unreads) [ None ↦ Statement | Some unread ↦ DataNot unread ]

-- the table of a whole text
unfoldable pub table_at : List ℕ → Result Table Fault
table_at text = do
  kept ← map_at text
  rows ← all_of push row_at [] kept.1
  rest ← after_blanks rows.1
  if length rest == 0 then Ok (record { rows = rows.0; extra = take 240 kept.0; map_attributes = big_number 2 (drop 240 kept.0) }) else fails rest (expected_at rest)
