-- How lines are read as texts and their places, from left to right, and the first place where they are none.
use Rattle.std.specs.Prelude.{◌≡◌, ℕ, ℤ, pos, zero, suc, ◌+◌, ◌-◌, ◌*◌, ◌==◌, ◌&&◌, ◌||◌, not, Bool, true, false, nat_le, nat_lt, if◌then◌else◌, List, [], ◌∷◌, ◌++◌, length, take, drop, codes, bytes_eq, Option, None, Some, Result, Ok, Err, neg_ℤ}
use Rattle.std.specs.Char.{digit_value}
use Rattle.fork_texts.specs.declared.entry.Entry.{Entry}
use Rattle.fork_texts.specs.declared.fault.Fault.{Fault}
use Rattle.fork_texts.specs.declared.fault.ReadError.{ReadError}
use Rattle.fork_texts.specs.declared.fault.ReadError.TheVariants as errors
use Rattle.fork_texts.specs.declared.fault.Why.{Why}
use Rattle.fork_texts.specs.declared.fault.Why.TheVariants as why
use Rattle.fork_texts.specs.declared.line.Line.{Line}
use Rattle.fork_texts.specs.declared.place.Place.{Place}
use Rattle.fork_texts.specs.declared.place.Place.TheVariants.{Name, Whole, Title, Short, Long, Numbered}
use Rattle.fork_texts.specs.declared.reading.Head.{Head}
use Rattle.fork_texts.specs.declared.reading.Stop.{Stop}
use Rattle.fork_texts.specs.declared.reading.Stop.TheVariants.{Blank, Quote}
use Rattle.fork_texts.specs.declared.reading.TheConstants.{MOST}

infixl 10 ◌>>=◌
abbrev pub ◌>>=◌ : {A B : Type 0} → Result A Fault → (A → Result B Fault) → Result B Fault
(Ok x) >>= f = f x
(Err e) >>= f = Err e

-- what a function returned, seen by view, is what reading gives, unless the host has no memory
abbrev pub Fails : {Y : Type 0} → ReadError → Result Y Fault → Type 0
Fails errors.HostFull read = Unit {0}
Fails (errors.Refused f) read = read ≡ Err f

abbrev pub Gives : {X Y : Type 0} → (X → Y) → Result X ReadError → Result Y Fault → Type 0
Gives view (Ok x) read = read ≡ Ok (view x)
Gives view (Err e) read = Fails e read

-- something else is expected where this text is left
abbrev pub fails : {A : Type 0} → List ℕ → Why → Result A Fault
fails text expected = Err (record { left = length text; why = expected })

abbrev pub or_fails : {A : Type 0} → List ℕ → Why → Option A → Result A Fault
or_fails text expected found = elim found [ None ↦ fails text expected | Some x ↦ Ok x ]

-- a blank, a tab, and a carriage return before the end of a line
abbrev pub is_blank : ℕ → Bool
is_blank byte = byte == 32 || (byte == 9 || byte == 13)

-- the text after blanks, and after the ends of lines too
abbrev pub after_blanks : List ℕ → List ℕ
after_blanks [] = []
after_blanks (byte ∷ text) = if is_blank byte then after_blanks text else byte ∷ text

abbrev pub after_lines : List ℕ → List ℕ
after_lines [] = []
after_lines (byte ∷ text) = if is_blank byte || byte == 10 then after_lines text else byte ∷ text

-- the byte of two hexadecimal digits of either case
unfoldable pub digits_at : List ℕ → Result (ℕ × List ℕ) Fault
digits_at [] = fails [] why.Character
digits_at (high ∷ []) = fails (high ∷ []) why.Character
digits_at (high ∷ low ∷ rest) =
    if nat_lt (digit_value high) 16 && nat_lt (digit_value low) 16 then Ok (16 * digit_value high + digit_value low, rest)
    else fails (high ∷ low ∷ rest) why.Character

-- the byte after a backslash
unfoldable pub escape_at : List ℕ → Result (ℕ × List ℕ) Fault
escape_at [] = fails [] why.Character
escape_at (byte ∷ rest) =
    if byte == 110 then Ok (13, rest)
    else if byte == 116 then Ok (9, rest)
    else if byte == 34 then Ok (34, rest)
    else if byte == 92 then Ok (92, rest)
    else if byte == 120 then digits_at rest
    else fails (byte ∷ rest) why.Character

-- a byte: one that is no control character is itself
unfoldable pub byte_at : List ℕ → Result (ℕ × List ℕ) Fault
byte_at [] = fails [] why.Character
byte_at (byte ∷ rest) =
    if byte == 92 then escape_at rest
    else if nat_le 32 byte && not (byte == 127) then Ok (byte, rest)
    else fails (byte ∷ rest) why.Character

-- whether a byte ends a run
abbrev pub is_stop : Stop → ℕ → Bool
is_stop Blank byte = is_blank byte
is_stop Quote byte = byte == 34

abbrev pub stops : Stop → List ℕ → Bool
stops stop [] = false
stops stop (byte ∷ rest) = is_stop stop byte

-- bytes up to a stop, after those so far, in so many turns at most
unfoldable pub run_at : Stop → ℕ → List ℕ → List ℕ → Result (List ℕ × List ℕ) Fault
run_at stop zero so_far text = fails text why.Character
run_at stop (suc n) so_far text = if stops stop text then Ok (so_far, text) else (byte_at text >>= λ x. run_at stop n (so_far ++ x.0 ∷ []) x.1)

-- a type of one to four bytes: blanks at its end make them four
abbrev pub kind_of : List ℕ → Option (List ℕ)
kind_of [] = None
kind_of (a ∷ []) = Some (a ∷ 32 ∷ 32 ∷ 32 ∷ [])
kind_of (a ∷ b ∷ []) = Some (a ∷ b ∷ 32 ∷ 32 ∷ [])
kind_of (a ∷ b ∷ c ∷ []) = Some (a ∷ b ∷ c ∷ 32 ∷ [])
kind_of (a ∷ b ∷ c ∷ d ∷ []) = Some (a ∷ b ∷ c ∷ d ∷ [])
kind_of (a ∷ b ∷ c ∷ d ∷ e ∷ more) = None

unfoldable pub kind_at : List ℕ → Result (List ℕ × List ℕ) Fault
kind_at text = do
  bytes ← run_at Blank (length text) [] text
  kind ← or_fails text why.Kind (kind_of bytes.0)
  Ok (kind, bytes.1)

-- the text after this word, if it begins with it
abbrev pub after_word : List ℕ → List ℕ → Option (List ℕ)
after_word word text = if bytes_eq (take (length word) text) word then Some (drop (length word) text) else None

abbrev pub is_digit : ℕ → Bool
is_digit byte = nat_le 48 byte && nat_le byte 57

-- a number in digits, after this number, up to a limit
abbrev pub number_from : Why → ℕ → ℕ → List ℕ → Result (ℕ × List ℕ) Fault
number_from expected limit number [] = Ok (number, [])
number_from expected limit number (byte ∷ rest) =
    if not (is_digit byte) then Ok (number, byte ∷ rest)
    else if nat_lt limit (10 * number + (byte - 48)) then fails (byte ∷ rest) expected
    else number_from expected limit (10 * number + (byte - 48)) rest

unfoldable pub number_at : Why → ℕ → List ℕ → Result (ℕ × List ℕ) Fault
number_at expected limit [] = fails [] expected
number_at expected limit (byte ∷ rest) = if is_digit byte then number_from expected limit 0 (byte ∷ rest) else fails (byte ∷ rest) expected

-- an id, by what is after its minus, if there is one
abbrev pub id_from : Option (List ℕ) → List ℕ → Result (ℤ × List ℕ) Fault
id_from (Some rest) text = number_at why.Id 32768 rest >>= λ number. Ok (neg_ℤ (pos number.0), number.1)
id_from None text = number_at why.Id 32767 text >>= λ number. Ok (pos number.0, number.1)

unfoldable pub id_at : List ℕ → Result (ℤ × List ℕ) Fault
id_at text = id_from (after_word (45 ∷ []) text) text

-- the number of a place, and its bracket
unfoldable pub numbered_at : List ℕ → Result (Place × List ℕ) Fault
numbered_at text = do
  number ← number_at why.Place MOST text
  rest ← or_fails number.1 why.Place (after_word (93 ∷ []) number.1)
  Ok (Numbered number.0, rest)

-- the place of a word that a text may begin with
abbrev pub word_at : List ℕ → Place → List ℕ → Option (Place × List ℕ)
word_at word place text = elim (after_word word text) [ None ↦ None | Some rest ↦ Some (place, rest) ]

-- the place of the word that begins with this letter; before a text in quotes is none
abbrev pub place_word : ℕ → List ℕ → Option (Place × List ℕ)
place_word letter text =
    if letter == 34 then Some (Whole, text)
    else if letter == 110 then word_at (codes "name") Name text
    else if letter == 116 then word_at (codes "title") Title text
    else if letter == 115 then word_at (codes "short") Short text
    else if letter == 108 then word_at (codes "long") Long text
    else None

unfoldable pub place_at : List ℕ → Result (Place × List ℕ) Fault
place_at [] = fails [] why.Place
place_at (byte ∷ rest) = if byte == 91 then numbered_at rest else or_fails (byte ∷ rest) why.Place (place_word byte (byte ∷ rest))

-- a text between quotes
unfoldable pub quoted_at : List ℕ → Result (List ℕ × List ℕ) Fault
quoted_at text = do
  inner ← or_fails text why.Quote (after_word (34 ∷ []) text)
  bytes ← run_at Quote (length inner) [] inner
  rest ← or_fails bytes.1 why.Character (after_word (34 ∷ []) bytes.1)
  Ok (bytes.0, rest)

-- the text after the end of a line
unfoldable pub line_end_at : List ℕ → Result (List ℕ) Fault
line_end_at text = elim (after_blanks text) [ [] ↦ Ok [] | byte ∷ rest ↦ if byte == 10 then Ok rest else fails (byte ∷ rest) why.LineEnd ]

-- a type, an id and a place, with blanks after each
unfoldable pub head_at : List ℕ → Result (Head × List ℕ) Fault
head_at text = do
  kind ← kind_at text
  id ← id_at (after_blanks kind.1)
  place ← place_at (after_blanks id.1)
  Ok (record { kind = kind.0; id = id.0; place = place.0 }, after_blanks place.1)

-- the line of a head and a text, where so many bytes are left before each
abbrev pub line_of : Head → List ℕ → ℕ → ℕ → Line
line_of head text start quote =
    record { entry = record { what = record { kind = head.kind; id = head.id }; place = head.place; text = text }; start = start; quote = quote }

-- a line
unfoldable pub line_at : List ℕ → Result (Line × List ℕ) Fault
line_at text = do
  head ← head_at text
  bytes ← quoted_at head.1
  rest ← line_end_at bytes.1
  Ok (line_of head.0 bytes.0 (length text) (length head.1), rest)

-- lines after those so far, in so many turns at most
unfoldable pub lines_from : ℕ → List Line → List ℕ → Result (List Line) Fault
lines_from zero so_far text = Ok so_far
lines_from (suc n) so_far [] = Ok so_far
lines_from (suc n) so_far (byte ∷ rest) = line_at (byte ∷ rest) >>= λ x. lines_from n (so_far ++ x.0 ∷ []) (after_lines x.1)

-- the lines of a text
unfoldable pub lines_at : List ℕ → Result (List Line) Fault
lines_at text = lines_from (length text) [] (after_lines text)
