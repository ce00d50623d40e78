-- The form of a journal: byte 0 is the gate, and the text after it is the length of a fork in four bytes and as many
-- bytes.
use Rattle.std.specs.Prelude.{◌≡◌, ℕ, ◌+◌, ◌==◌, ◌&&◌, ◌||◌, nat_le, Bool, List, ◌++◌, length, take, drop, get_or}
use Rattle.byteorder.specs.Endian.{big_bytes, big_number}

-- the text of a fork
abbrev pub text_of : List ℕ → List ℕ
text_of fork = big_bytes 4 (length fork) ++ fork

-- a text has at least as many bytes after its length as this says
unfoldable pub is_whole : List ℕ → Bool
is_whole text = nat_le (4 + big_number 4 text) (length text)

-- the fork of a whole text
unfoldable pub fork_in : List ℕ → List ℕ
fork_in text = take (big_number 4 text) (drop 4 text)

-- the gate is open, which only the value 1 means
abbrev pub is_open : List ℕ → Bool
is_open journal = get_or journal 0 0 == 1

-- the gate is open and the text is whole
abbrev pub is_usable : List ℕ → Bool
is_usable journal = is_open journal && is_whole (drop 1 journal)

-- a write of the gate leaves the text after it
abbrev pub IsSameText : List ℕ → List ℕ → Type 0
IsSameText old new = drop 1 new ≡ drop 1 old

-- a write after n bytes, as one of the text after the gate, leaves these
abbrev pub IsSameFront : ℕ → List ℕ → List ℕ → Type 0
IsSameFront n old new = take n new ≡ take n old

-- before an update the gate has to be shut where it is open, or where there is none yet
abbrev pub must_shut : List ℕ → Bool
must_shut journal = (length journal == 0) || is_open journal
