-- Marks that are kept as bits of words.
use Rattle.std.specs.Prelude.{◌≡◌, ℕ, ◌+◌, ◌/◌, ◌%◌, ◌^◌, ◌≤◌, ◌<◌, Bool, true, false, List, length, map, slice_index, ◌⊎◌}
use Rattle.std.specs.Int.{bit_at}
use Rattle.std.specs.List.{range_with_len}

-- the number for a mark, or for none
abbrev pub mark_of : Bool → ℕ
mark_of true = 1
mark_of false = 0

-- the first bit of a word, `from` or after it, that is 1
pub record FirstBit (word from at : ℕ) : Type 0 where
  pub inside : (from ≤ at) × (at < 64)
  pub one : bit_at word at ≡ 1
  pub first : (i : ℕ) → from ≤ i → i < at → bit_at word i ≡ 0

-- the last bit of a word before `end` that is 1
pub record LastBit (word end at : ℕ) : Type 0 where
  pub inside : at < end
  pub one : bit_at word at ≡ 1
  pub last : (i : ℕ) → at < i → i < end → bit_at word i ≡ 0

-- the mark at a place: each word has those of 64 places, the lowest bit that of the first
abbrev pub bit_of : List ℕ → ℕ → ℕ
bit_of words j = bit_at (slice_index words (j / 64)) (j % 64)

-- the marks of so many places
abbrev pub bits_of : List ℕ → ℕ → List ℕ
bits_of words count = map (bit_of words) (range_with_len 0 count)

-- there is room for the words of so many places, and none has a mark after these
pub record AreWords (words : List ℕ) (count capacity : ℕ) : Type 0 where
  pub few : count < 2 ^ 40
  pub room : count / 64 < capacity
  pub past : (j : ℕ) → count ≤ j → bit_of words j ≡ 0

-- a mark is in a word
pub record HasMark (xs : List ℕ) (word : ℕ) : Type 0 where
  pub place : ℕ
  pub here : place / 64 ≡ word
  pub one : 1 ≤ slice_index xs place

-- the words that have a mark are noted
pub record AreNoted (xs used : List ℕ) : Type 0 where
  pub few : length xs < 2 ^ 40
  pub each : length used ≡ length xs / 64 + 1
  pub none : (j : ℕ) → slice_index used (j / 64) < 1 → slice_index xs j < 1
  pub some : (w : ℕ) → 1 ≤ slice_index used w → HasMark xs w

-- n marks from a place on are the lowest bits of a word, and the others stay
pub record AreWritten (xs ys : List ℕ) (place n word : ℕ) : Type 0 where
  pub len : length ys ≡ length xs
  pub there : (i : ℕ) → i < n → slice_index ys (place + i) ≡ bit_at word i
  pub before : (j : ℕ) → j < place → slice_index ys j ≡ slice_index xs j
  pub after : (j : ℕ) → place + n ≤ j → slice_index ys j ≡ slice_index xs j

-- the words from one to another have their notes, and the others have theirs as before
pub record AreNotedAt (xs old new : List ℕ) (first last : ℕ) : Type 0 where
  pub each : length new ≡ length old
  pub others : (w : ℕ) → (w < first) ⊎ (last < w) → slice_index new w ≡ slice_index old w
  pub none : (w : ℕ) → first ≤ w → w ≤ last → slice_index new w < 1 → (j : ℕ) → j / 64 ≡ w → slice_index xs j < 1
  pub some : (w : ℕ) → first ≤ w → w ≤ last → 1 ≤ slice_index new w → HasMark xs w
