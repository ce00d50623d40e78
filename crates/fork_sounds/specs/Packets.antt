-- Packets of 'ima4': 34 bytes that hold 64 samples of a channel (Apple Technical Note 1081; IMA ADPCM).
use Rattle.std.specs.Prelude.{ℕ, zero, suc, ◌+◌, ◌-◌, ◌*◌, ◌/◌, ◌%◌, ◌==◌, nat_lt, min, if◌then◌else◌, List, [], ◌∷◌, get_or, map, slice_index, Option}
use Rattle.std.specs.List.{find, range_with_len}
use Rattle.fork_sounds.specs.declared.ima.State.{State}
use Rattle.fork_sounds.specs.Bytes.{word_at}

-- the sizes of steps
abbrev pub steps : List ℕ
steps =
    7 ∷ 8 ∷ 9 ∷ 10 ∷ 11 ∷ 12 ∷ 13 ∷ 14 ∷ 16 ∷ 17 ∷ 19 ∷ 21 ∷ 23 ∷ 25 ∷ 28 ∷ 31 ∷ 34 ∷ 37 ∷ 41 ∷ 45 ∷ 50 ∷ 55 ∷ 60 ∷ 66 ∷ 73
    ∷ 80 ∷ 88 ∷ 97 ∷ 107 ∷ 118 ∷ 130 ∷ 143 ∷ 157 ∷ 173 ∷ 190 ∷ 209 ∷ 230 ∷ 253 ∷ 279 ∷ 307 ∷ 337 ∷ 371 ∷ 408 ∷ 449 ∷ 494
    ∷ 544 ∷ 598 ∷ 658 ∷ 724 ∷ 796 ∷ 876 ∷ 963 ∷ 1060 ∷ 1166 ∷ 1282 ∷ 1411 ∷ 1552 ∷ 1707 ∷ 1878 ∷ 2066 ∷ 2272 ∷ 2499 ∷ 2749
    ∷ 3024 ∷ 3327 ∷ 3660 ∷ 4026 ∷ 4428 ∷ 4871 ∷ 5358 ∷ 5894 ∷ 6484 ∷ 7132 ∷ 7845 ∷ 8630 ∷ 9493 ∷ 10442 ∷ 11487 ∷ 12635
    ∷ 13899 ∷ 15289 ∷ 16818 ∷ 18500 ∷ 20350 ∷ 22385 ∷ 24623 ∷ 27086 ∷ 29794 ∷ 32767 ∷ []

-- the size of the step of an index
unfoldable pub step_of : ℕ → ℕ
step_of index = get_or steps index 0

-- how far a code of four bits moves: an eighth of the step, and the step, its half and its quarter as its bits 2, 1, 0 say
abbrev pub distance : ℕ → ℕ → ℕ
distance step code = step / 8 + code / 4 % 2 * step + code / 2 % 2 * (step / 2) + code % 2 * (step / 4)

-- the level after a move: down if the code's highest bit is 1; it stays among the levels
abbrev pub moved : ℕ → ℕ → ℕ → ℕ
moved level step code = if nat_lt code 8 then min 65535 (level + distance step code) else level - distance step code

-- the next index: one less for a code of which bit 2 is 0, otherwise 2, 4, 6 or 8 more; it stays among the indexes
abbrev pub next_index : ℕ → ℕ → ℕ
next_index index code = if nat_lt (code % 8) 4 then index - 1 else min 88 (index + 2 * (code % 4 + 1))

-- the state after a code
unfoldable pub next : State → ℕ → State
next state code = record { level = moved state.level (step_of state.index) code; index = next_index state.index code }

-- the state that the head of a packet says: nine bits of a level in two's complement, seven bits of an index
abbrev pub head : List ℕ → ℕ → State
head bytes at = let word = word_at bytes at in record { level = (word / 128 * 128 + 32768) % 65536; index = word % 128 }

-- a code of a packet: each byte has two, the lower first
abbrev pub code_at : List ℕ → ℕ → ℕ → ℕ
code_at bytes at place =
    let byte = slice_index bytes (at + 2 + place / 2) in
    if place % 2 == 0 then byte % 16 else byte / 16

-- the state after so many codes of a packet
unfoldable pub state_after : List ℕ → ℕ → ℕ → State
state_after bytes at zero = head bytes at
state_after bytes at (suc count) = next (state_after bytes at count) (code_at bytes at count)

-- a sample of a packet
abbrev pub packet_sample : List ℕ → ℕ → ℕ → ℕ
packet_sample bytes at place = (state_after bytes at (place + 1)).level

-- the head of the first of so many packets that has an index of more than 88
abbrev pub wrong_head : List ℕ → ℕ → ℕ → Option ℕ
wrong_head bytes start count = find (λ at. nat_lt 88 (word_at bytes at % 128)) (map (λ packet. start + 34 * packet) (range_with_len 0 count))
