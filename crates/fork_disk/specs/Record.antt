-- The calls on a file with their answers, and which answers an honest file gives.
use Rattle.std.specs.Prelude.{◌≡◌, ⊤, ℕ, zero, suc, ◌==◌, Bool, true, false, not, count_by, List, [], ◌∷◌, length, take, slice_index, IsTrue, Result, Ok, Err}
use Rattle.fork_disk.specs.Disk.{bytes_at, put_at, Torn, CutShort}

-- A call with its answer, as it is noted: which call, an offset or a length, 1 for success, and which file it was; and
-- bytes.
abbrev pub Event : Type 0
Event = List ℕ × List ℕ

-- Which call: 0 asks for the length, 1 reads, 2 writes, 3 cuts, and any other syncs.
abbrev pub call_of : Event → ℕ
call_of e = slice_index e.0 0

abbrev pub number_of : Event → ℕ
number_of e = slice_index e.0 1

abbrev pub is_done : Event → Bool
is_done e = slice_index e.0 2 == 1

-- whether a call succeeded, as it is noted
abbrev pub done : {T E : Type 0} → Result T E → ℕ
done (Ok value) = 1
done (Err fault) = 0

-- the calls as they are noted, each with its answer, and of which file it was
abbrev pub len_event : {E : Type 0} → ℕ → Result ℕ E → Event
len_event which (Ok len) = (0 ∷ len ∷ 1 ∷ which ∷ [], [])
len_event which (Err fault) = (0 ∷ 0 ∷ 0 ∷ which ∷ [], [])

abbrev pub read_event : {T E : Type 0} → ℕ → ℕ → List ℕ → Result T E → Event
read_event which at buffer (Ok value) = (1 ∷ at ∷ 1 ∷ which ∷ [], buffer)
read_event which at buffer (Err fault) = (1 ∷ at ∷ 0 ∷ which ∷ [], [])

abbrev pub write_event : {T E : Type 0} → ℕ → ℕ → List ℕ → Result T E → Event
write_event which at bytes result = (2 ∷ at ∷ done result ∷ which ∷ [], bytes)

abbrev pub cut_event : {T E : Type 0} → ℕ → ℕ → Result T E → Event
cut_event which len result = (3 ∷ len ∷ done result ∷ which ∷ [], [])

abbrev pub sync_event : {T E : Type 0} → ℕ → Result T E → Event
sync_event which result = (4 ∷ 0 ∷ done result ∷ which ∷ [], [])

-- how many of these calls failed
abbrev pub failed_calls : List Event → ℕ
failed_calls calls = count_by (λ e. not (is_done e)) calls

-- The answer of a call fits a file that held the old bytes before it and holds the new ones after it. A call that
-- failed says nothing of the bytes; a write or a cut that failed may have been done in part.
abbrev pub Fits : ℕ → ℕ → Bool → List ℕ → List ℕ → List ℕ → Type 0
Fits zero n ok bytes old new = (new ≡ old) × (IsTrue ok → n ≡ length old)
Fits (suc zero) at ok bytes old new = (new ≡ old) × (IsTrue ok → bytes ≡ bytes_at (length bytes) at old)
Fits (suc (suc zero)) at true bytes old new = new ≡ put_at at bytes old
Fits (suc (suc zero)) at false bytes old new = Torn at (length bytes) old new
Fits (suc (suc (suc zero))) len true bytes old new = new ≡ take len old
Fits (suc (suc (suc zero))) len false bytes old new = CutShort len old new
Fits (suc (suc (suc (suc more)))) n ok bytes old new = new ≡ old

-- A crash leaves the bytes that the file holds, and no others.
abbrev pub IsStable : (List Event → List ℕ) → (List Event → List ℕ → Type 0) → List Event → Type 0
IsStable held may_leave calls = (left : List ℕ) → may_leave calls left → left ≡ held calls

-- What a call does to what a crash may leave: a sync that succeeds makes the file stable, and what changes no bytes
-- keeps it so.
abbrev pub Settles : ℕ → Bool → Type 0 → Type 0 → Type 0
Settles zero ok old new = old → new
Settles (suc zero) ok old new = old → new
Settles (suc (suc zero)) ok old new = ⊤
Settles (suc (suc (suc zero))) ok old new = ⊤
Settles (suc (suc (suc (suc more)))) ok old new = (old → new) × (IsTrue ok → new)

-- The answers of these calls, the newest first, are those of a file that held such bytes after each of them, and of
-- which a crash after each might have left such.
abbrev pub IsHonest : (List Event → List ℕ) → (List Event → List ℕ → Type 0) → List Event → Type 0
IsHonest held may_leave [] = ⊤
IsHonest held may_leave (e ∷ past) = IsHonest held may_leave past
    × Fits (call_of e) (number_of e) (is_done e) e.1 (held past) (held (e ∷ past))
    × Settles (call_of e) (is_done e) (IsStable held may_leave past) (IsStable held may_leave (e ∷ past))
