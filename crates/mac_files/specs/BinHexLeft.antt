-- What the readers of a BinHex text have left.
use Rattle.std.specs.Prelude.{◌≡◌, ℕ, List, [], ◌∷◌, drop, replicate, Option, None, Some, Result, Ok, Err}
use Rattle.mac_files.specs.declared.bin_hex.digits.Placed.{Placed}
use Rattle.mac_files.specs.declared.bin_hex.digits.Digits.{Digits}
use Rattle.mac_files.specs.declared.bin_hex.packed.Held.{Held}
use Rattle.mac_files.specs.declared.bin_hex.packed.Held.TheVariants.{Nothing, Second, Third}
use Rattle.mac_files.specs.declared.bin_hex.packed.Packed.{Packed}
use Rattle.mac_files.specs.declared.bin_hex.runs.Run.{Run}
use Rattle.mac_files.specs.declared.bin_hex.runs.Runs.{Runs}
use Rattle.mac_files.specs.declared.bin_hex.fault.BinHexFault.{BinHexFault}
use Rattle.mac_files.specs.BinHex.{Reading, before, ends, digits_from, packed, second_byte, third_byte, expanded}

abbrev pub digits_left : Digits → Reading
digits_left reader = digits_from reader.at (drop reader.at reader.text.now)

-- the bytes of digits after one of which some bits are held
unfoldable pub packed_after : Held → List Placed → List Placed
packed_after Nothing digits = packed digits
packed_after held [] = []
packed_after (Second b) (c ∷ digits) =
    second_byte (record { value = b; at = 0 }) c ∷ packed_after (Third c.value) digits
packed_after (Third c) (d ∷ digits) = third_byte (record { value = c; at = 0 }) d ∷ packed digits

abbrev pub bytes_of : Held → Reading → Reading
bytes_of held digits = record { values = packed_after held digits.values; ending = digits.ending }

abbrev pub bytes_left : Packed → Reading
bytes_left reader = bytes_of reader.held (digits_left reader.digits)

abbrev pub runs_of : Option ℕ → Reading → Reading
runs_of last bytes = expanded last bytes.values bytes.ending

abbrev pub runs_left : Runs → Reading
runs_left reader = runs_of reader.last (bytes_left reader.packed)

-- a reader took the first value of what was left, or it ended, at an offset or with a fault
abbrev pub Takes : Reading → Reading → ℕ → Result (Option Placed) BinHexFault → Type 0
Takes old new at (Ok (Some value)) = old ≡ before (value ∷ []) new
Takes old new at (Ok None) = old ≡ ends (Ok at)
Takes old new at (Err fault) = old ≡ ends (Err fault)

-- the same of a run
abbrev pub TakesRun : Reading → Reading → ℕ → Result (Option Run) BinHexFault → Type 0
TakesRun old new at (Ok (Some run)) = old ≡ before (replicate run.count (record { value = run.value; at = run.at })) new
TakesRun old new at (Ok None) = old ≡ ends (Ok at)
TakesRun old new at (Err fault) = old ≡ ends (Err fault)
