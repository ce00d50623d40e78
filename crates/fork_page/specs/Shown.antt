-- What is shown of a resource.
use Rattle.std.specs.Prelude.{◌≡◌, ℕ, nat_le, if◌then◌else◌, List, length, Option, None, Some, ⊤}
use Rattle.std.specs.Option.{option_and_then}
use Rattle.std.specs.Result.{result_ok}
use Rattle.fork_bytes.specs.Rows.{Row}
use Rattle.fork_list.specs.Compressed.{unpacked_length}
use Rattle.fork_page.specs.declared.shown.Shown.{Shown}
use Rattle.fork_page.specs.declared.shown.Shown.TheVariants as shown
use Rattle.fork_page.specs.declared.shown.TheConstants.{MOST_PLAYED}
use Rattle.fork_view.specs.Forms.{is_drawing, picture_file}
use Rattle.fork_view.specs.Sights.{wav_file_of}

-- its picture as a PNG file, but that of one in QuickDraw's language
abbrev pub pictured : List Row → Row → Option (List ℕ)
pictured rows row = if is_drawing row.kind then None else picture_file rows row

-- a WAV file that isn't too long to be played
abbrev pub played : List ℕ → Option (List ℕ)
played wav = if nat_le (length wav) MOST_PLAYED then Some wav else None

-- the WAV file that is played of a resource: that of a sound whose samples can be had, if it isn't too long
abbrev pub sound_file : Row → Option (List ℕ)
sound_file row = option_and_then played (result_ok (wav_file_of row))

-- a text, or its first bytes
abbrev pub IsPlain : Shown → Type 0
IsPlain (shown.Picture png) = ⊥
IsPlain (shown.Compressed length) = ⊥
IsPlain (shown.Sound wav) = ⊥
IsPlain (shown.Text text) = ⊤
IsPlain (shown.Digits text) = ⊤

-- its picture, if it is one; else that it is compressed, and how long it would be; else its sound, if one is played; else a
-- text, or its first bytes
abbrev pub IsShown : List Row → Row → Shown → Type 0
IsShown rows row (shown.Picture png) = pictured rows row ≡ Some png.items
IsShown rows row (shown.Compressed length) = (pictured rows row ≡ None) × (unpacked_length row.attributes.0 row.datum ≡ Some length)
IsShown rows row (shown.Sound wav) = (pictured rows row ≡ None) × (unpacked_length row.attributes.0 row.datum ≡ None) × (sound_file row ≡ Some wav.items)
IsShown rows row other = (pictured rows row ≡ None) × (unpacked_length row.attributes.0 row.datum ≡ None) × (sound_file row ≡ None) × IsPlain other
