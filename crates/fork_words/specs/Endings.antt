-- The form of what is shown, by `--as` and by the ending of a file's name.
use Rattle.std.specs.Prelude.{◌≡◌, ◌⊎◌, ℕ, ◌==◌, ◌||◌, if◌then◌else◌, Bool, true, false, List, map, codes, bytes_eq, Option, None, Some}
use Rattle.std.specs.Char.{to_ascii_lowercase}
use Rattle.std.specs.List.{ends_with}
use Rattle.fork_view.specs.declared.view.ShowAs.{ShowAs}
use Rattle.fork_view.specs.declared.view.ShowAs.TheVariants.{Text, Hex, Png, Wav}
use Rattle.fork_words.specs.declared.asked.NotAsked.{NotAsked}
use Rattle.fork_words.specs.declared.asked.NotAsked.TheVariants as not_asked
use Rattle.fork_words.specs.declared.fault.Fault.TheVariants as fault

-- the form that a word names
abbrev pub form_named : List ℕ → Option ShowAs
form_named word =
    if bytes_eq word (codes "text") then Some Text
    else if bytes_eq word (codes "hex") then Some Hex
    else if bytes_eq word (codes "png") then Some Png
    else if bytes_eq word (codes "wav") then Some Wav
    else None

-- a name ends so
abbrev pub has_ending : List ℕ → List ℕ → Bool
has_ending name ending = ends_with (λ a b. a == b) name ending

-- it ends as pictures do that aren't made
abbrev pub is_other_picture : List ℕ → Bool
is_other_picture name =
    has_ending name (codes ".gif") || (has_ending name (codes ".jpg") || (has_ending name (codes ".jpeg") || (has_ending name (codes ".bmp")
    || (has_ending name (codes ".tif") || (has_ending name (codes ".tiff") || (has_ending name (codes ".ico") || (has_ending name (codes ".icns")
    || (has_ending name (codes ".webp") || (has_ending name (codes ".svg") || (has_ending name (codes ".pict") || has_ending name (codes ".pdf")))))))))))

-- it ends as sounds do that aren't made
abbrev pub is_other_sound : List ℕ → Bool
is_other_sound name =
    has_ending name (codes ".aif") || (has_ending name (codes ".aiff")
    || (has_ending name (codes ".aifc") || (has_ending name (codes ".mp3") || has_ending name (codes ".au"))))

-- a name ends, in capital or small letters, as what isn't made
abbrev pub is_unmade : List ℕ → Bool
is_unmade name = is_other_picture (map to_ascii_lowercase name) || is_other_sound (map to_ascii_lowercase name)

-- the form that the ending of a name in small letters asks for
abbrev pub form_by_small : List ℕ → Option ShowAs
form_by_small name = if has_ending name (codes ".png") then Some Png else if has_ending name (codes ".wav") then Some Wav else None

-- the form that the ending of a name asks for
abbrev pub form_by_ending : List ℕ → Option ShowAs
form_by_ending name = form_by_small (map to_ascii_lowercase name)

-- the form of what is shown: the one that a word names, or else the one that a name's ending asks for
abbrev pub IsViewForm : Option (List ℕ) → Option (List ℕ) → Option ShowAs → Type 0
IsViewForm (Some word) output form = form ≡ form_named word
IsViewForm None (Some name) form = (form ≡ form_by_ending name) × (is_unmade name ≡ false)
IsViewForm None None form = form ≡ None

-- why an ending is refused, or the host has no memory
abbrev pub IsEndingFault : List ℕ → NotAsked → Type 0
IsEndingFault name why = (why ≡ not_asked.HostFull) ⊎ ((why ≡ not_asked.Fault fault.NoEnding) × (is_unmade name ≡ true))

-- why there is no form: the word names none, or the ending is refused
abbrev pub IsFormFault : Option (List ℕ) → Option (List ℕ) → NotAsked → Type 0
IsFormFault (Some word) output why = (why ≡ not_asked.Fault fault.NoForm) × (form_named word ≡ None)
IsFormFault None (Some name) why = IsEndingFault name why
IsFormFault None None why = ⊥
