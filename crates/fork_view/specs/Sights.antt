-- What is shown of resources to people.
use Rattle.std.specs.Prelude.{◌≡◌, ◌≢◌, ◌⊎◌, ℕ, Bool, true, false, if◌then◌else◌, List, [], ◌∷◌, bytes_eq, Option, None, Some, Result, Ok, Err, ⊤}
use Rattle.std.specs.List.{flat_map}
use Rattle.std.specs.Option.{option_map_or}
use Rattle.fork_bytes.specs.Rows.{Row}
use Rattle.fork_list.specs.Compressed.{unpacked_length}
use Rattle.fork_answer.specs.Answer.{wanted_row}
use Rattle.fork_drawings.specs.declared.fault.Fault.{Fault as Unseen}
use Rattle.fork_drawings.specs.declared.undrawn.Undrawn.{Undrawn}
use Rattle.fork_drawings.specs.Pictures.{Sketch, picture_of as sketch_of}
use Rattle.fork_view.specs.declared.view.Chosen.TheVariants as chosen
use Rattle.fork_view.specs.declared.view.Chosen.{Chosen}
use Rattle.fork_view.specs.declared.view.NotShown.{NotShown}
use Rattle.fork_view.specs.declared.view.NotShown.TheVariants as unshown
use Rattle.fork_view.specs.declared.view.ShowAs.{ShowAs}
use Rattle.fork_view.specs.declared.view.ShowAs.TheVariants.{Text, Hex, Png, Wav}
use Rattle.fork_view.specs.declared.view.Sight.{Sight}
use Rattle.fork_view.specs.declared.view.Untold.{Untold}
use Rattle.fork_sounds.specs.declared.fault.Fault.{Fault}
use Rattle.fork_sounds.specs.Sounds.{Recording, sound_of}
use Rattle.fork_sounds.specs.Waves.{wav_of}
use Rattle.fork_view.specs.Forms.{ends_early, is_drawing, is_sound, picture_file, sketch_file, sketch_undrawn}

-- a sound as a WAV file, or why it is none
abbrev pub as_file : Result Recording Fault → Result (List ℕ) NotShown
as_file (Ok sound) = Ok (wav_of sound)
as_file (Err fault) = Err (unshown.Unheard fault)

-- the sound that a resource is, as a WAV file, or why it is none
abbrev pub wav_file_of : Row → Result (List ℕ) NotShown
wav_file_of row = if is_sound row.kind then as_file (sound_of row.datum) else Err (unshown.NoSound row.kind)

-- a picture in QuickDraw's language is shown as one, unless another form is asked for; what of it isn't drawn
abbrev pub is_sketch : Option ShowAs → Row → Bool
is_sketch None row = is_drawing row.kind
is_sketch (Some Png) row = is_drawing row.kind
is_sketch (Some other) row = false

abbrev pub lacking : Option ShowAs → Row → Option Undrawn
lacking form row = if is_sketch form row then sketch_undrawn (sketch_of row.datum) else None

-- what is shown of such a picture, with what of it isn't drawn; or why it isn't
abbrev pub ShowsDrawing : Result Sketch Unseen → Result Sight NotShown → Type 0
ShowsDrawing sketch (Ok sight) =
    (sketch_file sketch ≡ Some sight.bytes.items) × (sketch_undrawn sketch ≡ sight.undrawn) × (sight.is_binary ≡ true) × (sight.untold.items ≡ [])
ShowsDrawing sketch (Err (unshown.Undrawn fault)) = sketch ≡ Err fault
ShowsDrawing sketch (Err unshown.HostFull) = ⊤
ShowsDrawing sketch (Err other) = ⊥

-- a resource that is a picture is shown as one, unless another form is asked for; a sound where a WAV file is
abbrev pub IsShownAs : Option ShowAs → List Row → Row → Bool → List ℕ → Type 0
IsShownAs form rows row true bytes =
    (((form ≡ None) ⊎ (form ≡ Some Png)) × (picture_file rows row ≡ Some bytes)) ⊎ ((form ≡ Some Wav) × (wav_file_of row ≡ Ok bytes))
IsShownAs form rows row false bytes = (form ≢ Some Png) × (form ≢ Some Wav) × (form ≡ None → picture_file rows row ≡ None) × (is_sketch form row ≡ false)

-- why a resource can't be shown as text: it ends too early
abbrev pub why_no_text : Option ShowAs → Row → Option NotShown
why_no_text (Some Text) row = if ends_early row then Some unshown.NoText else None
why_no_text form row = None

-- why a resource can't be shown in a form, or as its type says, where it is neither a picture nor a sound: it is compressed, or its text
-- ends too early. In digits each can be shown
abbrev pub why_untold : Option ShowAs → Row → Option NotShown
why_untold (Some Hex) row = None
why_untold form row = option_map_or (λ length. Some (unshown.Compressed length)) (unpacked_length row.attributes.0 row.datum) (why_no_text form row)

-- the same among others: without a form each is shown
abbrev pub why_left_out : Option ShowAs → Row → Option NotShown
why_left_out None row = None
why_left_out (Some form) row = why_untold (Some form) row

-- the same, with its type and its id
abbrev pub untold_of : Option ShowAs → Row → List Untold
untold_of form row = option_map_or (λ why. record { kind = row.kind; id = row.id; why = why } ∷ []) (why_left_out form row) []

-- the type is the one that is asked for, if one is
abbrev pub is_of_kind : Option (List ℕ) → List ℕ → Bool
is_of_kind None own = true
is_of_kind (Some kind) own = bytes_eq kind own

-- the same, where a resource is of the type that is asked for
abbrev pub untold_in : Option (List ℕ) → Option ShowAs → Row → List Untold
untold_in kind form row = if is_of_kind kind row.kind then untold_of form row else []

-- what is shown of one resource, or why it isn't: it is compressed, or no picture, or one of which nothing is drawn, or
-- no sound, or its text ends too early
abbrev pub ShowsRow : Option ShowAs → List Row → Row → Result Sight NotShown → Type 0
ShowsRow form rows row (Ok sight) =
    IsShownAs form rows row sight.is_binary sight.bytes.items × (why_untold form row ≡ None) × (sight.untold.items ≡ []) × (sight.undrawn ≡ lacking form row)
ShowsRow form rows row (Err (unshown.NoPicture kind)) = (form ≡ Some Png) × (picture_file rows row ≡ None) × (kind ≡ row.kind) × (is_sketch form row ≡ false)
ShowsRow form rows row (Err (unshown.Undrawn fault)) = (is_sketch form row ≡ true) × (sketch_of row.datum ≡ Err fault)
ShowsRow form rows row (Err (unshown.NoSound kind)) = (form ≡ Some Wav) × (wav_file_of row ≡ Err (unshown.NoSound kind))
ShowsRow form rows row (Err (unshown.Unheard fault)) = (form ≡ Some Wav) × (wav_file_of row ≡ Err (unshown.Unheard fault))
ShowsRow form rows row (Err unshown.NoText) = why_untold form row ≡ Some unshown.NoText
ShowsRow form rows row (Err (unshown.Compressed length)) = why_untold form row ≡ Some (unshown.Compressed length)
ShowsRow form rows row (Err unshown.HostFull) = ⊤
ShowsRow form rows row (Err other) = ⊥

-- what is shown of several, which is text, with those that can't be shown so, each of them; or why nothing is
abbrev pub ShowsRows : Option (List ℕ) → Option ShowAs → List Row → Result Sight NotShown → Type 0
ShowsRows kind form rows (Ok sight) = (form ≢ Some Png) × (form ≢ Some Wav) × (sight.is_binary ≡ false) × (sight.untold.items ≡ flat_map (untold_in kind form) rows) × (sight.undrawn ≡ None)
ShowsRows kind form rows (Err unshown.ManyPictures) = form ≡ Some Png
ShowsRows kind form rows (Err unshown.ManySounds) = form ≡ Some Wav
ShowsRows kind form rows (Err unshown.HostFull) = ⊤
ShowsRows kind form rows (Err other) = ⊥

-- what is shown of the one that is asked for, if the rows have it
abbrev pub ShowsFound : Option ShowAs → List Row → Option Row → Result Sight NotShown → Type 0
ShowsFound form rows None result = result ≡ Err unshown.NotFound
ShowsFound form rows (Some row) result = ShowsRow form rows row result

abbrev pub ShowsChosen : Chosen → Option ShowAs → List Row → Result Sight NotShown → Type 0
ShowsChosen (chosen.One wanted) form rows result = ShowsFound form rows (wanted_row wanted rows) result
ShowsChosen chosen.All form rows result = ShowsRows None form rows result
ShowsChosen (chosen.Kind kind) form rows result = ShowsRows (Some kind) form rows result
