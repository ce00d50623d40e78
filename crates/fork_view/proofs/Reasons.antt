-- Resources that can't be shown in a form.
use Rattle.std.proofs.Common.{◌≡◌, ◌⊎◌, inl, inr, ℕ, List, Bool, true, false, if◌then◌else◌, Option, None, Some, Result, Ok, Err, refl, subst, sym}
use Rattle.std.specs.Option.{option_map_or}
use Rattle.fork_bytes.specs.Rows.{Row}
use Rattle.fork_list.specs.Compressed.{unpacked_length}
use Rattle.fork_view.specs.declared.view.NotShown.{NotShown}
use Rattle.fork_view.specs.declared.view.NotShown.TheVariants as unshown
use Rattle.fork_view.specs.declared.view.ShowAs.{ShowAs}
use Rattle.fork_view.specs.declared.view.ShowAs.TheVariants.{Text, Hex, Png, Wav}
use Rattle.fork_sounds.specs.declared.fault.Fault.{Fault}
use Rattle.fork_sounds.specs.Sounds.{Recording, sound_of}
use Rattle.fork_drawings.specs.Pictures.{picture_of as sketch_of}
use Rattle.fork_view.specs.declared.view.Sight.{Sight}
use Rattle.fork_view.specs.Forms.{ends_early, is_drawing, is_sound, picture_file}
use Rattle.fork_view.specs.Sights.{IsShownAs, ShowsDrawing, ShowsRow, as_file, is_sketch, lacking, wav_file_of, why_no_text, why_untold}

-- the reason of one that isn't compressed is that a text ends too early
only_text : (form : Option ShowAs) (row : Row) (why : NotShown) → why_no_text form row ≡ Some why → why ≡ unshown.NoText
only_text None row why is = absurd cc
only_text (Some Hex) row why is = absurd cc
only_text (Some Png) row why is = absurd cc
only_text (Some Wav) row why is = absurd cc
only_text (Some Text) row why is = by (ends_early row) is
  where
    by : (early : Bool) → (if early then Some unshown.NoText else None) ≡ Some why → why ≡ unshown.NoText
    by true is = cc
    by false is = absurd cc

-- it ends too early, or is compressed
abbrev IsReason : NotShown → Type 0
IsReason why = (why ≡ unshown.NoText) ⊎ ((length : ℕ) × (why ≡ unshown.Compressed length))

by_length : (unpacked : Option ℕ) (form : Option ShowAs) (row : Row) (why : NotShown)
    → option_map_or (λ (length : ℕ). Some (unshown.Compressed length)) unpacked (why_no_text form row) ≡ Some why → IsReason why
by_length None form row why is = inl (only_text form row why is)
by_length (Some length) form row why is = let same : why ≡ unshown.Compressed length = cc in inr (length, same)

reason : (form : Option ShowAs) (row : Row) (why : NotShown) → why_untold form row ≡ Some why → IsReason why
reason None row why is = by_length (unpacked_length row.attributes.0 row.datum) None row why is
reason (Some Hex) row why is = absurd cc
reason (Some Png) row why is = by_length (unpacked_length row.attributes.0 row.datum) (Some Png) row why is
reason (Some Wav) row why is = by_length (unpacked_length row.attributes.0 row.datum) (Some Wav) row why is
reason (Some Text) row why is = by_length (unpacked_length row.attributes.0 row.datum) (Some Text) row why is

-- such a resource isn't shown
pub shows_none : (form : Option ShowAs) (rows : List Row) (row : Row) (why : NotShown) → why_untold form row ≡ Some why → ShowsRow form rows row (Err why)
shows_none form rows row why is =
    let P : NotShown → Type 0 = λ why. why_untold form row ≡ Some why → ShowsRow form rows row (Err why) in
    elim (reason form row why is) [
      | inl early ↦ subst P (sym early) (λ is. is) is
      | inr packed ↦ subst P (sym packed.1) (λ is. is) is
    ]

-- a resource is of another type than a sound, or no sound that is decoded
abbrev IsSilence : NotShown → Type 0
IsSilence why = ((kind : List ℕ) × (why ≡ unshown.NoSound kind)) ⊎ ((fault : Fault) × (why ≡ unshown.Unheard fault))

by_sound : (is : Bool) (sound : Result Recording Fault) (kind : List ℕ) (why : NotShown)
    → (if is then as_file sound else Err (unshown.NoSound kind)) ≡ Err why → IsSilence why
by_sound true (Ok sound) kind why is = absurd cc
by_sound true (Err fault) kind why is = let same : why ≡ unshown.Unheard fault = cc in inr (fault, same)
by_sound false sound kind why is = let same : why ≡ unshown.NoSound kind = cc in inl (kind, same)

-- such a resource isn't shown as a WAV file
pub shows_no_sound : (form : Option ShowAs) (rows : List Row) (row : Row) (why : NotShown) → form ≡ Some Wav → (why ≡ unshown.HostFull) ⊎ (wav_file_of row ≡ Err why)
    → ShowsRow form rows row (Err why)
shows_no_sound form rows row why asked (inl full) = let P : NotShown → Type 0 = λ why. ShowsRow form rows row (Err why) in subst P (sym full) tt
shows_no_sound form rows row why asked (inr is) =
    let P : NotShown → Type 0 = λ why. wav_file_of row ≡ Err why → ShowsRow form rows row (Err why) in
    elim (by_sound (is_sound row.kind) (sound_of row.datum) row.kind why is) [
      | inl other ↦ subst P (sym other.1) (λ is. (asked, is)) is
      | inr silent ↦ subst P (sym silent.1) (λ is. (asked, is)) is
    ]

-- a picture in QuickDraw's language is shown as one where no form is asked for, or a PNG file
is_asked : (form : Option ShowAs) (row : Row) → is_sketch form row ≡ true → ((form ≡ None) ⊎ (form ≡ Some Png)) × (is_drawing row.kind ≡ true)
is_asked None row is = (inl refl, is)
is_asked (Some Png) row is = (inr refl, is)
is_asked (Some Hex) row is = absurd cc
is_asked (Some Text) row is = absurd cc
is_asked (Some Wav) row is = absurd cc

-- such a picture is shown, with what isn't drawn
pub shows_drawing : (form : Option ShowAs) (rows : List Row) (row : Row) (result : Result Sight NotShown) → is_sketch form row ≡ true
    → why_untold form row ≡ None → ShowsDrawing (sketch_of row.datum) result → ShowsRow form rows row result
shows_drawing form rows row (Ok sight) asked whole is =
    let own = is_asked form row asked in
    let file : picture_file rows row ≡ Some sight.bytes.items = rw own.1 is.0 in
    let lacks : sight.undrawn ≡ lacking form row = rw asked (sym is.1) in
    let P : Bool → Type 0 = λ binary. IsShownAs form rows row binary sight.bytes.items in
    (subst P (sym is.2) (inl (own.0, file)), whole, is.3, lacks)
shows_drawing form rows row (Err (unshown.Undrawn fault)) asked whole is = (asked, is)
shows_drawing form rows row (Err unshown.HostFull) asked whole is = tt
shows_drawing form rows row (Err unshown.NotFound) asked whole is = absurd is
shows_drawing form rows row (Err (unshown.NoPicture kind)) asked whole is = absurd is
shows_drawing form rows row (Err unshown.NoText) asked whole is = absurd is
shows_drawing form rows row (Err (unshown.Compressed length)) asked whole is = absurd is
shows_drawing form rows row (Err (unshown.NoSound kind)) asked whole is = absurd is
shows_drawing form rows row (Err (unshown.Unheard fault)) asked whole is = absurd is
shows_drawing form rows row (Err unshown.ManyPictures) asked whole is = absurd is
shows_drawing form rows row (Err unshown.ManySounds) asked whole is = absurd is
