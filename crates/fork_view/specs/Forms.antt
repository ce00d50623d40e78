-- In which forms a resource can be shown.
use Rattle.std.specs.Prelude.{ℕ, ◌||◌, if◌then◌else◌, Bool, false, List, codes, bytes_eq, Option, None, Some, is_none, option_map, Result, Ok, Err}
use Rattle.std.specs.Result.{result_ok}
use Rattle.fork_answer.specs.Answer.{wanted_row}
use Rattle.fork_bytes.specs.Rows.{Row}
use Rattle.fork_drawings.specs.declared.fault.Fault.{Fault}
use Rattle.fork_drawings.specs.declared.undrawn.Undrawn.{Undrawn}
use Rattle.fork_drawings.specs.Pictures.{Sketch, picture_of as sketch_of}
use Rattle.fork_list.specs.declared.find.Key.TheVariants.{Id}
use Rattle.fork_list.specs.Strings.{string_of, strings_of}
use Rattle.fork_list.specs.Versions.{version_of}
use Rattle.fork_pictures.specs.declared.kind.Kind.{Kind}
use Rattle.fork_pictures.specs.Image.{Image}
use Rattle.fork_pictures.specs.Kinds.{kind_of, mask_type}
use Rattle.fork_pictures.specs.Layouts.{picture_of}
use Rattle.fork_pictures.specs.Png.{png_of}

-- resources of a type that are texts
abbrev pub is_text : List ℕ → Bool
is_text kind = bytes_eq kind (codes "STR ") || (bytes_eq kind (codes "STR#") || (bytes_eq kind (codes "TEXT") || bytes_eq kind (codes "vers")))

-- resources of a type that are sounds
abbrev pub is_sound : List ℕ → Bool
is_sound kind = bytes_eq kind (codes "snd ")

-- a resource of a type that is text ends before its strings do
abbrev pub ends_early : Row → Bool
ends_early row =
    if bytes_eq row.kind (codes "STR ") then is_none (string_of row.datum)
    else if bytes_eq row.kind (codes "STR#") then is_none (strings_of row.datum)
    else if bytes_eq row.kind (codes "vers") then is_none (version_of row.datum)
    else false

-- the bytes of the resource that has the mask of an icon in colour: it has the same id
abbrev pub mask_in : List Row → Row → Option (List ℕ) → Option (List ℕ)
mask_in rows row None = None
mask_in rows row (Some kind) = option_map (λ other. other.datum) (wanted_row (record { kind = kind; key = Id row.id; nth = 0 }) rows)

-- the picture that a resource is, if its bytes are one
abbrev pub drawn_as : List Row → Row → Option Kind → Option Image
drawn_as rows row None = None
drawn_as rows row (Some kind) = result_ok (picture_of kind row.datum (mask_in rows row (mask_type kind)))

-- resources of a type that are pictures in QuickDraw's language
abbrev pub is_drawing : List ℕ → Bool
is_drawing kind = bytes_eq kind (codes "PICT")

-- such a picture as a PNG file, if it is drawn, and what of it isn't
abbrev pub sketch_file : Result Sketch Fault → Option (List ℕ)
sketch_file (Ok sketch) = Some (png_of sketch.image)
sketch_file (Err fault) = None

abbrev pub sketch_undrawn : Result Sketch Fault → Option Undrawn
sketch_undrawn (Ok sketch) = sketch.undrawn
sketch_undrawn (Err fault) = None

abbrev pub drawing_file : Row → Option (List ℕ)
drawing_file row = sketch_file (sketch_of row.datum)

-- the picture that a resource is, as a PNG file
abbrev pub picture_file : List Row → Row → Option (List ℕ)
picture_file rows row = if is_drawing row.kind then drawing_file row else option_map png_of (drawn_as rows row (kind_of row.kind))
