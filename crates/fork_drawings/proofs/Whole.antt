-- The dots of a frame, opcode by opcode.
use Rattle.std.proofs.Common.{◌≡◌, ℕ, ◌+◌, ◌*◌, ◌/◌, ◌%◌, ◌<◌, ◌≤◌, List, Option, None, length, drop, get_or, map, replicate, ap, ◌∙◌, sym, refl, arith}
use Rattle.std.specs.List.{range_with_len}
use Rattle.std.proofs.lemmas.List.{drop_all, drop_more, ext_get_or, get_or-replicate, length-replicate}
use Rattle.std.proofs.lemmas.List.FromFn.{get_or-map-range_with_len, length-map-range_with_len}
use Rattle.fork_pictures.specs.declared.pixel.Pixel.{Pixel}
use Rattle.fork_pictures.specs.Image.{pixels_of}
use Rattle.pict_bytes.specs.declared.bits.Rect.{Rect}
use Rattle.pict_bytes.specs.declared.sequence.Opcode.{Opcode}
use Rattle.pict_bytes.specs.Maps.{height, width}
use Rattle.fork_drawings.specs.Painting.{blank, clip_after, dot, drawn_by, drawn_once, unseen}

-- the next opcode
drawn_step : (bytes : List ℕ) (clip : Option ℕ) (opcodes : List Opcode) (i : ℕ) (default : Opcode) (x y : ℕ) (pixel : Pixel) → i < length opcodes
    → drawn_by bytes clip (drop i opcodes) x y pixel
    ≡ drawn_by bytes (clip_after clip (get_or opcodes i default)) (drop (i + 1) opcodes) x y (drawn_once bytes clip (get_or opcodes i default) x y pixel)
unfolding drawn_by
drawn_step bytes clip opcodes i default x y pixel below = rw (drop_more opcodes i default below) refl

-- no opcode is left
drawn_none : (bytes : List ℕ) (clip : Option ℕ) (opcodes : List Opcode) (i x y : ℕ) (pixel : Pixel) → length opcodes ≤ i
    → drawn_by bytes clip (drop i opcodes) x y pixel ≡ pixel
unfolding drawn_by
drawn_none bytes clip opcodes i x y pixel past = rw (drop_all i opcodes past) refl

-- no opcode so far
pub blank_each : (bytes : List ℕ) (frame : Rect) (opcodes : List Opcode) (pixels : List Pixel) (place : ℕ) → pixels ≡ replicate (width frame * height frame) blank
    → place < width frame * height frame
    → drawn_by bytes None (drop 0 opcodes) (frame.left + place % width frame) (frame.top + place / width frame) (get_or pixels place unseen)
    ≡ dot bytes frame opcodes (place % width frame) (place / width frame)
blank_each bytes frame opcodes pixels place is below =
    ap (λ (pixel : Pixel). drawn_by bytes None opcodes (frame.left + place % width frame) (frame.top + place / width frame) pixel)
    (ap (λ (all : List Pixel). get_or all place unseen) is ∙ get_or-replicate (width frame * height frame) place blank unseen below)

pub blank_long : (count : ℕ) (pixels : List Pixel) → pixels ≡ replicate count blank → length pixels ≡ count
blank_long count pixels is = ap (λ (all : List Pixel). length all) is ∙ length-replicate count blank

-- one more opcode
pub more_each : (bytes : List ℕ) (frame : Rect) (opcodes : List Opcode) (i : ℕ) (default : Opcode) (clip next : Option ℕ) (old new : List Pixel) (place : ℕ)
    → i < length opcodes → next ≡ clip_after clip (get_or opcodes i default)
    → get_or new place unseen
    ≡ drawn_once bytes clip (get_or opcodes i default) (frame.left + place % width frame) (frame.top + place / width frame) (get_or old place unseen)
    → drawn_by bytes clip (drop i opcodes) (frame.left + place % width frame) (frame.top + place / width frame) (get_or old place unseen)
    ≡ dot bytes frame opcodes (place % width frame) (place / width frame)
    → drawn_by bytes next (drop (i + 1) opcodes) (frame.left + place % width frame) (frame.top + place / width frame) (get_or new place unseen)
    ≡ dot bytes frame opcodes (place % width frame) (place / width frame)
more_each bytes frame opcodes i default clip next old new place below moved painted before =
    let x = frame.left + place % width frame in
    let y = frame.top + place / width frame in
    let own = get_or opcodes i default in
    ap (λ (region : Option ℕ). drawn_by bytes region (drop (i + 1) opcodes) x y (get_or new place unseen)) moved
    ∙ ap (λ (pixel : Pixel). drawn_by bytes (clip_after clip own) (drop (i + 1) opcodes) x y pixel) painted
    ∙ sym (drawn_step bytes clip opcodes i default x y (get_or old place unseen) below)
    ∙ before

-- all opcodes
pub whole : (bytes : List ℕ) (frame : Rect) (opcodes : List Opcode) (i : ℕ) (clip : Option ℕ) (pixels : List Pixel) → length opcodes ≤ i
    → length pixels ≡ width frame * height frame
    → ((place : ℕ) → place < width frame * height frame
    → drawn_by bytes clip (drop i opcodes) (frame.left + place % width frame) (frame.top + place / width frame) (get_or pixels place unseen)
    ≡ dot bytes frame opcodes (place % width frame) (place / width frame))
    → pixels ≡ pixels_of (width frame) (height frame) (dot bytes frame opcodes)
whole bytes frame opcodes i clip pixels past long each =
    let wide = width frame in
    let count = width frame * height frame in
    let own : ℕ → Pixel = λ place. dot bytes frame opcodes (place % wide) (place / wide) in
    ext_get_or unseen pixels (map own (range_with_len 0 count)) (long ∙ sym (length-map-range_with_len own 0 count))
    (λ place low.
    let below : place < count = omega arith in
    sym (drawn_none bytes clip opcodes i (frame.left + place % wide) (frame.top + place / wide) (get_or pixels place unseen) past)
    ∙ each place below
    ∙ sym (get_or-map-range_with_len own 0 count place place unseen below (omega arith)))
