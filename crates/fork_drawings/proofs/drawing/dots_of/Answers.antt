use Rattle.std.proofs.Common.{◌≡◌, ℕ, ◌+◌, ◌*◌, ◌/◌, ◌%◌, ◌∙◌, ap, List, ◌++◌, take, drop, length, get_or, replicate, arith}
use Rattle.std.proofs.lemmas.List.{take_at}
use Rattle.fork_pictures.specs.declared.pixel.Pixel.{Pixel}
use Rattle.pict_bytes.specs.declared.sequence.Opcode.{Opcode}
use Rattle.pict_bytes.specs.Maps.{height, width}
use Rattle.fork_drawings.specs.Painting.{blank, drawn_once, unseen}
use Rattle.fork_drawings.proofs.Whole.{blank_each, blank_long, more_each, whole}
use Rattle.fork_drawings.proofs.drawing.dots_of.Goals as goal

pub loop-opcode-init : goal.loop-opcode-init
loop-opcode-init c =
    let frame = c.args.frame in
    let all = c.in_ok-pixels.pixels.items in
    let count : c.width.result * c.height.result ≡ width frame * height frame =
    ap (λ (n : ℕ). n * c.height.result) c.width.ensures ∙ ap (λ (n : ℕ). width frame * n) c.height.ensures in
    let is : all ≡ replicate (width frame * height frame) blank =
    c.in_ok-pixels.ensures ∙ ap (λ (n : ℕ). replicate n blank) count in
    record {
      long = blank_long (width frame * height frame) all is;
      below = tt;
      each = λ place low. blank_each c.args.bytes.now frame c.args.opcodes.now all place is low;
    }

pub loop-opcode-preserved : goal.loop-opcode-preserved
loop-opcode-preserved c =
    let bytes = c.args.bytes.now in
    let frame = c.args.frame in
    let opcodes = c.args.opcodes.now in
    let clip = c.loop-opcode.clip in
    let i = c.loop-opcode.opcode-index in
    let old = c.loop-opcode.pixels.items in
    let new = c.draw_opcode.new.pixels in
    let is = c.in_ok-draw_opcode.ensures in
    let default : Opcode = record { at = 0; code = 0; start = 0; end = 0 } in
    let value : c.deref_mut.result.now ≡ old = c.deref_mut.ensures.value in
    let before = ap (λ (dots : List Pixel). length dots) value in
    let size : length new ≡ c.loop-opcode.pixels.len = omega (arith, is.long, before, c.loop-opcode.pixels.ok.0) in
    let same : take c.loop-opcode.pixels.len (new ++ drop (length new) old) ≡ new =
    take_at new (drop (length new) old) c.loop-opcode.pixels.len size in
    record {
      long = ap (λ (dots : List Pixel). length dots) same ∙ is.long ∙ before ∙ c.loop-opcode.invariant.long;
      below = c.clip_after-clip.ensures.below;
      each =
          λ place low. more_each bytes frame opcodes i default clip c.clip_after-clip.result old _ place c.loop-opcode-test.true c.clip_after-clip.ensures.is
          (ap (λ (dots : List Pixel). get_or dots place unseen) same
          ∙ is.inside place (omega arith) low
          ∙ ap
          (λ (dots : List Pixel). drawn_once bytes clip (get_or opcodes i default) (frame.left + place % width frame) (frame.top + place / width frame) (get_or dots place unseen))
          value)
          (c.loop-opcode.invariant.each place low);
    }

pub returns : goal.returns
returns c =
    whole c.args.bytes.now c.args.frame c.args.opcodes.now c.loop-opcode.opcode-index c.loop-opcode.clip c.loop-opcode.pixels.items c.loop-opcode-test.false
    c.loop-opcode.invariant.long c.loop-opcode.invariant.each
