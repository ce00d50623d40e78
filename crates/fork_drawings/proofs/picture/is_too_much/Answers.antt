use Rattle.std.proofs.Common.{◌≡◌, ℕ, ◌+◌, ◌∙◌, ap, sym, Option, None, drop, get_or, arith}
use Rattle.pict_bytes.specs.declared.sequence.Opcode.{Opcode}
use Rattle.fork_drawings.specs.Painting.{clip_after}
use Rattle.fork_drawings.specs.Pictures.{work_of}
use Rattle.fork_drawings.proofs.Worked.{no_work, not_too_much, too_much, work_step}
use Rattle.fork_drawings.proofs.picture.is_too_much.Goals as goal

pub loop-opcode-preserved : goal.loop-opcode-preserved
loop-opcode-preserved c =
    let bytes = c.args.bytes.now in
    let frame = c.args.frame in
    let opcodes = c.args.opcodes.now in
    let clip = c.loop-opcode.clip in
    let i = c.loop-opcode.opcode-index in
    let default : Opcode = record { at = 0; code = 0; start = 0; end = 0 } in
    let left : Option ℕ → ℕ = λ region. work_of bytes frame region (drop (i + 1) opcodes) in
    let rest = left (clip_after clip (get_or opcodes i default)) in
    let step : work_of bytes frame clip (drop i opcodes) ≡ c.opcode_work-work.result + rest =
    work_step bytes frame clip opcodes i default c.loop-opcode-test.true ∙ ap (λ (n : ℕ). n + rest) (sym c.opcode_work-work.ensures.is) in
    let moved : left c.clip_after-clip.result ≡ rest = ap left c.clip_after-clip.ensures.is in
    record {
      all = omega (arith, step, moved, c.loop-opcode.invariant.all);
      low = omega arith;
      below = c.clip_after-clip.ensures.below;
    }

pub returns-then-work-gt-MOST_WORK : goal.returns-then-work-gt-MOST_WORK
returns-then-work-gt-MOST_WORK c =
    let bytes = c.args.bytes.now in
    let frame = c.args.frame in
    let opcodes = c.args.opcodes.now in
    let clip = c.loop-opcode.clip in
    let i = c.loop-opcode.opcode-index in
    let default : Opcode = record { at = 0; code = 0; start = 0; end = 0 } in
    let rest = work_of bytes frame (clip_after clip (get_or opcodes i default)) (drop (i + 1) opcodes) in
    let step : work_of bytes frame clip (drop i opcodes) ≡ c.opcode_work-work.result + rest =
    work_step bytes frame clip opcodes i default c.loop-opcode-test.true ∙ ap (λ (n : ℕ). n + rest) (sym c.opcode_work-work.ensures.is) in
    too_much (work_of bytes frame None opcodes) (omega (arith, step, c.loop-opcode.invariant.all))

pub returns : goal.returns
returns c =
    let bytes = c.args.bytes.now in
    let frame = c.args.frame in
    let opcodes = c.args.opcodes.now in
    let none = no_work bytes frame c.loop-opcode.clip opcodes c.loop-opcode.opcode-index c.loop-opcode-test.false in
    not_too_much (work_of bytes frame None opcodes) (omega (arith, none, c.loop-opcode.invariant.all))
