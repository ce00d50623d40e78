use Rattle.std.proofs.Common.{◌-◌, [], ◌∷◌, ◌++◌, length, sym, subst, arith}
use Rattle.byteorder.specs.Endian.{big_bytes}
use Rattle.raw_region.specs.State.{State}
use Rattle.block_bytes.specs.Layout.{Layout, WordAt, with_word, with_blocks}
use Rattle.raw_region.proofs.Numbers.{length-big_bytes}
use Rattle.block_bytes.specs.Reading.{layout_of}
use Rattle.block_bytes.proofs.Settled.{unlent-free}
use Rattle.block_bytes.proofs.Parts.{IsIn-from}
use Rattle.block_bytes.proofs.Recorded.{IsReadWhole, grows-noted, range-noted, written-kept}
use Rattle.block_bytes.proofs.blocks.Blocks.set_word.Goals as goal

pub set_word-requires-clause-inside : goal.set_word-requires-clause-inside
set_word-requires-clause-inside c =
    let w = subst (λ (l : Layout). WordAt l c.args.at) (sym c.self.view_is) c.requires in
    let i = IsIn-from c.self.inside c.self.invariant.layout w.before w.here w.after w.blocks in omega arith

pub set_word-requires-clause-free : goal.set_word-requires-clause-free
set_word-requires-clause-free c =
    let w = subst (λ (l : Layout). WordAt l c.args.at) (sym c.self.view_is) c.requires in
    let i = IsIn-from c.self.inside c.self.invariant.layout w.before w.here w.after w.blocks in
    unlent-free c.self.inside c.self.invariant.layout w.before (w.here ∷ []) w.after w.blocks (w.unlent, tt) (c.args.at - c.base-base.result) 4 (omega arith) (omega arith)

-- what the fields stand for then
written_then : (c : goal.After-set_word) (w : WordAt c.args.self.now c.args.at)
    → IsReadWhole (record c.self.inside { memory = c.set_word.new.self; kept = c.note.new.kept }) (with_blocks (w.before ++ with_word w.here w.offset c.args.number ∷ w.after) c.args.self.now)
written_then c = let z = c.self.inside in let at = c.args.at in let ws = big_bytes 4 c.args.number in
    subst (λ (l : Layout). (w : WordAt l at) → IsReadWhole (record z { memory = c.set_word.new.self; kept = c.note.new.kept }) (with_blocks (w.before ++ with_word w.here w.offset c.args.number ∷ w.after) l)) c.self.view_is (λ w.
    let i = IsIn-from z c.self.invariant.layout w.before w.here w.after w.blocks in let place = w.place in let long = length-big_bytes 4 c.args.number in let inside = w.inside in
    subst (λ (m : State). IsReadWhole (record z { memory = m; kept = c.note.new.kept }) (with_blocks (w.before ++ with_word w.here w.offset c.args.number ∷ w.after) (layout_of z))) (sym c.set_word.ensures)
    (written-kept z c.self.invariant c.base-base.ensures.possible w.before w.here w.after w.blocks w.offset (at - c.base-base.result) ws w.unlent (omega arith) (omega arith)
    c.note.new.kept (grows-noted (length z.memory.bytes) z.kept c.note.new.kept (at - c.base-base.result) 4 c.note.ensures (omega arith))
    (λ master i low high. range-noted z.kept c.note.new.kept (at - c.base-base.result) 4 c.note.ensures i low (omega arith))))

pub invariant_of-self : goal.invariant_of-self
invariant_of-self c = (written_then c c.requires).whole

pub returns : goal.returns
returns c = λ w. (written_then c w).view
