use Rattle.std.proofs.Common.{◌≡◌, ◌≤◌, ◌+◌, ℕ, get_or, length, take, ap, sym, subst, ◌∙◌, arith, List}
use Rattle.std.proofs.lemmas.List.{take_more}
use Rattle.raw_region.specs.Bytes.{written}
use Rattle.raw_region.proofs.Laws.{length-part}
use Rattle.block_bytes.specs.declared.record.Range.{Range}
use Rattle.block_bytes.proofs.Noted.{IsCopied, copied-more, within-at}
use Rattle.block_bytes.proofs.record.Changed.copy.Goals as goal

-- the range that is copied
abbrev range : List Range → ℕ → Range
range rs i = get_or rs i (record { start = 0; count = 0 })

pub bytes-requires-clause-inside : goal.bytes-requires-clause-inside
bytes-requires-clause-inside c =
    let test = c.loop-i-test.true in let end = c.min-i-end.ensures in let long : length c.args.self.now.ranges ≡ 32 = omega arith in
    within-at c.args.self.now.ranges c.args.self.now.len (length c.args.memory.now.bytes) c.loop-i.i _ c.requires.within (omega arith) (omega arith)

pub write_at-requires : goal.write_at-requires
write_at-requires c =
    let test = c.loop-i-test.true in let end = c.min-i-end.ensures in let long : length c.args.self.now.ranges ≡ 32 = omega arith in let r = range c.args.self.now.ranges c.loop-i.i in
    let fits : r.start + r.count ≤ length c.args.memory.now.bytes = within-at c.args.self.now.ranges c.args.self.now.len (length c.args.memory.now.bytes) c.loop-i.i _ c.requires.within (omega arith) (omega arith) in
    let count = ap length c.bytes.ensures ∙ length-part c.args.memory.now.bytes r.start r.count fits in let same = c.loop-i.invariant.long in let all = c.requires.long in omega arith

pub loop-i-preserved : goal.loop-i-preserved
loop-i-preserved c =
    let test = c.loop-i-test.true in let end = c.min-i-end.ensures in let long : length c.args.self.now.ranges ≡ 32 = omega arith in let rs = c.args.self.now.ranges in let r = range rs c.loop-i.i in
    let fits : r.start + r.count ≤ length c.args.memory.now.bytes = within-at rs c.args.self.now.len (length c.args.memory.now.bytes) c.loop-i.i _ c.requires.within (omega arith) (omega arith) in
    subst (λ (qs : List Range). IsCopied qs c.args.memory.now.bytes c.args.bytes.now c.write_at.new.bytes) (sym (take_more rs c.loop-i.i (record { start = 0; count = 0 }) (omega arith)))
    (copied-more (take c.loop-i.i rs) r c.args.memory.now.bytes c.args.bytes.now c.loop-i.bytes c.write_at.new.bytes c.loop-i.invariant fits c.requires.long
    (c.write_at.ensures ∙ ap (λ (ws : List ℕ). written c.loop-i.bytes r.start ws) c.bytes.ensures))
