use Rattle.std.proofs.Common.{◌/◌, subst, ◌≤◌, ◌<◌, drop, Some, ap, sym, ◌∙◌, arith}
use Rattle.byteorder.specs.Endian.{big_number}
use Rattle.block_bytes.specs.Head.{header_in, owner_of}
use Rattle.block_bytes.proofs.HeadsRead.{first-at, word-at}
use Rattle.block_bytes.proofs.OwnersRead.{header-high-24, header-high-32, header-low}
use Rattle.block_bytes.proofs.memory.Memory.owner.Goals as goal

pub returns-then-tag-lt128 : goal.returns-then-tag-lt128
returns-then-tag-lt128 c =
    let xs = c.args.self.now.bytes in let at = c.args.at in
    let first = first-at xs at c.word-tag.result c.word-tag.ensures in
    let tag = c.if-tag-lt128.true in
    sym (header-low c.args.heads (drop at xs) (let low : big_number 4 (drop at xs) / 0x100_0000 < 128 = subst (λ n. n / 0x100_0000 < 128) first tag in low))

pub returns-in-Bits24 : goal.returns-in-Bits24
returns-in-Bits24 c =
    let xs = c.args.self.now.bytes in let at = c.args.at in
    let first = first-at xs at c.word-tag.result c.word-tag.ensures in
    let second = word-at xs at 4 c.word.result c.word.ensures in
    let tag = c.if-tag-lt128.false in
    ap Some second ∙ sym (header-high-24 (drop at xs) (let high : 128 ≤ big_number 4 (drop at xs) / 0x100_0000 = omega arith in high))
    ∙ ap (λ heads. owner_of (header_in heads (drop at xs)).role) (sym c.in-Bits24.is)

pub returns-in-Bits32 : goal.returns-in-Bits32
returns-in-Bits32 c =
    let xs = c.args.self.now.bytes in let at = c.args.at in
    let first = first-at xs at c.word-tag.result c.word-tag.ensures in
    let third = word-at xs at 8 c.word-in-Bits32.result c.word-in-Bits32.ensures in
    let tag = c.if-tag-lt128.false in
    ap Some third ∙ sym (header-high-32 (drop at xs) (let high : 128 ≤ big_number 4 (drop at xs) / 0x100_0000 = omega arith in high))
    ∙ ap (λ heads. owner_of (header_in heads (drop at xs)).role) (sym c.in-Bits32.is)
