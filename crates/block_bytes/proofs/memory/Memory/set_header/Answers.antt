use Rattle.std.proofs.Common.{◌≡◌, ℕ, ◌+◌, ◌*◌, ◌++◌, List, length, ap, sym, ◌∙◌, arith}
use Rattle.byteorder.specs.Endian.{big_bytes}
use Rattle.mac_base.specs.declared.block.HeadKind.{HeadKind}
use Rattle.mac_base.specs.declared.block.HeadKind.TheVariants.{Bits24, Bits32}
use Rattle.raw_region.specs.State.{State, with_bytes}
use Rattle.raw_region.proofs.Laws.{written-append}
use Rattle.block_bytes.specs.Head.{flags_byte, flags_of, first_word, head_bytes}
use Rattle.block_bytes.proofs.memory.Memory.set_header.Goals as goal

-- a word after what was written
one_more : (s : State) (at : ℕ) (bytes : List ℕ) (k second : ℕ) → k ≡ at + length bytes → with_bytes (with_bytes s at bytes) k (big_bytes 4 second) ≡ with_bytes s at (bytes ++ big_bytes 4 second)
one_more s at bytes k second is = ap (λ (j : ℕ). with_bytes (with_bytes s at bytes) j (big_bytes 4 second)) is
    ∙ (λ i. record { name = s.name; bytes = written-append s.bytes at bytes (big_bytes 4 second) i; lent = s.lent })

pub returns-in-Bits24 : goal.returns-in-Bits24
returns-in-Bits24 c = let s = c.args.self.now in let at = c.args.at in let base = c.args.base in let h = c.args.header in
    let first : c.tag-tag.result * 0x100_0000 + h.size ≡ first_word Bits24 h = let t = c.tag-tag.ensures in omega arith in
    c.set_word-in-Bits24.ensures ∙ ap (λ (m : State). with_bytes m (at + 4) (big_bytes 4 c.word-word.result)) c.set_word.ensures
    ∙ one_more s at (big_bytes 4 (c.tag-tag.result * 0x100_0000 + h.size)) (at + 4) c.word-word.result (omega arith)
    ∙ (λ i. with_bytes s at (big_bytes 4 (first i) ++ big_bytes 4 (c.word-word.ensures i)))
    ∙ ap (λ (heads : HeadKind). with_bytes s at (head_bytes heads base h)) (sym c.in-Bits24.is)

pub returns-in-Bits32 : goal.returns-in-Bits32
returns-in-Bits32 c = let s = c.args.self.now in let at = c.args.at in let base = c.args.base in let h = c.args.header in
    let word = c.tag-tag-in-Bits32.result * 0x100_0000 + c.flags_byte-flags.result * 0x1_0000 + h.correction in
    let flags : c.flags_byte-flags.result ≡ flags_byte (flags_of h.role) = c.flags_byte-flags.ensures ∙ ap flags_byte c.flags.ensures in
    let first : word ≡ first_word Bits32 h = let t = c.tag-tag-in-Bits32.ensures in omega arith in
    c.set_word-in-Bits32-3.ensures ∙ ap (λ (m : State). with_bytes m (at + 8) (big_bytes 4 c.word-word.result)) (c.set_word-in-Bits32-2.ensures ∙ ap (λ (m : State). with_bytes m (at + 4) (big_bytes 4 h.size)) c.set_word-in-Bits32.ensures)
    ∙ ap (λ (m : State). with_bytes m (at + 8) (big_bytes 4 c.word-word.result)) (one_more s at (big_bytes 4 word) (at + 4) h.size (omega arith))
    ∙ one_more s at (big_bytes 4 word ++ big_bytes 4 h.size) (at + 8) c.word-word.result (omega arith)
    ∙ (λ i. with_bytes s at (big_bytes 4 (first i) ++ (big_bytes 4 h.size ++ big_bytes 4 (c.word-word.ensures i))))
    ∙ ap (λ (heads : HeadKind). with_bytes s at (head_bytes heads base h)) (sym c.in-Bits32.is)
