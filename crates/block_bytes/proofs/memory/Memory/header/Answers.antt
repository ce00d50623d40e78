use Rattle.std.proofs.Common.{◌≡◌, ℕ, ◌+◌, ◌/◌, ◌%◌, List, drop, ap, sym, ◌∙◌}
use Rattle.byteorder.specs.Endian.{big_number}
use Rattle.raw_region.specs.Bytes.{part}
use Rattle.mac_base.specs.declared.block.HeadKind.TheVariants.{Bits24, Bits32}
use Rattle.block_bytes.specs.declared.header.Role.{Role}
use Rattle.block_bytes.specs.Head.{role_in, header_in}
use Rattle.block_bytes.proofs.HeadsRead.{first-at, word-at}
use Rattle.block_bytes.proofs.memory.Memory.header.Goals as goal

-- two words, and what they say together
is_header_24 : (xs : List ℕ) (at first second : ℕ) (role : Role) → first ≡ big_number 4 (part xs at 4) → second ≡ big_number 4 (part xs (at + 4) 4)
    → role ≡ role_in (first / 0x100_0000) 0 second → record { size = first % 0x100_0000; role = role; correction = first / 0x100_0000 % 16 } ≡ header_in Bits24 (drop at xs)
is_header_24 xs at first second role one two said =
    let one' = first-at xs at first one in let two' = word-at xs at 4 second two in
    (λ i. record { size = first % 0x100_0000; role = said i; correction = first / 0x100_0000 % 16 })
    ∙ (λ i. record { size = one' i % 0x100_0000; role = role_in (one' i / 0x100_0000) 0 (two' i); correction = one' i / 0x100_0000 % 16 })

-- three words, and what they say together
is_header_32 : (xs : List ℕ) (at first second third : ℕ) (role : Role) → first ≡ big_number 4 (part xs at 4) → second ≡ big_number 4 (part xs (at + 4) 4) → third ≡ big_number 4 (part xs (at + 8) 4)
    → role ≡ role_in (first / 0x100_0000) (first / 0x1_0000 % 256) third → record { size = second; role = role; correction = first % 256 } ≡ header_in Bits32 (drop at xs)
is_header_32 xs at first second third role one two three said =
    let one' = first-at xs at first one in let two' = word-at xs at 4 second two in let three' = word-at xs at 8 third three in
    (λ i. record { size = second; role = said i; correction = first % 256 })
    ∙ (λ i. record { size = two' i; role = role_in (one' i / 0x100_0000) (one' i / 0x1_0000 % 256) (three' i); correction = one' i % 256 })

pub returns-in-Bits24 : goal.returns-in-Bits24
returns-in-Bits24 c = let xs = c.args.self.now.bytes in let at = c.args.at in
    is_header_24 xs at c.word-first.result c.word.result c.read.result c.word-first.ensures c.word.ensures c.read.ensures
    ∙ ap (λ heads. header_in heads (drop at xs)) (sym c.in-Bits24.is)

pub returns-in-Bits32 : goal.returns-in-Bits32
returns-in-Bits32 c = let xs = c.args.self.now.bytes in let at = c.args.at in
    is_header_32 xs at c.word-first.result c.word-in-Bits32.result c.word-in-Bits32-2.result c.read-in-Bits32.result c.word-first.ensures c.word-in-Bits32.ensures c.word-in-Bits32-2.ensures c.read-in-Bits32.ensures
    ∙ ap (λ heads. header_in heads (drop at xs)) (sym c.in-Bits32.is)
