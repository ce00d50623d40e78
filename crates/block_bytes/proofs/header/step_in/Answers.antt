use Rattle.std.proofs.Common.{◌≡◌, ℕ, ◌/◌, ◌%◌, Bool, List, drop, ap, ◌∙◌}
use Rattle.byteorder.specs.Endian.{big_number}
use Rattle.mac_base.specs.declared.block.HeadKind.{HeadKind}
use Rattle.mac_base.specs.declared.block.HeadKind.TheVariants.{Bits24, Bits32}
use Rattle.block_bytes.specs.Head.{header_in, role_in}
use Rattle.block_bytes.specs.Structure.{is_master}
use Rattle.block_bytes.proofs.header.step_in.Goals as goal

-- what the tag says, the header does
by_tag : (heads : HeadKind) (xs : List ℕ) (first : ℕ) (says : Bool) → first ≡ big_number 4 xs → ((flags word : ℕ) → says ≡ is_master (role_in (first / 0x100_0000) flags word)) → says ≡ is_master (header_in heads xs).role
by_tag Bits24 xs first says is tag = tag 0 (big_number 4 (drop 4 xs)) ∙ ap (λ (n : ℕ). is_master (role_in (n / 0x100_0000) 0 (big_number 4 (drop 4 xs)))) is
by_tag Bits32 xs first says is tag = tag (first / 0x1_0000 % 256) (big_number 4 (drop 8 xs)) ∙ ap (λ (n : ℕ). is_master (role_in (n / 0x100_0000) (n / 0x1_0000 % 256) (big_number 4 (drop 8 xs)))) is

pub returns-clause-is_master : goal.returns-clause-is_master
returns-clause-is_master c = by_tag c.args.heads c.args.bytes.now c.read_u32-first.result c.is_master_tag.result c.read_u32-first.ensures c.is_master_tag.ensures
