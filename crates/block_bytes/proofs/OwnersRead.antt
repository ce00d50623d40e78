-- The master pointer that a header says is read from its tag and its last word.
use Rattle.std.proofs.Common.{◌≡◌, ℕ, ◌/◌, ◌%◌, ◌≤◌, ◌<◌, Bool, true, false, List, drop, Some, None, refl, ap, sym, ◌∙◌, arith}
use Rattle.std.specs.Prelude.{◌==◌, Option, nat_lt, if◌then◌else◌}
use Rattle.std.specs.Option.{IfNone, IfSome}
use Rattle.std.proofs.lemmas.Bool.Decides.{nat_tests}
use Rattle.byteorder.specs.Endian.{big_number}
use Rattle.mac_base.specs.declared.block.Flags.{Flags}
use Rattle.mac_base.specs.declared.block.HeadKind.{HeadKind}
use Rattle.mac_base.specs.declared.block.HeadKind.TheVariants.{Bits24, Bits32}
use Rattle.block_bytes.specs.declared.header.Role.{Role}
use Rattle.block_bytes.specs.declared.header.Role.TheVariants.{Free, Fixed, Master, Relocatable}
use Rattle.block_bytes.specs.Finding.{OwnedAt}
use Rattle.block_bytes.specs.Head.{flags_in, header_in, owner_of, role_in}
use Rattle.block_bytes.specs.Layout.{Layout, BlockAt, RawBlock}
use Rattle.block_bytes.proofs.Same.{same-block}

-- a low tag says none
role-low : (tag flags word : ℕ) → tag < 128 → owner_of (role_in tag flags word) ≡ None
role-low tag flags word low = by_tests (nat_lt tag 64) (nat_lt tag 128) ((tag / 16) % 2 == 1) (grind (arith, nat_tests))
  where
    by_tests : (free other master : Bool) → other ≡ true → owner_of (if free then Free else (if other then (if master then Master else Fixed) else Relocatable word (flags_in flags))) ≡ None
    by_tests true other master is = refl
    by_tests false true true is = refl
    by_tests false true false is = refl
    by_tests false false master is = absurd (cc is)

-- and a high one says it
role-high : (tag flags word : ℕ) → 128 ≤ tag → owner_of (role_in tag flags word) ≡ Some word
role-high tag flags word high = by_tests (nat_lt tag 64) (nat_lt tag 128) (grind (arith, nat_tests)) (grind (arith, nat_tests))
  where
    by_tests : (free other : Bool) → free ≡ false → other ≡ false → owner_of (if free then Free else (if other then (if (tag / 16) % 2 == 1 then Master else Fixed) else Relocatable word (flags_in flags))) ≡ Some word
    by_tests true other is not_other = absurd (cc is)
    by_tests false true is not_other = absurd (cc not_other)
    by_tests false false is not_other = refl

-- so does the header that is at the front of bytes
pub header-low : (heads : HeadKind) (xs : List ℕ) → big_number 4 xs / 0x100_0000 < 128 → owner_of (header_in heads xs).role ≡ None
header-low Bits24 xs low = role-low (big_number 4 xs / 0x100_0000) 0 (big_number 4 (drop 4 xs)) low
header-low Bits32 xs low = role-low (big_number 4 xs / 0x100_0000) (big_number 4 xs / 0x1_0000 % 256) (big_number 4 (drop 8 xs)) low

pub header-high-24 : (xs : List ℕ) → 128 ≤ big_number 4 xs / 0x100_0000 → owner_of (header_in Bits24 xs).role ≡ Some (big_number 4 (drop 4 xs))
header-high-24 xs high = role-high (big_number 4 xs / 0x100_0000) 0 (big_number 4 (drop 4 xs)) high

pub header-high-32 : (xs : List ℕ) → 128 ≤ big_number 4 xs / 0x100_0000 → owner_of (header_in Bits32 xs).role ≡ Some (big_number 4 (drop 8 xs))
header-high-32 xs high = role-high (big_number 4 xs / 0x100_0000) (big_number 4 xs / 0x1_0000 % 256) (big_number 4 (drop 8 xs)) high

-- a role that says one is a relocatable block's
says : (r : Role) (offset : ℕ) → Some offset ≡ owner_of r → (flags : Flags) × (r ≡ Relocatable offset flags)
says Free offset is = absurd (cc is)
says Fixed offset is = absurd (cc is)
says Master offset is = absurd (cc is)
says (Relocatable slot flags) offset is = (flags, (let same : offset ≡ slot = cc is in ap (λ n. Relocatable n flags) (sym same)))

module _ (l : Layout) (at : ℕ) (b : BlockAt l at) where
  -- the one that is read of a block is that of its handle
  pub owner-there : (o : Option ℕ) → o ≡ owner_of b.here.role → IfSome o (λ offset. OwnedAt l at offset)
  owner-there None is = tt
  owner-there (Some offset) is = let said = says b.here.role offset is in record { block = b; flags = said.0; role = said.1 }

  -- where none is read it has none
  pub owner-none : (o : Option ℕ) → o ≡ owner_of b.here.role → IfNone o ((offset : ℕ) → OwnedAt l at offset → ⊥)
  owner-none None is = λ offset owned.
      let role : b.here.role ≡ Relocatable offset owned.flags = ap (λ (x : RawBlock). x.role) (same-block l at b owned.block) ∙ owned.role in
      let some : None ≡ Some offset = is ∙ ap owner_of role in absurd (cc some)
  owner-none (Some offset) is = tt
