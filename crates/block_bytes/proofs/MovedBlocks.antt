-- Blocks that have moved, and free ones that have other bytes: what stays of them.
use Rattle.std.proofs.Common.{◌≡◌, ℕ, ◌+◌, Bool, true, false, List, length, refl, sym, ◌∙◌, arith, IsTrue}
use Rattle.std.specs.Prelude.{◌&&◌, ◌||◌, ◌==◌, ◌%◌, not, nat_le, if◌then◌else◌}
use Rattle.std.proofs.lemmas.Bool.Decides.{nat_tests}
use Rattle.mac_base.specs.declared.block.HeadKind.{HeadKind}
use Rattle.mac_base.specs.HeadKind.{head_size, smallest_block}
use Rattle.block_bytes.specs.declared.header.Role.{Role}
use Rattle.block_bytes.specs.declared.header.Role.TheVariants.{Free, Fixed, Master, Relocatable}
use Rattle.block_bytes.specs.Head.{most_over}
use Rattle.block_bytes.specs.Layout.{RawBlock, IsMoved, is_free, has_owner, size_of, header_of, can_be_told, is_possible}
use Rattle.block_bytes.specs.Starts.{lent_mark, mark_in, mark_of}

-- a block is moved where it stays the same
pub moved-itself : (b : RawBlock) → IsMoved b b
moved-itself b = record { same = λ used. refl; role = refl; contents = refl; slack = refl; lent = refl }

-- a free one is moved where it has other contents
pub moved-free : (b : RawBlock) (bytes : List ℕ) → IsTrue (is_free b.role) → length bytes ≡ length b.contents → IsMoved b (record b { contents = bytes })
moved-free b bytes free long = record { same = λ used. absurd (never (is_free b.role) free used); role = refl; contents = long; slack = refl; lent = refl }
  where
    never : (t : Bool) → t ≡ true → t ≡ false → ⊥
    never t holds fails = let f : true ≡ false = sym holds ∙ fails in cc

module _ (heads : HeadKind) (b c : RawBlock) (m : IsMoved b c) where
  -- a block that has moved is as large
  pub moved-size : size_of heads c ≡ size_of heads b
  moved-size = λ i. head_size heads + (m.contents i + length (m.slack i))

  -- its header is the same
  pub moved-header : header_of heads c ≡ header_of heads b
  moved-header = λ i. record { size = moved-size i; role = m.role i; correction = length (m.slack i) }

  -- so is its mark
  pub moved-mark : mark_of heads c ≡ mark_of heads b
  moved-mark = λ i. if m.lent i then lent_mark else mark_in (moved-header i)

  -- it is possible
  pub moved-possible : IsTrue (is_possible heads b) → IsTrue (is_possible heads c)
  moved-possible possible = (λ i. (moved-size i % 4 == 0) && (nat_le (smallest_block heads) (moved-size i)
      && (nat_le (length (m.slack i)) (most_over heads) && (can_be_told heads (m.role i) (length (m.slack i)) && (not (m.lent i) || has_owner (m.role i)))))) ∙ possible

  -- as many bytes are free by it
  pub moved-free_bytes : (if is_free c.role then size_of heads c else 0) ≡ (if is_free b.role then size_of heads b else 0)
  moved-free_bytes = λ i. if is_free (m.role i) then moved-size i else 0

-- no bytes of a free block are over
pub slack-free : (heads : HeadKind) (role : Role) (n : ℕ) → IsTrue (is_free role) → IsTrue (can_be_told heads role n) → n ≡ 0
slack-free heads Free n free told = grind (arith, nat_tests)
slack-free heads Fixed n free told = let f : false ≡ true = free in cc
slack-free heads Master n free told = let f : false ≡ true = free in cc
slack-free heads (Relocatable slot flags) n free told = let f : false ≡ true = free in cc
