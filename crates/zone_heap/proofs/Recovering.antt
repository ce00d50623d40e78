-- Which handle's block has contents at an address, by the block whose header is before them.
use Rattle.std.proofs.Common.{◌≡◌, ℕ, ◌+◌, ◌-◌, ◌<◌, ◌≤◌, true, false, cond, [], ◌∷◌, Option, Some, None, refl, ap, sym, ◌∙◌, arith, IsTrue}
use Rattle.std.specs.Prelude.{find, ◌==◌, nat_lt}
use Rattle.std.specs.Option.{option_or}
use Rattle.std.proofs.lemmas.Bool.Decides.{nat_tests}
use Rattle.std.proofs.lemmas.Bool.{eqb-true, and_parts}
use Rattle.mac_base.specs.declared.block.Block.{Block}
use Rattle.mac_base.specs.BlockReport.{block_flags, reports_from, report_at}
use Rattle.mac_base.specs.HandleTable.{HandleTable}
use Rattle.mac_base.specs.HeadKind.{head_size}
use Rattle.mac_base.specs.Suits.{wanted_length}
use Rattle.mac_base.specs.Sound.{Sound}
use Rattle.mac_base.specs.ZoneMap.{ZoneMap, handle_of, handle_found, handle_at, address_after}
use Rattle.mac_base.specs.ZoneState.{ZoneState}
use Rattle.zone_heap.proofs.Places.{all_large, large-sizes, large-first}

-- the handle whose block a report is of
abbrev reported : Option Block → Option ℕ
reported None = None
reported (Some b) = handle_of b.entry.kind

-- a number below another is not that
other : (at a : ℕ) → a < at → (at == a) ≡ false
other at a below = grind (arith, nat_tests)

-- the same number added to two leaves a test of them
test-added : (head at x : ℕ) → (at + head == x + head) ≡ (at == x)
test-added head at x = grind (arith, nat_tests)

-- nothing has contents below the first block
found-below : (at a : ℕ) (m : ZoneMap) → a < at → handle_found at a m ≡ None
found-below at a [] below = refl
found-below at a (e ∷ es) below = (λ i. option_or (cond (other at a below i) (handle_of e.kind) None) (handle_found (at + e.size) a es)) ∙ found-below (at + e.size) a es (omega arith)

option_or-None : (o : Option ℕ) → option_or o None ≡ o
option_or-None None = refl
option_or-None (Some x) = refl

-- what has contents at an address is the block that is reported before it
found-reported : (t : HandleTable) (head x at : ℕ) (m : ZoneMap) → IsTrue (all_large m) → handle_found (at + head) (x + head) m ≡ reported (find (λ (b : Block). b.address == x) (reports_from t at m))
found-reported t head x at [] large = refl
found-reported t head x at (e ∷ es) large =
    ap (λ c. option_or (cond c (handle_of e.kind) None) (handle_found (at + head + e.size) (x + head) es)) (test-added head at x)
    ∙ (elim (at == x) as (λ c. (at == x) ≡ c → option_or (cond c (handle_of e.kind) None) (handle_found (at + head + e.size) (x + head) es)
    ≡ reported (cond c (Some (record { address = at; entry = e; length = wanted_length t e.kind; flags = block_flags t e.kind })) (find (λ (b : Block). b.address == x) (reports_from t (at + e.size) es)))) [
      | true ↦ λ is. let same = eqb-true at x is in
          ap (option_or (handle_of e.kind)) (found-below (at + head + e.size) (x + head) es (omega (arith, same, large-first e es large))) ∙ option_or-None (handle_of e.kind)
      | false ↦ λ is. ap (λ a. handle_found a (x + head) es) (regroup at head e.size) ∙ found-reported t head x (at + e.size) es (and_parts (nat_lt 0 e.size) (all_large es) large).1
    ] refl)
  where
    regroup : (a b c : ℕ) → a + b + c ≡ a + c + b
    regroup a b c = omega arith

module _ (z : ZoneState) (sound : Sound z.shape z.heap) (address head : ℕ) (is : head ≡ head_size z.shape.heads) where
  -- no contents begin below a header's size
  pub recovered-none : address < head → None ≡ handle_at z.shape address z.heap.map
  recovered-none below = sym (found-below (address_after z.shape [] + head_size z.shape.heads) address z.heap.map (omega arith))

  -- else the block is the one that is a header before
  pub recovered : head ≤ address → (found : Option Block) → found ≡ report_at z.shape z.heap (address - head) → reported found ≡ handle_at z.shape address z.heap.map
  recovered above found said =
      ap reported said
      ∙ sym (found-reported z.heap.table head (address - head) (address_after z.shape []) z.heap.map (large-sizes z.shape z.heap.map sound.suits.sizes))
      ∙ ap (λ n. handle_found (address_after z.shape [] + n) (address - head + head) z.heap.map) is
      ∙ ap (λ a. handle_at z.shape a z.heap.map) (let e : address - head + head ≡ address = omega arith in e)
