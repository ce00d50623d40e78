-- A handle's number names one block.
use Rattle.std.proofs.Common.{◌≡◌, ℕ, true, cond, [], ◌∷◌, length, ap, sym, ◌∙◌, arith}
use Rattle.std.proofs.lemmas.List.{length-map}
use Rattle.mac_base.specs.HandleTable.{HandleTable, is_full}
use Rattle.mac_base.specs.HeadKind.{Shape}
use Rattle.mac_base.specs.Suits.{Coherent, is_handle_block, is_pointer_block}
use Rattle.mac_base.specs.ZoneMap.{ZoneMap, addresses, address_after, is_named, sizes}
use Rattle.zone_laws.proofs.GapAppend.{length-addresses_from}
use Rattle.zone_laws.proofs.SuitsNamed.{full-no_pointer, length-sizes_named}

-- a handle with a block names just one
pub named_alone : (s : Shape) (t : HandleTable) (m : ZoneMap) (x : ℕ) → Coherent s t m → is_full t x ≡ true → length (sizes (is_named x) m) ≡ 1
named_alone s t m x coherent full =
    let all = length-sizes_named x m in
    let handles : length (sizes (is_handle_block x) m) ≡ 1 = sym (length-addresses_from (address_after s []) (is_handle_block x) m) ∙ coherent.handles x ∙ ap (λ c. cond c 1 0) full in
    let pointers : length (sizes (is_pointer_block x) m) ≡ 0 =
    sym (length-addresses_from (address_after s []) (is_pointer_block x) m) ∙ sym (length-map (addresses s (is_pointer_block x) m) _) ∙ ap length (coherent.pointers x) ∙ ap (λ c. length (cond c (x ∷ []) [])) (full-no_pointer t x full) in
    omega arith
