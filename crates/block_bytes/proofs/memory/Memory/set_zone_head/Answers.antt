use Rattle.std.proofs.Common.{◌≡◌, ℕ, List, ◌++◌, drop, refl, ap, sym, ◌∙◌, take-append-drop}
use Rattle.byteorder.specs.Endian.{big_bytes}
use Rattle.mac_base.specs.HeadKind.{zone_header, slot_count}
use Rattle.raw_region.specs.Bytes.{part, written}
use Rattle.raw_region.specs.State.{State, with_bytes}
use Rattle.block_bytes.specs.ZoneHead.{zeros, zone_head}
use Rattle.block_bytes.proofs.memory.Memory.set_zone_head.Goals as goal

-- the numbers are written into zeros
all_written : (end free lowest : ℕ) (rest : List ℕ)
    → written (written (written (written (zeros zone_header ++ rest) 0 (big_bytes 4 end)) 12 (big_bytes 4 free)) 20 (big_bytes 2 slot_count)) 48 (big_bytes 4 lowest) ≡ written (zeros zone_header ++ rest) 0 (zone_head end 0 free lowest)
all_written end free lowest rest = refl

pub returns : goal.returns
returns c = let s = c.self.inside.region in let end = c.args.end in let free = c.args.free in let lowest = c.args.lowest in
    let zero : part s.bytes 0 zone_header ≡ zeros zone_header = ap (λ (m : State). part m.bytes 0 zone_header) c.self.view_is ∙ c.requires.zero in
    let is : s.bytes ≡ zeros zone_header ++ drop zone_header s.bytes = sym (take-append-drop zone_header s.bytes) ∙ ap (λ (l : List ℕ). l ++ drop zone_header s.bytes) zero in
    let bytes : c.put32-3.new.self.bytes ≡ written s.bytes 0 (zone_head end 0 free lowest) =
    c.put32-3.ensures.bytes ∙ ap (λ (l : List ℕ). written l 48 (big_bytes 4 lowest)) (c.put16.ensures.bytes ∙ ap (λ (l : List ℕ). written l 20 (big_bytes 2 slot_count)) (c.put32-2.ensures.bytes ∙ ap (λ (l : List ℕ). written l 12 (big_bytes 4 free)) c.put32.ensures.bytes))
    ∙ (λ i. written (written (written (written (is i) 0 (big_bytes 4 end)) 12 (big_bytes 4 free)) 20 (big_bytes 2 slot_count)) 48 (big_bytes 4 lowest))
    ∙ all_written end free lowest (drop zone_header s.bytes) ∙ ap (λ (l : List ℕ). written l 0 (zone_head end 0 free lowest)) (sym is) in
    let name : c.put32-3.new.self.name ≡ s.name = c.put32-3.ensures.name ∙ c.put16.ensures.name ∙ c.put32-2.ensures.name ∙ c.put32.ensures.name in
    let lent : c.put32-3.new.self.lent ≡ s.lent = c.put32-3.ensures.lent ∙ c.put16.ensures.lent ∙ c.put32-2.ensures.lent ∙ c.put32.ensures.lent in
    (λ i. record { name = name i; bytes = bytes i; lent = lent i }) ∙ ap (λ (m : State). with_bytes m 0 (zone_head end 0 free lowest)) c.self.view_is
