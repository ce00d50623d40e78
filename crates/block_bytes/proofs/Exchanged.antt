-- A zone whose bytes are exchanged for others with its structure: its index stays.
use Rattle.std.proofs.Common.{◌≡◌, ◌+◌, ◌/◌, [], ◌++◌, length, replicate, refl, sym, ap, ◌∙◌, arith, length-append, length-drop}
use Rattle.mac_base.specs.HeadKind.{zone_header}
use Rattle.mac_base.specs.ZoneSizes.{ArePossible}
use Rattle.mac_base.proofs.Reach.{end-small}
use Rattle.raw_region.specs.State.{State}
use Rattle.block_bytes.specs.declared.blocks.Blocks.TheInside.{Inside}
use Rattle.block_bytes.specs.Layout.{NothingLent, header_bytes, image_of, rendered, total_of}
use Rattle.block_bytes.specs.Reading.{IsLayout, layout_of, times}
use Rattle.block_bytes.specs.Structure.{HasStructure, shown}
use Rattle.block_bytes.proofs.Parts.{IsRead, image-read, length-header, total-ends}
use Rattle.block_bytes.proofs.Rendered.{length-rendered}
use Rattle.block_bytes.proofs.Settled.{front-fits}
use Rattle.block_bytes.proofs.Spans.{spans-none}
use Rattle.block_bytes.proofs.Structures.{alike-shown}
use Rattle.block_bytes.specs.Record.{kept_name}

-- how many bytes a zone has
pub length-all : (z : Inside) → IsLayout z → length (image_of (layout_of z)) ≡ z.spec.limit
length-all z whole = ap length (sym whole.form) ∙ whole.all_bytes

-- the fields stand for the zone with the contents that the bytes have
pub exchanged : (z : Inside) → IsLayout z → ArePossible z.spec → NothingLent (layout_of z) → (m : State) → m.lent ≡ [] → HasStructure (layout_of z) m.bytes
    → IsRead (record z { memory = m }) (record (shown (layout_of z) m.bytes) { memory = record { region = m.name; kept = kept_name z.kept } })
exchanged z whole small unlent m free same =
    let l = layout_of z in let s = shown l m.bytes in
    let ends = total-ends z whole in let high = whole.high in let all = same.all ∙ length-all z whole in
    let alike = alike-shown l.heads m.bytes zone_header l.blocks (omega arith) in
    let limit = small.small_enough in let end = small.end_low_enough in let top = end-small z.spec.heads in let bottom = small.base_high_enough in
    let a = length-append (header_bytes l) (rendered l.heads l.base l.blocks ++ l.spare) in let b = length-append (rendered l.heads l.base l.blocks) l.spare in
    let c = length-header l in let d = length-rendered l.heads l.base l.blocks in let long = length-all z whole in let cut = length-drop (zone_header + total_of l.heads l.blocks) m.bytes in
    let spare : length l.spare ≡ length s.spare = omega arith in let total = alike.total in
    image-read (record z { memory = m }) m.name l.front s.blocks s.spare refl (front-fits z whole) (omega arith) (alike.possible ∙ whole.possible) (omega arith) (omega arith) whole.high (omega arith)
    (sym same.image) (whole.marked ∙ (λ i. replicate (zone_header / 4) 0 ++ (sym alike.marks i ++ replicate (spare i / 4) 0)))
    (λ t. ap (times t) (free ∙ sym (spans-none z.spec.heads zone_header l.blocks unlent) ∙ sym (alike.spans zone_header))) (whole.loans ∙ sym alike.lent) whole.few
