use Rattle.std.proofs.Common.{◌≡◌, ◌+◌, ℕ, true, false, ap, ◌∙◌, arith}
use Rattle.block_bytes.specs.Starts.{first_marked}
use Rattle.block_bytes.proofs.AdoptedBlocks.{length-index}
use Rattle.block_bytes.proofs.AdoptedZone.{zone-read, zone-none}
use Rattle.block_bytes.proofs.adopting.is_zone.Goals as goal

pub lowest_free-lowest-requires : goal.lowest_free-lowest-requires
lowest_free-lowest-requires c =
    let p = c.base-base.ensures.possible in let even = p.even_limit in let base = c.base-base.ensures.value in let reach = c.base-base.ensures.reach in
    let long = length-index c.args.spec p c.args.memory.now.bytes c.requires.whole c.read_blocks.new.index c.args.spec.size c.in-Some.free c.in-Some.ensures.some in omega arith

pub returns-clause-yes : goal.returns-clause-yes
returns-clause-yes c = λ yes.
    zone-read c.args.spec c.base-base.ensures.possible c.args.memory.now c.requires.whole c.read_blocks.new.index c.in-Some.free c.in-Some.ensures.some (c.base-base.result + c.size.result) c.lowest_free-lowest.result
    (λ i. c.base-base.ensures.value i + c.size.ensures.value i) (c.lowest_free-lowest.ensures ∙ ap (λ (n : ℕ). first_marked n c.read_blocks.new.index) c.base-base.ensures.value)
    (c.is_zone_head.ensures.0 yes)

pub returns-clause-no : goal.returns-clause-no
returns-clause-no c = λ no.
    zone-none c.args.spec c.base-base.ensures.possible c.args.memory.now c.requires.whole c.read_blocks.new.index c.in-Some.free c.in-Some.ensures.some (c.base-base.result + c.size.result) c.lowest_free-lowest.result
    (λ i. c.base-base.ensures.value i + c.size.ensures.value i) (c.lowest_free-lowest.ensures ∙ ap (λ (n : ℕ). first_marked n c.read_blocks.new.index) c.base-base.ensures.value)
    (λ head. let yes : c.is_zone_head.result ≡ true = c.is_zone_head.ensures.1 head in let none : c.is_zone_head.result ≡ false = no in cc)
