use Rattle.std.proofs.Common.{None, ◌≡◌, ◌+◌, ◌-◌, ◌/◌, ℕ, List, length, replicate, ap, ◌∙◌, arith}
use Rattle.std.proofs.Math.ListN.{set}
use Rattle.std.proofs.lemmas.List.{length-replicate}
use Rattle.mac_base.specs.HeadKind.{head_size, zone_header}
use Rattle.raw_region.specs.Bytes.{part, length-written}
use Rattle.raw_region.specs.State.{State}
use Rattle.block_bytes.specs.declared.header.Role.TheVariants.{Free}
use Rattle.block_bytes.specs.NewLayout.{new_layout}
use Rattle.block_bytes.specs.Starts.{free_mark}
use Rattle.block_bytes.proofs.Parts.{IsRead}
use Rattle.block_bytes.proofs.NewZone.{sizes-small, front-zero, new-read}
use Rattle.block_bytes.proofs.blocks.Blocks.create.Goals as goal
use Rattle.block_bytes.proofs.blocks.Blocks.create.Goals.{After-set}

pub set_zone_head-requires-clause-zero : goal.set_zone_head-requires-clause-zero
set_zone_head-requires-clause-zero c =
    ap (λ (l : List ℕ). part l 0 zone_header) (c.in_ok-memory.ensures.0 ∙ ap (λ (n : ℕ). replicate n 0) c.limit.ensures.value) ∙ front-zero c.args.spec c.size.ensures.possible

pub set_header-requires-clause-inside : goal.set_header-requires-clause-inside
set_header-requires-clause-inside c =
    let long : length c.set_zone_head.new.self.bytes ≡ c.limit.result = ap (λ (s : State). length s.bytes) c.set_zone_head.ensures ∙ length-written c.in_ok-memory.memory.bytes 0 _ ∙ ap length c.in_ok-memory.ensures.0 ∙ length-replicate {A = ℕ} c.limit.result 0 in
    let small = c.size.ensures.possible.large_enough in let within = c.size.ensures.possible.within in let limit = c.limit.ensures.value in let head = (sizes-small c.args.spec.heads).0 in let heads = ap head_size c.heads-heads.ensures in omega arith

-- what the fields stand for
made : (c : After-set) → IsRead (record { spec = c.args.spec; memory = c.set_header.new.self; index = c.set.new.self; loans = 0; kept = None }) (new_layout c.set_header.new.self.name c.args.spec)
made c = new-read c.args.spec c.size.ensures.possible c.in_ok-memory.memory c.set_zone_head.new.self c.set_header.new.self c.set.new.self c.heads-heads.result c.base-2.result
    (c.base.result + c.size-2.result) (c.size.result - zone_header) (c.base-first.result + zone_header) (record { size = c.size.result - zone_header; role = Free; correction = 0 })
    c.heads-heads.ensures c.base-2.ensures.value
    (ap (λ (n : ℕ). record { size = n - zone_header; role = Free; correction = 0 }) c.size.ensures.value)
    (λ i. c.base.ensures.value i + c.size-2.ensures.value i) (ap (λ (n : ℕ). n - zone_header) c.size.ensures.value) (ap (λ (n : ℕ). n + zone_header) c.base-first.ensures.value)
    (c.in_ok-memory.ensures.0 ∙ ap (λ (n : ℕ). replicate n 0) c.limit.ensures.value) c.in_ok-memory.ensures.1 c.set_zone_head.ensures c.set_header.ensures
    (c.set.ensures ∙ ap (λ (ms : List ℕ). set ms (zone_header / 4) free_mark) (c.in_ok-index.ensures ∙ ap (λ (n : ℕ). replicate (n / 4) 0) c.limit-2.ensures.value))

pub invariant_of-result : goal.invariant_of-result
invariant_of-result c = record { layout = (made c).whole; kept = tt }

pub returns : goal.returns
returns c = (made c).view
