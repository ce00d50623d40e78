use Rattle.std.proofs.Common.{◌≡◌, ◌-◌, ◌+◌, ◌/◌, ℕ, refl, sym, ap, subst, ◌∙◌, arith}
use Rattle.std.proofs.Math.ListN.{set}
use Rattle.block_bytes.specs.Adopting.{IsHeadAt, BlocksUpTo}
use Rattle.block_bytes.proofs.AdoptedBlocks.{head-at-same, none-read, length-index, free-few, none-next, more-next}
use Rattle.block_bytes.proofs.adopting.read_blocks.Goals as goal
use Rattle.block_bytes.proofs.adopting.read_blocks.Goals.{After-mark, After-free_bytes-free, After-limit-limit}

-- the header that was read
read : (c : After-mark) → IsHeadAt c.args.spec.heads c.args.spec.base c.args.memory.now.bytes c.loop-at.at (c.args.spec.size - c.loop-at.at) c.in-Some.header
read c = head-at-same c.heads-heads.result c.args.spec.heads c.base-base.result c.args.spec.base c.args.memory.now.bytes c.loop-at.at (c.size-size.result - c.loop-at.at) (c.args.spec.size - c.loop-at.at) c.in-Some.header
    c.heads-heads.ensures c.base-base.ensures.value (ap (λ (n : ℕ). n - c.loop-at.at) c.size-size.ensures.value) c.in-Some.ensures.some

-- the blocks with that one
more : (c : After-free_bytes-free) → IsHeadAt c.args.spec.heads c.args.spec.base c.args.memory.now.bytes c.loop-at.at (c.args.spec.size - c.loop-at.at) c.in-Some.header
    → BlocksUpTo c.args.spec c.args.memory.now.bytes c.set.new.self (c.loop-at.at + c.in-Some.header.size) (c.loop-at.free + c.free_bytes-free.result)
more c p = let below = c.loop-at-test.true in let size = c.size-size.ensures.value in
    more-next c.args.spec c.size-size.ensures.possible c.args.memory.now.bytes c.requires.whole c.loop-at.index c.loop-at.at c.loop-at.free c.loop-at.invariant (omega arith) c.in-Some.header
    p c.set.new.self (c.loop-at.at + c.in-Some.header.size) (c.loop-at.free + c.free_bytes-free.result)
    (c.set.ensures ∙ ap (set c.loop-at.index (c.loop-at.at / 4)) c.mark.ensures.value) refl (ap (λ (n : ℕ). c.loop-at.free + n) c.free_bytes-free.ensures)

pub loop-at-init : goal.loop-at-init
loop-at-init c = none-read c.args.spec c.size-size.ensures.possible c.args.memory.now.bytes c.requires.whole c.args.index.now c.requires.zeros

pub loop-at-preserved : goal.loop-at-preserved
loop-at-preserved c = more (goal.at.loop-at-preserved c).After-free_bytes-free (read (goal.at.loop-at-preserved c).After-mark)

pub set-requires-clause-inside : goal.set-requires-clause-inside
set-requires-clause-inside c =
    let p = c.size-size.ensures.possible in let even = p.even_limit in let high = p.within in let size = c.size-size.ensures.value in let below = c.loop-at-test.true in
    let long = length-index c.args.spec p c.args.memory.now.bytes c.requires.whole c.loop-at.index c.loop-at.at c.loop-at.free c.loop-at.invariant in omega arith

pub overflow_add-free : goal.overflow_add-free
overflow_add-free c =
    let p = c.size-size.ensures.possible in let high = p.within in let most = p.small_enough in
    let u = more c (read (goal.at.overflow_add-free c).After-mark) in let within = u.within in
    let few = free-few c.args.spec p c.args.memory.now.bytes c.requires.whole c.set.new.self (c.loop-at.at + c.in-Some.header.size) (c.loop-at.free + c.free_bytes-free.result) u in omega arith

pub returns-in_default-clause-none : goal.returns-in_default-clause-none
returns-in_default-clause-none c = λ l zone. let below = c.loop-at-test.true in let size = c.size-size.ensures.value in
    none-next c.args.spec c.size-size.ensures.possible c.args.memory.now.bytes c.requires.whole c.loop-at.index c.loop-at.at c.loop-at.free c.loop-at.invariant (omega arith)
    (λ h p. c.in_default.ensures.none h (head-at-same c.args.spec.heads c.heads-heads.result c.args.spec.base c.base-base.result c.args.memory.now.bytes c.loop-at.at (c.args.spec.size - c.loop-at.at) (c.size-size.result - c.loop-at.at) h
    (sym c.heads-heads.ensures) (sym c.base-base.ensures.value) (ap (λ (n : ℕ). n - c.loop-at.at) (sym size)) p)) l zone

pub returns-clause-some : goal.returns-clause-some
returns-clause-some c =
    let high = c.loop-at-test.false in let size = c.size-size.ensures.value in let within = c.loop-at.invariant.within in
    let end : c.loop-at.at ≡ c.args.spec.size = omega arith in
    subst (λ (n : ℕ). BlocksUpTo c.args.spec c.args.memory.now.bytes c.loop-at.index n c.loop-at.free) end c.loop-at.invariant
