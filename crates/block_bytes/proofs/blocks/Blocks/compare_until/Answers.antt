use Rattle.std.proofs.Common.{◌≡◌, ◌+◌, ◌-◌, ◌<◌, ◌≤◌, IfNone, Option, None, Some, refl, ℕ, length, drop, sym, ap, ◌∙◌, subst, arith, inl, inr}
use Rattle.std.proofs.lemmas.Bool.{cases_lt}
use Rattle.raw_region.specs.Bytes.{part}
use Rattle.raw_region.specs.Span.{IsFree}
use Rattle.mac_base.specs.declared.block.HeadKind.{HeadKind}
use Rattle.mac_base.specs.HeadKind.{head_size}
use Rattle.block_bytes.specs.declared.header.Header.{Header}
use Rattle.block_bytes.specs.Head.{header_in}
use Rattle.block_bytes.specs.Layout.{Layout, address_after, size_of}
use Rattle.block_bytes.specs.Structure.{is_master}
use Rattle.block_bytes.proofs.Comparing.{NextAt, agree-up_to, compared-all, compared-more, compared-none, enough-bytes, next-at, same-here}
use Rattle.block_bytes.proofs.blocks.Blocks.compare_until.Goals as goal
use Rattle.block_bytes.proofs.blocks.Blocks.compare_until.Goals.{After-size, In-loop-at, In-Some}

-- the value begins where the fields say
base_is : (c : After-size) → c.args.self.now.base ≡ c.base-base.result
base_is c = ap (λ (l : Layout). l.base) (sym c.self.view_is) ∙ sym c.base-base.ensures.value

-- the block that is next
here : (c : In-loop-at) → NextAt c.self.inside c.args.self.now c.args.bytes.now c.args.from c.args.end c.loop-at.at
here c = let size = c.size.ensures.value in
    next-at c.self.inside c.self.invariant.layout c.base-base.ensures.possible c.args.self.now c.self.view_is c.args.bytes.now c.args.from c.args.end c.loop-at.at c.loop-at.invariant (omega arith)

-- it begins before the other address
low : (c : In-loop-at) → c.args.self.now.base + c.loop-at.at < c.args.end
low c = let base : c.args.self.now.base ≡ c.base-base.result = ap (λ (l : Layout). l.base) (sym c.self.view_is) ∙ sym c.base-base.ensures.value in let least = c.min-stop.ensures in let left = c.saturating_sub.ensures in let test = c.loop-at-test.true in omega arith

-- its header lies within the bytes
record IsWithin (c : In-loop-at) : Type 0 where
  heads : head_size c.heads-heads.result ≡ head_size c.self.inside.spec.heads
  memory : c.loop-at.at + head_size c.heads-heads.result ≤ length c.self.inside.memory.bytes
  bytes : c.loop-at.at + head_size c.heads-heads.result ≤ length c.args.bytes.now
  free : IsFree c.self.inside.memory.lent c.loop-at.at (head_size c.heads-heads.result)

within : (c : In-loop-at) → IsWithin c
within c =
    let n = here c in let below = n.read.below in let headed = n.read.headed in let heads = ap head_size c.heads-heads.ensures in let high = c.self.invariant.layout.high in let all = c.self.invariant.layout.all_bytes in
    let long = enough-bytes c.self.inside c.self.invariant.layout c.args.self.now c.self.view_is c.args.bytes.now c.requires.whole in record {
      heads = heads;
      memory = omega arith;
      bytes = omega arith;
      free = subst (λ (n : ℕ). IsFree c.self.inside.memory.lent c.loop-at.at n) (sym heads) n.read.free;
    }

-- it was read, and agrees
record IsRead (c : In-Some) : Type 0 where
  next : NextAt c.self.inside c.args.self.now c.args.bytes.now c.args.from c.args.end c.loop-at.at
  size : c.in-Some.step.size ≡ size_of c.args.self.now.heads next.here
  is_master : c.in-Some.step.is_master ≡ is_master next.here.role
  agrees : part c.self.inside.memory.bytes c.loop-at.at (head_size c.self.inside.spec.heads) ≡ part c.args.bytes.now c.loop-at.at (head_size c.self.inside.spec.heads)

is-read : (c : In-Some) → NextAt c.self.inside c.args.self.now c.args.bytes.now c.args.from c.args.end c.loop-at.at → IsRead c
is-read c n =
    let header = ap (λ (heads : HeadKind). header_in heads (drop c.loop-at.at c.self.inside.memory.bytes)) c.heads-heads.ensures ∙ n.read.header in record {
      next = n;
      size = c.in-Some.ensures.step.0 ∙ ap (λ (h : Header). h.size) header;
      is_master = c.in-Some.ensures.step.1 ∙ ap (λ (h : Header). is_master h.role) header;
      agrees = subst (λ (n : ℕ). part c.self.inside.memory.bytes c.loop-at.at n ≡ part c.args.bytes.now c.loop-at.at n) (ap head_size c.heads-heads.ensures) c.in-Some.ensures.same;
    }

-- what a clause says of `None` holds where it isn't `Some`
if_none : {X P : Type 0} (r : Option X) → ((x : X) → r ≡ Some x → ⊥) → IfNone r P → P
if_none None other says = says
if_none (Some x) other says = absurd (other x refl)

pub loop-at-init : goal.loop-at-init
loop-at-init c =
    let base = base_is (goal.at.loop-at-init c).After-size in
    compared-none c.args.self.now c.args.bytes.now c.args.from c.args.end (c.args.from - c.base-base.result) c.requires.split (omega arith)

pub same_step-requires-clause-inside : goal.same_step-requires-clause-inside
same_step-requires-clause-inside c = (within (goal.at.same_step-requires-clause-inside c).In-loop-at).memory

pub same_step-requires-clause-within : goal.same_step-requires-clause-within
same_step-requires-clause-within c = (within (goal.at.same_step-requires-clause-within c).In-loop-at).bytes

pub same_step-requires-clause-free : goal.same_step-requires-clause-free
same_step-requires-clause-free c = (within (goal.at.same_step-requires-clause-free c).In-loop-at).free

pub returns-in_default : goal.returns-in_default
returns-in_default c = λ s headers.
    let at = (goal.at.returns-in_default c).In-loop-at in
    let same = same-here c.self.inside c.args.self.now c.args.bytes.now c.args.from c.args.end c.loop-at.at (here at) (low at) s headers in
    if_none c.same_step.result c.in_default.not-Some c.same_step.ensures.none
    (subst (λ (n : ℕ). part c.self.inside.memory.bytes c.loop-at.at n ≡ part c.args.bytes.now c.loop-at.at n) (sym (within at).heads) same)

pub returns-then-step : goal.returns-then-step
returns-then-step c = λ s.
    let base = base_is (goal.at.returns-then-step c).After-size in
    let read = is-read (goal.at.returns-then-step c).In-Some (here (goal.at.returns-then-step c).In-loop-at) in
    agree-up_to c.self.inside c.args.self.now c.args.bytes.now c.args.from c.args.end c.loop-at.at read.next (low (goal.at.returns-then-step c).In-loop-at) s read.agrees
    (sym read.is_master ∙ c.if-step.true) (c.base-base.result + c.loop-at.at) (omega arith)

pub loop-at-smaller : goal.loop-at-smaller
loop-at-smaller c =
    let read = is-read (goal.at.loop-at-smaller c).In-Some (here (goal.at.loop-at-smaller c).In-loop-at) in
    let size = read.size in let some = read.next.read.some in let below = c.loop-at-test.true in omega arith

pub loop-at-preserved : goal.loop-at-preserved
loop-at-preserved c =
    let read = is-read (goal.at.loop-at-preserved c).In-Some (here (goal.at.loop-at-preserved c).In-loop-at) in
    let size = read.size in
    compared-more c.self.inside c.args.self.now c.args.bytes.now c.args.from c.args.end c.loop-at.at read.next (low (goal.at.loop-at-preserved c).In-loop-at) read.agrees
    (sym read.is_master ∙ c.if-step.false) (c.loop-at.at + c.in-Some.step.size) (omega arith)

pub returns : goal.returns
returns c = λ s.
    let base = base_is (goal.at.returns c).After-size in let value = c.base-base.ensures.value in let size = c.size.ensures.value in let ends = c.self.invariant.layout.ends in
    let end = ap (λ (l : Layout). address_after l l.blocks) c.self.view_is in let above = c.loop-at-test.false in
    let least = c.min-stop.ensures in let left = c.saturating_sub.ensures in
    compared-all c.args.self.now c.args.bytes.now c.args.from c.args.end c.loop-at.at c.loop-at.invariant s
    (elim (cases_lt (c.args.self.now.base + c.loop-at.at) c.args.end) [ inl low ↦ inl (omega arith) | inr high ↦ inr high ])
