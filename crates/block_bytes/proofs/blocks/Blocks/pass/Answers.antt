use Rattle.std.proofs.Common.{◌≡◌, ◌+◌, ◌<◌, ◌≤◌, ℕ, IfNone, true, false, length, drop, refl, sym, ap, ◌∙◌, subst, arith}
use Rattle.raw_region.specs.Bytes.{part}
use Rattle.raw_region.specs.Span.{IsFree}
use Rattle.mac_base.specs.declared.block.HeadKind.{HeadKind}
use Rattle.mac_base.specs.HeadKind.{head_size, zone_header}
use Rattle.block_bytes.specs.declared.header.Header.{Header}
use Rattle.block_bytes.specs.declared.header.Role.TheVariants.{Master}
use Rattle.block_bytes.specs.Head.{head_bytes, header_in}
use Rattle.block_bytes.specs.Layout.{RawBlock, Layout, BlockAt, header_of, size_of}
use Rattle.block_bytes.specs.Structure.{AreWritten, HasOwn, OwnBetween, is_master}
use Rattle.block_bytes.proofs.Comparing.{enough-bytes, master-is}
use Rattle.block_bytes.proofs.OwnPassed.{own-one, own-start, own-there, split-block}
use Rattle.block_bytes.proofs.ReadParts.{ReadAt}
use Rattle.block_bytes.proofs.Same.{same-block}
use Rattle.block_bytes.proofs.WrittenOwn.{read-there}
use Rattle.block_bytes.proofs.blocks.Blocks.pass.Goals as goal
use Rattle.block_bytes.proofs.blocks.Blocks.pass.Goals.{After-base-base, In_ok-step, else-step-via-then-step+else-not-has_contents, else-step-via-else-step}

-- the block that is next
here : (c : After-base-base) → BlockAt c.args.self.now (c.args.self.now.base + c.args.at)
here c = let inside = c.requires.inside in let below = c.if-end-at.false in split-block c.args.self.now (c.args.self.now.base + c.args.at) c.requires.split (omega arith)

-- its header lies within the bytes
record IsWithin (c : After-base-base) : Type 0 where
  read : ReadAt c.self.inside c.args.self.now c.args.at (here c).here
  heads : c.args.heads ≡ c.self.inside.spec.heads
  memory : c.args.at + head_size c.args.heads ≤ length c.self.inside.memory.bytes
  bytes : c.args.at + head_size c.args.heads ≤ length c.args.bytes.now
  free : IsFree c.self.inside.memory.lent c.args.at (head_size c.args.heads)

within : (c : After-base-base) → IsWithin c
within c =
    let n = read-there c.self.inside c.self.invariant.layout c.base-base.ensures.possible c.args.self.now c.self.view_is c.args.at (here c) in
    let heads : c.args.heads ≡ c.self.inside.spec.heads = c.requires.heads ∙ sym (ap (λ (l : Layout). l.heads) c.self.view_is) in
    let size = ap head_size heads in let below = n.below in let headed = n.headed in let high = c.self.invariant.layout.high in let all = c.self.invariant.layout.all_bytes in
    let long = enough-bytes c.self.inside c.self.invariant.layout c.args.self.now c.self.view_is c.args.bytes.now c.requires.whole in record {
      read = n;
      heads = heads;
      memory = omega arith;
      bytes = omega arith;
      free = subst (λ (n : ℕ). IsFree c.self.inside.memory.lent c.args.at n) (sym size) n.free;
    }

pub returns-then-end-at-clause-own : goal.returns-then-end-at-clause-own
returns-then-end-at-clause-own c = own-start c.args.self.now c.args.bytes.now c.args.at c.requires.split

pub same_step-requires-clause-inside : goal.same_step-requires-clause-inside
same_step-requires-clause-inside c = (within (goal.at.same_step-requires-clause-inside c).After-base-base).memory

pub same_step-requires-clause-within : goal.same_step-requires-clause-within
same_step-requires-clause-within c = (within (goal.at.same_step-requires-clause-within c).After-base-base).bytes

pub same_step-requires-clause-free : goal.same_step-requires-clause-free
same_step-requires-clause-free c = (within (goal.at.same_step-requires-clause-free c).After-base-base).free

pub has_contents-requires-clause-block : goal.has_contents-requires-clause-block
has_contents-requires-clause-block c = here (goal.at.has_contents-requires-clause-block c).After-base-base

-- where all own bytes are in their places, the header is
header-same : (c : After-base-base) → HasOwn c.args.self.now c.args.bytes.now zone_header c.args.self.now.blocks
    → part c.self.inside.memory.bytes c.args.at (head_size c.args.heads) ≡ part c.args.bytes.now c.args.at (head_size c.args.heads)
header-same c all =
    let w = within c in let own = own-there c.args.self.now c.args.bytes.now all c.args.at (here c) in
    ap (λ (heads : HeadKind). part c.self.inside.memory.bytes c.args.at (head_size heads)) w.heads ∙ w.read.head ∙ sym own.headers.0
    ∙ ap (λ (heads : HeadKind). part c.args.bytes.now c.args.at (head_size heads)) (sym c.requires.heads)

-- a block at the place was read, and its header agrees
record IsRead (c : In_ok-step) (b : BlockAt c.args.self.now (c.args.self.now.base + c.args.at)) : Type 0 where
  size : c.in_ok-step.step.size ≡ size_of c.args.self.now.heads b.here
  is_master : c.in_ok-step.step.is_master ≡ is_master b.here.role
  head : part c.args.bytes.now c.args.at (head_size c.args.self.now.heads) ≡ head_bytes c.args.self.now.heads c.args.self.now.base (header_of c.args.self.now.heads b.here)
  some : 0 < size_of c.args.self.now.heads b.here

is-read : (c : In_ok-step) (b : BlockAt c.args.self.now (c.args.self.now.base + c.args.at)) → c.args.heads ≡ c.self.inside.spec.heads → ReadAt c.self.inside c.args.self.now c.args.at b.here → IsRead c b
is-read c b heads n =
    let header = ap (λ (heads : HeadKind). header_in heads (drop c.args.at c.self.inside.memory.bytes)) heads ∙ n.header in record {
      size = c.in_ok-step.ensures.step.0 ∙ ap (λ (h : Header). h.size) header;
      is_master = c.in_ok-step.ensures.step.1 ∙ ap (λ (h : Header). is_master h.role) header;
      head = ap (λ (heads : HeadKind). part c.args.bytes.now c.args.at (head_size heads)) (sym c.requires.heads) ∙ sym c.in_ok-step.ensures.same
          ∙ ap (λ (heads : HeadKind). part c.self.inside.memory.bytes c.args.at (head_size heads)) heads ∙ n.head;
      some = n.some;
    }

-- its own bytes are in their places where its contents are, if it is a master block
own-here : (c : In_ok-step) (b : BlockAt c.args.self.now (c.args.self.now.base + c.args.at)) → IsRead c b
    → (b.here.role ≡ Master → AreWritten c.args.bytes.now (c.args.at + head_size c.args.self.now.heads) b.here.contents)
    → OwnBetween c.args.self.now c.args.bytes.now c.args.at (c.args.at + c.in_ok-step.step.size)
own-here c b r contents =
    own-one c.args.self.now c.args.bytes.now c.args.at (c.args.at + c.in_ok-step.step.size) b (record { headers = (r.head, tt); masters = (contents, tt) }) (ap (λ n. c.args.at + n) r.size)

pub returns-in_err-step-clause-none : goal.returns-in_err-step-clause-none
returns-in_err-step-clause-none c =
    subst (λ r. IfNone r (HasOwn c.args.self.now c.args.bytes.now zone_header c.args.self.now.blocks → ⊥)) (sym c.from_residual.ensures)
    (λ all. c.in_err-step.ensures.none (header-same (goal.at.returns-in_err-step-clause-none c).After-base-base all))

pub has_contents-requires-clause-master : goal.has_contents-requires-clause-master
has_contents-requires-clause-master c b =
    let at = goal.at.has_contents-requires-clause-master c in let w = within at.After-base-base in let r = is-read at.In_ok-step (here at.After-base-base) w.heads w.read in
    let same = same-block c.args.self.now (c.args.self.now.base + c.args.at) b (here at.After-base-base) in
    ap (λ (b : RawBlock). is_master b.role) same ∙ sym r.is_master ∙ c.if-step.true

pub returns-then-not-has_contents-clause-none : goal.returns-then-not-has_contents-clause-none
returns-then-not-has_contents-clause-none c all =
    let at = goal.at.returns-then-not-has_contents-clause-none c in let w = within at.After-base-base in let r = is-read at.In_ok-step (here at.After-base-base) w.heads w.read in
    let b = here at.After-base-base in let own = own-there c.args.self.now c.args.bytes.now all c.args.at b in
    let no : false ≡ true = (c.if-not-has_contents.ensures b).1 (own.masters.0 (master-is b.here.role (sym r.is_master ∙ c.if-step.true))) in cc

pub returns-clause-own : goal.returns-clause-own
returns-clause-own c =
    let at = goal.at.returns-clause-own c in let w = within at.After-base-base in let b = here at.After-base-base in let r = is-read at.In_ok-step b w.heads w.read in
    elim c.else-step.branch [
      | else-step-via-then-step+else-not-has_contents w ↦ own-here at.In_ok-step b r (λ _. (w.if-not-has_contents.ensures b).0 refl)
      | else-step-via-else-step w ↦ own-here at.In_ok-step b r (λ is. let no : true ≡ false = sym (ap is_master is) ∙ sym r.is_master ∙ w.if-step.false in absurd (cc no))
    ]

pub returns-clause-more : goal.returns-clause-more
returns-clause-more c = λ _.
    let at = goal.at.returns-clause-more c in let w = within at.After-base-base in let r = is-read at.In_ok-step (here at.After-base-base) w.heads w.read in
    let size = r.size in let some = r.some in omega arith
