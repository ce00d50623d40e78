use Rattle.std.proofs.Common.{◌≡◌, ◌-◌, ◌/◌, ◌∷◌, ◌++◌, true, false, length, slice_index, refl, sym, ap, ◌∙◌, subst, arith}
use Rattle.raw_region.specs.Span.{Span, IsListed, without}
use Rattle.raw_region.specs.State.{State, with_bytes}
use Rattle.block_bytes.specs.Layout.{Layout, IsLoanOf, given_back, with_blocks}
use Rattle.block_bytes.proofs.ReadBlocks.{head_size-positive}
use Rattle.raw_region.proofs.Indexes.{index-written-apart}
use Rattle.block_bytes.specs.Reading.{layout_of}
use Rattle.block_bytes.proofs.Parts.{IsIn-from, length-starts}
use Rattle.block_bytes.proofs.Recorded.{IsReadWhole, contents-whole, grows-same}
use Rattle.block_bytes.proofs.WrittenOwn.{master-unlent}
use Rattle.block_bytes.proofs.Loans.{back-read, range-listed, loans-some}
use Rattle.block_bytes.proofs.blocks.Blocks.give_back.Goals as goal

pub give_back-requires-clause-listed : goal.give_back-requires-clause-listed
give_back-requires-clause-listed c = let z = c.self.inside in let w = subst (λ (l : Layout). IsLoanOf l c.args.at c.args.loan) (sym c.self.view_is) c.requires in let b = w.block in
    subst (λ (s : Span). IsListed z.memory.lent s) (sym (λ i. (w.place i, w.long i))) (range-listed z c.self.invariant.layout c.base.ensures.possible b.before b.here b.after b.blocks w.lent)

pub set-requires-clause-inside : goal.set-requires-clause-inside
set-requires-clause-inside c = let z = c.self.inside in let w = subst (λ (l : Layout). IsLoanOf l c.args.at c.args.loan) (sym c.self.view_is) c.requires in let b = w.block in
    let i = IsIn-from z c.self.invariant.layout b.before b.here b.after b.blocks in let place = b.place in let marks = length-starts z c.self.invariant.layout in let some = head_size-positive z.spec.heads in omega arith

pub overflow_sub-self : goal.overflow_sub-self
overflow_sub-self c = let z = c.self.inside in let w = subst (λ (l : Layout). IsLoanOf l c.args.at c.args.loan) (sym c.self.view_is) c.requires in let b = w.block in
    loans-some z c.self.invariant.layout c.base.ensures.possible b.before b.here b.after b.blocks w.lent

-- what the fields stand for then
back_then : (c : goal.After-self-1) (is : IsLoanOf c.args.self.now c.args.at c.args.loan)
    → IsReadWhole (record c.self.inside { memory = c.give_back.new.self; index = c.set.new.self; loans = c.self.inside.loans - 1 }) (with_blocks (is.block.before ++ given_back is.block.here c.args.loan.bytes ∷ is.block.after) c.args.self.now)
back_then c is = let z = c.self.inside in let at = c.args.at in let loan = c.args.loan in
    subst (λ (l : Layout). (is : IsLoanOf l at loan)
    → IsReadWhole (record z { memory = c.give_back.new.self; index = c.set.new.self; loans = z.loans - 1 }) (with_blocks (is.block.before ++ given_back is.block.here loan.bytes ∷ is.block.after) l)) c.self.view_is
    (λ w. let b = w.block in let place = b.place in
    let read = back-read z c.self.invariant.layout c.base.ensures.possible b.before b.here b.after b.blocks w.lent loan.bytes w.long c.give_back.new.self c.set.new.self (z.loans - 1) ((at - c.base.result) / 4)
    (c.give_back.ensures ∙ (λ i. record (with_bytes z.memory (w.place i) loan.bytes) { lent = without (w.place i, w.long i) z.memory.lent })) (omega arith) c.set.ensures refl in
    let i = IsIn-from z c.self.invariant.layout b.before b.here b.after b.blocks in let long = w.long in let there = w.place in
    contents-whole z c.self.invariant b.before b.here (given_back b.here loan.bytes) b.after b.blocks read refl w.long refl z.kept (grows-same (length z.memory.bytes) z.kept) loan.at (length loan.bytes) (omega arith) (omega arith)
    (λ master i low high. absurd (let e : true ≡ false = sym w.lent ∙ master-unlent z c.self.invariant.layout (layout_of z) refl at b master in cc))
    (λ i off. ap (λ (m : State). slice_index m.bytes i) c.give_back.ensures ∙ index-written-apart z.memory.bytes loan.at loan.bytes i off)) is

pub invariant_of-self : goal.invariant_of-self
invariant_of-self c = (back_then c c.requires).whole

pub returns : goal.returns
returns c = λ is. (back_then c is).view
