use Rattle.std.proofs.Common.{◌≡◌, ◌+◌, ◌≤◌, ℕ, List, length, take, take_all, ap, sym, subst, ◌∙◌, arith}
use Rattle.std.specs.Prelude.{IfSome}
use denote.RawPtr.{Ptr, ◌+ₚ◌}
use Rattle.raw_region.specs.Bytes.{part, written}
use Rattle.raw_region.specs.Runs.{DifferIn}
use Rattle.raw_region.specs.State.{State}
use Rattle.raw_region.proofs.Fronts.{part-all}
use Rattle.raw_region.proofs.Laws.{length-part}
use Rattle.raw_region.proofs.Moves.{copied_back}
use Rattle.raw_region.proofs.Noted.{differ-written}
use Rattle.raw_region.proofs.region.Region.copy_between.Goals as goal

-- the bytes once the source is in its place again
bytes_now : (c : goal.After-put_in) → c.put_in.new.self.bytes ≡ written c.self.inside.cells.bytes c.args.to (part c.self.inside.cells.bytes c.args.from c.args.n)
bytes_now c =
    let xs = c.self.inside.cells.bytes in let n = c.args.n in let out = c.take_out-source.new.self in let source = c.take_out-source.result in
    let view = ap (λ (s : State). length s.bytes) c.self.view_is in let none = c.self.invariant.0 in
    let from_fits : c.args.from + n ≤ length xs = omega (arith, c.requires.from_inside, view) in let to_fits : c.args.to + n ≤ length xs = omega (arith, c.requires.to_inside, view) in
    let same : out.bytes ≡ xs = c.take_out-source.ensures.kept.0 in let is : source.bytes ≡ part xs c.args.from n = c.take_out-source.ensures.part.0 in
    let place : source.from ≡ c.args.from = c.take_out-source.ensures.part.3 ∙ omega (arith, none) in
    let long : length source.bytes ≡ n = ap length is ∙ length-part xs c.args.from n from_fits in
    let all = c.copy_from_slice.ensures.len ∙ ap length c.bytes_mut.ensures.value ∙ length-part out.bytes c.args.to n (omega (arith, to_fits, ap length same)) in
    let copied : take n c.copy_from_slice.new.self ≡ part xs c.args.from n =
    take_all n c.copy_from_slice.new.self (omega (arith, all)) ∙ c.copy_from_slice.ensures.after ∙ c.bytes.ensures ∙ ap (part source.bytes 0) (sym long) ∙ part-all source.bytes ∙ is in
    c.put_in.ensures.kept.0 ∙ (λ j. written (written (same j) c.args.to (copied j)) (place j) (is j)) ∙ copied_back xs c.args.from c.args.to n from_fits to_fits c.requires.apart

pub returns-clause-bytes : goal.returns-clause-bytes
returns-clause-bytes c = bytes_now c ∙ ap (λ (s : State). written s.bytes c.args.to (part s.bytes c.args.from c.args.n)) c.self.view_is

pub invariant_of-self : goal.invariant_of-self
invariant_of-self c =
    let old = c.self.inside.cells in let new = c.put_in.new.self in let kept = c.put_in.ensures.kept in let out = c.take_out-source.new.self in let left = c.take_out-source.ensures.kept in
    let n = c.args.n in let view = ap (λ (s : State). length s.bytes) c.self.view_is in let run = length-part old.bytes c.args.from n (omega (arith, c.requires.from_inside, view)) in
    let home : old.home ≡ new.home = sym (kept.1 ∙ left.1) in let from : old.from ≡ new.from = sym (kept.2 ∙ left.2) in
    let here : old.at ≡ new.at = old.placed ∙ (λ j. (home j).0 +ₚ from j) ∙ sym new.placed in
    let long : old.len ≡ new.len = old.counted ∙ ap length (sym left.0) ∙ sym out.counted ∙ sym kept.3 in (
      sym from ∙ c.self.invariant.0,
      subst (λ (p : Ptr × ℕ). IfSome c.self.inside.source (λ s. (s.lease.alloc ≡ s.alloc) × (s.lease.at ≡ p.0) × (s.lease.len ≡ p.1))) (λ j. (here j, long j)) c.self.invariant.1,
      subst (λ (p : List ℕ × List ℕ). DifferIn c.add.new.self p.0 p.1) (λ j. ((home j).1, sym (bytes_now c) j))
          (differ-written c.self.inside.noted c.add.new.self old.home.1 old.bytes (record { start = c.args.to; end = c.args.to + n }) c.args.to (part old.bytes c.args.from n)
          c.self.invariant.2 c.add.ensures (omega (arith, c.requires.to_inside, view)) (omega arith) (omega (arith, run))),
    )
