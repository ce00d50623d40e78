use Rattle.std.proofs.Common.{◌≡◌, ℕ, ◌+◌, ◌≤◌, List, ◌++◌, length, take, drop, sym, ap, ◌∙◌, append-nil, arith}
use Rattle.std.specs.List.{each_same}
use Rattle.std.proofs.lemmas.List.{drop_all, take_rest}
use Rattle.fork_journal.proofs.mem_pair.overwritten.Goals as goal
use Rattle.fork_journal.proofs.mem_pair.overwritten.Goals.{then-bytes-old+in_ok-extend_from_slice-2, else-bytes-old}

pub returns : goal.returns
returns c =
    let old = c.args.old.now in
    let bytes = c.args.bytes.now in
    let end = c.args.at + length bytes in
    let front : c.extend_from_slice.new.self.items ≡ take c.args.at old ++ bytes =
    c.in_ok-extend_from_slice.ensures.items ∙ ap (λ (t : List ℕ). t ++ bytes) (each_same _ _ c.in_ok-next.ensures.ok) in
    elim c.if-bytes-old.branch [
      | then-bytes-old+in_ok-extend_from_slice-2 w ↦ rw w.next-is (w.in_ok-extend_from_slice-2.ensures.items ∙ ap (λ (t : List ℕ). c.extend_from_slice.new.self.items ++ t) (take_rest old end) ∙ ap (λ (t : List ℕ). t ++ drop end old) front)
      | else-bytes-old w ↦
          let short : length old ≤ end = omega (arith, w.if-bytes-old.false) in
          rw w.next-is (front ∙ sym (append-nil (take c.args.at old ++ bytes)) ∙ ap (λ (t : List ℕ). (take c.args.at old ++ bytes) ++ t) (sym (drop_all end old short)))
    ]
