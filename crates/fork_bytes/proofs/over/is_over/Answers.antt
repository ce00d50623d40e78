use Rattle.std.proofs.Common.{◌≡◌, ◌↔◌, Bool, true, Result, IfOk, sym, subst}
use Rattle.mac_base.specs.declared.error.HostFull.{HostFull}
use Rattle.fork_bytes.specs.Fork.{Refuses}
use Rattle.fork_bytes.specs.Over.{IsOver}
use Rattle.fork_bytes.proofs.Limiting.{short_within, within_limits}
use Rattle.fork_bytes.proofs.over.is_over.Goals.{in-Ok, in-Err-HostFull, in-Err-EndOfFile, in-Err-BadMap}
use Rattle.fork_bytes.proofs.over.is_over.Goals as goal

pub returns : goal.returns
returns c =
    let fork = c.args.fork.now in
    let P : Result Bool HostFull → Type 0 = λ result. IfOk result (λ over. (over ≡ true) ↔ IsOver fork) in
    elim c.match-read_fork.branch [
      | in-Ok w ↦ subst P (sym w.result-is) (λ is. absurd (cc is), λ over. absurd (within_limits fork w.in-Ok.ensures.table.0 over))
      | in-Err-HostFull w ↦ subst P (sym w.result-is) tt
      | in-Err-EndOfFile w ↦ subst P (sym w.result-is) (λ is. absurd (cc is), λ over. absurd (short_within fork (subst (Refuses fork) w.in-Err-EndOfFile.field-0-is w.in-Err-EndOfFile.ensures.refuses) over))
      | in-Err-BadMap w ↦ subst P (sym w.result-is) (w.is_over_by.ensures.over, w.is_over_by.ensures.known (λ same. absurd (cc same)))
    ]
