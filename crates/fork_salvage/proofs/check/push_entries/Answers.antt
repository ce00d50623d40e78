use Rattle.std.proofs.Common.{Option, ◌≡◌, ◌++◌, sym, ap, ◌∙◌}
use Rattle.std.specs.Prelude.{option_to_list}
use Rattle.fork_salvage.specs.declared.fault.Fault.{Fault}
use Rattle.fork_salvage.specs.Salvage.{told_list}
use Rattle.fork_salvage.specs.Faults.{list_fault, entry_faults}
use Rattle.fork_salvage.proofs.Checked.{entries_step}
use Rattle.fork_salvage.proofs.check.push_entries.Goals as goal

pub loop-i-preserved : goal.loop-i-preserved
loop-i-preserved c =
    let part = c.args.part in let m = c.args.map.now in let types = c.args.types in let i = c.loop-i.i in
    let same = sym c.same_type.ensures in
    let list = ap (list_fault part) (sym c.told_list.ensures.list) ∙ sym c.list_fault.ensures in
    let is : entry_faults part m types i ≡ option_to_list c.same_type.result ++ option_to_list c.list_fault.result =
    ap (λ (o : Option Fault). option_to_list o ++ option_to_list (list_fault part (told_list m types i))) same ∙ ap (λ (o : Option Fault). option_to_list c.same_type.result ++ option_to_list o) list in
    record {
      firsts = c.in_ok-earlier.ensures.noted;
      so_far = rw (c.in_ok-push_fault-2.ensures, c.in_ok-push_fault.ensures) (entries_step part m types i _ _ _ _ c.loop-i-test.true is c.loop-i.invariant.so_far);
    }
