use Rattle.std.proofs.Common.{List, sym, ◌∙◌, ap}
use Rattle.std.specs.List.{each_same}
use Rattle.fork_journal.specs.declared.mem_pair.Call.{Call}
use Rattle.fork_journal.specs.Record.{after_calls, found}
use Rattle.fork_journal.proofs.mem_pair.MemPair.new.Goals as goal

pub invariant_of-result : goal.invariant_of-result
invariant_of-result c =
    let fork = c.in_ok-clone.field-0.items in
    let journal = c.in_ok-clone-2.field-0.items in
    let none = sym c.new.ensures.items in
    record {
      fork_is = sym (each_same c.args.fork.items fork c.in_ok-clone.ensures.cases.0) ∙ ap (λ (calls : List Call). (after_calls calls (found fork journal)).contents.fork) none;
      journal_is = sym (each_same c.args.journal.items journal c.in_ok-clone-2.ensures.cases.0) ∙ ap (λ (calls : List Call). (after_calls calls (found fork journal)).contents.journal) none;
    }
