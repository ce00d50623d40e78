use Rattle.std.proofs.Common.{ℕ, List, sym, ◌∙◌, subst}
use Rattle.fork_bytes.specs.Fork.{IsForkWithin, format_limits}
use Rattle.mac_files.specs.OldFiles.{fork_of}
use Rattle.fork_answer.specs.Source.{IsForkIn}
use Rattle.fork_report.proofs.Refusing.{apart, none_if, same_fork}
use Rattle.fork_report.proofs.damage.Damage.of_file.Goals as goal

pub returns-in_default-clause-none : goal.returns-in_default-clause-none
returns-in_default-clause-none c = λ other fork has. absurd (apart _ fork _ other has c.in_default.ensures.none)

pub returns-in_err-first_fault-clause-none : goal.returns-in_err-first_fault-clause-none
returns-in_err-first_fault-clause-none c =
    none_if c.from_residual.result _
    (λ other fork has.
    subst (λ (f : List ℕ). IsForkWithin format_limits f) (sym (same_fork c.args.file.now fork (fork_of c.in-Ok.found) has c.in-Ok.ensures.fork ∙ sym c.fork-fork.ensures))
    c.in_err-first_fault.ensures.none)

pub returns-clause-damage : goal.returns-clause-damage
returns-clause-damage c = (
  c.fork-fork.result.now,
  record {
    found = subst (λ (f : List ℕ). IsForkIn c.args.file.now f) (sym c.fork-fork.ensures) c.in-Ok.ensures.fork;
    is = c.in_ok-first_fault.ensures.fault;
    refuses = c.in_ok-first_fault.ensures.refuses;
    kind = c.kind.ensures ∙ c.in-Ok.ensures.kind;
    tally = c.tally_of.ensures;
  },
)
