use Rattle.std.proofs.Common.{ap, sym, ◌∙◌}
use Rattle.mac_files.specs.Kinds.{kind_text}
use Rattle.mac_salvage.specs.InSpite.{Forks}
use Rattle.fork_report.proofs.Salvaging.{told_no_data}
use Rattle.fork_report.proofs.salvaged.no_data.Goals as goal

pub returns-in-Some : goal.returns-in-Some
returns-in-Some c = told_no_data _ _ _ _ c.requires.left c.requires.none c.in-Some.ensures c.of_failure.ensures

pub returns-in-None : goal.returns-in-None
returns-in-None c = (
  c.name.ensures ∙ ap kind_text (c.kind.ensures ∙ c.requires.left.kind),
  sym c.requires.left.fault ∙ sym c.in-None.ensures,
  ap (λ (f : Forks). f.data_fork) (sym c.requires.left.forks) ∙ c.requires.none,
)
