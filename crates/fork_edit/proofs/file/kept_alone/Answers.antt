use Rattle.std.proofs.Common.{◌∙◌, ap, sym}
use Rattle.mac_files.specs.Kinds.{is_alone, kind_of}
use Rattle.mac_files.proofs.Alone.{alone_fork}
use Rattle.fork_edit.proofs.file.kept_alone.Goals as goal

pub returns-then-is_alone-clause-found : goal.returns-then-is_alone-clause-found
returns-then-is_alone-clause-found c =
    alone_fork (kind_of c.args.fork.items) c.args.fork.items c.requires
    (sym (c.is_alone.ensures ∙ ap is_alone (c.kind_of.ensures ∙ ap kind_of c.deref.ensures.value)) ∙ c.if-is_alone.true)
