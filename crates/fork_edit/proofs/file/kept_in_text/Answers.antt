use Rattle.std.proofs.Common.{refl}
use Rattle.mac_files.proofs.Alone.{some_bytes}
use Rattle.mac_files.specs.BinHexFiles.{view}
use Rattle.fork_edit.proofs.file.kept_in_text.Goals as goal

pub returns-clause-found : goal.returns-clause-found
returns-clause-found c = rw (c.in_ok-new.ensures.known.0, c.in_ok-new.ensures.known.1, c.in_ok-new.ensures.file, some_bytes c.args.fork.now c.requires) refl

pub returns-clause-kept : goal.returns-clause-kept
returns-clause-kept c = (view c.in_ok-text.text, c.in_ok-text.ensures.file, c.in_ok-new.ensures.file)
