use Rattle.std.proofs.Common.{◌≡◌, None, drop, map}
use Rattle.std.specs.Prelude.{option_map}
use Rattle.fork_folder.specs.Unpacked.{unpacked_file}
use Rattle.fork_view.specs.Unpacking.{files_calls}
use Rattle.fork_view.proofs.Stopping.{Follows}
use Rattle.fork_view.proofs.unpack.Outer.write_all.Given as goal

-- the calls so far, with those for the files that are left, are all
abbrev pub invariant-loop-file : goal.invariant-loop-file
invariant-loop-file l = record {
  all : files_calls (option_map (λ inner. inner.name.now) l.latest) (map unpacked_file (drop l.file-index l.files)) l.log.events
      ≡ files_calls None (map unpacked_file l.files) l.initial.log.events;
  after : Follows l.log.events l.initial.log.events;
}
