use Rattle.std.proofs.Common.{ap, ◌∙◌, ◌-◌, sym, set}
use Rattle.held_files.specs.Forks.{ForksState, fork_in, seen_on}
use Rattle.res_update.specs.Device.{Disk}
use Rattle.res_files.proofs.Mapped.{set-mapped}
use Rattle.held_files.proofs.files.ForkFiles.put_fork.Goals as goal

pub returns : goal.returns
returns c =
    let there = ap (seen_on c.self.inside.zones) c.replace_store.ensures.replaced in (
      ap (λ (s : ForksState). s.files) there ∙ ap (λ (s : ForksState). s.files) c.self.view_is,
      ap (λ (s : ForksState). s.loads) there ∙ ap (λ (s : ForksState). s.loads) c.self.view_is,
      ap (λ (s : ForksState). s.disks) there
          ∙ sym (set-mapped fork_in c.self.inside.files.stores (c.args.number - 1) c.store_of.result)
          ∙ ap (λ (s : ForksState). set s.disks (c.args.number - 1) (fork_in c.store_of.result)) c.self.view_is
          ∙ ap (λ (fork : Disk). set c.args.self.now.disks (c.args.number - 1) fork) c.store_of.ensures,
      ap (λ (s : ForksState). s.zones) there ∙ ap (λ (s : ForksState). s.zones) c.self.view_is,
    )
