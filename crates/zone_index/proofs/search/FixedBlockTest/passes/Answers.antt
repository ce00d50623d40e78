use Rattle.std.proofs.Common.{sym, ◌∙◌, ap, inl, inr}
use Rattle.mac_base.specs.BlockReport.{block_flags}
use Rattle.mac_base.specs.declared.block.Flags.{Flags}
use Rattle.mac_base.specs.Gap.{is_fixed}
use Rattle.zone_index.proofs.search.FixedBlockTest.passes.Goals as goal

pub returns-in-Free : goal.returns-in-Free
returns-in-Free c t flags = sym (ap (is_fixed t) c.in-Free.is)

pub returns-in-Master : goal.returns-in-Master
returns-in-Master c t flags = elim c.in-Master.is [
  | inl master ↦ sym (ap (is_fixed t) master)
  | inr pointer ↦ sym (ap (is_fixed t) pointer.1)
]

pub returns-in-Rel : goal.returns-in-Rel
returns-in-Rel c t flags =
    ap (λ (f : Flags). f.lock) flags ∙ ap (λ k. (block_flags t k).lock) c.in-Rel.is ∙ sym (ap (is_fixed t) c.in-Rel.is)
