use Rattle.std.proofs.Common.{ℕ, ◌+◌, ◌/◌, ◌∙◌, List, length, ap, arith}
use Rattle.std.proofs.lemmas.List.{length-replicate}
use Rattle.zone_index.proofs.Creating.{leaves-created}
use Rattle.zone_index.proofs.index.Index.beside.Goals as goal

pub mark_blocks-requires-clause-fixed : goal.mark_blocks-requires-clause-fixed
mark_blocks-requires-clause-fixed c = ap (λ (marks : List ℕ). length marks) c.requires.marks ∙ length-replicate (c.args.zone.shape.limit / 4 + 1) 0

pub mark_blocks-requires-clause-purgeable : goal.mark_blocks-requires-clause-purgeable
mark_blocks-requires-clause-purgeable c = ap (λ (marks : List ℕ). length marks) c.requires.purgeable ∙ length-replicate (c.args.zone.shape.limit / 4 + 1) 0

pub invariant_of-result : goal.invariant_of-result
invariant_of-result c = record {
  fixed = c.mark_blocks.ensures.fixed;
  purgeable = c.mark_blocks.ensures.purgeable;
  leaves = leaves-created c.args.zone c.args.self.leaves c.requires.leaves;
  pages = record { places = c.requires.places; known = λ p s there. absurd (c.requires.unknown p s (omega arith) there) };
  lengths = λ x n told. absurd (c.requires.lengths x n told);
}
