use Rattle.std.proofs.Common.{◌≡◌, ◌∙◌, ℕ, nat_eq, ap}
use Rattle.std.specs.Prelude.{not, bytes_eq, count_by}
use Rattle.fork_folder.specs.Counts.{kind_count}
use Rattle.fork_folder.specs.Names.{folded}
use Rattle.fork_folder.proofs.Clashes.{clash_by_counts}
use Rattle.fork_folder.proofs.types.Types.clashes.Goals as goal

pub returns : goal.returns
returns c rows counts =
    let kind = c.args.kind in
    let same = c.bytes-kind.ensures.same in
    let exact : c.count_of.result ≡ count_by (λ row. bytes_eq row.kind kind) rows = c.count_of.ensures ∙ ap (kind_count c.args.self.now.exact) same ∙ counts.0 kind in
    let loose : c.count_of-2.result ≡ count_by (λ row. bytes_eq (folded row.kind) (folded kind)) rows =
    c.count_of-2.ensures ∙ ap (kind_count c.args.self.now.folded) (c.folded.ensures ∙ ap folded same) ∙ counts.1 (folded kind) in
    ap (λ (n : ℕ). not (nat_eq n c.count_of-2.result)) exact
    ∙ ap (λ (n : ℕ). not (nat_eq (count_by (λ row. bytes_eq row.kind kind) rows) n)) loose ∙ clash_by_counts kind rows
