use Rattle.std.proofs.Common.{◌≡◌, ◌∙◌, ◌-◌, ℕ, false, not, ap, sym, arith}
use Rattle.held_files.specs.Forks.{ForksState, numbers}
use Rattle.held_files.proofs.Numbers.{first_passes, none_first}
use Rattle.res_files.specs.Standing.{most_files}
use Rattle.res_table.specs.OpenFiles.{is_open}
use Rattle.held_files.proofs.files.ForkFiles.free_number.Goals as goal

pub returns-then-not-is_open-clause-first : goal.returns-then-not-is_open-clause-first
unfolding numbers
returns-then-not-is_open-clause-first c =
    let at : ℕ = c.loop-number.number in
    let closed : is_open at c.args.self.now.files ≡ false =
    ap (λ (s : ForksState). is_open at s.files) (sym c.self.view_is) ∙ sym c.is_open.ensures ∙ c.if-not-is_open.true in
    sym (first_passes (λ k. not (is_open k c.args.self.now.files)) 1 (at - 1) most_files at (omega arith)
    (λ k low high. ap not (c.loop-number.invariant k low high)) (omega arith) (ap not closed))

pub returns-clause-first : goal.returns-clause-first
unfolding numbers
returns-clause-first c =
    sym (none_first (λ k. not (is_open k c.args.self.now.files)) 1 most_files (λ k low high. ap not (c.loop-number.invariant k low (omega arith))))
