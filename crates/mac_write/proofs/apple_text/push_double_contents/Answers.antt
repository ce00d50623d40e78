use Rattle.std.proofs.Common.{◌++◌, ℕ, List, sym, ap, ◌∙◌}
use Rattle.mac_write.specs.Parts.{view}
use Rattle.mac_write.specs.Targets.{finder_text, known_dates}
use Rattle.mac_write.proofs.Added.{after, four_added}
use Rattle.mac_write.proofs.DoubleText.{contents_double}
use Rattle.mac_write.proofs.apple_text.push_double_contents.Goals as goal

pub returns : goal.returns
returns c =
    let file = view c.args.file.now in let a = c.args.new.now.items in
    let i1 = c.push_finder.new.new.items in let i2 = c.extend_from_slice.new.self.items in let i3 = c.extend_from_slice-2.new.self.items in
    let i4 = c.extend_from_slice-3.new.self.items in let i5 = c.push_known_dates.new.new.items in
    after a i1 i5 (finder_text file) _ c.in_ok-push_finder.ensures
    (four_added i1 i2 i3 i4 i5 file.resource_fork file.name file.comment (known_dates file)
    c.in_ok-extend_from_slice.ensures.items c.in_ok-extend_from_slice-2.ensures.items c.in_ok-extend_from_slice-3.ensures.items c.in_ok-push_known_dates.ensures)
    ∙ ap (λ (xs : List ℕ). a ++ xs) (sym (contents_double file))
