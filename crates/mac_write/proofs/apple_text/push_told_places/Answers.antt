use Rattle.std.proofs.Common.{◌≡◌, ◌+◌, ◌++◌, ℕ, length, ap, ◌∙◌}
use Rattle.mac_write.specs.Targets.{place}
use Rattle.mac_write.proofs.Added.{four_added}
use Rattle.mac_write.proofs.apple_text.push_told_places.Goals as goal

pub returns-clause-places : goal.returns-clause-places
returns-clause-places c =
    let at = c.args.at in let name = length c.args.file.now.name.now in let comment = length c.args.file.now.comment.now in
    let a = c.push_place.new.new.items in let b = c.push_place-2.new.new.items in let d = c.push_place-3.new.new.items in
    let e = c.push_place-4.new.new.items in
    let second : b ≡ a ++ place 4 (at + name) comment =
    c.in_ok-dates.ensures.place ∙ ap (λ (n : ℕ). a ++ place 4 n comment) c.in_ok-comment.ensures.next in
    let dates : c.in_ok-dates.dates ≡ at + name + comment = c.in_ok-dates.ensures.next ∙ ap (λ (n : ℕ). n + comment) c.in_ok-comment.ensures.next in
    let third : d ≡ b ++ place 8 (at + name + comment) 16 = c.in_ok-finder.ensures.place ∙ ap (λ (n : ℕ). b ++ place 8 n 16) dates in
    let fourth : e ≡ d ++ place 9 (at + name + comment + 16) 32 =
    c.in_ok-end.ensures.place ∙ ap (λ (n : ℕ). d ++ place 9 n 32) (c.in_ok-finder.ensures.next ∙ ap (λ (n : ℕ). n + 16) dates) in
    four_added c.args.new.now.items a b d e (place 3 at name) (place 4 (at + name) comment) (place 8 (at + name + comment) 16)
    (place 9 (at + name + comment + 16) 32) c.in_ok-comment.ensures.place second third fourth
