use Rattle.std.proofs.Common.{◌≡◌, ◌+◌, ◌++◌, ℕ, List, length, refl, sym, ap, ◌∙◌}
use Rattle.mac_write.specs.Parts.{view}
use Rattle.mac_write.specs.Targets.{known_dates, place, places, said}
use Rattle.mac_write.proofs.Added.{after, four_added}
use Rattle.mac_write.proofs.DoubleText.{places_double}
use Rattle.mac_write.proofs.apple_text.push_double_places.Goals as goal

pub returns : goal.returns
returns c =
    let file = view c.args.file.now in let at = c.args.at in
    let r = length file.resource_fork in let n = length file.name in let m = length file.comment in
    let a = c.args.new.now.items in let i1 = c.push_place.new.new.items in let i2 = c.push_place-2.new.new.items in
    let i3 = c.push_place_of_some.new.new.items in let i4 = c.push_place_of_some-2.new.new.items in
    let i5 = c.push_place_of_some-3.new.new.items in
    let second_at : c.in_ok-fork.fork ≡ at + 32 = c.in_ok-fork.ensures.next in
    let third_at : c.in_ok-name.name ≡ at + 32 + r = c.in_ok-name.ensures.next ∙ ap (λ (k : ℕ). k + r) second_at in
    let fourth_at : c.in_ok-comment.comment ≡ at + 32 + r + n = c.in_ok-comment.ensures.next ∙ ap (λ (k : ℕ). k + n) third_at in
    let fifth_at : c.in_ok-dates.dates ≡ at + 32 + r + n + m = c.in_ok-dates.ensures.next ∙ ap (λ (k : ℕ). k + m) fourth_at in
    let first : i1 ≡ a ++ place 9 at 32 = c.in_ok-fork.ensures.place in
    let second : i2 ≡ i1 ++ place 2 (at + 32) r = c.in_ok-name.ensures.place ∙ ap (λ (k : ℕ). i1 ++ place 2 k r) second_at in
    let third : i3 ≡ i2 ++ places (at + 32 + r) (said 3 file.name) =
    c.in_ok-comment.ensures.place file.name refl ∙ ap (λ (k : ℕ). i2 ++ places k (said 3 file.name)) third_at in
    let fourth : i4 ≡ i3 ++ places (at + 32 + r + n) (said 4 file.comment) =
    c.in_ok-dates.ensures.place file.comment refl ∙ ap (λ (k : ℕ). i3 ++ places k (said 4 file.comment)) fourth_at in
    let fifth : i5 ≡ i4 ++ places (at + 32 + r + n + m) (said 8 (known_dates file)) =
    c.in_ok-push_place_of_some.ensures.place (known_dates file) (sym c.dates_length.ensures.length)
    ∙ ap (λ (k : ℕ). i4 ++ places k (said 8 (known_dates file))) fifth_at in
    after a i1 i5 (place 9 at 32) _ first (four_added i1 i2 i3 i4 i5 _ _ _ _ second third fourth fifth)
    ∙ ap (λ (xs : List ℕ). a ++ xs) (sym (places_double file at c.requires.known))
