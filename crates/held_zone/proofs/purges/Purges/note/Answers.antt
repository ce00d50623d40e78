use Rattle.std.proofs.Common.{◌≡◌, ◌∙◌, [], ◌∷◌, ◌++◌, List, ℕ, ◌+◌, ◌<◌, ◌≤◌, length, min, take, ap, sym, arith}
use Rattle.held_zone.specs.Purges.{Purges, most_counted, most_noted, purged_these}
use Rattle.held_zone.specs.declared.purges.Purges.TheInside.{Inside}
use Rattle.held_zone.proofs.Noted.{noted-more, take-full, take-room}
use Rattle.held_zone.proofs.purges.Purges.note.Goals as goal
use Rattle.held_zone.proofs.purges.Purges.note.Goals.{then-len-lt-MOST_NOTED, else-len-lt-MOST_NOTED}

pub returns : goal.returns
returns c = λ hs from is. (
    let inside = c.self.inside in let h = c.args.handle in let now = c.if-len-lt-MOST_NOTED.self-inside in
    let old : Purges = record { held = inside.held; turn = inside.turn; first = inside.first.items; count = inside.count } in
    let was : old ≡ purged_these hs from = c.self.view_is ∙ is in
    let first : old.first ≡ take most_noted hs = ap (λ (p : Purges). p.first) was in
    let after : List ℕ → Purges = λ xs. record old { first = xs; count = min (old.count + 1) most_counted } in
    let counts : now.count ≡ inside.count → c.saturating_add-self-inside.result ≡ min (old.count + 1) most_counted = λ same. c.saturating_add-self-inside.ensures ∙ ap (λ n. min (n + 1) most_counted) same in
    elim c.if-len-lt-MOST_NOTED.branch [
      | then-len-lt-MOST_NOTED w ↦
          let room : length (take most_noted hs) < most_noted = omega (arith, ap length first) in
          (λ i. let s = w.self-inside-is i in record (after s.first.items) { held = s.held; turn = s.turn; count = counts (ap (λ (s : Inside). s.count) w.self-inside-is) i })
          ∙ noted-more hs h from old w.push.new.self.items was (w.push.ensures.items ∙ ap (λ n. inside.first.items ++ n ∷ []) w.number.ensures ∙ ap (λ xs. xs ++ h ∷ []) first ∙ sym (take-room most_noted h hs room))
      | else-len-lt-MOST_NOTED w ↦
          let full : most_noted ≤ length (take most_noted hs) = omega (arith, ap length first) in
          (λ i. let s = w.self-inside-is i in record (after s.first.items) { held = s.held; turn = s.turn; count = counts (ap (λ (s : Inside). s.count) w.self-inside-is) i })
          ∙ noted-more hs h from old inside.first.items was (first ∙ sym (take-full most_noted h hs full))
    ])
