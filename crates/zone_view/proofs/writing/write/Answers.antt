use Rattle.std.proofs.Common.{◌≡◌, ℕ, ◌-◌, List, [], ◌++◌, length, take, drop, sym, ap, ◌∙◌, refl, append_assoc, take-append-drop}
use Rattle.std.proofs.lemmas.List.{take_rest}
use Rattle.std.proofs.KnownBytes.{Appends-nil, Appends-trans}
use Rattle.zone_view.proofs.writing.write.Goals as goal

-- the front grows by what was taken
moves_front : (all front rest : List ℕ) (n : ℕ) → all ≡ front ++ rest → all ≡ (front ++ take n rest) ++ take (length rest - n) (drop n rest)
moves_front all front rest n is =
    is ∙ ap (λ (l : List ℕ). front ++ l) (sym (take-append-drop n rest)) ∙ sym (append_assoc front (take n rest) (drop n rest))
    ∙ ap (λ (l : List ℕ). (front ++ take n rest) ++ l) (sym (take_rest rest n))

pub loop-rest-init : goal.loop-rest-init
loop-rest-init g c = ([], Appends-nil (g.W.Write.contents c.args.output.now), refl)

pub loop-rest-preserved-in-Ok : goal.loop-rest-preserved-in-Ok
loop-rest-preserved-in-Ok g c =
    let (front, appended, split) = c.loop-rest.invariant in
    let rest = c.loop-rest.rest.now in
    let n = c.in-Ok.count in
    (front ++ take n rest, Appends-trans _ _ _ _ _ appended c.in-Ok.ensures.bytes, moves_front _ front rest n split)
