use Rattle.std.proofs.Common.{◌≡◌, ◌++◌, ◌∷◌, [], List, map, length, refl, sym, ap, subst, ◌∙◌, append_assoc, length-append, arith}
use Rattle.std.proofs.lemmas.List.{length-map, map-append}
use Rattle.run_stores.specs.Stores.{ArePaired}
use Rattle.run_stores.proofs.Opening.{ArePaired-push}
use Rattle.run_stores.proofs.stores.pairs_on.Goals as goal

abbrev fork_of : {F : Type 0} → F × F → F
fork_of pair = pair.0

abbrev journal_of : {F : Type 0} → F × F → F
journal_of pair = pair.1

pub loop-pair-init : goal.loop-pair-init
loop-pair-init g c =
    let given = c.into_iter-pair-iterator.ensures.into_iter_gives in
    let new = c.in_ok-stores.ensures in
    let room = new.capacity in
    let many = given.1 in
    let len = c.len.ensures in (
      refl,
      subst (ArePaired g.O.Opens.pairs 0 [] []) (sym new.items) tt,
      ap length new.items,
      given.1 ∙ c.args.pairs.ok.0 ∙ ap length (sym given.0),
      omega (arith, room, many, len),
    )

pub push_reserved-requires : goal.push_reserved-requires
push_reserved-requires g c =
    let now = c.loop-pair in
    let same = now.invariant.2 in
    let room = now.invariant.4 in
    let was = now.invariant.3 in
    let short = ap length c.in-Some.ensures.steps.0 in
    let here = now.stores.ok.0 in
    omega (arith, same, room, was, short, here)

pub loop-pair-preserved : goal.loop-pair-preserved
loop-pair-preserved g c =
    let now = c.loop-pair in
    let pair = c.in-Some.pair in
    let steps = c.in-Some.ensures.steps.0 in
    let same = now.invariant.2 in
    let pushed = c.push_reserved.ensures in
    let here : c.len-number.result ≡ length now.yielded = c.len-number.ensures ∙ now.stores.ok.0 ∙ same in
    let stores = now.stores.items ++ c.journalled.result ∷ [] in
    let at = here ∙ sym (length-map now.yielded fork_of) in (
      append_assoc now.yielded (pair ∷ []) _ ∙ ap (λ (rest : List (g.row.F.Denot × g.row.F.Denot)). now.yielded ++ rest) (sym steps) ∙ now.invariant.0,
      subst (ArePaired g.O.Opens.pairs 0 (map fork_of (now.yielded ++ pair ∷ [])) (map journal_of (now.yielded ++ pair ∷ []))) (sym pushed.items)
          (subst (λ (forks : List g.row.F.Denot). ArePaired g.O.Opens.pairs 0 forks (map journal_of (now.yielded ++ pair ∷ [])) stores) (sym (map-append fork_of now.yielded (pair ∷ [])))
          (subst (λ (journals : List g.row.F.Denot). ArePaired g.O.Opens.pairs 0 (map fork_of now.yielded ++ pair.0 ∷ []) journals stores) (sym (map-append journal_of now.yielded (pair ∷ [])))
          (ArePaired-push g.O.Opens.pairs 0 c.len-number.result (map fork_of now.yielded) (map journal_of now.yielded) now.stores.items pair.0 pair.1 c.journalled.result now.invariant.1 (at ∙ omega arith) c.journalled.ensures))),
      ap length pushed.items ∙ length-append now.stores.items _ ∙ (let two = length-append now.yielded (pair ∷ []) in omega (arith, same, two)),
      let was = now.invariant.3 in
          let gone = c.in-Some.ensures.steps.1 in
          let short = ap length steps in
          omega (arith, was, gone, short),
      let room = now.invariant.4 in
          let gone = c.in-Some.ensures.steps.1 in
          let two = length-append now.yielded (pair ∷ []) in
          let same_room = pushed.capacity in
          omega (arith, room, gone, two, same_room),
    )
