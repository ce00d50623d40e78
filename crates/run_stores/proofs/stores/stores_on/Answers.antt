use Rattle.std.proofs.Common.{◌≡◌, ◌++◌, ◌∷◌, [], List, length, refl, sym, ap, subst, ◌∙◌, append_assoc, length-append, arith}
use Rattle.run_stores.specs.Stores.{AreOn}
use Rattle.run_stores.proofs.Opening.{AreOn-push}
use Rattle.run_stores.proofs.stores.stores_on.Goals as goal

pub loop-fork-init : goal.loop-fork-init
loop-fork-init g c =
    let given = c.into_iter-fork-iterator.ensures.into_iter_gives in
    let new = c.in_ok-stores.ensures in
    let room = new.capacity in
    let many = given.1 in
    let len = c.len.ensures in (
      refl,
      subst (AreOn g.O.Opens.plain 0 []) (sym new.items) tt,
      ap length new.items,
      given.1 ∙ c.args.forks.ok.0 ∙ ap length (sym given.0),
      omega (arith, room, many, len),
    )

pub push_reserved-requires : goal.push_reserved-requires
push_reserved-requires g c =
    let now = c.loop-fork in
    let same = now.invariant.2 in
    let room = now.invariant.4 in
    let was = now.invariant.3 in
    let short = ap length c.in-Some.ensures.steps.0 in
    let here = now.stores.ok.0 in
    omega (arith, same, room, was, short, here)

pub loop-fork-preserved : goal.loop-fork-preserved
loop-fork-preserved g c =
    let now = c.loop-fork in
    let fork = c.in-Some.fork in
    let steps = c.in-Some.ensures.steps.0 in
    let same = now.invariant.2 in
    let pushed = c.push_reserved.ensures in
    let here : c.len-number.result ≡ length now.yielded = c.len-number.ensures ∙ now.stores.ok.0 ∙ same in (
      append_assoc now.yielded (fork ∷ []) _ ∙ ap (λ (rest : List g.row.F.Denot). now.yielded ++ rest) (sym steps) ∙ now.invariant.0,
      subst (AreOn g.O.Opens.plain 0 (now.yielded ++ fork ∷ [])) (sym pushed.items)
          (AreOn-push g.O.Opens.plain 0 c.len-number.result now.yielded now.stores.items fork _ now.invariant.1 (here ∙ omega arith) c.plain.ensures),
      ap length pushed.items ∙ length-append now.stores.items _ ∙ (let two = length-append now.yielded (fork ∷ []) in omega (arith, same, two)),
      let was = now.invariant.3 in
          let gone = c.in-Some.ensures.steps.1 in
          let short = ap length steps in
          omega (arith, was, gone, short),
      let room = now.invariant.4 in
          let gone = c.in-Some.ensures.steps.1 in
          let two = length-append now.yielded (fork ∷ []) in
          let same_room = pushed.capacity in
          omega (arith, room, gone, two, same_room),
    )
