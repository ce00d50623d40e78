use Rattle.std.proofs.Common.{◌≡◌, ◌<◌, ◌≤◌, ◌+◌, ◌-◌, ◌++◌, ℕ, List, length, take, replicate, ap, ◌∙◌, arith, vec_len}
use Rattle.std.proofs.lemmas.Grind.{common_steps}
use Rattle.std.proofs.lemmas.List.{take_all}
use Rattle.script_lang.specs.Variables.{with_value}
use Rattle.script_lang.proofs.Values.{with_value-old, with_value-new}
use Rattle.script_lang.proofs.vars.Vars.assign.Goals as goal
use Rattle.script_lang.proofs.vars.Vars.assign.Goals.{then-place-len+else-prove, else-place-len}

pub returns : goal.returns
returns c =
    let old = c.self.inside.values.items in
    let place = c.place-place.result in
    let same : with_value old place c.args.value ≡ with_value c.args.self.now c.args.name c.args.value =
    ap (λ (vs : List ℕ). with_value vs place c.args.value) c.self.view_is ∙ ap (λ (n : ℕ). with_value c.args.self.now n c.args.value) c.place-place.ensures.place
    in
    elim c.if-place-len.branch [
      | then-place-len+else-prove w ↦
          let all : length old ≤ place + 1 = let t = w.if-place-len.true in omega arith in
          let more = place + 1 - vec_len c.self.inside.values in
          let sum : more + length old ≡ place + 1 = omega arith in
          let grown : w.resize-grown.new.self.items ≡ take (place + 1) old ++ replicate more 0 = grind (arith, common_steps, w.resize-grown.ensures.items, w.is_ok.ensures, w.if-prove.false) in
          rw (w.self-inside-is, grown, take_all (place + 1) old all) (with_value-new old place more c.args.value sum) ∙ same
      | else-place-len w ↦
          let within : place < length old = let t = w.if-place-len.false in omega arith in
          rw w.self-inside-is (with_value-old old place c.args.value within) ∙ same
    ]
