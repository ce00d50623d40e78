use Rattle.std.proofs.Common.{◌≡◌, ◌∙◌, sym, ap, ◌++◌, ◌-◌, ◌+◌, List, ℕ, map}
use Rattle.std.specs.Prelude.{option_map}
use Rattle.std.proofs.lemmas.List.{map_push}
use Rattle.fork_list.specs.Strings.{front_text, strings_from}
use Rattle.fork_list.proofs.Counted.{string_step, no_string}
use Rattle.fork_list.proofs.strings.strings_from.Goals as goal

pub returns-in_default : goal.returns-in_default
returns-in_default c = no_string _ c.args.count c.loop-string._string c.loop-string.left.now _ c.loop-string-test.true (sym c.in_default.ensures) c.loop-string.invariant

pub loop-string-preserved : goal.loop-string-preserved
loop-string-preserved c =
    let front = c.in-Some.front in
    let i = c.loop-string._string in
    let done = c.loop-string.texts.items in
    let others = strings_from (c.args.count - (i + 1)) front.rest.now in
    let more = ap (map (λ text. text.now)) c.in_ok-push.ensures.items ∙ map_push (λ text. text.now) done front.text in
    ap (λ (all : List (List ℕ)). option_map (λ (texts : List (List ℕ)). all ++ texts) others) more
    ∙ string_step (map (λ text. text.now) done) c.args.count i c.loop-string.left.now (front_text front) c.loop-string-test.true (sym c.in-Some.ensures)
    ∙ c.loop-string.invariant
