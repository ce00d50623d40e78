use Rattle.std.proofs.Common.{◌≡◌, ◌∙◌, sym, ap, ℕ, List, arith, length, map}
use Rattle.std.proofs.lemmas.List.{length-map}
use Rattle.script_text.specs.declared.hashing.Spelling.{Spelling}
use Rattle.script_text.specs.Names.{place_for, with_name}
use Rattle.script_text.proofs.Named.{place_for-map, with_name-map}
use Rattle.script_text.proofs.NameLaws.{stays_named, last_taken, with_name-few}
use Rattle.script_text.proofs.names.Names.add.Goals as goal

pub returns-clause-place : goal.returns-clause-place
returns-clause-place c =
    let spelled : Spelling → List ℕ = λ k. k.0.now in
    c.at-name.ensures
    ∙ c.in_ok-place.ensures.index
    ∙ sym (place_for-map spelled c.args.word.now c.self.inside.names.keys)
    ∙ ap (λ (n : List (List ℕ)). place_for n c.args.word.now) c.self.view_is

pub returns-clause-names : goal.returns-clause-names
returns-clause-names c =
    let spelled : Spelling → List ℕ = λ k. k.0.now in
    ap (λ (keys : List Spelling). map spelled keys) c.in_ok-place.ensures.keys
    ∙ with_name-map spelled c.self.inside.names.keys (record { 0 = c.args.word })
    ∙ ap (λ (names : List (List ℕ)). with_name names c.args.word.now) c.self.view_is

pub returns-in-Some-clause-names : goal.returns-in-Some-clause-names
returns-in-Some-clause-names c = stays_named c.args.self.now c.args.word.now c.in-Some.name c.in-Some.ensures

pub invariant_of-self-2 : goal.invariant_of-self-2
invariant_of-self-2 c =
    let spelled : Spelling → List ℕ = λ k. k.0.now in
    let names : map spelled c.insert_full.new.self.keys ≡ with_name (map spelled c.self.inside.names.keys) c.args.word.now =
    ap (λ (keys : List Spelling). map spelled keys) c.in_ok-place.ensures.keys ∙ with_name-map spelled c.self.inside.names.keys (record { 0 = c.args.word })
    in
    let place : c.at-name.result ≡ place_for (map spelled c.self.inside.names.keys) c.args.word.now =
    c.at-name.ensures ∙ c.in_ok-place.ensures.index ∙ sym (place_for-map spelled c.args.word.now c.self.inside.names.keys)
    in
    let few = with_name-few (map spelled c.self.inside.names.keys) c.args.word.now in
    let many = ap (λ (ns : List (List ℕ)). length ns) names in
    let was = ap (λ (ns : List (List ℕ)). length ns) c.self.view_is in
    let now = length-map c.insert_full.new.self.keys spelled in
    let room = c.requires in
    (rw names (last_taken (map spelled c.self.inside.names.keys) c.args.word c.at-name.result place), omega (arith, few, many, was, now, room))
