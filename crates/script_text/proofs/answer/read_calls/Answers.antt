use Rattle.std.proofs.Common.{[], ◌∷◌, ◌++◌, get_or, List, map, subst}
use Rattle.std.proofs.lemmas.List.{length-map}
use Rattle.script_text.specs.declared.token.Token.{Token as Read}
use Rattle.script_text.specs.declared.token.Token.TheVariants.{Equals}
use Rattle.script_text.specs.Front.{view}
use Rattle.script_text.specs.Tokens.{Token}
use Rattle.script_text.proofs.AnswerLaws.{Calling, calling_none, calling_more, calling_fails, calling_halts, calling_ends, next_tokens}
use Rattle.script_text.proofs.Lists.{two_and_rest}
use Rattle.script_text.proofs.answer.read_calls.Goals as goal

pub returns-in_default-written_call : goal.returns-in_default-written_call
returns-in_default-written_call c =
    let whole = two_and_rest c.loop-rest.rest.now _ _ c.in-len2-up.len_at_least in
    let before = subst (λ (t : List Read). Calling c.args.names.now (map view c.args.tokens.now) (map view t) c.loop-rest.calls.items) whole c.loop-rest.invariant in
    calling_fails _ _ _ _ _ _ before (rw c.in_default-written_call.is at c.written_call.ensures)

pub returns-then-not-may_follow : goal.returns-then-not-may_follow
returns-then-not-may_follow c =
    let whole = two_and_rest c.loop-rest.rest.now _ _ c.in-len2-up.len_at_least in
    let before = subst (λ (t : List Read). Calling c.args.names.now (map view c.args.tokens.now) (map view t) c.loop-rest.calls.items) whole c.loop-rest.invariant in
    calling_halts _ _ _ (view (get_or c.loop-rest.rest.now 0 Equals)) (view (get_or c.loop-rest.rest.now 1 Equals)) _ before c.if-not-may_follow.ensures

pub loop-rest-preserved : goal.loop-rest-preserved
loop-rest-preserved c =
    let whole = two_and_rest c.loop-rest.rest.now _ _ c.in-len2-up.len_at_least in
    let before = subst (λ (t : List Read). Calling c.args.names.now (map view c.args.tokens.now) (map view t) c.loop-rest.calls.items) whole c.loop-rest.invariant in
    let more = calling_more _ _ _ _ _ _ _ before c.in-Some.ensures c.if-not-may_follow.ensures in
    rw c.in_ok-push.ensures.items
    (subst (λ (t : List Token). Calling c.args.names.now (map view c.args.tokens.now) t (c.loop-rest.calls.items ++ c.in-Some.field-0 ∷ [])) (next_tokens view _ c.min.result c.min.ensures) more)

pub returns : goal.returns
returns c = calling_ends _ _ _ _ _ c.loop-rest.invariant (rw length-map c.in_default.len_below) (rw length-map c.is_empty.ensures)

pub loop-rest-init : goal.loop-rest-init
loop-rest-init c = rw c.requires (calling_none c.args.names.now (map view c.args.tokens.now))
