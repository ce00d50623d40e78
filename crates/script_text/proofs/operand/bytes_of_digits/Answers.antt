use Rattle.std.proofs.Common.{false, sym, subst, true, ◌∙◌}
use Rattle.script_text.proofs.Digits.{Decoding, decoding_none, decoding_more, decoding_fails, decoding_ends}
use Rattle.script_text.proofs.Lists.{two_and_rest}
use Rattle.script_text.proofs.operand.bytes_of_digits.Goals as goal

pub loop-rest-init : goal.loop-rest-init
loop-rest-init c = rw c.in_ok-bytes.ensures.items (decoding_none c.args.digits.now)

pub loop-rest-preserved : goal.loop-rest-preserved
loop-rest-preserved c =
    let whole = two_and_rest c.loop-rest.rest.now 0 0 c.in-len2-up.len_at_least in
    let before = subst (λ t. Decoding c.args.digits.now t c.loop-rest.bytes.items) whole c.loop-rest.invariant in
    rw c.in_ok-push.ensures.items (decoding_more _ _ _ _ _ _ before c.in-Some.ensures)

pub returns-in_default-byte_of_digits : goal.returns-in_default-byte_of_digits
returns-in_default-byte_of_digits c =
    let whole = two_and_rest c.loop-rest.rest.now 0 0 c.in-len2-up.len_at_least in
    let before = subst (λ t. Decoding c.args.digits.now t c.loop-rest.bytes.items) whole c.loop-rest.invariant in
    decoding_fails _ _ _ _ _ before c.in_default-byte_of_digits.ensures

pub returns-then-not-is_empty : goal.returns-then-not-is_empty
returns-then-not-is_empty c = decoding_ends _ _ _ false c.loop-rest.invariant c.in_default.len_below (sym c.if-not-is_empty.true ∙ c.is_empty.ensures)

pub returns : goal.returns
returns c =
    let are = decoding_ends _ _ _ true c.loop-rest.invariant c.in_default.len_below (sym c.if-not-is_empty.false ∙ c.is_empty.ensures) in
    rw c.into_bump_slice.ensures are
