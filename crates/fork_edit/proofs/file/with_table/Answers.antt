use Rattle.std.proofs.Common.{ℕ, List, inl, refl, subst}
use Rattle.std.proofs.lemmas.Result.{err_from_is_err_and}
use Rattle.fork_answer.specs.Answer.{IsTableOf}
use Rattle.fork_edit.proofs.Refusing.{big_of, has_table, made_big, made_refused, misread, small_of}
use Rattle.fork_edit.proofs.file.with_table.Goals as goal

pub returns-in-Err-TooBig-clause-too_big : goal.returns-in-Err-TooBig-clause-too_big
returns-in-Err-TooBig-clause-too_big c =
    let big = big_of c.in-Err-TooBig.field-0 c.args.table.now c.in-Err-TooBig.field-0-is c.in-Err-TooBig.ensures.too_big in ((λ is. big), (λ is. refl))

pub returns-in-Err-TooBig-clause-refused : goal.returns-in-Err-TooBig-clause-refused
returns-in-Err-TooBig-clause-refused c =
    inl (refl, big_of c.in-Err-TooBig.field-0 c.args.table.now c.in-Err-TooBig.field-0-is c.in-Err-TooBig.ensures.too_big)

pub returns-clause-too_big : goal.returns-clause-too_big
returns-clause-too_big c =
    made_big c.args.file.now c.in-Ok.fork.items c.args.table.now c.kept_with.result (small_of c.in-Ok.fork c.args.table.now c.in-Ok.ensures.too_big) c.kept_with.ensures.refused

pub returns-clause-refused : goal.returns-clause-refused
returns-clause-refused c =
    let stands = subst (λ (fork : List ℕ). IsTableOf fork c.args.table.now) c.deref.ensures.value c.in_ok-read_back.ensures.same in
    made_refused c.args.file.now c.in-Ok.fork.items c.args.table.now c.kept_with.result c.in-Ok.ensures.written (small_of c.in-Ok.fork c.args.table.now c.in-Ok.ensures.too_big)
    stands c.kept_with.ensures.refused

pub returns-in_err-read_back-clause-refused : goal.returns-in_err-read_back-clause-refused
returns-in_err-read_back-clause-refused c =
    let p = err_from_is_err_and c.from_residual.result c.from_residual.ensures.1 in
    rw (p.1, p.2) (misread c.args.file.now c.deref.result.now c.in-Ok.fork.items c.args.table.now c.in_err-read_back.field-0.0 c.deref.ensures.value
    (small_of c.in-Ok.fork c.args.table.now c.in-Ok.ensures.too_big) c.in-Ok.ensures.stands c.in_err-read_back.ensures.other)

pub returns-clause-holds : goal.returns-clause-holds
returns-clause-holds c =
    let stands = subst (λ (fork : List ℕ). IsTableOf fork c.args.table.now) c.deref.ensures.value c.in_ok-read_back.ensures.same in
    has_table c.args.file.now c.in-Ok.fork.items c.args.table.now c.kept_with.result c.in-Ok.ensures.written stands c.kept_with.ensures.found c.kept_with.ensures.kept
