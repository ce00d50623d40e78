use Rattle.std.proofs.Common.{◌≡◌, refl, sym, inl, inr, ◌∙◌}
use Rattle.script_lang.specs.Text.{fault_text}
use Rattle.script_run.proofs.running.tell_fault.Goals as goal

pub returns-in_default-clause-ends : goal.returns-in_default-clause-ends
returns-in_default-clause-ends g c = let told = c.tell_no_memory.ensures.ends in (told.0, told.1, inr told.2)

pub returns-then-write_whole-clause-ends : goal.returns-then-write_whole-clause-ends
returns-then-write_whole-clause-ends g c =
    let w = c.if-write_whole.ensures.written in
    (w.0, w.1, inl (inl (refl, w.2 ∙ c.deref.ensures.value ∙ c.in-Ok.ensures)))

pub returns-clause-ends : goal.returns-clause-ends
returns-clause-ends g c =
    let w = c.if-write_whole.ensures.written in
    let same : c.deref.result.now ≡ fault_text c.args.line = c.deref.ensures.value ∙ c.in-Ok.ensures in
    (w.0, w.1, inl (inr (refl, (w.2.0, sym same ∙ w.2.1, w.2.2))))
