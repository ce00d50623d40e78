-- A call is refused by its early tests, or else by that of what it writes.
use Rattle.std.proofs.Common.{◌≡◌, List, [], ◌∷◌, ◌++◌, Option, Some, None, refl, ap, sym, ◌∙◌}
use Rattle.std.proofs.lemmas.List.{append-nil}
use Rattle.std.specs.Option.{option_or}
use Rattle.mac_base.specs.declared.error.OsErr.{OsErr}
use Rattle.mac_base.specs.declared.resource_call.ResourceCall.{ResourceCall}
use Rattle.mac_base.specs.declared.resource_call.ResourceCall.TheVariants.{Writing}
use Rattle.mac_base.specs.declared.resource_call.WritingCall.TheVariants.{WriteResource, UpdateResFile, CloseResFile}
use Rattle.res_update.specs.Files.{ResState}
use Rattle.res_update.specs.Tests.{ResourceTest, first_refused_for, refused_for, resource_refusal, resource_tests}
use Rattle.res_manager.specs.Tests.{early_tests, late_tests}

or_or : (a b c : Option OsErr) → option_or a (option_or b c) ≡ option_or (option_or a b) c
or_or None b c = refl
or_or (Some code) b c = refl

-- tests refuse a call by the first of them, or else by the others
pub refused_for-append : (state : ResState) (tests more : List ResourceTest) → first_refused_for state (tests ++ more) ≡ option_or (first_refused_for state tests) (first_refused_for state more)
refused_for-append state [] more = refl
refused_for-append state (test ∷ tests) more = ap (option_or (refused_for state test)) (refused_for-append state tests more) ∙ or_or (refused_for state test) (first_refused_for state tests) (first_refused_for state more)

-- a call's tests are the early ones and the late one
pub tests-split : (c : ResourceCall) → resource_tests c ≡ early_tests c ++ late_tests c
tests-split (Writing (WriteResource h)) = refl
tests-split (Writing (UpdateResFile named)) = refl
tests-split (Writing (CloseResFile named)) = refl
tests-split c = sym (append-nil (resource_tests c))

-- so is its refusal
pub refusal-split : (state : ResState) (c : ResourceCall) → resource_refusal state c ≡ option_or (first_refused_for state (early_tests c)) (first_refused_for state (late_tests c))
refusal-split state c = ap (first_refused_for state) (tests-split c) ∙ refused_for-append state (early_tests c) (late_tests c)

-- what an early test refuses is refused
pub refused-early : (state : ResState) (c : ResourceCall) (code : OsErr) → first_refused_for state (early_tests c) ≡ Some code → resource_refusal state c ≡ Some code
refused-early state c code is = refusal-split state c ∙ ap (λ o. option_or o (first_refused_for state (late_tests c))) is

-- what passes them is refused by the late one alone
pub passed-early : (state : ResState) (c : ResourceCall) → first_refused_for state (early_tests c) ≡ None → resource_refusal state c ≡ first_refused_for state (late_tests c)
passed-early state c is = refusal-split state c ∙ ap (λ o. option_or o (first_refused_for state (late_tests c))) is

-- two tests one after another pass only where both do
pub both_passed : (a b : Option OsErr) → option_or a b ≡ None → (a ≡ None) × (b ≡ None)
both_passed None b is = (refl, is)
both_passed (Some code) b is = absurd (cc is)
