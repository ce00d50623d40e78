-- Which tests of a call come before all work. Whether a fork can hold what is written is seen when it is written.
use Rattle.std.specs.Prelude.{◌≡◌, ℕ, ◌==◌, List, [], ◌∷◌, None, Result}
use Rattle.std.specs.List.{list_any}
use Rattle.mac_base.specs.HandleTable.{HandleTable, is_lent}
use Rattle.mac_base.specs.declared.error.OsErr.{OsErr}
use Rattle.mac_base.specs.declared.error.OsErr.TheVariants.{ResNotFound}
use Rattle.mac_base.specs.declared.resource_call.ResourceCall.{ResourceCall}
use Rattle.mac_base.specs.declared.resource_call.ResourceCall.TheVariants.{Writing}
use Rattle.mac_base.specs.declared.resource_call.WritingCall.TheVariants.{WriteResource, UpdateResFile, CloseResFile}
use Rattle.mem_calls.specs.Testing.{Answers}
use Rattle.res_update.specs.Files.{ResState}
use Rattle.res_update.specs.Tests.{ResourceTest, HasFile, IsOpen, HasRow, UnlentChanged, ChangedUnlent, AllUnlent, CanWriteRow, CanWriteFile, first_refused_for, resource_tests}

-- the tests of a call but that of what is written
abbrev pub early_tests : ResourceCall → List ResourceTest
early_tests (Writing (WriteResource h)) = HasFile ∷ HasRow ResNotFound h ∷ UnlentChanged h ∷ []
early_tests (Writing (UpdateResFile named)) = HasFile ∷ IsOpen named ∷ ChangedUnlent named ∷ []
early_tests (Writing (CloseResFile named)) = HasFile ∷ IsOpen named ∷ AllUnlent named ∷ []
early_tests call = resource_tests call

-- the test of what is written
abbrev pub late_tests : ResourceCall → List ResourceTest
late_tests (Writing (WriteResource h)) = CanWriteRow h ∷ []
late_tests (Writing (UpdateResFile named)) = CanWriteFile named ∷ []
late_tests (Writing (CloseResFile named)) = CanWriteFile named ∷ []
late_tests _ = []

-- an error is the first refusal of these tests, if there is one
abbrev pub Tests : {T : Type 0} → ResState → List ResourceTest → Result T OsErr → Type 0
Tests state tests result = Answers (first_refused_for state tests) result

-- the tests pass
abbrev pub Passes : ResState → List ResourceTest → Type 0
Passes state tests = first_refused_for state tests ≡ None

-- just these blocks are lent
abbrev pub AreLent : HandleTable → List ℕ → Type 0
AreLent table blocks = (x : ℕ) → is_lent table x ≡ list_any (λ y. y == x) blocks
