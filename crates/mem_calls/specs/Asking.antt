-- What a call that isn't refused asks for.
use Rattle.std.specs.Prelude.{◌≡◌, ℕ, List, [], ◌∷◌, Some}
use Rattle.mac_base.specs.declared.memory_call.MemoryCall.{MemoryCall}
use Rattle.mac_base.specs.Effect.{request_of}
use Rattle.mac_base.specs.Tests.{protected_by}
use Rattle.mac_base.specs.ZoneState.{ZoneState}
use Rattle.mem_calls.specs.declared.purges.Asking.{Asking}
use Rattle.mem_calls.specs.declared.purges.Guarded.{Guarded}
use Rattle.mem_calls.specs.declared.purges.Guarded.TheVariants.{Nothing, One, Two}

-- the blocks that are protected
abbrev pub guarded_by : Guarded → List ℕ
guarded_by Nothing = []
guarded_by (One x) = x ∷ []
guarded_by (Two x y) = x ∷ y ∷ []

-- it is the request of the call, with the blocks that the call protects
pub record IsAskedBy (z : ZoneState) (call : MemoryCall) (a : Asking) : Type 0 where
  pub request : request_of z.heap.table call ≡ Some a.request
  pub guards : guarded_by a.guarded ≡ protected_by call
