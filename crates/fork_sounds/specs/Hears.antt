-- What the answer of a function that hears is.
use Rattle.std.specs.Prelude.{◌≡◌, ⊤, Result, Ok, Err}
use Rattle.fork_sounds.specs.declared.fault.Fault.{Fault}
use Rattle.fork_sounds.specs.declared.fault.NotHeard.{NotHeard}
use Rattle.fork_sounds.specs.declared.fault.NotHeard.TheVariants as unheard

-- the value, as it is seen, or the fault, but that the host may have no memory
abbrev pub Answers : {A B : Type 0} → (A → B) → Result A NotHeard → Result B Fault → Type 0
Answers seen (Ok value) answer = answer ≡ Ok (seen value)
Answers seen (Err (unheard.Fault fault)) answer = answer ≡ Err fault
Answers seen (Err unheard.HostFull) answer = ⊤
