-- The order in which two new files are put.
use Rattle.std.specs.Prelude.{◌≡◌, ◌⊎◌, ℕ, ◌<◌, Bool, true, false, if◌then◌else◌, Option, Some, None}
use Rattle.fork_saves.specs.declared.order.Order.{Order}
use Rattle.fork_saves.specs.declared.order.Order.TheVariants as order

-- both are known, and one
abbrev pub is_same : {I : Type 0} → (I → I → Bool) → Option I → Option I → Bool
is_same eq (Some a) (Some b) = eq a b
is_same eq a b = false

-- the order, where they aren't one file: the one that is the input comes last
abbrev pub order_of : {I : Type 0} → (I → I → Bool) → Option I → Option I → Option I → Option Order
order_of eq input output datum =
    if is_same eq output datum then None
    else if is_same eq input datum then Some order.OutputFirst
    else Some order.DataFirst

-- whether a file was put once so many of both were
abbrev pub output_is_put : Order → ℕ → Type 0
output_is_put order.OutputFirst count = 0 < count
output_is_put order.DataFirst count = 1 < count

abbrev pub data_is_put : Order → ℕ → Type 0
data_is_put order.OutputFirst count = 1 < count
data_is_put order.DataFirst count = 0 < count

-- the input was not replaced, so that it has both forks
abbrev pub HasInput : {I : Type 0} → (I → I → Bool) → Option I → Option I → Option I → Order → ℕ → Type 0
HasInput eq input output datum order count =
    (output_is_put order count → is_same eq input output ≡ false) × (data_is_put order count → is_same eq input datum ≡ false)

-- However many of both were put: either fork is in its new file, or the input has it.
abbrev pub KeepsForks : {I : Type 0} → (I → I → Bool) → Option I → Option I → Option I → Order → Type 0
KeepsForks eq input output datum order = (count : ℕ)
    → (output_is_put order count × data_is_put order count) ⊎ HasInput eq input output datum order count
