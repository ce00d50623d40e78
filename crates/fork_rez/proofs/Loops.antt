-- A loop reads one thing after the other.
use Rattle.std.proofs.Common.{◌≡◌, ℕ, suc, ◌+◌, ◌-◌, ◌<◌, List, Option, Some, Result, Ok, Err, refl, sym, ◌∙◌, arith}
use Rattle.fork_rez.specs.declared.fault.Fault.{Fault}
use Rattle.fork_rez.specs.declared.fault.ReadError.{ReadError}
use Rattle.fork_rez.specs.declared.fault.ReadError.TheVariants as errors
use Rattle.fork_rez.specs.Reading.{Fails, many}

module _ {A B : Type 0} (add : B → A → B) (item : List ℕ → Result (Option A × List ℕ) Fault) (n i : ℕ) (so_far : B) (text : List ℕ) (total : Result (B × List ℕ) Fault)
    (is : many add item (n - i) so_far text ≡ total) where
  -- another thing
  pub goes_on : (one : A) (after : List ℕ) → i < n → item text ≡ Ok (Some one, after) → many add item (n - (i + 1)) (add so_far one) after ≡ total
  goes_on one after less read =
      let left : n - i ≡ suc (n - (i + 1)) = omega arith in
      let turn : many add item (n - i) so_far text ≡ many add item (n - (i + 1)) (add so_far one) after = rw (left, read) refl in
      sym turn ∙ is

  -- something else is expected
  pub refused_here : (e : ReadError) → i < n → Fails e (item text) → Fails e total
  refused_here errors.HostFull less read = tt
  refused_here (errors.Refused f) less read =
      let left : n - i ≡ suc (n - (i + 1)) = omega arith in
      let turn : many add item (n - i) so_far text ≡ Err f = rw (left, read) refl in
      sym is ∙ turn
