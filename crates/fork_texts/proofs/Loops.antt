-- Loops that read one thing after the other.
use Rattle.std.proofs.Common.{◌≡◌, ◌≢◌, ℕ, zero, suc, ◌+◌, ◌-◌, ◌<◌, true, false, List, [], ◌∷◌, ◌++◌, Result, Ok, Err, refl, sym, ◌∙◌, arith}
use Rattle.fork_texts.specs.declared.fault.Fault.{Fault}
use Rattle.fork_texts.specs.declared.fault.ReadError.{ReadError}
use Rattle.fork_texts.specs.declared.fault.ReadError.TheVariants as errors
use Rattle.fork_texts.specs.declared.fault.Why.TheVariants as why
use Rattle.fork_texts.specs.declared.line.Line.{Line}
use Rattle.fork_texts.specs.declared.reading.Stop.{Stop}
use Rattle.fork_texts.specs.Reading.{Fails, after_lines, byte_at, fails, line_at, lines_from, run_at, stops}

module _ (stop : Stop) (n i : ℕ) (so_far rest : List ℕ) (total : Result (List ℕ × List ℕ) Fault) (is : run_at stop (n - i) so_far rest ≡ total) where
  -- a stop
  pub stopped : i < n → stops stop rest ≡ true → total ≡ Ok (so_far, rest)
  unfolding run_at
  stopped less here =
      let left : n - i ≡ suc (n - (i + 1)) = omega arith in
      let turn : run_at stop (n - i) so_far rest ≡ Ok (so_far, rest) = rw (left, here) refl in
      sym is ∙ turn

  -- another byte
  pub goes_on : (byte : ℕ) (after : List ℕ) → i < n → stops stop rest ≡ false → byte_at rest ≡ Ok (byte, after) → run_at stop (n - (i + 1)) (so_far ++ byte ∷ []) after ≡ total
  unfolding run_at
  goes_on byte after less other read =
      let left : n - i ≡ suc (n - (i + 1)) = omega arith in
      let turn : run_at stop (n - i) so_far rest ≡ run_at stop (n - (i + 1)) (so_far ++ byte ∷ []) after = rw (left, other, read) refl in
      sym turn ∙ is

  -- no byte
  pub no_byte : (e : ReadError) → i < n → stops stop rest ≡ false → Fails e (byte_at rest) → Fails e total
  unfolding run_at
  no_byte errors.HostFull less other read = tt
  no_byte (errors.Refused fault) less other read =
      let left : n - i ≡ suc (n - (i + 1)) = omega arith in
      let turn : run_at stop (n - i) so_far rest ≡ Err fault = rw (left, other, read) refl in
      sym is ∙ turn

-- another line
pub next_line : (n i : ℕ) (so_far : List Line) (rest after : List ℕ) (line : Line) (total : Result (List Line) Fault) → i < n → rest ≢ [] → lines_from (n - i) so_far rest ≡ total
    → line_at rest ≡ Ok (line, after) → lines_from (n - (i + 1)) (so_far ++ line ∷ []) (after_lines after) ≡ total
unfolding lines_from
next_line n i so_far [] after line total less some is read = absurd (some refl)
next_line n i so_far (byte ∷ rest) after line total less some is read =
    let left : n - i ≡ suc (n - (i + 1)) = omega arith in
    let turn : lines_from (n - i) so_far (byte ∷ rest) ≡ lines_from (n - (i + 1)) (so_far ++ line ∷ []) (after_lines after) = rw (left, read) refl in
    sym turn ∙ is

-- no line
pub no_line : (n i : ℕ) (so_far : List Line) (rest : List ℕ) (total : Result (List Line) Fault) (e : ReadError) → i < n → rest ≢ [] → lines_from (n - i) so_far rest ≡ total
    → Fails e (line_at rest) → Fails e total
unfolding lines_from
no_line n i so_far rest total errors.HostFull less some is read = tt
no_line n i so_far [] total (errors.Refused fault) less some is read = absurd (some refl)
no_line n i so_far (byte ∷ rest) total (errors.Refused fault) less some is read =
    let left : n - i ≡ suc (n - (i + 1)) = omega arith in
    let turn : lines_from (n - i) so_far (byte ∷ rest) ≡ Err fault = rw (left, read) refl in
    sym is ∙ turn

-- no text is left, or no turn
pub no_more : (n : ℕ) (so_far : List Line) (total : Result (List Line) Fault) → lines_from n so_far [] ≡ total → total ≡ Ok so_far
unfolding lines_from
no_more zero so_far total is = sym is
no_more (suc n) so_far total is = sym is

pub no_turns : (so_far : List Line) (rest : List ℕ) (total : Result (List Line) Fault) → lines_from 0 so_far rest ≡ total → total ≡ Ok so_far
unfolding lines_from
no_turns so_far rest total is = sym is
