-- What becomes of rows, one after the other.
use Rattle.std.proofs.Common.{◌≡◌, List, [], ◌∷◌, ◌++◌, drop, Option, None, Some, refl, sym, ap, ◌∙◌, subst, append_assoc, append-nil}
use Rattle.fork_bytes.specs.Rows.{Row}
use Rattle.fork_texts.specs.declared.fault.ReadError.{ReadError}
use Rattle.fork_texts.specs.declared.fault.ReadError.TheVariants as errors
use Rattle.fork_texts.specs.declared.kinds.TextType.{TextType}
use Rattle.fork_texts.specs.declared.line.Line.{Line}
use Rattle.fork_texts.specs.Putting.{Becomes, BecomesNone, Puts, merged, with_new}
use Rattle.fork_texts.specs.Tables.{PutsNone}
use Rattle.fork_texts.specs.Texts.{entries_of}

joined : (done : List Row) (new : Option Row) (others : List Row) → done ++ with_new new others ≡ (done ++ with_new new []) ++ others
joined done None others = ap (λ (t : List Row). t ++ others) (sym (append-nil done))
joined done (Some row) others = sym (append_assoc done (row ∷ []) others)

-- those that become of what is left go on those so far; and all that becomes of all rows does so
pub record IsAt (types : List TextType) (rows : List Row) (lines : List Line) (rest : List Row) (left : List Line) (done : List Row) : Type 0 where
  pub goes_on : (others : List Row) → Puts types rest left others → Puts types rows lines (done ++ others)
  pub all : (whole : List Row) → Puts types rows lines whole → (others : List Row) × Puts types rest left others

module _ (types : List TextType) (rows : List Row) (lines : List Line) (row : Row) (rest : List Row) (left : List Line) (done : List Row)
    (at : IsAt types rows lines (row ∷ rest) left done) where
  -- one row more
  pub next : (new : Option Row) (after : List Line) (now : List Row) → Becomes types row (merged (entries_of types row) left).entries new
      → after ≡ (merged (entries_of types row) left).left → now ≡ done ++ with_new new [] → IsAt types rows lines rest after now
  next new after now becomes is_after is_now = record {
    goes_on = λ others puts.
        let P : List Line → Type 0 = λ l. Puts types rest l others in
        let Q : List Row → Type 0 = λ t. Puts types rows lines t in
        let whole = at.goes_on (with_new new others) (new, others, becomes, refl, subst P is_after puts) in
        subst Q (joined done new others ∙ ap (λ (t : List Row). t ++ others) (sym is_now)) whole;
    all = λ whole puts.
        let found = at.all whole puts in
        let P : List Line → Type 0 = λ l. Puts types rest l found.1.1 in
        (found.1.1, subst P (sym is_after) found.1.4);
  }

  -- nothing becomes of the row
  pub no_row : (error : ReadError) → BecomesNone types row (merged (entries_of types row) left).entries error → PutsNone types rows lines error
  no_row errors.HostFull none = tt
  no_row (errors.Refused fault) none = λ changed puts. let found = at.all changed puts in none found.1.0 found.1.2

-- all rows are seen
pub ended : (types : List TextType) (rows : List Row) (lines left : List Line) (done : List Row) → IsAt types rows lines [] left done → left ≡ [] → Puts types rows lines done
ended types rows lines left done at none =
    let P : List Row → Type 0 = λ t. Puts types rows lines t in
    subst P (append-nil done) (at.goes_on [] (none, refl))
