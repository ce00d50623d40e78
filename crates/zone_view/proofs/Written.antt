-- Texts that are written one after the other.
use Rattle.std.proofs.Common.{◌≡◌, ℕ, List, [], ◌++◌, Option, None, Some, Result, Ok, Err, refl, sym, ap, subst, ◌∙◌, append_assoc}
use Rattle.std.specs.Prelude.{IfSome}
use Rattle.std.specs.List.{flat_map}
use Rattle.std.proofs.lemmas.Grind.{flat_map-append}
use Rattle.std.specs.Io.KnownBytes.{Appends}
use Rattle.std.proofs.KnownBytes.{Appends-nil, Appends-trans}
use Rattle.std.specs.Result.{IsErrAnd}
use Rattle.zone_view.specs.declared.writing.NotWritten.{NotWritten}
use Rattle.zone_view.specs.Writing.{Writes, WritesFront}

-- nothing was written of a text
pub none_written : (text : List ℕ) (contents : Option (List ℕ)) → WritesFront text contents contents
none_written text contents = ([], text, refl, Appends-nil contents)

-- a front of a text is one of a longer text
pub front_of_more : (text more : List ℕ) (old new : Option (List ℕ)) → WritesFront text old new → WritesFront (text ++ more) old new
front_of_more text more old new (front, rest, is, wrote) = (front, rest ++ more, ap (λ (t : List ℕ). t ++ more) is ∙ append_assoc front rest more, wrote)

-- after a whole text, a front of what follows
pub front_after : (text more : List ℕ) (old mid new : Option (List ℕ)) → Appends old mid text → WritesFront more mid new → WritesFront (text ++ more) old new
front_after text more old mid new whole (front, rest, is, wrote) =
    (text ++ front, rest, ap (λ (t : List ℕ). text ++ t) is ∙ sym (append_assoc text front rest), Appends-trans _ _ _ _ _ whole wrote)

-- after a whole text, what follows
pub writes_after : {T : Type 0} (text more : List ℕ) (old mid new : Option (List ℕ)) (result : Result T NotWritten) → Appends old mid text → Writes more mid new result → Writes (text ++ more) old new result
writes_after text more old mid new (Ok done) whole wrote = Appends-trans _ _ _ _ _ whole wrote
writes_after text more old mid new (Err why) whole wrote = front_after text more old mid new whole wrote

-- an error after a front
pub fails : {T : Type 0} (text : List ℕ) (old new : Option (List ℕ)) (r : Result T NotWritten) (e : NotWritten) → IsErrAnd r (λ x. x ≡ e) → WritesFront text old new → Writes text old new r
fails text old new (Ok done) e is front = absurd is
fails text old new (Err why) e is front = front

-- an error before anything is written of what a value shows
pub shows_nothing : {T : Type 0} (shown : Option (List ℕ)) (contents : Option (List ℕ)) (r : Result T NotWritten) (e : NotWritten) → IsErrAnd r (λ x. x ≡ e)
    → IfSome shown (λ text. Writes text contents contents r)
shows_nothing None contents r e is = tt
shows_nothing (Some text) contents r e is = fails text contents contents r e is (none_written text contents)

module _ {X : Type 0} (row : X → List ℕ) (all done rest chunk later : List X) (are : all ≡ done ++ rest) (parts : rest ≡ chunk ++ later) where
  -- some rows, the next ones, and those after them are all
  pub all_are : all ≡ (done ++ chunk) ++ later
  all_are = are ∙ ap (λ (xs : List X). done ++ xs) parts ∙ sym (append_assoc done chunk later)

  rows_are : flat_map row all ≡ (flat_map row done ++ flat_map row chunk) ++ flat_map row later
  rows_are = ap (flat_map row) all_are ∙ flat_map-append row (done ++ chunk) later ∙ ap (λ (t : List ℕ). t ++ flat_map row later) (flat_map-append row done chunk)

  -- a front of the next ones
  pub rows_cut : (old mid new : Option (List ℕ)) → Appends old mid (flat_map row done) → WritesFront (flat_map row chunk) mid new → WritesFront (flat_map row all) old new
  rows_cut old mid new wrote front =
      subst (λ (t : List ℕ). WritesFront t old new) (sym rows_are)
      (front_of_more (flat_map row done ++ flat_map row chunk) (flat_map row later) old new (front_after (flat_map row done) (flat_map row chunk) old mid new wrote front))

  -- the next ones
  pub rows_more : (old mid new : Option (List ℕ)) → Appends old mid (flat_map row done) → Appends mid new (flat_map row chunk) → Appends old new (flat_map row (done ++ chunk))
  rows_more old mid new wrote more = subst (Appends old new) (sym (flat_map-append row done chunk)) (Appends-trans old mid new _ _ wrote more)
