-- Which tokens make a call.
use Rattle.std.proofs.Common.{◌≡◌, ℕ, List, ◌∷◌, ◌++◌, Option, Some, None, sym, ap, subst, ◌∙◌}
use Rattle.std.specs.Prelude.{IfSome, IsTrue}
use Rattle.script_lang.specs.declared.table.CallName.{CallName}
use Rattle.script_lang.specs.declared.line.CallLine.{CallLine}
use Rattle.script_lang.specs.declared.line.NamedCall.{NamedCall}
use Rattle.script_text.specs.Tokens.{Token, Equals, Word}
use Rattle.script_lang.specs.Lines.{name_of}
use Rattle.script_lang.specs.Table.{signature}
use Rattle.script_text.specs.Operands.{AreOperands, IsNamedCall, is_name, operands_of}
use Rattle.script_text.specs.Script.{assignment, assigned_by, HasNoCall, MayAssign, IsCall}
use Rattle.script_lang.proofs.CallNames.{one_call}
use Rattle.script_text.proofs.OneOperand.{operands_no_equals}

-- the tokens are the assignment of a name, or none, and then these; and without a name they don't begin with one
pub record Parted (tokens : List Token) (name : Option (List ℕ)) (rest : List Token) : Type 0 where
  pub parts : tokens ≡ assignment name ++ rest
  pub by : name ≡ assigned_by tokens

-- after the assignment are the call's name and its operands
after_by : (names : List (List ℕ)) (tokens rest : List Token) (o : Option (List ℕ)) (x : CallLine) → Parted tokens o rest → (p : List Token) → AreOperands names p (operands_of x.call) → (a : Option (List ℕ)) → tokens ≡ assignment a ++ Word (signature (name_of x.call)).name ∷ p → rest ≡ Word (signature (name_of x.call)).name ∷ p
after_by names tokens rest None x parted p are None e = sym parted.parts ∙ e
after_by names tokens rest None x parted p are (Some a) e = let bad : None ≡ Some a = parted.by ∙ ap assigned_by e in absurd cc
after_by names tokens rest (Some o) x parted p are None e =
    let same : Word o ∷ Equals ∷ rest ≡ Word (signature (name_of x.call)).name ∷ p = sym parted.parts ∙ e in
    let begins : p ≡ Equals ∷ rest = cc in
    absurd (operands_no_equals names rest (operands_of x.call) (subst (λ (t : List Token). AreOperands names t (operands_of x.call)) begins are))
after_by names tokens rest (Some o) x parted p are (Some a) e =
    let same : Word o ∷ Equals ∷ rest ≡ Word a ∷ Equals ∷ Word (signature (name_of x.call)).name ∷ p = sym parted.parts ∙ e in
    cc

after : (names : List (List ℕ)) (tokens rest : List Token) (o : Option (List ℕ)) (x : CallLine) → Parted tokens o rest → (p : IsCall names tokens x) → rest ≡ Word (signature (name_of x.call)).name ∷ p.1
after names tokens rest o x parted p = after_by names tokens rest o x parted p.1 p.5 p.0 p.2

-- tokens without the name of a call after the assignment make no call
pub no_named : (names : List (List ℕ)) (tokens rest : List Token) (o : Option (List ℕ)) → Parted tokens o rest → HasNoCall rest → (x : CallLine) → ¬ IsCall names tokens x
no_named names tokens rest o parted none x p = none (name_of x.call) p.1 (after names tokens rest o x parted p)

-- the word is the call's name, and after it are the operands
name_and_operands : (names : List (List ℕ)) (tokens others : List Token) (word : List ℕ) (o : Option (List ℕ)) (x : CallLine) → Parted tokens o (Word word ∷ others) → (p : IsCall names tokens x) → ((signature (name_of x.call)).name ≡ word) × (p.1 ≡ others)
name_and_operands names tokens others word o x parted p =
    let same : Word word ∷ others ≡ Word (signature (name_of x.call)).name ∷ p.1 = after names tokens (Word word ∷ others) o x parted p in (cc, cc)

-- the name that a call's tokens assign may be assigned, and so may the call's result
assigned_may : (names : List (List ℕ)) (tokens rest : List Token) (word : List ℕ) (x : CallLine) → Parted tokens (Some word) rest → (p : List Token) → AreOperands names p (operands_of x.call) → (a : Option (List ℕ)) → tokens ≡ assignment a ++ Word (signature (name_of x.call)).name ∷ p
    → IfSome a (λ name. IsTrue (is_name name) × IsTrue (signature (name_of x.call)).is_assignable) → IsTrue (is_name word) × IsTrue (signature (name_of x.call)).is_assignable
assigned_may names tokens rest word x parted p are None e may =
    let same : Word word ∷ Equals ∷ rest ≡ Word (signature (name_of x.call)).name ∷ p = sym parted.parts ∙ e in
    let begins : p ≡ Equals ∷ rest = cc in
    absurd (operands_no_equals names rest (operands_of x.call) (subst (λ (t : List Token). AreOperands names t (operands_of x.call)) begins are))
assigned_may names tokens rest word x parted p are (Some a) e may =
    let same : Word word ∷ Equals ∷ rest ≡ Word a ∷ Equals ∷ Word (signature (name_of x.call)).name ∷ p = sym parted.parts ∙ e in
    let name : a ≡ word = cc in
    (subst (λ (w : List ℕ). IsTrue (is_name w)) name may.0, may.1)

-- tokens that assign what may not be assigned make no call
pub no_assigned : (names : List (List ℕ)) (tokens others : List Token) (call : CallName) (o : Option (List ℕ)) → Parted tokens o (Word (signature call).name ∷ others) → ¬ MayAssign (signature call).is_assignable o → (x : CallLine) → ¬ IsCall names tokens x
no_assigned names tokens others call None parted none x p = none tt
no_assigned names tokens others call (Some word) parted none x p =
    let same = name_and_operands names tokens others (signature call).name (Some word) x parted p in
    let this : name_of x.call ≡ call = one_call (name_of x.call) call same.0 in
    let may = assigned_may names tokens (Word (signature call).name ∷ others) word x parted p.1 p.5 p.0 p.2 p.3 in
    none (may.0, subst (λ (c : CallName). IsTrue (signature c).is_assignable) this may.1)

-- tokens that are no operands of the call make no call
pub no_operands : (names : List (List ℕ)) (tokens others : List Token) (call : CallName) (o : Option (List ℕ)) → Parted tokens o (Word (signature call).name ∷ others) → ((written : NamedCall) → ¬ IsNamedCall names call others written) → (x : CallLine) → ¬ IsCall names tokens x
no_operands names tokens others call o parted none x p =
    let same = name_and_operands names tokens others (signature call).name o x parted p in
    none x.call (one_call (name_of x.call) call same.0, subst (λ (t : List Token). AreOperands names t (operands_of x.call)) same.1 p.5)
