-- Bytes are the script of one list of lines at most.
use Rattle.std.proofs.Common.{◌≡◌, ℕ, ◌+◌, List, [], ◌∷◌, ◌++◌, Option, Some, None, refl, sym, ap, subst, ◌∙◌}
use Rattle.std.specs.Prelude.{option_map}
use Rattle.std.specs.Str.Lines.{lines}
use Rattle.script_lang.specs.declared.line.Name.{Name}
use Rattle.script_lang.specs.declared.line.NamedCall.{NamedCall}
use Rattle.script_lang.specs.declared.line.CallLine.{CallLine}
use Rattle.script_lang.specs.declared.line.Line.{Line}
use Rattle.script_lang.specs.declared.line.Statement.{Statement}
use Rattle.script_lang.specs.declared.line.Statement.TheVariants.{Call, Answer}
use Rattle.script_text.specs.Tokens.{Token, Equals, Word}
use Rattle.script_lang.specs.Lines.{name_of}
use Rattle.script_lang.specs.Table.{signature}
use Rattle.script_text.specs.Operands.{AreOperands, operands_of}
use Rattle.script_text.specs.Names.{place_for}
use Rattle.script_text.specs.Script.{assignment, IsCall, IsStatement, IsLine, names_after, AreLines, AreParted, OneReading}
use Rattle.script_text.proofs.TokenLaws.{one_tokens}
use Rattle.script_lang.proofs.CallNames.{one_call}
use Rattle.script_text.proofs.OneOperand.{operands_no_equals}
use Rattle.script_text.proofs.OneCall.{one_named}
use Rattle.script_text.proofs.OneAnswer.{one_answer, not_both}

-- a call of these parts
abbrev made : Option Name → NamedCall → CallLine
made assigned call = record { assigned = assigned; call = call }

-- what is after a name and `=`, and what is after a call
one_assignment : (names : List (List ℕ)) (a b : CallLine) (p q : List Token) → AreOperands names p (operands_of a.call) → AreOperands names q (operands_of b.call) → (x y : Option (List ℕ)) → assignment x ++ Word (signature (name_of a.call)).name ∷ p ≡ assignment y ++ Word (signature (name_of b.call)).name ∷ q → (x ≡ y) × ((signature (name_of a.call)).name ≡ (signature (name_of b.call)).name) × (p ≡ q)
one_assignment names a b p q here there None None e = (refl, cc, cc)
one_assignment names a b p q here there (Some x) (Some y) e = (cc, cc, cc)
one_assignment names a b p q here there None (Some y) e =
    let begins : p ≡ Equals ∷ Word (signature (name_of b.call)).name ∷ q = cc in
    absurd (operands_no_equals names (Word (signature (name_of b.call)).name ∷ q) (operands_of a.call) (subst (λ (t : List Token). AreOperands names t (operands_of a.call)) begins here))
one_assignment names a b p q here there (Some x) None e =
    let begins : q ≡ Equals ∷ Word (signature (name_of a.call)).name ∷ p = cc in
    absurd (operands_no_equals names (Word (signature (name_of a.call)).name ∷ p) (operands_of b.call) (subst (λ (t : List Token). AreOperands names t (operands_of b.call)) begins there))

-- tokens make one call at most
one_made_call : (names : List (List ℕ)) (tokens : List Token) (a b : CallLine) → IsCall names tokens a → IsCall names tokens b → a ≡ b
one_made_call names tokens a b p q =
    let parts = one_assignment names a b p.1 q.1 p.5 q.5 p.0 q.0 (sym p.2 ∙ q.2) in
    let name = one_call (name_of a.call) (name_of b.call) parts.1 in
    let there : AreOperands names p.1 (operands_of b.call) = subst (λ (t : List Token). AreOperands names t (operands_of b.call)) (sym parts.2) q.5 in
    let assigned : a.assigned ≡ b.assigned = p.4 ∙ ap (λ (n : Option (List ℕ)). option_map (place_for names) n) parts.0 ∙ sym q.4 in
    ap (λ (x : Option Name). made x a.call) assigned ∙ ap (made b.assigned) (one_named names p.1 a.call b.call name p.5 there)

-- tokens say one thing at most
one_statement : (names : List (List ℕ)) (tokens : List Token) (a b : Statement) → IsStatement names tokens a → IsStatement names tokens b → a ≡ b
one_statement names tokens (Call a) (Call b) p q = ap Call (one_made_call names tokens a b p q)
one_statement names tokens (Call a) (Answer b) p q = absurd (not_both names tokens a b p q)
one_statement names tokens (Answer a) (Call b) p q = absurd (not_both names tokens b a q p)
one_statement names tokens (Answer a) (Answer b) p q = ap Answer (one_answer names tokens a b p q)

-- a line of these parts
abbrev line_of : ℕ → Statement → Line
line_of number statement = record { number = number; statement = statement }

-- tokens say what one line with a number says at most
one_line : (number : ℕ) (names : List (List ℕ)) (tokens : List Token) (a b : Line) → IsLine number names tokens a → IsLine number names tokens b → a ≡ b
one_line number names tokens a b is other =
    ap (λ (n : ℕ). line_of n a.statement) (is.1 ∙ sym other.1) ∙ ap (λ (s : Statement). line_of b.number s) (one_statement names tokens a.statement b.statement is.2 other.2)

-- texts have one list of tokens each at most
pub one_parted : (texts : List (List ℕ)) (a b : List (List Token)) → AreParted texts a → AreParted texts b → a ≡ b
one_parted [] [] [] p q = refl
one_parted [] [] (y ∷ b) p q = absurd q
one_parted [] (x ∷ a) b p q = absurd p
one_parted (text ∷ texts) [] b p q = absurd p
one_parted (text ∷ texts) (x ∷ a) [] p q = absurd q
one_parted (text ∷ texts) (x ∷ a) (y ∷ b) p q =
    let head : x ≡ y = one_tokens text x y p.0 q.0 in
    let tail : a ≡ b = one_parted texts a b p.1 q.1 in
    cc

-- lists of tokens are one list of lines at most
one_lines : (number : ℕ) (names : List (List ℕ)) (parted : List (List Token)) (a b : List Line) → AreLines number names parted a → AreLines number names parted b → a ≡ b
one_lines number names [] [] [] p q = refl
one_lines number names [] [] (y ∷ b) p q = absurd q
one_lines number names [] (x ∷ a) b p q = absurd p
one_lines number names ([] ∷ parted) a b p q = one_lines (number + 1) names parted a b p.1 q.1
one_lines number names ((token ∷ tokens) ∷ parted) [] b p q = absurd p
one_lines number names ((token ∷ tokens) ∷ parted) (x ∷ a) [] p q = absurd q
one_lines number names ((token ∷ tokens) ∷ parted) (x ∷ a) (y ∷ b) p q =
    let head : x ≡ y = one_line number names (token ∷ tokens) x y p.0 q.0 in
    let tail : a ≡ b = one_lines (number + 1) (names_after names (token ∷ tokens)) parted a b p.1 q.1 in
    cc

-- bytes are the script of one list of lines at most
pub one_script : OneReading
one_script text a b p q =
    let same = one_parted (lines text) p.1 q.1 p.2 q.2 in
    one_lines 1 [] p.1 a b p.3 (subst (λ (t : List (List Token)). AreLines 1 [] t b) (sym same) q.3)
