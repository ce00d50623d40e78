-- The lines of a script, read one by one.
use Rattle.std.proofs.Common.{◌≡◌, ℕ, ◌+◌, ◌≤◌, List, [], ◌∷◌, ◌++◌, length, take, Option, Some, None, refl, sym, ap, subst, ◌∙◌, append_assoc, add-one, arith}
use Rattle.std.specs.Prelude.{slice_get, option_to_list}
use Rattle.std.specs.Str.Lines.{lines}
use Rattle.std.proofs.lemmas.List.{take_at, length_push}
use Rattle.script_lang.specs.declared.line.Line.{Line}
use Rattle.script_text.specs.declared.script.Fault.{Fault}
use Rattle.script_text.specs.declared.script.Fault.TheVariants as fault
use Rattle.script_text.specs.Tokens.{Token, AreTokens}
use Rattle.script_text.specs.Script.{AreLines, AreParted, IsFaultAt, IsNoLine, StopsAfter, IsFault, names_after, names_of, max_lines, max_script}
use Rattle.script_text.specs.Reading.{Says, Reads, Fails}

-- one text more
pub AreParted-push : (texts : List (List ℕ)) (parted : List (List Token)) (text : List ℕ) (tokens : List Token) → AreParted texts parted → AreTokens text tokens → AreParted (texts ++ text ∷ []) (parted ++ tokens ∷ [])
AreParted-push [] [] text tokens all are = (are, tt)
AreParted-push [] (other ∷ parted) text tokens all are = absurd all
AreParted-push (first ∷ texts) [] text tokens all are = absurd all
AreParted-push (first ∷ texts) (other ∷ parted) text tokens all are = (all.0, AreParted-push texts parted text tokens all.1 are)

-- there are as many texts as lists of tokens
AreParted-length : (texts : List (List ℕ)) (parted : List (List Token)) → AreParted texts parted → length parted ≡ length texts
AreParted-length [] [] all = refl
AreParted-length [] (other ∷ parted) all = absurd all
AreParted-length (first ∷ texts) [] all = absurd all
AreParted-length (first ∷ texts) (other ∷ parted) all = let more = AreParted-length texts parted all.1 in omega arith

lines_end : (number : ℕ) (names : List (List ℕ)) (tokens : List Token) (found : Option Line) → Says number names tokens found → AreLines number names (tokens ∷ []) (option_to_list found)
lines_end number names [] None says = (says, tt)
lines_end number names [] (Some line) says = absurd says
lines_end number names (token ∷ tokens) None says = absurd says
lines_end number names (token ∷ tokens) (Some line) says = (says, tt)

-- one line more, or a text that says nothing
AreLines-push : (number : ℕ) (names : List (List ℕ)) (parted : List (List Token)) (script : List Line) (tokens : List Token) (found : Option Line) → AreLines number names parted script → Says (number + length parted) (names_of names parted) tokens found → AreLines number names (parted ++ tokens ∷ []) (script ++ option_to_list found)
AreLines-push number names [] [] tokens found are says = lines_end number names tokens found (subst (λ (n : ℕ). Says n names tokens found) (omega arith) says)
AreLines-push number names [] (line ∷ script) tokens found are says = absurd are
AreLines-push number names ([] ∷ parted) script tokens found are says =
    (are.0, AreLines-push (number + 1) names parted script tokens found are.1 (subst (λ (n : ℕ). Says n (names_of names parted) tokens found) (omega arith) says))
AreLines-push number names ((token ∷ others) ∷ parted) [] tokens found are says = absurd are
AreLines-push number names ((token ∷ others) ∷ parted) (line ∷ script) tokens found are says =
    (are.0, AreLines-push (number + 1) (names_after names (token ∷ others)) parted script tokens found are.1 (subst (λ (n : ℕ). Says n (names_of names ((token ∷ others) ∷ parted)) tokens found) (omega arith) says))

-- the names after one text more
names_of-push : (names : List (List ℕ)) (parted : List (List Token)) (tokens : List Token) → names_of names (parted ++ tokens ∷ []) ≡ names_after (names_of names parted) tokens
names_of-push names [] tokens = refl
names_of-push names (other ∷ parted) tokens = names_of-push (names_after names other) parted tokens

says_small : (number : ℕ) (names : List (List ℕ)) (tokens : List Token) (found : Option Line) → Says number names tokens found → number ≤ max_lines
says_small number names [] None says = says
says_small number names [] (Some line) says = absurd says
says_small number names (token ∷ tokens) None says = absurd says
says_small number names (token ∷ tokens) (Some line) says = says.0

-- the lines so far are those of the front of the text
pub record Parsing (text rest : List ℕ) (number : ℕ) (names : List (List ℕ)) (script : List Line) : Type 0 where
  pub front : List (List ℕ)
  pub parted : List (List Token)
  pub texts : lines text ≡ front ++ lines rest
  pub parts : AreParted front parted
  pub are : AreLines 1 [] parted script
  pub named : names ≡ names_of [] parted
  pub count : number ≡ length front
  pub few : number ≤ max_lines

-- at the start
pub parsing_none : (text : List ℕ) → Parsing text text 0 [] []
parsing_none text = record { front = []; parted = []; texts = refl; parts = tt; are = tt; named = refl; count = refl; few = omega arith }

-- one text more
pub parsing_more : (text rest after here : List ℕ) (number : ℕ) (names new : List (List ℕ)) (script : List Line) (found : Option Line) → Parsing text rest number names script → lines rest ≡ here ∷ lines after → Reads (number + 1) names here found new → Parsing text after (number + 1) new (script ++ option_to_list found)
parsing_more text rest after here number names new script found p split reads = record {
  front = p.front ++ here ∷ [];
  parted = p.parted ++ reads.tokens ∷ [];
  texts = p.texts ∙ ap (λ (t : List (List ℕ)). p.front ++ t) split ∙ sym (append_assoc p.front (here ∷ []) (lines after));
  parts = AreParted-push p.front p.parted here reads.tokens p.parts reads.are;
  are = AreLines-push 1 [] p.parted script reads.tokens found p.are (subst (λ (n : ℕ). Says n (names_of [] p.parted) reads.tokens found) same (subst (λ (t : List (List ℕ)). Says (number + 1) t reads.tokens found) p.named reads.says));
  named = reads.named ∙ ap (λ (t : List (List ℕ)). names_after t reads.tokens) p.named ∙ sym (names_of-push [] p.parted reads.tokens);
  count = counted;
  few = says_small (number + 1) names reads.tokens found reads.says;
}
  where
    same : number + 1 ≡ 1 + length p.parted
    same = let c = p.count in let l = AreParted-length p.front p.parted p.parts in omega arith

    counted : number + 1 ≡ length (p.front ++ here ∷ [])
    counted = let c = p.count in omega (arith, length_push p.front here)

slice_get-at : (front : List (List ℕ)) (here : List ℕ) (after : List (List ℕ)) → slice_get (front ++ here ∷ after) (length front) ≡ Some here
slice_get-at [] here after = refl
slice_get-at (text ∷ front) here after = slice_get-at front here after

-- a text that is no line
pub parsing_fails : (text rest after here : List ℕ) (number : ℕ) (names : List (List ℕ)) (script : List Line) (found : Fault) → length text ≤ max_script → Parsing text rest number names script → lines rest ≡ here ∷ lines after → Fails (number + 1) names here found → IsFault text found
parsing_fails text rest after here number names script fault.HostFull small p split none = tt
parsing_fails text rest after here number names script (fault.Line n wrong) small p split none =
    subst (λ (k : ℕ). IsFaultAt text k) (sym (none.0 ∙ add-one number)) stops
  where
    whole : lines text ≡ p.front ++ here ∷ lines after
    whole = p.texts ∙ ap (λ (t : List (List ℕ)). p.front ++ t) split

    stops : StopsAfter text number
    stops = record {
      small = small;
      parted = p.parted;
      parts = subst (λ (t : List (List ℕ)). AreParted t p.parted) (sym (ap (take number) whole ∙ take_at p.front (here ∷ lines after) number (sym p.count))) p.parts;
      front = script;
      before = p.are;
      here = here;
      next = ap (λ (t : List (List ℕ)). slice_get t number) whole ∙ ap (slice_get (p.front ++ here ∷ lines after)) p.count ∙ slice_get-at p.front here (lines after);
      none = subst (λ (t : List (List ℕ)). IsNoLine (number + 1) t here) p.named none.1;
    }
