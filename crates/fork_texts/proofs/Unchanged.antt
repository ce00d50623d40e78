-- A table stays as it is by the lines of its texts.
use Rattle.std.proofs.Common.{◌≡◌, ◌≢◌, ℕ, true, List, [], ◌∷◌, ◌++◌, map, Option, None, Some, refl, sym, ap, ◌∙◌, subst, cond}
use Rattle.std.specs.List.{flat_map}
use Rattle.std.proofs.lemmas.Bool.{cond-true}
use Rattle.fork_bytes.specs.Rows.{Row}
use Rattle.fork_texts.specs.declared.entry.Entry.{Entry}
use Rattle.fork_texts.specs.declared.kinds.TextType.{TextType}
use Rattle.fork_texts.specs.declared.line.Line.{Line}
use Rattle.fork_texts.specs.Laws.{texts_of}
use Rattle.fork_texts.specs.Putting.{Becomes, Merge, Puts, merged, next_lines, with_entry_text, with_first, with_new}
use Rattle.fork_texts.specs.Texts.{entries_of, is_at}
use Rattle.fork_texts.proofs.Same.{at_self}

-- texts whose lines come next stay, and the lines after those are left
record Stays (entries more : List Entry) (lines : List Line) : Type 0 where
  left : List Line
  stays : merged entries lines ≡ record { entries = entries; left = left }
  rest : texts_of left ≡ more

stays_first : (entry : Entry) (others more : List Entry) (line : Line) (lines : List Line) → line.entry ≡ entry → Stays others more lines → Stays (entry ∷ others) more (line ∷ lines)
stays_first entry others more line lines is s =
    let here : is_at line.entry entry ≡ true = ap (λ (e : Entry). is_at e entry) is ∙ at_self entry in
    let text : with_entry_text entry line.entry.text ≡ entry = ap (λ (e : Entry). with_entry_text entry e.text) is in
    record {
      left = s.left;
      stays = ap (λ (t : List ℕ). with_first (with_entry_text entry t) (merged others (next_lines entry (line ∷ lines)))) (cond-true (is_at line.entry entry) line.entry.text entry.text here)
          ∙ ap (λ (ls : List Line). with_first (with_entry_text entry line.entry.text) (merged others ls)) (cond-true (is_at line.entry entry) lines (line ∷ lines) here)
          ∙ ap (λ (e : Entry). with_first e (merged others lines)) text
          ∙ ap (λ (m : Merge). with_first entry m) s.stays;
      rest = s.rest;
    }

same_head : (x y : Entry) (xs ys : List Entry) → x ∷ xs ≡ y ∷ ys → (x ≡ y) × (xs ≡ ys)
same_head x y xs ys is = (cc, cc)

own_lines : (entries more : List Entry) (lines : List Line) → texts_of lines ≡ entries ++ more → Stays entries more lines
own_lines [] more lines is = record { left = lines; stays = refl; rest = is }
own_lines (entry ∷ others) more [] is = absurd cc
own_lines (entry ∷ others) more (line ∷ lines) is =
    let both = same_head line.entry entry (texts_of lines) (others ++ more) is in
    stays_first entry others more line lines both.0 (own_lines others more lines both.1)

-- a row that gets its own texts doesn't become another
no_new : (types : List TextType) (row : Row) (texts : List Entry) (new : Option Row) → texts ≡ entries_of types row → Becomes types row texts new → new ≡ None
no_new types row texts None is becomes = refl
no_new types row texts (Some new) is becomes = absurd (becomes.0 is)

pub unchanged : (types : List TextType) (rows : List Row) (lines : List Line) (changed : List Row) → texts_of lines ≡ flat_map (entries_of types) rows
    → Puts types rows lines changed → changed ≡ []
unchanged types [] lines changed is puts = puts.1
unchanged types (row ∷ rows) lines changed is puts =
    let own = own_lines (entries_of types row) (flat_map (entries_of types) rows) lines is in
    let texts : (merged (entries_of types row) lines).entries ≡ entries_of types row = ap (λ (m : Merge). m.entries) own.stays in
    let left : (merged (entries_of types row) lines).left ≡ own.left = ap (λ (m : Merge). m.left) own.stays in
    let none : puts.0 ≡ None = no_new types row (merged (entries_of types row) lines).entries puts.0 texts puts.2 in
    let others : puts.1 ≡ [] = unchanged types rows (merged (entries_of types row) lines).left puts.1 (ap texts_of left ∙ own.rest) puts.4 in
    puts.3 ∙ ap (λ (new : Option Row). with_new new puts.1) none ∙ others
