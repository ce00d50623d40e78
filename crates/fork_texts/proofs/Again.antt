-- Lines that were written are read again.
use Rattle.std.proofs.Common.{◌≡◌, ℕ, zero, suc, ◌+◌, ◌-◌, ◌<◌, ◌≤◌, ◌^◌, inl, inr, Bool, true, false, eqb, cond, List, [], ◌∷◌, ◌++◌, length, map, replicate, take, Some, Ok, refl, sym, subst, ap, ◌∙◌, append_assoc, append-nil, arith}
use Rattle.std.specs.Prelude.{◌||◌, ◌==◌, codes, not, slice_index}
use Rattle.std.specs.List.{flat_map, AllByRecursion}
use Rattle.std.specs.Fmt.{decimal, signed_decimal}
use Rattle.std.proofs.lemmas.Bool.{agree_below_at, cond-false, cond_both, false≢true, not-true}
use Rattle.std.proofs.lemmas.List.{length-append}
use Rattle.fork_texts.specs.declared.entry.Entry.{Entry}
use Rattle.fork_texts.specs.declared.line.Line.{Line}
use Rattle.fork_texts.specs.declared.place.Place.{Place}
use Rattle.fork_texts.specs.declared.place.Place.TheVariants.{Name, Whole, Title, Short, Long, Numbered}
use Rattle.fork_texts.specs.declared.fault.Why.TheVariants as why
use Rattle.fork_texts.specs.declared.reading.Stop.TheVariants.{Blank, Quote}
use Rattle.fork_texts.specs.declared.reading.TheConstants.{MOST}
use Rattle.fork_texts.specs.Laws.{AreBytes, IsEntry, IsShort, texts_of}
use Rattle.fork_texts.specs.Lines.{bare_length, head_text, kind_text, kind_written, line_text, place_text, quoted, written}
use Rattle.fork_texts.specs.Reading.{◌>>=◌, after_blanks, after_lines, head_at, is_blank, line_at, line_end_at, line_of, lines_at, lines_from, numbered_at, place_at, quoted_at, stops}
use Rattle.fork_texts.proofs.Letters.{kind_again, kind_reads, text_reads, whole_run}
use Rattle.fork_texts.proofs.Numbers.{Stops, id_again, number_again}

-- blanks before a text in quotes
abbrev gap : ℕ → List ℕ → List ℕ
gap k inner = replicate k 32 ++ 34 ∷ inner

gap_gone : (k : ℕ) (inner : List ℕ) → after_blanks (gap k inner) ≡ 34 ∷ inner
gap_gone zero inner = refl
gap_gone (suc k) inner = gap_gone k inner

gap_stops : (k : ℕ) (inner : List ℕ) → Stops (gap k inner)
gap_stops zero inner expected limit so_far = refl
gap_stops (suc k) inner expected limit so_far = refl

-- no digit follows an id
place_stops : (place : Place) (k : ℕ) (inner : List ℕ) → Stops (place_text place ++ gap k inner)
place_stops Whole k inner expected limit so_far = gap_stops k inner expected limit so_far
place_stops Name k inner expected limit so_far = refl
place_stops Title k inner expected limit so_far = refl
place_stops Short k inner expected limit so_far = refl
place_stops Long k inner expected limit so_far = refl
place_stops (Numbered n) k inner expected limit so_far = refl

-- a place before blanks and a quote
record Placed (place : Place) (text inner : List ℕ) : Type 0 where
  rest : List ℕ
  read : place_at (after_blanks text) ≡ Ok (place, rest)
  gone : after_blanks rest ≡ 34 ∷ inner

bracket : (rest : List ℕ) → Stops (93 ∷ rest)
bracket rest expected limit so_far = refl

numbered_again : (n : ℕ) (rest : List ℕ) → n ≤ MOST → numbered_at (decimal n ++ 93 ∷ rest) ≡ Ok (Numbered n, rest)
unfolding numbered_at
numbered_again n rest few = rw (number_again why.Place MOST n (93 ∷ rest) few (omega arith) (bracket rest)) refl

place_again : (place : Place) (k : ℕ) (inner : List ℕ) → IsShort place → Placed place (place_text place ++ gap k inner) inner
unfolding place_at
place_again Whole k inner short = record { rest = 34 ∷ inner; read = rw (gap_gone k inner) refl; gone = refl }
place_again Name k inner short = record { rest = gap k inner; read = refl; gone = gap_gone k inner }
place_again Title k inner short = record { rest = gap k inner; read = refl; gone = gap_gone k inner }
place_again Short k inner short = record { rest = gap k inner; read = refl; gone = gap_gone k inner }
place_again Long k inner short = record { rest = gap k inner; read = refl; gone = gap_gone k inner }
place_again (Numbered n) k inner short = record {
  rest = gap k inner;
  read = ap (λ (t : List ℕ). numbered_at t) (append_assoc (decimal n) (93 ∷ []) (gap k inner)) ∙ numbered_again n (gap k inner) short;
  gone = gap_gone k inner;
}

-- what is before the text
head_again : (entry : Entry) (k : ℕ) (inner : List ℕ) → IsEntry entry
    → head_at (kind_text entry.what.kind ++ (32 ∷ (signed_decimal entry.what.id ++ (place_text entry.place ++ gap k inner))))
    ≡ Ok (record { kind = entry.what.kind; id = entry.what.id; place = entry.place }, 34 ∷ inner)
unfolding head_at
head_again entry k inner is =
    let after : List ℕ = place_text entry.place ++ gap k inner in
    let placed = place_again entry.place k inner is.place in
    let read = placed.read in
    let gone = placed.gone in
    rw (kind_again entry.what.kind (signed_decimal entry.what.id ++ after) is.four is.kind, id_again entry.what.id after is.id (place_stops entry.place k inner), read, gone) refl

-- the text and the end of the line
quoted_again : (text rest : List ℕ) → AreBytes text → quoted_at (34 ∷ (flat_map written text ++ 34 ∷ rest)) ≡ Ok (text, rest)
unfolding quoted_at
quoted_again text rest all = rw (whole_run Quote written text_reads text (34 ∷ rest) all refl) refl

end_again : (rest : List ℕ) → line_end_at (10 ∷ rest) ≡ Ok rest
unfolding line_end_at
end_again rest = refl

-- the text of a line, from its parts
abbrev spelled : Entry → List ℕ → List ℕ
spelled entry rest =
    kind_text entry.what.kind ++ (32 ∷ (signed_decimal entry.what.id
    ++ (place_text entry.place ++ gap (1 + (16 - length (head_text entry))) (flat_map written entry.text ++ 34 ∷ 10 ∷ rest))))

regrouped : (entry : Entry) (rest : List ℕ) → line_text entry ++ rest ≡ spelled entry rest
regrouped entry rest = simp append_assoc

-- a line
record ReadsLine (entry : Entry) (rest : List ℕ) : Type 0 where
  line : Line
  read : line_at (line_text entry ++ rest) ≡ Ok (line, rest)
  own : line.entry ≡ entry

line_again : (entry : Entry) (rest : List ℕ) → IsEntry entry → ReadsLine entry rest
unfolding line_at
line_again entry rest is =
    let k : ℕ = 1 + (16 - length (head_text entry)) in
    let inner : List ℕ = flat_map written entry.text ++ 34 ∷ 10 ∷ rest in
    let text : List ℕ = spelled entry rest in
    record {
      line = line_of (record { kind = entry.what.kind; id = entry.what.id; place = entry.place }) entry.text (length text) (length (34 ∷ inner));
      read = ap (λ (t : List ℕ). line_at t) (regrouped entry rest) ∙ rw (head_again entry k inner is, quoted_again entry.text (10 ∷ rest) is.text, end_again rest) refl;
      own = refl;
    }

-- a text begins with neither a blank nor the end of a line
abbrev starts : List ℕ → Bool
starts [] = false
starts (first ∷ more) = not (is_blank first || eqb first 10)

starts_more : (text more : List ℕ) → starts text ≡ true → starts (text ++ more) ≡ true
starts_more [] more is = absurd (false≢true is)
starts_more (first ∷ text) more is = is

stays : (text : List ℕ) → starts text ≡ true → after_lines text ≡ text
stays [] is = refl
stays (first ∷ text) is = cond-false (is_blank first || eqb first 10) (after_lines text) (first ∷ text) (not-true (is_blank first || eqb first 10) is)

bare_some : (kind : List ℕ) → 0 < bare_length kind
bare_some kind =
    cond_both (not (slice_index kind 3 == 32)) 4 (cond (not (slice_index kind 2 == 32)) 3 (cond (not (slice_index kind 1 == 32)) 2 1)) (λ n. 0 < n) (λ _. omega arith)
    (λ _. cond_both (not (slice_index kind 2 == 32)) 3 (cond (not (slice_index kind 1 == 32)) 2 1) (λ n. 0 < n) (λ _. omega arith)
    (λ _. cond_both (not (slice_index kind 1 == 32)) 2 1 (λ n. 0 < n) (λ _. omega arith) (λ _. omega arith)))

front_first : (n a : ℕ) (bytes : List ℕ) → 0 < n → (m : ℕ) × (take n (a ∷ bytes) ≡ a ∷ take m bytes)
front_first zero a bytes some = absurd (omega arith)
front_first (suc m) a bytes some = (m, refl)

kind_starts : (kind : List ℕ) → length kind ≡ 4 → AreBytes kind → starts (kind_text kind) ≡ true
kind_starts [] four all = absurd (omega arith)
kind_starts (a ∷ kind) four all =
    let front = front_first (bare_length (a ∷ kind)) a kind (bare_some (a ∷ kind)) in
    ap (λ (t : List ℕ). starts (flat_map kind_written t)) front.1
    ∙ starts_more (kind_written a) (flat_map kind_written (take front.0 kind)) (agree_below_at (λ b. starts (kind_written b)) (λ _. true) 256 a refl all.0)

line_starts : (entry : Entry) (rest : List ℕ) → IsEntry entry → starts (line_text entry ++ rest) ≡ true
line_starts entry rest is =
    ap starts (regrouped entry rest)
    ∙ starts_more (kind_text entry.what.kind)
    (32 ∷ (signed_decimal entry.what.id ++ (place_text entry.place ++ gap (1 + (16 - length (head_text entry))) (flat_map written entry.text ++ 34 ∷ 10 ∷ rest))))
    (kind_starts entry.what.kind is.four is.kind)

rest_stays : (entries : List Entry) → AllByRecursion IsEntry entries → after_lines (flat_map line_text entries) ≡ flat_map line_text entries
rest_stays [] all = refl
rest_stays (entry ∷ entries) all = stays (line_text entry ++ flat_map line_text entries) (line_starts entry (flat_map line_text entries) all.0)

turn : (n : ℕ) (so_far : List Line) (text : List ℕ) → starts text ≡ true → lines_from (suc n) so_far text ≡ (line_at text >>= λ x. lines_from n (so_far ++ x.0 ∷ []) (after_lines x.1))
unfolding lines_from
turn n so_far [] is = absurd (false≢true is)
turn n so_far (byte ∷ text) is = refl

-- lines after those so far
record ReadsLines (n : ℕ) (so_far : List Line) (entries : List Entry) : Type 0 where
  lines : List Line
  read : lines_from n so_far (flat_map line_text entries) ≡ Ok (so_far ++ lines)
  own : texts_of lines ≡ entries

no_lines : (n : ℕ) (so_far : List Line) → lines_from n so_far [] ≡ Ok so_far
unfolding lines_from
no_lines zero so_far = refl
no_lines (suc n) so_far = refl

lines_again : (entries : List Entry) → AllByRecursion IsEntry entries → (n : ℕ) (so_far : List Line) → length entries ≤ n → ReadsLines n so_far entries
lines_again [] all n so_far few = record { lines = []; read = no_lines n so_far ∙ ap (λ (t : List Line). Ok t) (sym (append-nil so_far)); own = refl }
lines_again (entry ∷ entries) all zero so_far few = absurd (omega arith)
lines_again (entry ∷ entries) all (suc n) so_far few =
    let rest : List ℕ = flat_map line_text entries in
    let first = line_again entry rest all.0 in
    let read = first.read in
    let gone = rest_stays entries all.1 in
    let others = lines_again entries all.1 n (so_far ++ first.line ∷ []) (omega arith) in
    record {
      lines = first.line ∷ others.lines;
      read = turn n so_far (line_text entry ++ rest) (line_starts entry rest all.0)
          ∙ rw (read, gone) (others.read ∙ ap (λ (t : List Line). Ok t) (append_assoc so_far (first.line ∷ []) others.lines));
      own = ap (λ (e : Entry). e ∷ texts_of others.lines) first.own ∙ ap (λ (es : List Entry). entry ∷ es) others.own;
    }

some_text : (text : List ℕ) → starts text ≡ true → 0 < length text
some_text [] is = absurd (false≢true is)
some_text (first ∷ text) is = omega arith

line_some : (entry : Entry) → IsEntry entry → 0 < length (line_text entry)
line_some entry is = some_text (line_text entry) (ap starts (sym (append-nil (line_text entry))) ∙ line_starts entry [] is)

few_lines : (entries : List Entry) → AllByRecursion IsEntry entries → length entries ≤ length (flat_map line_text entries)
few_lines [] all = omega arith
few_lines (entry ∷ entries) all =
    let one = line_some entry all.0 in
    let others = few_lines entries all.1 in
    omega (arith, length-append (line_text entry) (flat_map line_text entries))

pub read_again : (entries : List Entry) → AllByRecursion IsEntry entries → (lines : List Line) × (lines_at (flat_map line_text entries) ≡ Ok lines) × (texts_of lines ≡ entries)
unfolding lines_at
read_again entries all =
    let text : List ℕ = flat_map line_text entries in
    let found = lines_again entries all (length text) [] (few_lines entries all) in
    (found.lines, ap (λ (t : List ℕ). lines_from (length text) [] t) (rest_stays entries all) ∙ found.read, found.own)
