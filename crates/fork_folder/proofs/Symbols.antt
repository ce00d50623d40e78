-- What the folder of a type shows of it, to a file system that has no regard to case.
use Rattle.std.proofs.Common.{◌≡◌, ℕ, suc, ◌+◌, ◌-◌, ◌*◌, ◌<◌, ◌==◌, Bool, true, false, eqb, if◌then◌else◌, List, [], ◌∷◌, ◌++◌, length, take, drop, slice_index, refl, sym, ap, ◌∙◌, append_assoc, arith}
use Rattle.std.specs.Prelude.{nat_le, nat_lt, not, All}
use Rattle.std.proofs.lemmas.Bool.{agree_below_at, eqb-true, ltb-true}
use Rattle.std.proofs.lemmas.List.{drop_at, get_or_append_left, map-append, take_at}
use Rattle.fork_folder.specs.Names.{folded, is_small, small_of, symbol, symbols, turned}

-- how long a symbol is, by its first byte
abbrev pub width : ℕ → ℕ
width first = if first == 126 then 2 else if first == 37 then 3 else 1

-- a hexadecimal digit's value
abbrev pub digit : ℕ → ℕ
digit byte = if nat_le byte 57 then byte - 48 else byte - 87

-- a letter of this case, and else the byte itself
abbrev cased : Bool → ℕ → ℕ
cased small byte = if is_small byte then (if small then byte else byte - 32) else byte

-- the byte of a symbol
abbrev value : Bool → List ℕ → ℕ
value small text =
    let first = slice_index text 0 in
    if first == 126 then cased (not small) (slice_index text 1)
    else if first == 37 then 16 * digit (slice_index text 1) + digit (slice_index text 2)
    else if first == 95 then 32
    else cased small first

pub wide : (small : Bool) (byte : ℕ) → byte < 256 → length (folded (symbol small byte)) ≡ width (slice_index (folded (symbol small byte)) 0)
wide true byte h = eqb-true _ _ (agree_below_at (λ b. eqb (length (folded (symbol true b))) (width (slice_index (folded (symbol true b)) 0))) (λ _. true) 256 byte refl h)
wide false byte h = eqb-true _ _ (agree_below_at (λ b. eqb (length (folded (symbol false b))) (width (slice_index (folded (symbol false b)) 0))) (λ _. true) 256 byte refl h)

worth : (small : Bool) (byte : ℕ) → byte < 256 → value small (folded (symbol small byte)) ≡ byte
worth true byte h = eqb-true _ _ (agree_below_at (λ b. eqb (value true (folded (symbol true b))) b) (λ _. true) 256 byte refl h)
worth false byte h = eqb-true _ _ (agree_below_at (λ b. eqb (value false (folded (symbol false b))) b) (λ _. true) 256 byte refl h)

pub some : (small : Bool) (byte : ℕ) → byte < 256 → 0 < length (folded (symbol small byte))
some true byte h = ltb-true _ _ (agree_below_at (λ b. nat_lt 0 (length (folded (symbol true b)))) (λ _. true) 256 byte refl h)
some false byte h = ltb-true _ _ (agree_below_at (λ b. nat_lt 0 (length (folded (symbol false b)))) (λ _. true) 256 byte refl h)

-- two texts begin with the same symbol where their first bytes say how long it is
pub same_start : (ws vs a b : List ℕ) → 0 < length ws → 0 < length vs → length ws ≡ width (slice_index ws 0) → length vs ≡ width (slice_index vs 0)
    → ws ++ a ≡ vs ++ b → (ws ≡ vs) × (a ≡ b)
same_start ws vs a b hw hv ww wv e =
    let first : slice_index ws 0 ≡ slice_index vs 0 =
    sym (get_or_append_left ws a 0 0 hw) ∙ ap (λ (t : List ℕ). slice_index t 0) e ∙ get_or_append_left vs b 0 0 hv in
    let long : length vs ≡ length ws = wv ∙ ap width (sym first) ∙ sym ww in (
      sym (take_at ws a (length ws) refl) ∙ ap (take (length ws)) e ∙ take_at vs b (length ws) long,
      sym (drop_at ws a (length ws) refl) ∙ ap (drop (length ws)) e ∙ drop_at vs b (length ws) long,
    )

-- the parts of a text of symbols
parts : (small : Bool) (byte : ℕ) (bytes tail : List ℕ)
    → folded (symbols small (byte ∷ bytes)) ++ tail ≡ folded (symbol small byte) ++ (folded (symbols (turned small byte) bytes) ++ tail)
parts small byte bytes tail =
    ap (λ (t : List ℕ). t ++ tail) (map-append small_of (symbol small byte) (symbols (turned small byte) bytes))
    ∙ append_assoc (folded (symbol small byte)) (folded (symbols (turned small byte) bytes)) tail

-- types whose folders begin two texts that are the same are the same, and so is what follows
pub symbols_apart : (small : Bool) (xs ys a b : List ℕ) → All (λ byte. byte < 256) xs → All (λ byte. byte < 256) ys → length xs ≡ length ys
    → folded (symbols small xs) ++ a ≡ folded (symbols small ys) ++ b → (xs ≡ ys) × (a ≡ b)
symbols_apart small [] [] a b hx hy same e = (refl, e)
symbols_apart small [] (y ∷ ys) a b hx hy same e = absurd (omega arith)
symbols_apart small (x ∷ xs) [] a b hx hy same e = absurd (omega arith)
symbols_apart small (x ∷ xs) (y ∷ ys) a b hx hy same e =
    let x_small : x < 256 = hx 0 0 (omega arith) in
    let y_small : y < 256 = hy 0 0 (omega arith) in
    let both = same_start (folded (symbol small x)) (folded (symbol small y)) _ _ (some small x x_small) (some small y y_small) (wide small x x_small) (wide small y y_small)
    (sym (parts small x xs a) ∙ e ∙ parts small y ys b) in
    let byte : x ≡ y = sym (worth small x x_small) ∙ ap (value small) both.0 ∙ worth small y y_small in
    let rest = symbols_apart (turned small x) xs ys a b (λ k d within. hx (suc k) d (omega arith)) (λ k d within. hy (suc k) d (omega arith)) (omega arith)
    (both.1 ∙ ap (λ (n : ℕ). folded (symbols (turned small n) ys) ++ b) (sym byte)) in
    let bytes : xs ≡ ys = rest.0 in
    (let all : x ∷ xs ≡ y ∷ ys = cc in all, rest.1)
