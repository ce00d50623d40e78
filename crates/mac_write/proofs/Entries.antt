-- The entries of a list.
use Rattle.std.proofs.Common.{◌≡◌, ℕ, zero, suc, ◌+◌, List, [], ◌∷◌, ◌++◌, length, map, refl, sym, ap, subst, ◌∙◌, true, false, Bool, None, Some, Option, if◌then◌else◌}
use Rattle.std.specs.Prelude.{find, is_some, unwrap_or, not, ◌&&◌, ◌==◌, ◌≤◌}
use Rattle.std.proofs.lemmas.Bool.{leb-true}
use Rattle.mac_files.specs.declared.part.Part.{Part}
use Rattle.mac_files.specs.Apple.{list_end}
use Rattle.mac_write.specs.Apple.{is_in_the_way, room}
use Rattle.std.proofs.lemmas.List.{append_assoc, append-nil, length-append}
use Rattle.mac_files.specs.declared.fault.Entry.{Entry}
use Rattle.mac_files.specs.Apple.{entries_from, entries_of, entry_count}
use Rattle.mac_write.specs.Apple.{all_entries, entry_text, fork_entry, list_text, listed_fork}

pub length-entries_from : (file : List ℕ) (at count : ℕ) → length (entries_from file at count) ≡ count
length-entries_from file at zero = refl
length-entries_from file at (suc count) = ap suc (length-entries_from file (at + 12) count)

pub length-entries_of : (file : List ℕ) → length (entries_of file) ≡ entry_count file
length-entries_of file = length-entries_from file 26 (entry_count file)

-- the new list, where the resource fork is listed and where it isn't
pub all_listed : (file : List ℕ) → is_some (listed_fork file) ≡ true → all_entries file ≡ entries_of file
all_listed file is = ap (λ (b : Bool). if b then entries_of file else entries_of file ++ fork_entry file ∷ []) is

pub all_added : (file : List ℕ) → is_some (listed_fork file) ≡ false → all_entries file ≡ entries_of file ++ fork_entry file ∷ []
all_added file is = ap (λ (b : Bool). if b then entries_of file else entries_of file ++ fork_entry file ∷ []) is

pub count_listed : (file : List ℕ) → is_some (listed_fork file) ≡ true → length (all_entries file) ≡ entry_count file
count_listed file is = ap length (all_listed file is) ∙ length-entries_of file

pub count_added : (file : List ℕ) → is_some (listed_fork file) ≡ false → length (all_entries file) ≡ entry_count file + 1
count_added file is =
    ap length (all_added file is) ∙ length-append (entries_of file) (fork_entry file ∷ []) ∙ ap (λ (n : ℕ). n + 1) (length-entries_of file)

-- the text of a list, one entry after the other
pub list_more : (f : Entry → Entry) (entries : List Entry) (e : Entry) → list_text (map f (entries ++ e ∷ [])) ≡ list_text (map f entries) ++ entry_text (f e)
list_more f [] e = append-nil (entry_text (f e))
list_more f (first ∷ entries) e =
    ap (λ (xs : List ℕ). entry_text (f first) ++ xs) (list_more f entries e) ∙ sym (append_assoc (entry_text (f first)) (list_text (map f entries)) (entry_text (f e)))

pub entry_added : (f : Entry → Entry) (left rest : List Entry) (e : Entry) (items more whole : List ℕ) → left ≡ e ∷ rest
    → items ++ list_text (map f left) ≡ whole → more ≡ items ++ entry_text (f e) → more ++ list_text (map f rest) ≡ whole
entry_added f left rest e items more whole is all new =
    ap (λ (xs : List ℕ). xs ++ list_text (map f rest)) new ∙ append_assoc items (entry_text (f e)) (list_text (map f rest))
    ∙ ap (λ (es : List Entry). items ++ list_text (map f es)) (sym is) ∙ all

-- none of a list is looked for: neither the first nor one of the others
none_first : {X : Type 0} (q : X → Bool) (x : X) (xs : List X) (b : Bool) → q x ≡ b → (if b then Some x else find q xs) ≡ None → (b ≡ false) × (find q xs ≡ None)
none_first q x xs true is none = (cc, cc)
none_first q x xs false is none = (refl, none)

pub none_of : {X : Type 0} (q : X → Bool) (left xs : List X) (x : X) → left ≡ x ∷ xs → find q left ≡ None → (q x ≡ false) × (find q xs ≡ None)
none_of q left xs x is none = none_first q x xs (q x) refl (subst (λ (ys : List _). find q ys ≡ None) is none)

-- what is found passes its test, and one that none passes
found_first : {X : Type 0} (p q : X → Bool) (x y : X) (xs : List X) (b : Bool) → p x ≡ b → (if b then Some x else find p xs) ≡ Some y
    → find q (x ∷ xs) ≡ None → (find p xs ≡ Some y → find q xs ≡ None → (p y ≡ true) × (q y ≡ false)) → (p y ≡ true) × (q y ≡ false)
found_first p q x y xs true is found none others =
    let same : x ≡ y = cc in
    let first = (none_of q (x ∷ xs) xs x refl none).0 in
    (ap p (sym same) ∙ is, ap q (sym same) ∙ first)
found_first p q x y xs false is found none others = others found (none_of q (x ∷ xs) xs x refl none).1

pub found : {X : Type 0} (p q : X → Bool) (xs : List X) (y : X) → find p xs ≡ Some y → find q xs ≡ None → (p y ≡ true) × (q y ≡ false)
found p q [] y is none = absurd (cc is)
found p q (x ∷ xs) y is none = found_first p q x y xs (p x) refl is none (λ there no. found p q xs y there no)

-- the entry of the fork isn't in the way where none of the list is
kept_by : (file : List ℕ) (o : Option Entry) → listed_fork file ≡ o → find (is_in_the_way file) (entries_of file) ≡ None
    → is_in_the_way file (unwrap_or o (record { at = list_end file; id = 2; part = record { offset = 0; length = 0 } })) ≡ false
kept_by file None is none = refl
kept_by file (Some e) is none = (found (λ (e : Entry). e.id == 2) (is_in_the_way file) (entries_of file) e is none).1

pub fork_kept : (file : List ℕ) → find (is_in_the_way file) (entries_of file) ≡ None → is_in_the_way file (fork_entry file) ≡ false
fork_kept file none = kept_by file (listed_fork file) refl none

apart : (empty after other : Bool) → empty ≡ false → (not empty && not (after && other)) ≡ false → after ≡ true
apart true after other has is = absurd (cc has)
apart false true other has is = refl
apart false false other has is = absurd (cc is)

-- the list ends before the fork
order_by : (file : List ℕ) (b : Bool) → ((fork_entry file).part.length == 0) ≡ b → is_in_the_way file (fork_entry file) ≡ false
    → list_end file ≤ length file → list_end file ≤ (room file).offset
order_by file true is kept within =
    subst (λ (p : Part). list_end file ≤ p.offset) (sym (ap (λ (b : Bool). if b then record { offset = length file; length = 0 } else (fork_entry file).part) is)) within
order_by file false is kept within =
    subst (λ (p : Part). list_end file ≤ p.offset) (sym (ap (λ (b : Bool). if b then record { offset = length file; length = 0 } else (fork_entry file).part) is))
    (leb-true _ _ (apart _ _ _ is kept))

pub order : (file : List ℕ) → find (is_in_the_way file) (entries_of file) ≡ None → list_end file ≤ length file → list_end file ≤ (room file).offset
order file none within = order_by file ((fork_entry file).part.length == 0) refl (fork_kept file none) within
