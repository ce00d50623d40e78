-- The queue of answers, as it is asked.
use Rattle.std.proofs.Common.{◌≡◌, ◌<◌, ◌+◌, ℕ, List, [], ◌∷◌, ◌++◌, length, take, get_or, Option, Some, None, refl, sym, ap, ◌∙◌, append_assoc}
use Rattle.std.specs.Prelude.{IfNone, IfSome, option_map}
use Rattle.std.proofs.lemmas.List.{append-nil, take_more}
use Rattle.std.proofs.lemmas.List.Elements.{filter_map-append}
use Rattle.mac_base.specs.declared.error.OsErr.{OsErr}
use Rattle.mac_base.specs.declared.releasing.ReleasingCall.{ReleasingCall}
use Rattle.mac_base.specs.declared.grow_zone.Asked.{Asked}
use Rattle.mac_base.specs.GrowZone.{Answer, Ask, answered, answers_in, new_ask, noted}
use Rattle.held_calls.specs.Answers.{taken}

-- the front answer is given
taken-front : (asks : List Ask) (needed : ℕ) (answer : Answer) (old left : List Answer) → old ≡ answer ∷ left → taken (asks ++ new_ask needed (Some answer) ∷ []) left ≡ taken asks old
taken-front asks needed answer old left is =
    ap (λ (front : List Answer). front ++ left) (filter_map-append (λ (a : Ask). a.answer) asks (new_ask needed (Some answer) ∷ []))
    ∙ append_assoc (answers_in asks) (answer ∷ []) left
    ∙ ap (λ (rest : List Answer). answers_in asks ++ rest) (sym is)

-- none is given
taken-none : (asks : List Ask) (needed : ℕ) (left : List Answer) → taken (asks ++ new_ask needed None ∷ []) left ≡ taken asks left
taken-none asks needed left = ap (λ (front : List Answer). front ++ left) (filter_map-append (λ (a : Ask). a.answer) asks (new_ask needed None ∷ []) ∙ append-nil (answers_in asks))

-- what the next ask gets comes from the front, or none is left
pub taken-asked : (o : Option Answer) (asks : List Ask) (needed : ℕ) (old left : List Answer) → IfSome o (λ answer. old ≡ answer ∷ left) → IfNone o (old ≡ []) → IfNone o (left ≡ []) → taken (asks ++ new_ask needed o ∷ []) left ≡ taken asks old
taken-asked (Some answer) asks needed old left front none stays = taken-front asks needed answer old left front
taken-asked None asks needed old left front none stays = taken-none asks needed left ∙ ap (λ (rest : List Answer). taken asks rest) (stays ∙ sym none)

-- and is noted there
pub noted-last : (call : ReleasingCall) (code : Option OsErr) (asks : List Ask) (a : Ask) → noted call code (asks ++ a ∷ []) ≡ asks ++ noted call code (a ∷ [])
noted-last call code [] a = refl
noted-last call code (x ∷ []) a = refl
noted-last call code (x ∷ y ∷ asks) a = ap (λ (xs : List Ask). x ∷ xs) (noted-last call code (y ∷ asks) a)

-- the answers stay those that were given
pub noted-answers : (call : ReleasingCall) (code : Option OsErr) (asks : List Ask) → answers_in (noted call code asks) ≡ answers_in asks
noted-answers call code [] = refl
noted-answers call code (a ∷ []) = refl
noted-answers call code (a ∷ b ∷ asks) = following a.answer (noted-answers call code (b ∷ asks))
  where
    following : (o : Option Answer) → answers_in (noted call code (b ∷ asks)) ≡ answers_in (b ∷ asks) → answers_in (record a { answer = o } ∷ noted call code (b ∷ asks)) ≡ answers_in (record a { answer = o } ∷ b ∷ asks)
    following (Some x) same = ap (λ (xs : List Answer). x ∷ xs) same
    following None same = same

-- the asks with the last of them noted anew
pub noted-back : (call : ReleasingCall) (code : Option OsErr) (asks front : List Ask) (ask new : Ask) → asks ≡ front ++ ask ∷ [] → new ∷ [] ≡ noted call code (ask ∷ []) → front ++ new ∷ [] ≡ noted call code asks
noted-back call code asks front ask new parts is = ap (λ (back : List Ask). front ++ back) is ∙ sym (noted-last call code front ask) ∙ ap (λ (xs : List Ask). noted call code xs) (sym parts)

-- what is reported of some asks, with one more of them
pub told-more : (asks : List Ask) (i : ℕ) (ask item : Ask) (before after : List Asked) → i < length asks → item ≡ get_or asks i item → ask ≡ item → before ≡ answered (take i asks) → after ≡ before ++ answered (ask ∷ []) → after ≡ answered (take (i + 1) asks)
told-more asks i ask item before after less at same told more =
    more
    ∙ ap (λ (front : List Asked). front ++ answered (ask ∷ [])) told
    ∙ ap (λ (a : Ask). answered (take i asks) ++ answered (a ∷ [])) (same ∙ at)
    ∙ sym (filter_map-append (λ (a : Ask). option_map (λ (answer : Answer). record { needed = a.needed; value = answer.value }) a.answer) (take i asks) (get_or asks i item ∷ []))
    ∙ ap answered (sym (take_more asks i item less))
