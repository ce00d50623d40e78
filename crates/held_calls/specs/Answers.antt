-- The answers of the grow-zone procedure that wait for a call, and what the last call asked.
use Rattle.std.specs.Prelude.{◌≡◌, ◌⊎◌, ◌≤◌, ◌++◌, List, [], ◌∷◌, length, Option, Some, None, IsTrue, is_some, ⊤}
use Rattle.std.specs.List.{list_all}
use Rattle.mac_base.specs.GrowZone.{Answer, Ask, answers_in}

-- the answers that are left, and the asks of the last call
pub record Queue : Type 0 where
  pub left : List Answer
  pub asks : List Ask

-- no answers, and nothing was asked
abbrev pub no_answers : Queue
no_answers = record { left = []; asks = [] }

-- one more answer waits after the others, and nothing was asked
abbrev pub waits : Answer → Queue → Queue
waits answer q = record { left = q.left ++ answer ∷ []; asks = [] }

-- the answers that there were before these asks
abbrev pub taken : List Ask → List Answer → List Answer
taken asks left = answers_in asks ++ left

-- an ask that got no answer found none left
abbrev pub OutOfAnswers : List Ask → List Answer → Type 0
OutOfAnswers asks left = IsTrue (list_all (λ (a : Ask). is_some a.answer) asks) ⊎ (left ≡ [])

-- an answer, if there is one, has 8 calls at most
abbrev pub HasFewCalls : Option Answer → Type 0
HasFewCalls None = ⊤
HasFewCalls (Some answer) = length answer.calls ≤ 8
