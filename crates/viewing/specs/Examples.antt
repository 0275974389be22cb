-- The definitions at work on P1's and P2's records of 01, as one table on bytes: a record, a caller and what it is answered, whatever output of 402 bytes or more
-- is lent (`views_hold`). And a second record that is another to the database and the same to the camera (`camera_same`).
use Rattle.std.specs.Prelude.{◌≡◌, true, false, List, [], ◌∷◌, ◌++◌, ℕ, ◌≤◌, length}
use Rattle.temporal.specs.Ticket.{Ticket}
use Rattle.temporal.specs.Plan.{State}
use Rattle.temporal.specs.Examples as states
use Rattle.temporal.specs.Examples.{span, state}
use Rattle.runs.specs.Examples.{two, four, window, five, record1, ended1, unfit1}
use Rattle.viewing.specs.View.{Outcome, refusing, showing, viewing}

-- ---- how an example is written

-- a refusal's number, or the bytes written
pub data Reply : Type 0 where
  refuses : ℕ → Reply
  shows : List ℕ → Reply

abbrev pub expected : Reply → List ℕ → Outcome
expected (refuses r) out = refusing r out
expected (shows written) out = showing written out

pub record Example : Type 0 where
  pub given : List ℕ
  pub caller : ℕ
  pub reply : Reply

abbrev pub example : (given : List ℕ) (caller : ℕ) → Reply → Example
example given caller reply = record { given = given; caller = caller; reply = reply }

abbrev pub Holds : Example → Type 0
Holds x = (out : List ℕ) → 402 ≤ length out → viewing x.given x.caller out ≡ expected x.reply out

-- ---- the records

-- P2's: the camera has committed event 1 to 10..10
abbrev pub record2 : List ℕ
record2 = ended1 (five 1 0 0 0 0)

-- another than P1's: the horizon, the rules, the other events, their owners, windows and flags, and the other counts
abbrev pub other1 : List ℕ
other1 = four 30 ++ (two 3 ++ (0 ∷ 4 ∷ 3 ∷ (two 0 ++ (two 3 ++ (window 0 5 11 ++ (window 0 0 30 ++ (window 1 7 7 ++ five 0 9 9 9 9)))))))

-- ---- the table

-- P1's record to all five; P2's; the other; then the refusals: 19, before the record is read; 1; and 15, also to a device without events
abbrev pub views : List Example
views =
    example record1 0 (shows (two 1 ++ (1 ∷ window 0 5 11)))
    ∷ example record1 1 (shows (two 0))
    ∷ example record1 2 (shows (two 1 ++ (2 ∷ window 0 9 9)))
    ∷ example record1 3 (shows (two 0))
    ∷ example record1 4 (shows (two 2 ++ ((1 ∷ window 0 5 11) ++ (2 ∷ window 0 9 9))))
    ∷ example record2 0 (shows (two 1 ++ (1 ∷ window 1 10 10)))
    ∷ example record2 2 (shows (two 1 ++ (2 ∷ window 0 8 14)))
    ∷ example other1 0 (shows (two 1 ++ (1 ∷ window 0 5 11)))
    ∷ example other1 4 (shows (two 3 ++ ((1 ∷ window 0 5 11) ++ ((2 ∷ window 0 0 30) ++ (3 ∷ window 1 7 7)))))
    ∷ example record1 5 (refuses 19)
    ∷ example [] 5 (refuses 19)
    ∷ example [] 4 (refuses 1)
    ∷ example unfit1 0 (refuses 15)
    ∷ example unfit1 3 (refuses 15)
    ∷ []

infixr 2 ◌and◌
pub ◌and◌ : {A B : Type 0} → A → B → A × B
◌and◌ a b = (a, b)

-- ---- the same to the camera

-- what the other record holds
abbrev pub ticket2 : Ticket
ticket2 = record { horizon = 30; owners = 0 ∷ 4 ∷ 3 ∷ []; rules = [] }

abbrev pub other : State
other = state ticket2 (span 5 11 ∷ span 0 30 ∷ span 7 7 ∷ []) (false ∷ false ∷ true ∷ []) (states.five 0 9 9 9 9)
