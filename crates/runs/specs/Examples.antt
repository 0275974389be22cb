-- The examples P1 to P10 of 01, and P1's latest plan (02, change 1), as one table: a call, and what it answers and leaves, whatever output and scratch of
-- sufficient length it is lent. A second table has P1's event 1 narrowed again (02, change 4), a third
-- the counts of its two devices (02, change 5), a fourth P4 and P10 with other owners (02, change 7).
-- What is decided of the tickets and records is `temporal`'s Examples; here the bytes are read and written.
use Rattle.std.specs.Prelude.{◌≡◌, true, List, [], ◌∷◌, ◌++◌, ℕ, ◌-◌, ◌≤◌, ℤ, pos, length, drop}
use Rattle.temporal.specs.Ticket.{Rule}
use Rattle.temporal.specs.Table.{table_of}
use Rattle.temporal.specs.Examples.{minus as negative, ticket1}
use Rattle.ticket.specs.Writing.{over}
use Rattle.runs.specs.Calls.{Outcome, room, cleared, refusing}
use Rattle.runs.specs.Calls.{planning, planning_latest, committing}

-- ---- how an example is written

pub data Call : Type 0 where
  tables : (horizon events : ℕ) (rules : List Rule) → Call
  plans : (ticket : List ℕ) → Call
  plans_latest : (ticket : List ℕ) → Call
  commits : (given : List ℕ) (caller event opens closes : ℕ) → Call

-- a refusal's number, or the bytes written and the total returned
pub data Reply : Type 0 where
  refuses : ℕ → Reply
  writes : (written : List ℕ) (total : ℕ) → Reply

-- what is said of a call: of the table its rows, one after the other
abbrev pub Said : Call → Type 0
Said (tables horizon events rules) = List ℤ
Said (plans ticket) = Reply
Said (plans_latest ticket) = Reply
Said (commits given caller event opens closes) = Reply

abbrev pub expected : Reply → List ℕ → List ℕ → Outcome
expected (refuses r) out scratch = refusing r out scratch
expected (writes written t) out scratch = record { number = 0; length = length written; total = t; out = over written out; scratch = cleared scratch }

-- the call answers that: the table to any output of at least 1,681 numbers, 0 and the rows first in it, and beyond them it is as it was
abbrev pub Answers : (c : Call) → Said c → Type 0
Answers (tables horizon events rules) rows = (out : List ℤ) → 1681 ≤ length out → table_of horizon events rules out ≡ (0, rows ++ drop (length rows) out)
Answers (plans ticket) r = (out scratch : List ℕ) → room out scratch ≡ true → planning ticket out scratch ≡ expected r out scratch
Answers (plans_latest ticket) r = (out scratch : List ℕ) → room out scratch ≡ true → planning_latest ticket out scratch ≡ expected r out scratch
Answers (commits given caller event opens closes) r =
    (out scratch : List ℕ) → room out scratch ≡ true → committing given caller event opens closes out scratch ≡ expected r out scratch

-- one row: the number of the example in 01, the call, what it answers
pub record Example : Type 0 where
  pub paper : ℕ
  pub call : Call
  pub said : Said call

abbrev pub example : ℕ → (c : Call) → Said c → Example
example n c r = record { paper = n; call = c; said = r }

abbrev pub Holds : Example → Type 0
Holds e = Answers e.call e.said

-- ---- the bytes

-- a number below 256 in two bytes and in four
abbrev pub two : ℕ → List ℕ
two n = n ∷ 0 ∷ []

abbrev pub four : ℕ → List ℕ
four n = n ∷ 0 ∷ 0 ∷ 0 ∷ []

-- "i to j: c", and "i to j: -c"
abbrev pub rule : ℕ → ℕ → ℕ → List ℕ
rule i j c = i ∷ j ∷ four c

abbrev pub minus : ℕ → ℕ → ℕ → List ℕ
minus i j c = i ∷ j ∷ (256 - c) ∷ 255 ∷ 255 ∷ 255 ∷ []

-- a flag with its window
abbrev pub window : ℕ → ℕ → ℕ → List ℕ
window flag opens closes = flag ∷ (four opens ++ four closes)

-- the section of counts: how many, and the counts in owner order
abbrev pub five : ℕ → ℕ → ℕ → ℕ → ℕ → List ℕ
five camera wheel lamps stage database = two 5 ++ (two camera ++ (two wheel ++ (two lamps ++ (two stage ++ two database))))

abbrev pub none : List ℕ
none = five 0 0 0 0 0

abbrev pub bytes1 : List ℕ
bytes1 =
    four 20 ++ (two 2 ++ (0 ∷ 2 ∷ (two 6
    ++ (rule 0 1 15 ++ (minus 1 0 5 ++ (rule 0 2 20 ++ (minus 2 0 8 ++ (rule 1 2 4 ++ rule 2 1 2))))))))

abbrev pub record1 : List ℕ
record1 = bytes1 ++ (two 2 ++ (window 0 5 11 ++ (window 0 9 9 ++ none)))

-- P1's latest plan
abbrev pub latest1 : List ℕ
latest1 = bytes1 ++ (two 2 ++ (window 0 9 15 ++ (window 0 13 13 ++ none)))

-- the record that P3 commits on
abbrev pub record3 : List ℕ
record3 = bytes1 ++ (two 2 ++ (window 0 15 15 ++ (window 0 13 19 ++ none)))

abbrev pub by_owners4 : ℕ → ℕ → ℕ → List ℕ
by_owners4 a b c = four 5 ++ (two 3 ++ (a ∷ b ∷ c ∷ (two 2 ++ (rule 1 2 0 ++ rule 2 3 0))))

abbrev pub bytes4 : List ℕ
bytes4 = by_owners4 3 3 3

abbrev pub record4 : List ℕ
record4 = bytes4 ++ (two 3 ++ (window 0 0 5 ++ (window 0 0 0 ++ (window 0 0 0 ++ none))))

abbrev pub bytes6 : ℕ → List ℕ
bytes6 c = four 10 ++ (two 2 ++ (3 ∷ 3 ∷ (two 2 ++ (minus 1 2 1 ++ rule 2 1 c))))

abbrev pub bytes7 : ℕ → List ℕ
bytes7 c = four 10 ++ (two 1 ++ (3 ∷ (two 1 ++ minus 1 0 c)))

abbrev pub bytes8 : List ℕ
bytes8 = four 0 ++ (two 0 ++ two 0)

abbrev pub by_owners10 : ℕ → ℕ → List ℕ
by_owners10 a b = four 5 ++ (two 2 ++ (a ∷ b ∷ two 0))

abbrev pub bytes10 : List ℕ
bytes10 = by_owners10 3 3

-- ---- the table

abbrev pub examples : List Example
examples =
    example 1 (tables 20 2 ticket1.rules)
    ((pos 0 ∷ pos 15 ∷ pos 19 ∷ []) ++ ((negative 5 ∷ pos 0 ∷ pos 4 ∷ []) ++ (negative 8 ∷ pos 2 ∷ pos 0 ∷ [])))
    ∷ example 1 (plans bytes1) (writes record1 18)
    ∷ example 1 (plans_latest bytes1) (writes latest1 18)
    ∷ example 2 (commits record1 0 1 10 10) (writes (bytes1 ++ (two 2 ++ (window 1 10 10 ++ (window 0 8 14 ++ five 1 0 0 0 0)))) 6)
    ∷ example 3 (commits record3 2 2 13 13) (writes (bytes1 ++ (two 2 ++ (window 0 9 15 ++ (window 1 13 13 ++ five 0 0 1 0 0)))) 18)
    ∷ example 4 (plans bytes4) (writes record4 5)
    ∷ example 5 (commits record4 3 1 2 2) (writes (bytes4 ++ (two 3 ++ (window 1 2 2 ++ (window 0 0 2 ++ (window 0 0 0 ++ five 0 0 0 1 0))))) 2)
    ∷ example 6 (plans (bytes6 1)) (writes (bytes6 1 ++ (two 2 ++ (window 0 1 1 ++ (window 0 0 0 ++ none)))) 0)
    ∷ example 6 (plans (bytes6 0)) (refuses 9)
    ∷ example 7 (plans (bytes7 10)) (writes (bytes7 10 ++ (two 1 ++ (window 0 10 10 ++ none))) 0)
    ∷ example 7 (plans (bytes7 11)) (refuses 9)
    ∷ example 8 (plans bytes8) (writes (bytes8 ++ (two 0 ++ none)) 0)
    ∷ example 9 (plans []) (refuses 1)
    ∷ example 10 (plans bytes10) (writes (bytes10 ++ (two 2 ++ (window 0 0 5 ++ (window 0 0 5 ++ none)))) 10)
    ∷ []

-- ---- narrowing again (02, change 4): P1's plan, then event 1 committed to 6..10, to 10..10, and on

-- event 1 committed to 6..10
abbrev pub narrowed1 : List ℕ
narrowed1 = bytes1 ++ (two 2 ++ (window 1 6 10 ++ (window 0 8 10 ++ five 1 0 0 0 0)))

-- event 1 committed to the tick 10, with these bytes after the windows; and with these counts of camera and lamps
abbrev pub ended1 : List ℕ → List ℕ
ended1 end = bytes1 ++ (two 2 ++ (window 1 10 10 ++ (window 0 8 14 ++ end)))

abbrev pub ticked1 : List ℕ → List ℕ → List ℕ
ticked1 camera lamps = ended1 (two 5 ++ (camera ++ (two 0 ++ (lamps ++ (two 0 ++ two 0)))))

-- the greatest count, and the one below
abbrev pub most : List ℕ
most = 255 ∷ 255 ∷ []

abbrev pub below_most : List ℕ
below_most = 254 ∷ 255 ∷ []

abbrev pub narrowings : List Example
narrowings =
    example 1 (commits record1 0 1 6 10) (writes narrowed1 14)
    ∷ example 1 (commits narrowed1 0 1 10 10) (writes (ticked1 (two 2) (two 0)) 6)
    ∷ example 1 (commits (ticked1 (two 2) (two 0)) 0 1 10 10) (writes (ticked1 (two 3) (two 0)) 6)
    ∷ example 1 (commits (ticked1 (two 2) (two 0)) 0 1 6 10) (refuses 13)
    ∷ example 1 (commits (ticked1 below_most (two 0)) 0 1 10 10) (writes (ticked1 most (two 0)) 6)
    ∷ example 1 (commits (ticked1 most (two 0)) 0 1 10 10) (refuses 18)
    ∷ example 1 (commits (ticked1 most (two 0)) 0 1 6 10) (refuses 13)
    ∷ []

-- ---- one count for each device (02, change 5): event 1 of the camera is committed, event 2 is the lamps'

-- both events committed to a tick, with this count of the camera
abbrev pub both1 : List ℕ → List ℕ
both1 camera = bytes1 ++ (two 2 ++ (window 1 10 10 ++ (window 1 14 14 ++ (two 5 ++ (camera ++ (two 0 ++ (two 1 ++ (two 0 ++ two 0))))))))

abbrev pub countings : List Example
countings =
    example 1 (commits (ticked1 (two 0) (two 1)) 2 2 14 14) (refuses 14)
    ∷ example 1 (commits (ended1 (two 5 ++ two 0)) 2 2 14 14) (refuses 14)
    ∷ example 1 (commits (ended1 (two 5 ++ two 1)) 2 2 14 14) (refuses 1)
    ∷ example 1 (commits (ended1 (two 1)) 2 2 14 14) (refuses 14)
    ∷ example 1 (commits (ended1 (two 5)) 2 2 14 14) (refuses 1)
    ∷ example 1 (commits (ticked1 most (two 0)) 2 2 14 14) (writes (both1 most) 0)
    ∷ []

-- ---- weights (02, change 7): P4 and P10 with other owners

-- of three owners, and of two
-- the database has 1..3
abbrev pub record10 : List ℕ
record10 = by_owners10 0 4 ++ (two 2 ++ (window 0 0 5 ++ (window 0 1 3 ++ none)))

abbrev pub weighings : List Example
weighings =
    example 4 (plans (by_owners4 3 0 3)) (writes (by_owners4 3 0 3 ++ (two 3 ++ (window 0 5 5 ++ (window 0 0 5 ++ (window 0 0 0 ++ none))))) 15)
    ∷ example 4 (plans (by_owners4 4 4 4)) (writes (by_owners4 4 4 4 ++ (two 3 ++ (window 0 0 0 ++ (window 0 0 0 ++ (window 0 0 0 ++ none))))) 0)
    ∷ example 10 (plans (by_owners10 0 4)) (writes (by_owners10 0 4 ++ (two 2 ++ (window 0 0 5 ++ (window 0 0 0 ++ none)))) 15)
    ∷ example 10 (commits record10 0 1 2 2) (writes (by_owners10 0 4 ++ (two 2 ++ (window 1 2 2 ++ (window 0 0 3 ++ five 1 0 0 0 0)))) 0)
    ∷ []

-- ---- callers (02, change 11): who is refused P1's events

-- P1's ticket with windows that are not fit
abbrev pub unfit1 : List ℕ
unfit1 = bytes1 ++ (two 2 ++ (window 0 5 11 ++ (window 0 8 14 ++ none)))

-- the lamps' event, asked for by the camera, inside its window and not; the camera's, asked for by the database; no such event, twice; a caller that is no
-- device, before the record is read, and a caller that is one; 15 before 20; 20 before 18
abbrev pub callings : List Example
callings =
    example 1 (commits record1 0 2 9 9) (refuses 20)
    ∷ example 1 (commits record1 0 2 0 20) (refuses 20)
    ∷ example 1 (commits record1 4 1 10 10) (refuses 20)
    ∷ example 1 (commits record1 0 0 0 0) (refuses 20)
    ∷ example 1 (commits record1 0 3 10 10) (refuses 20)
    ∷ example 1 (commits record1 5 1 10 10) (refuses 19)
    ∷ example 1 (commits [] 5 1 10 10) (refuses 19)
    ∷ example 1 (commits [] 4 1 10 10) (refuses 1)
    ∷ example 1 (commits unfit1 0 2 9 9) (refuses 15)
    ∷ example 1 (commits (ticked1 most (two 0)) 2 1 10 10) (refuses 20)
    ∷ []

infixr 2 ◌and◌
pub ◌and◌ : {A B : Type 0} → A → B → A × B
◌and◌ a b = (a, b)
