-- Why a call is refused, as the code answers it: the number of each refusal ("Where an answer is an enum, a definition gives this paper's number .. for each of the
-- enum's cases": 01, "Language forms"; the numbers are those of 01 and 02), the refusal for each cause of the parsers, and what a reading or a test answers.
use Rattle.std.specs.Prelude.{ℕ, Result, Ok, Err}
use Rattle.ticket.specs.Parser.{Cause, short, horizon, events, owner, rules, points, bound, trailing, room, layout, Out, got, refused}
use Rattle.ticket.specs.declared.Refusal.{Refusal}
use Rattle.ticket.specs.declared.Refusal.TheVariants.{Short, Horizon, Events, Owner, Rules, Points, Bound, Trailing, Impossible, Room, Outside, Layout, Unfit, Names, Possible, Full, Caller, Foreign}

-- The number of a refusal.
abbrev pub number_of : Refusal → ℕ
number_of Short = 1
number_of Horizon = 2
number_of Events = 3
number_of Owner = 4
number_of Rules = 5
number_of Points = 6
number_of Bound = 7
number_of Trailing = 8
number_of Impossible = 9
number_of Room = 10
number_of Outside = 13
number_of Layout = 14
number_of Unfit = 15
number_of Names = 16
number_of Possible = 17
number_of Full = 18
number_of Caller = 19
number_of Foreign = 20

-- The refusal for a cause.
abbrev pub refusal : Cause → Refusal
refusal short = Short
refusal horizon = Horizon
refusal events = Events
refusal owner = Owner
refusal rules = Rules
refusal points = Points
refusal bound = Bound
refusal trailing = Trailing
refusal room = Room
refusal layout = Layout

-- What a reading answers: of the value that was got f, or the refusal.
abbrev pub answer : {A B : Type 0} → (A → B) → Out A → Result B Refusal
answer f (got x s) = Ok (f x)
answer f (refused k) = Err (refusal k)

-- What a test answers.
abbrev pub tested : Out (Unit {0}) → Result (Unit {0}) Refusal
tested o = answer (λ x. x) o

-- The number that a call answers: 0 where it is accepted.
abbrev pub answer_number : {A : Type 0} → Result A Refusal → ℕ
answer_number (Ok x) = 0
answer_number (Err e) = number_of e
