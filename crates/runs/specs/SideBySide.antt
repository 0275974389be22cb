-- Two runs side by side (02, change 12): each call of the second is a call of the first, turned in some way, and each of its records holds an image of what the
-- first's holds. What the image is, is left open: `renumbering` has the events under other numbers, `scaling` every time multiplied. Where `Carries` holds of it,
-- `side_by_side` holds from any two records, and `plans_side_by_side` and `latest_side_by_side` from two tickets. Rests on `run`.
use Rattle.std.specs.Prelude.{◌≡◌, List, [], ◌∷◌, ◌≢◌, ℕ}
use Rattle.temporal.specs.Ticket.{Ticket, total}
use Rattle.temporal.specs.Plan.{State, Answer, refused, accepted, commit}
use Rattle.temporal.specs.Run.{Readable}
use Rattle.ticket.specs.Format.{state_size}
use Rattle.runs.specs.Calls.{Outcome}
use Rattle.runs.specs.Run.{Call, asks, outcome, written, Holds}

-- ---- what is claimed

-- the answer with the image of what is kept; a refusal's number stays
abbrev pub image_answer : (State → State) → Answer → Answer
image_answer image (refused r) = refused r
image_answer image (accepted s) = accepted (image s)

-- what two calls return: the same number and length, and the second the first's total as `times` says
pub record Returned (times : ℕ → ℕ) (o o' : Outcome) : Type 0 where
  pub number : o'.number ≡ o.number
  pub length : o'.length ≡ o.length
  pub total : o'.total ≡ times o.total

module _ (image : State → State) (turned : Call → Call) (times : ℕ → ℕ) where
  -- what two records hold
  abbrev pub Both : (current current' : List ℕ) → State → Type 0
  Both current current' now = Holds current now × Holds current' (image now)

  -- of a place in both runs, and of every place to which the calls still to come lead: after two that are refused the records are as they were, after two
  -- that are accepted they are what was written
  abbrev pub SideBySide : (current current' : List ℕ) → State → List Call → Type 0
  SideBySide current current' now [] = Both current current' now
  SideBySide current current' now (c ∷ cs) =
      Both current current' now
      × Returned times (outcome current c) (outcome current' (turned c))
      × ((outcome current c).number ≢ 0 → SideBySide current current' now cs)
      × ((outcome current c).number ≡ 0
      → (next : State) × SideBySide (written (outcome current c)) (written (outcome current' (turned c))) next cs)

  -- the same from two plans on
  pub record PlannedSideBySide (o o' : Outcome) (cs : List Call) : Type 0 where
    pub returned : Returned times o o'
    pub kept : o.number ≡ 0 → (s : State) × SideBySide (written o) (written o') s cs

-- ---- what is asked of the image, for the states of the ticket k that reading does not refuse

pub record Carries (k : Ticket) (image : State → State) (turned : Call → Call) (times : ℕ → ℕ) : Type 0 where
  pub reads : (s : State) → s.ticket ≡ k → Readable s → Readable (image s)
  pub sizes : (s : State) → s.ticket ≡ k → Readable s → state_size (image s) ≡ state_size s
  pub totals : (s : State) → s.ticket ≡ k → Readable s → total (image s).ticket (image s).windows ≡ times (total s.ticket s.windows)
  pub commits : (s : State) → s.ticket ≡ k → Readable s → (c : Call) → commit (image s) (asks (turned c)) ≡ image_answer image (commit s (asks c))
  pub nothing : times 0 ≡ 0
