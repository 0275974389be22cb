-- What a call answers, by its numbers: of an outcome, and of the code's answer.
use Rattle.std.specs.Prelude.{ℕ, Result, Ok, Err}
use Rattle.ticket.specs.Refusal.{answer_number}
use Rattle.ticket.specs.declared.Refusal.{Refusal}
use Rattle.runs.specs.Calls.{Outcome}
use Rattle.plan.specs.declared.Accepted.{Accepted}

-- the number of the refusal, 0 when accepted; the record's length and its total width, 0 when refused
pub record Answer : Type 0 where
  pub number : ℕ
  pub length : ℕ
  pub total : ℕ

abbrev pub returned : Outcome → Answer
returned o = record { number = o.number; length = o.length; total = o.total }

abbrev length_of : Result Accepted Refusal → ℕ
length_of (Ok x) = x.length
length_of (Err r) = 0

abbrev total_of : Result Accepted Refusal → ℕ
total_of (Ok x) = x.total
total_of (Err r) = 0

abbrev pub told : Result Accepted Refusal → Answer
told a = record { number = answer_number a; length = length_of a; total = total_of a }
