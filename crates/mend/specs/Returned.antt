-- What a call answers, by its numbers: of an outcome, and of the code's answer.
use Rattle.std.specs.Prelude.{ℕ, Result, Ok, Err}
use Rattle.ticket.specs.Refusal.{answer_number}
use Rattle.ticket.specs.declared.Refusal.{Refusal}
use Rattle.mending.specs.Mending.{Outcome}
use Rattle.mend.specs.declared.Lengths.{Lengths}

-- the number of the refusal, 0 when the ticket is mended; the lengths of the mended ticket and of the list, 0 when refused
pub record Answer : Type 0 where
  pub number : ℕ
  pub length : ℕ
  pub listed : ℕ

abbrev pub returned : Outcome → Answer
returned o = record { number = o.number; length = o.length; listed = o.listed }

abbrev length_of : Result Lengths Refusal → ℕ
length_of (Ok x) = x.length
length_of (Err r) = 0

abbrev listed_of : Result Lengths Refusal → ℕ
listed_of (Ok x) = x.listed
listed_of (Err r) = 0

abbrev pub told : Result Lengths Refusal → Answer
told a = record { number = answer_number a; length = length_of a; listed = listed_of a }
