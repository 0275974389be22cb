-- What a call answers, by its numbers: of an outcome, and of the code's answer.
use Rattle.std.specs.Prelude.{ℕ, Result}
use Rattle.std.specs.Result.{result_unwrap_or}
use Rattle.ticket.specs.Refusal.{answer_number}
use Rattle.ticket.specs.declared.Refusal.{Refusal}
use Rattle.viewing.specs.View.{Outcome}

-- the number of the refusal, 0 when shown; the view's length, 0 when refused
pub record Answer : Type 0 where
  pub number : ℕ
  pub length : ℕ

abbrev pub returned : Outcome → Answer
returned o = record { number = o.number; length = o.length }

abbrev pub told : Result ℕ Refusal → Answer
told a = record { number = answer_number a; length = result_unwrap_or a 0 }
