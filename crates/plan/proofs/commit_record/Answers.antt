-- `plan::commit_record` meets its contract: the first cause, or the record with the event committed. Assumes nothing.
use Rattle.std.proofs.Common.{refl, ap, arith}
use Rattle.temporal.specs.Plan.{asking}
use Rattle.ticket.specs.Writing.{state_of}
use Rattle.ticket.proofs.Refusals.{number_positive, passed_on}
use Rattle.plan.specs.Returned.{told}
use Rattle.plan.specs.Steps.{commit_refused}
use Rattle.plan.specs.Meets.{meets_refused}
use Rattle.plan.proofs.commit_record.Goals as goal

pub returns-in_err-test_commitment : goal.returns-in_err-test_commitment
returns-in_err-test_commitment c = let a = c.args in
    meets_refused a.out.now (commit_refused (state_of a.r.now) (asking a.caller a.event a.opens a.closes) c.in_err-test_commitment.ensures
    (λ z. omega (arith, number_positive c.in_err-test_commitment.field-0.0, z)))
    (ap told (passed_on c.from_residual.result c.from_residual.ensures.1)) refl
