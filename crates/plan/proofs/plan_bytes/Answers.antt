-- `plan::plan_bytes` meets its contract: a refused reading answers its number, and what was read is planned. Assumes nothing.
use Rattle.std.proofs.Common.{refl, rules, sym, ◌∙◌}
use Rattle.temporal.specs.Plan.{plan_for}
use Rattle.ticket.proofs.Content.{read_valid}
use Rattle.plan.specs.Meets.{ticket_misread, ticket_meets}
use Rattle.plan.proofs.plan_bytes.Goals as goal

pub returns-in-Err : goal.returns-in-Err
returns-in-Err c = ticket_misread c.args.ticket.now (plan_for c.args.latest) (sym c.in-Err.is ∙ c.read-read.ensures) refl

pub plan_ticket-requires : goal.plan_ticket-requires
plan_ticket-requires c = record {
  valid = read_valid c.args.ticket.now (sym c.in-Ok.is ∙ c.read-read.ensures) (λ i. search rules);
  in_bounds = c.requires;
}

pub returns-in-Ok : goal.returns-in-Ok
returns-in-Ok c = ticket_meets c.args.ticket.now (sym c.in-Ok.is ∙ c.read-read.ensures) (plan_for c.args.latest) c.args.out.now c.plan_ticket.ensures
