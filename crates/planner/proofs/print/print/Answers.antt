-- `planner::print::print` meets its contract: what planning refuses is printed as refused, and otherwise the record that it wrote is read and
-- printed. Assumes nothing.
use Rattle.std.specs.Prelude.{◌≡◌, ◌≤◌, Bool, List, ℕ, Result, Ok, length, replicate, take}
use Rattle.std.proofs.Common.{sym, ap, subst, ◌∙◌, arith, rules, length-take-le}
use Rattle.std.proofs.Math.Dec.{T}
use Rattle.temporal.specs.Distance.{consistent}
use Rattle.temporal.specs.Plan.{State}
use Rattle.temporal.specs.Run.{Valid}
use Rattle.ticket.specs.RoundTrip.{Bytes}
use Rattle.ticket.specs.Stored.{stored_state, whole_record}
use Rattle.ticket.proofs.Refusals.{number_positive}
use Rattle.ticket.specs.declared.Record.{Record}
use Rattle.ticket.specs.declared.Refusal.{Refusal}
use Rattle.runs.specs.Calls.{Outcome}
use Rattle.plan.specs.Returned.{Answer, returned, told}
use Rattle.plan.specs.declared.Accepted.{Accepted}
use Rattle.text.specs.Text.{refusal}
use Rattle.text.specs.Stores.{puts_then, puts_as, puts_counts}
use Rattle.planner.specs.Printed.{Said, outcome, printed_refused, printed_planned, said_record, said_ticket, said_text}
use Rattle.planner.proofs.print.print.Goals as goal

-- what planning leaves in output and scratch of zeros
abbrev left : Bool → List ℕ → Outcome
left late ticket = outcome late ticket (replicate 1958 0) (replicate 1824 0)

-- of an accepted planning
module _ (late : Bool) (ticket : List ℕ) (b : Bytes ticket) {r : Result Accepted Refusal} {a : Accepted} (e : r ≡ Ok a) (h : told r ≡ returned (left late ticket)) where
  numbers : told (Ok a) ≡ returned (left late ticket)
  numbers = ap told (sym e) ∙ h

  said : (s : State) × Said late ticket (left late ticket) s
  said = printed_planned late ticket (replicate 1958 0) (replicate 1824 0) b (sym (ap (λ (x : Answer). x.number) numbers))

  length_is : a.length ≡ (left late ticket).length
  length_is = ap (λ (x : Answer). x.length) numbers

  module _ {out : List ℕ} (o : out ≡ (left late ticket).out) where
    within : a.length ≤ length out
    within = omega (arith, said.1.length_fits, length_is, ap length o)

    -- the record that it wrote
    module _ {p : Result Record Refusal} (w : p ≡ whole_record (take a.length out)) where
      read : p ≡ Ok (stored_state said.0)
      read = w ∙ said_record said.1 a.length out length_is o

      read_as : {x : Record} → p ≡ Ok x → x ≡ stored_state said.0
      read_as q = let same = read in cc

pub returns-in-Err : goal.returns-in-Err
returns-in-Err c = let a = c.args in
    let n = ap (λ (x : Answer). x.number) (ap told (sym c.in-Err.is) ∙ c.plan_bytes.ensures.answer_is) in
    let q = puts_as
    (ap refusal (c.number.ensures ∙ n)
    ∙ printed_refused a.latest a.ticket.now (replicate 1958 0) (replicate 1824 0) (λ z. omega (arith, number_positive c.in-Err.refusal, n, z)))
    c.put_refusal.ensures in record { puts = q; prefix_len = puts_counts q }

pub slice_bounds-out-end : goal.slice_bounds-out-end
slice_bounds-out-end c = within c.args.latest c.args.ticket.now (λ i. omega (arith, c.type_inv.ticket i)) c.in-Ok.is c.plan_bytes.ensures.answer_is c.plan_bytes.ensures.output_is

pub slice_bounds-read_record-end : goal.slice_bounds-read_record-end
slice_bounds-read_record-end c = sym (length-take-le _ _
    (within c.args.latest c.args.ticket.now (λ i. omega (arith, c.type_inv.ticket i)) c.in-Ok.is c.plan_bytes.ensures.answer_is c.plan_bytes.ensures.output_is))

pub unwrap-plan-requires : goal.unwrap-plan-requires
unwrap-plan-requires c =
    let e = read c.args.latest c.args.ticket.now (λ i. omega (arith, c.type_inv.ticket i)) c.in-Ok.is c.plan_bytes.ensures.answer_is c.plan_bytes.ensures.output_is
    c.read_record.ensures.value in
    rw e (search rules)

pub put_plan-next-requires : goal.put_plan-next-requires
put_plan-next-requires c = let p = c.plan_bytes.ensures in
    let b : Bytes c.args.ticket.now = λ i. omega (arith, c.type_inv.ticket i) in
    let d = (said c.args.latest c.args.ticket.now b c.in-Ok.is p.answer_is).1 in
    (rw (read_as c.args.latest c.args.ticket.now b c.in-Ok.is p.answer_is p.output_is c.read_record.ensures.value c.unwrap-plan.ensures) d.readable.valid.events_limit, search rules)

pub totals-totals-requires : goal.totals-totals-requires
totals-totals-requires c = let p = c.plan_bytes.ensures in
    let b : Bytes c.args.ticket.now = λ i. omega (arith, c.type_inv.ticket i) in
    let d = (said c.args.latest c.args.ticket.now b c.in-Ok.is p.answer_is).1 in
    let e = sym (said_ticket d c.unwrap-plan.result
    (read_as c.args.latest c.args.ticket.now b c.in-Ok.is p.answer_is p.output_is c.read_record.ensures.value c.unwrap-plan.ensures)) in
    (subst Valid e d.readable.valid, subst (λ k. T (consistent k)) e d.possible)

pub returns : goal.returns
returns c = let p = c.plan_bytes.ensures in
    let b : Bytes c.args.ticket.now = λ i. omega (arith, c.type_inv.ticket i) in
    let d = (said c.args.latest c.args.ticket.now b c.in-Ok.is p.answer_is).1 in
    let q = puts_as
    (said_text d c.unwrap-plan.result c.in-Ok.accepted.total c.totals-totals.result
    (read_as c.args.latest c.args.ticket.now b c.in-Ok.is p.answer_is p.output_is c.read_record.ensures.value c.unwrap-plan.ensures)
    (ap (λ (x : Answer). x.total) (numbers c.args.latest c.args.ticket.now b c.in-Ok.is p.answer_is)) c.totals-totals.ensures)
    (puts_then c.put_plan-next.ensures.puts c.put_totals.ensures.puts) in record {
      puts = q;
      prefix_len = puts_counts q;
    }
