-- `writing::write_ticket` meets its contract. Each refusal is one stage of the writing. Assumes nothing.
use Prim.Native.Nat.{◌+◌, ◌*◌, ◌≤◌}
use mathlib.Core.Path.{◌≡◌, sym, ap, ◌∙◌}
use mathlib.Core.List.{[]}
use native.Mathlib.Omega.{arith}
use lib.ListN.{length}
use Rattle.std.specs.Prelude.{Ok}
use Rattle.std.proofs.lemmas.Result.{err_from_is_err_and}
use Rattle.ticket.specs.Parser.{got}
use Rattle.ticket.specs.Refusal.{answer}
use Rattle.ticket.specs.Writer.{write_ticket}
use Rattle.ticket.specs.Writing.{owner_in, rule_in, content, test_ticket, left}
use Rattle.ticket.proofs.RoundTrip.{length_ticket}
use Rattle.ticket.proofs.Sizes.{ticket_bytes}
use Rattle.ticket.proofs.Refusals.{was_err, test_passed}
use Rattle.ticket.proofs.WritingLaws.{left_refused, ticket_fixed, length_firsts}
use Rattle.ticket.proofs.WriteStages.{no_room, test_fails, test_passes}
use Rattle.ticket.proofs.Agree.{tested_valid}
use Rattle.temporal.specs.Run.{Valid}
use Rattle.writing.specs.Stores.{sets_over}
use Rattle.writing.proofs.write_ticket.Goals as goal
use Rattle.writing.proofs.write_ticket.Goals.{In_ok-test_ticket}

-- The tests are passed.
passed : (c : In_ok-test_ticket) → test_ticket c.args.t [] ≡ got tt []
passed c = let t = c.args.t in
    test_passed (test_ticket t) (ticket_fixed t) [] (sym c.in_ok-test_ticket.was ∙ c.test_ticket.ensures)

valid : (c : In_ok-test_ticket) → Valid (content c.args.t) × (c.args.t.events ≤ 40) × (c.args.t.rules ≤ 256)
valid c = tested_valid c.args.t [] tt [] (passed c)

pub returns-then-out-lt-TICKET_BYTES : goal.returns-then-out-lt-TICKET_BYTES
returns-then-out-lt-TICKET_BYTES c = let o = c.args.out.now in
    let e = no_room o c.args.t (omega arith) in
    record { value = ap (answer length) (sym e); out_after = left_refused o _ _ e }

pub returns-in_err-test_ticket : goal.returns-in_err-test_ticket
returns-in_err-test_ticket c = let o = c.args.out.now in
    let t = c.args.t in
    let p = err_from_is_err_and c.from_residual.result c.from_residual.ensures.1 in
    let (k, e, r) = was_err (λ x. x) (test_ticket t []) (sym c.in_err-test_ticket.was ∙ c.test_ticket.ensures) in
    let f = test_fails o t (omega arith) k e in
    record { value = rw (p.1, p.2, r) (ap (answer length) (sym f)); out_after = left_refused o _ k f }

pub put_ticket-requires : goal.put_ticket-requires
put_ticket-requires c = let g = valid (goal.at.put_ticket-requires c).In_ok-test_ticket in (g.1, g.2, omega arith)

pub overflow_add-result : goal.overflow_add-result
overflow_add-result c = let g = valid (goal.at.overflow_add-result c).In_ok-test_ticket in omega (arith, g.1, g.2)

pub overflow_mul-result : goal.overflow_mul-result
overflow_mul-result c = let g = valid (goal.at.overflow_mul-result c).In_ok-test_ticket in omega (arith, g.1, g.2)

pub overflow_add-result-2 : goal.overflow_add-result-2
overflow_add-result-2 c = let g = valid (goal.at.overflow_add-result-2 c).In_ok-test_ticket in omega (arith, g.1, g.2)

pub returns : goal.returns
returns c = let o = c.args.out.now in
    let t = c.args.t in
    let e = test_passes o t (omega arith) (passed (goal.at.returns c).In_ok-test_ticket) in
    let long : 8 + t.events + 6 * t.rules ≡ length (write_ticket (content t)) =
    omega (arith, length_ticket (content t), length_firsts t.events (owner_in t), length_firsts t.rules (rule_in t)) in record {
      value = ap Ok long ∙ ap (answer length) (sym e);
      out_after = c.put_ticket.ensures
          ∙ sets_over (write_ticket (content t)) o (omega (arith, ticket_bytes (content t) (valid (goal.at.returns c).In_ok-test_ticket).0))
          ∙ ap (left o) (sym e);
    }
