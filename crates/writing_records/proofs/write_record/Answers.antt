-- `writing_records::write_record` meets its contract. Each refusal is one stage of the writing. Assumes nothing.
use mathlib.Core.Path.{◌≡◌, sym, ap, ◌∙◌}
use mathlib.Core.List.{[]}
use native.Mathlib.Omega.{arith}
use lib.ListN.{length}
use Rattle.std.specs.Prelude.{Ok}
use Rattle.std.proofs.lemmas.Result.{err_from_is_err_and}
use Rattle.ticket.specs.Parser.{got}
use Rattle.ticket.specs.Refusal.{answer}
use Rattle.ticket.specs.Writing.{test_record, left}
use Rattle.ticket.proofs.Refusals.{was_err, test_passed}
use Rattle.ticket.proofs.WritingLaws.{left_refused, record_fixed}
use Rattle.ticket.proofs.WriteStages.{no_record_room, record_fails, record_written_lem}
use Rattle.ticket.proofs.Agree.{tested_readable}
use Rattle.writing_records.proofs.write_record.Goals as goal
use Rattle.writing_records.proofs.write_record.Goals.{In_ok-test_record}

-- The tests are passed.
passed : (c : In_ok-test_record) → test_record c.args.r [] ≡ got tt []
passed c = let r = c.args.r in
    test_passed (test_record r) (record_fixed r) [] (sym c.in_ok-test_record.was ∙ c.test_record.ensures)

pub returns-then-out-lt-RECORD_BYTES : goal.returns-then-out-lt-RECORD_BYTES
returns-then-out-lt-RECORD_BYTES c = let o = c.args.out.now in
    let e = no_record_room o c.args.r (omega arith) in
    record { value = ap (answer length) (sym e); out_after = left_refused o _ _ e }

pub returns-in_err-test_record : goal.returns-in_err-test_record
returns-in_err-test_record c = let o = c.args.out.now in
    let r = c.args.r in
    let p = err_from_is_err_and c.from_residual.result c.from_residual.ensures.1 in
    let (k, e, q) = was_err (λ x. x) (test_record r []) (sym c.in_err-test_record.was ∙ c.test_record.ensures) in
    let f = record_fails o r (omega arith) k e in
    record { value = rw (p.1, p.2, q) (ap (answer length) (sym f)); out_after = left_refused o _ k f }

pub put_record-requires : goal.put_record-requires
put_record-requires c = record {
  storable = (tested_readable c.args.r [] tt [] (passed (goal.at.put_record-requires c).In_ok-test_record)).1;
  in_bounds = omega arith;
}

pub returns : goal.returns
returns c = let a = c.args in
    let e = record_written_lem a.out.now a.r (omega arith) (passed (goal.at.returns c).In_ok-test_record) in record {
      value = ap Ok c.put_record.ensures.value ∙ ap (answer length) (sym e);
      out_after = c.put_record.ensures.out_after ∙ ap (left a.out.now) (sym e);
    }
