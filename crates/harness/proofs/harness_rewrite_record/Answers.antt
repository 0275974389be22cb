-- `harness::harness_rewrite_record` meets its contract: what is read without a cause is written back as it came. Assumes nothing.
use Rattle.std.proofs.Common.{ap, ◌∙◌, arith, rules}
use Rattle.std.specs.Prelude.{[]}
use Rattle.ticket.specs.Format.{read_state}
use Rattle.ticket.specs.Writing.{writing_record}
use Rattle.harness.specs.Rewriting.{narrow, rewriting_short, rewriting_again, record_refused, record_again}
use Rattle.harness.proofs.harness_rewrite_record.Goals as goal

pub returns-then-out-lt-RECORD_BYTES : goal.returns-then-out-lt-RECORD_BYTES
returns-then-out-lt-RECORD_BYTES c = rw (rewriting_short 1958 read_state c.args.«record».now c.args.out.now c.if-out-lt-RECORD_BYTES.true) (search rules)

pub returns-in-Err : goal.returns-in-Err
returns-in-Err c = rw (record_refused c.args.«record».now c.args.out.now c.if-out-lt-RECORD_BYTES.false c.in-Err.ensures.value) (search rules)

pub returns-in-Ok : goal.returns-in-Ok
returns-in-Ok c = let bytes = c.args.«record».now in
    let out = c.args.out.now in
    let w = c.write_record-written in
    let g = record_again bytes out (λ i. omega (arith, c.type_inv.«record» i)) c.if-out-lt-RECORD_BYTES.false c.in-Ok.ensures.value in
    let whole = rewriting_again 1958 read_state bytes out (writing_record out c.in-Ok.r []) w.result w.new.out c.narrow.result g.0 g.1 w.ensures.value w.ensures.out_after (c.narrow.ensures ∙ ap narrow c.unwrap_or.ensures) in
    record { value = c.answer_number.ensures ∙ whole.0; out_after = whole.1.0; size_after = whole.1.1 }
