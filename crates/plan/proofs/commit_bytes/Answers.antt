-- `plan::commit_bytes` meets its contract: 19 for a caller that is no device, then a refused reading answers its number, and what was read is committed to. Assumes nothing.
use Rattle.std.proofs.Common.{refl, arith, rules, sym, ◌∙◌}
use Rattle.causes.specs.Structs.{read_canonical}
use Rattle.plan.specs.Meets.{caller_unknown, record_misread, record_meets}
use Rattle.plan.proofs.commit_bytes.Goals as goal

pub returns-then-caller-ge-DEVICES : goal.returns-then-caller-ge-DEVICES
returns-then-caller-ge-DEVICES c = let s = c.args in
    caller_unknown s.record.now s.caller s.event s.opens s.closes s.out.now (omega arith) refl

pub returns-in-Err : goal.returns-in-Err
returns-in-Err c = let s = c.args in
    record_misread s.record.now s.caller s.event s.opens s.closes s.out.now (omega arith) (sym c.in-Err.is ∙ c.read_record-read.ensures.value) refl

pub commit_record-requires : goal.commit_record-requires
commit_record-requires c = (read_canonical c.args.record.now (sym c.in-Ok.is ∙ c.read_record-read.ensures.value) (λ i. search rules), omega arith, c.requires.0, c.requires.1)

pub returns-in-Ok : goal.returns-in-Ok
returns-in-Ok c = let s = c.args in
    record_meets s.record.now s.caller s.event s.opens s.closes s.out.now (omega arith) (sym c.in-Ok.is ∙ c.read_record-read.ensures.value) (λ i. search rules) c.commit_record.ensures
