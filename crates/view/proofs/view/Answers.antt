-- `view::view` meets its contract: 10 first, then 19, then a refused reading answers its number, and of what was read the view is written.
use Rattle.std.proofs.Common.{refl, arith, sym, ◌∙◌}
use Rattle.causes.specs.Structs.{read_canonical}
use Rattle.viewing.proofs.View.{viewing_short, viewing_unknown}
use Rattle.view.specs.Steps.{meets_refused, record_misread, record_viewed}
use Rattle.view.proofs.view.Goals as goal

pub returns-then-out-lt-VIEW_BYTES : goal.returns-then-out-lt-VIEW_BYTES
returns-then-out-lt-VIEW_BYTES c = let a = c.args in
    let whole = meets_refused (viewing_short a.record.now a.caller a.out.now (omega arith)) refl in
    record { value = whole.0; out_after = whole.1 }

pub returns-then-caller-ge-DEVICES : goal.returns-then-caller-ge-DEVICES
returns-then-caller-ge-DEVICES c = let a = c.args in
    let whole = meets_refused (viewing_unknown a.record.now a.caller a.out.now (omega arith) (omega arith)) refl in
    record { value = whole.0; out_after = whole.1 }

pub returns-in-Err : goal.returns-in-Err
returns-in-Err c = let a = c.args in
    let whole = record_misread a.record.now a.caller a.out.now (omega arith) (omega arith) (sym c.in-Err.is ∙ c.read_record-read.ensures.value) refl in
    record { value = whole.0; out_after = whole.1 }

pub write_view-requires : goal.write_view-requires
write_view-requires c = (read_canonical c.args.record.now (sym c.in-Ok.is ∙ c.read_record-read.ensures.value) (λ i. omega (arith, c.type_inv.record i)), omega arith)

pub returns-in-Ok : goal.returns-in-Ok
returns-in-Ok c = let a = c.args in
    let whole = record_viewed a.record.now a.caller a.out.now (omega arith) (omega arith) (sym c.in-Ok.is ∙ c.read_record-read.ensures.value)
    (λ i. omega (arith, c.type_inv.record i)) (c.write_view.ensures.value, c.write_view.ensures.out_after) in
    record { value = whole.0; out_after = whole.1 }
