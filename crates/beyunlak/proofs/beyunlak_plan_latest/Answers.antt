-- `beyunlak::beyunlak_plan_latest` meets its contract: what `plan::plan_bytes` ensures, told as of 2,400 zeros. Assumes nothing.
use Prim.Native.Nat.{ℕ}
use mathlib.Core.Path.{sym, ◌∙◌}
use native.Mathlib.Nat.{le_of_eq}
use native.Mathlib.Omega.{arith}
use lib.ListN.{replicate, length-replicate}
use Rattle.plan.specs.Meets.{latest_short, latest_told}
use Rattle.beyunlak.proofs.beyunlak_plan_latest.Goals as goal

pub returns-then-out-lt-RECORD_BYTES : goal.returns-then-out-lt-RECORD_BYTES
returns-then-out-lt-RECORD_BYTES c =
    let short = latest_short c.args.out.now (replicate 2400 0) c.args.ticket.now (omega arith) in
    record { value = short.0; out_after = short.1 }

pub returns : goal.returns
returns c =
    let told = latest_told c.args.out.now (replicate 2400 0) (omega arith) (le_of_eq (sym (length-replicate {A = ℕ} 2400 0))) c.args.ticket.now
    c.plan_bytes-latest.ensures in
    record { value = c.answer_number.ensures ∙ told.0; out_after = told.1 }
