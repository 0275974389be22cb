-- `beyunlak::beyunlak_commit` meets its contract: what `plan::commit_bytes` ensures, told as of 2,400 zeros. Assumes nothing.
use Prim.Native.Nat.{ℕ}
use mathlib.Core.Path.{sym, ◌∙◌}
use native.Mathlib.Nat.{le_of_eq}
use native.Mathlib.Omega.{arith}
use lib.ListN.{replicate, length-replicate}
use Rattle.plan.specs.Meets.{committed_short, committed_told}
use Rattle.beyunlak.proofs.beyunlak_commit.Goals as goal

pub returns-then-out-lt-RECORD_BYTES : goal.returns-then-out-lt-RECORD_BYTES
returns-then-out-lt-RECORD_BYTES c =
    let short = committed_short c.args.out.now (replicate 2400 0) c.args.record.now c.args.caller c.args.event
    c.args.open c.args.close (omega arith) in
    record { value = short.0; out_after = short.1 }

pub returns : goal.returns
returns c =
    let told = committed_told c.args.out.now (replicate 2400 0) (omega arith) (le_of_eq (sym (length-replicate {A = ℕ} 2400 0))) c.args.record.now
    c.args.caller c.args.event c.args.open c.args.close c.commit_bytes-committed.ensures in
    record { value = c.answer_number.ensures ∙ told.0; out_after = told.1 }
