-- `writing_records::put_window` meets its contract. A store and two numbers. Assumes nothing.
use Prim.Native.Nat.{suc, ◌+◌}
use mathlib.Core.Path.{◌≡◌, ap, ◌∙◌}
use native.Mathlib.Omega.{arith}
use lib.ListN.{set}
use lib.Seq.{sets}
use Rattle.ticket.specs.Writer.{bytes}
use Rattle.ticket.proofs.RoundTrip.{length_bytes}
use Rattle.writing.specs.Stores.{sets_then}
use Rattle.writing_records.proofs.put_window.Goals as goal

pub returns : goal.returns
returns c = let a = c.args in
    let l = set a.out.now a.at a.flag in
    let one : a.at + 1 ≡ suc a.at = omega arith in
    c.put_u32-2.ensures
    ∙ ap (λ o. sets o (a.at + 5) (bytes 4 a.closes)) (c.put_u32.ensures ∙ ap (λ k. sets l k (bytes 4 a.opens)) one)
    ∙ sets_then (bytes 4 a.opens) (bytes 4 a.closes) l (suc a.at) (a.at + 5) (omega (arith, length_bytes 4 a.opens))
