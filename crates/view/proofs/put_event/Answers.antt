-- `put_event` meets its contract: a store, and the window after it.
use native.Mathlib.Omega.{arith}
use Prim.Native.Nat.{suc, ◌+◌}
use mathlib.Core.Path.{◌≡◌, ap, ◌∙◌}
use lib.ListN.{set}
use lib.Seq.{sets}
use Rattle.ticket.specs.Writer.{window_bytes}
use Rattle.view.specs.Stored.{seen_bytes}
use Rattle.view.proofs.put_event.Goals as goal

pub returns : goal.returns
returns c = let a = c.args in
    let next : a.at + 1 ≡ suc a.at = omega arith in
    c.put_window.ensures
    ∙ ap (λ k. sets (set a.out.now a.at a.event) k (window_bytes a.flag a.opens a.closes)) next
    ∙ ap (sets a.out.now a.at) (seen_bytes a.event a.flag a.opens a.closes c.requires.0)
