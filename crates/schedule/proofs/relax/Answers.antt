-- `relax` meets its contract. The invariants: the times stay within the horizon and the rules from `kept` on hold; inside, the laws of Rounds.
use mathlib.Core.Path.{◌≡◌}
use Rattle.schedule.specs.Relax.{rounds_held, rounds_raised}
use Rattle.schedule.proofs.relax.Goals as goal
use Rattle.schedule.proofs.relax.Goals.{else-last-eq0-via-then-last-eq0+else-j-kept, else-last-eq0-via-else-last-eq0, in-Kept, in-Raised}

pub loop-j-preserved : goal.loop-j-preserved
loop-j-preserved c = let j = c.loop-j.j in
    let R = c.loop-j.invariant in
    let more : c.loop-j.last ≡ 0 → j ≡ c.loop.kept → ⊥ = λ e q. elim c.else-last-eq0.branch [ else-last-eq0-via-then-last-eq0+else-j-kept w ↦ w.if-j-kept.false q | else-last-eq0-via-else-last-eq0 w ↦ w.if-last-eq0.false e ] in
    elim c.match-raise.branch [
      | in-Kept w ↦ rw (w.last-is) (rounds_held R more c.raise.ensures.raised w.in-Kept.is)
      | in-Raised w ↦ rw (w.last-is) (rounds_raised R c.raise.ensures.low_2)
    ]
