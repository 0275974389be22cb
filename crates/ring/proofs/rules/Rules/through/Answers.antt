-- `Rules::through` meets its contract, by those of its parts.
use Rattle.std.proofs.Common.{arith, inl, inr, ◌⊎◌, ◌≡◌, ◌+◌, ◌<◌, ◌≤◌}
use Rattle.ring.specs.Search.{joins}
use Rattle.ring.proofs.rules.Rules.through.Goals as goal
use Rattle.ring.proofs.rules.Rules.through.Goals.{then-count-best, else-count-best}

pub returns : goal.returns
returns c =
    let count = c.nearer-count.result in
    let end = c.if-count-best.end in
    let start = c.args.start in
    let from : ((count < start.count) × (end ≡ c.args.self.now.count + 1)) ⊎ ((start.count ≤ count) × (end ≡ start.first)) =
    elim c.if-count-best.branch [ then-count-best w ↦ inl (w.if-count-best.true, w.end-is) | else-count-best w ↦ inr (w.if-count-best.false, w.end-is) ] in
    joins (omega arith) c.walks_to.ensures c.nearer-count.ensures from c.pick-first.ensures
