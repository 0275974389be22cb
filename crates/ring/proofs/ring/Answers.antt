-- `ring` meets its contract, by those of its parts.
use Rattle.std.proofs.Common.{arith}
use Rattle.ticket.proofs.Content.{in_events, limits}
use Rattle.ring.specs.Search.{answers_none, answers_some}
use Rattle.ring.proofs.ring.Goals as goal

pub returns-then-n-count : goal.returns-then-n-count
returns-then-n-count c = answers_none c.beginning-count.ensures _ c.of-rules.ensures (in_events c.args.t) (omega arith)

pub returns : goal.returns
returns c = answers_some c.beginning-count.ensures _ c.of-rules.ensures (in_events c.args.t) (omega (arith, limits c.args.t c.requires)) (omega arith) c.walks_to.ensures c.follow-rules.ensures
