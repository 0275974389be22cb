-- `mirror_ticket` meets its contract, by that of `mirror_bounds`.
use Rattle.mirror.proofs.Structs.{mirrored_content}
use Rattle.mirror.proofs.mirror_ticket.Goals as goal

pub returns : goal.returns
returns c = mirrored_content c.args.t c.mirror_bounds.result c.mirror_bounds.ensures
