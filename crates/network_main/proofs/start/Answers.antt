-- `network_main::start` meets its contract: the boxes are put, and the least potential keeps them. Assumes nothing.
use Rattle.std.proofs.Common.{◌∙◌}
use Rattle.network_main.specs.Built.{built_start}
use Rattle.network_main.proofs.start.Goals as goal

pub returns : goal.returns
returns c = let p = c.requires in
    built_start p.0 (c.boxes.ensures.net_len_unchanged ∙ p.1) c.boxes.ensures.boxes c.bounds.ensures
