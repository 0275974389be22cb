-- `scan` meets its contract: the three sweeps visit all edges at the node.
use mathlib.Core.Path.{refl}
use Rattle.scan.specs.Sweep.{scanned}
use Rattle.scan.proofs.scan.Goals as goal

pub returns : goal.returns
returns c = scanned c.requires.search c.requires.waits refl c.scan_box.ensures c.scan_heads.ensures c.scan_tails.ensures
