-- `network_main::outcome` meets its contract: the network is built as `solved` asks. Assumes nothing.
use Rattle.std.proofs.Common.{refl}
use Rattle.network_main.specs.Built.{built_flowless, built_spans}
use Rattle.network_main.proofs.outcome.Goals as goal

pub solved-requires : goal.solved-requires
solved-requires c = let B = c.admit_all.ensures c.if-not-admit_all.false in record {
  n_bound = c.requires;
  flowless = (built_flowless c.args.m B refl, built_spans c.args.m B refl);
}
