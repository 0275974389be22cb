-- `stops::first_entries` meets its contract: the gathered rules are the ticket's. Assumes nothing.
use Rattle.std.proofs.Common.{◌≡◌, arith, rules, ap₂, ◌∙◌, length}
use Rattle.std.proofs.lemmas.List.{length-take}
use Rattle.ticket.proofs.Content.{limits}
use Rattle.closure.specs.Start.{start}
use Rattle.stops.proofs.Steps.{arrays_hold, arrays_valid}
use Rattle.stops.proofs.first_entries.Goals as goal

pub gathered-rules-requires : goal.gathered-rules-requires
gathered-rules-requires c = let t = c.args.t in
    let most = (limits t c.requires).most in
    let from : length t.from ≡ 256 = search rules in
    let to : length t.to ≡ 256 = search rules in
    let bound : length t.bound ≡ 256 = search rules in
    (most, omega arith, omega arith, omega arith)

pub slice_bounds-rules-end : goal.slice_bounds-rules-end
slice_bounds-rules-end c = let most = (limits c.args.t c.requires).most in
    omega (arith, c.gathered-rules.ensures.0)

pub slice_bounds-ruled-end : goal.slice_bounds-ruled-end
slice_bounds-ruled-end c = let most = (limits c.args.t c.requires).most in
    omega (arith, c.gathered-rules.ensures.0, length-take c.args.t.rules c.gathered-rules.result)

pub ruled-requires-clause-valid_rules : goal.ruled-requires-clause-valid_rules
ruled-requires-clause-valid_rules c = rw c.gathered-rules.ensures.1 (arrays_valid c.args.t c.requires)

pub returns : goal.returns
returns c = let t = c.args.t in (
  c.ruled.ensures.0,
  λ i j li lj.
      c.ruled.ensures.1 i j li lj ∙ ap₂ (λ h rs. start h rs i j) c.from.ensures (c.gathered-rules.ensures.1 ∙ arrays_hold t c.requires),
)
