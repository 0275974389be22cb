-- `plan::commit_event` meets its contract: `windows` commits, and the record stays kept. Assumes nothing.
use mathlib.Core.Path.{◌∙◌}
use native.Mathlib.Omega.{arith}
use lib.Seq.{length-take-le}
use Rattle.causes.specs.Zeroed.{past_part}
use Rattle.plan.specs.Steps.{commit_asked, canonical_committed, caller_counted}
use Rattle.plan.proofs.commit_event.Goals as goal

pub commit_window-requires : goal.commit_window-requires
commit_window-requires c =
    let asked = commit_asked c.args.r.now c.requires.canonical.0 c.args.caller c.args.event c.args.opens c.args.closes c.requires.canonical.1
    (length-take-le 1824 c.args.scratch.now (omega (arith, c.requires.in_bounds))) in
    record { workspace = asked.0; asked = asked.1 }

-- the caller is a device, and its count can rise
pub bounds-r-caller : goal.bounds-r-caller
bounds-r-caller c = (caller_counted c.args.r.now c.requires.canonical.0 c.args.caller c.args.event c.args.opens c.args.closes c.requires.canonical.1).0

pub overflow_add-r : goal.overflow_add-r
overflow_add-r c = omega (arith, (caller_counted c.args.r.now c.requires.canonical.0 c.args.caller c.args.event c.args.opens c.args.closes c.requires.canonical.1).1)

pub bounds-r-caller-2 : goal.bounds-r-caller-2
bounds-r-caller-2 c = (caller_counted c.args.r.now c.requires.canonical.0 c.args.caller c.args.event c.args.opens c.args.closes c.requires.canonical.1).0

pub returns : goal.returns
returns c = record {
  canonical_2 = canonical_committed c.args.r.now c.requires.canonical.0 c.args.caller c.args.event c.args.opens c.args.closes
      c.requires.canonical.1 c.commit_window.ensures.committed;
  scratch_unchanged = past_part 2400 1824 c.args.scratch.now c.commit_window.new.net (omega arith)
      (c.commit_window.ensures.net_len_unchanged ∙ length-take-le 1824 c.args.scratch.now (omega (arith, c.requires.in_bounds)));
}
