-- `reading_records::count_section` meets its contract. Each return is one part of the parser. Assumes nothing.
use mathlib.Core.Path.{sym, ap, ◌∙◌}
use lib.ListN.{drop}
use Rattle.ticket.specs.Format.{read_same}
use Rattle.ticket.specs.Refusal.{answer}
use Rattle.ticket.specs.Stored.{pad}
use Rattle.ticket.proofs.Refusals.{passed_up}
use Rattle.ticket.proofs.Stages.{other_devices, same_devices}
use Rattle.reading_records.specs.Rest.{same_got}
use Rattle.reading_records.proofs.count_section.Goals as goal

pub returns-in_err-same_at : goal.returns-in_err-same_at
returns-in_err-same_at c = let a = c.args in
    let s = drop a.at a.s.now in
    passed_up (λ u. u) (pad 0 5) (read_same 5 s) _ c.from_residual.result c.from_residual.ensures.1 c.in_err-same_at.ensures (other_devices a.xs.now s)

pub counts_at-requires : goal.counts_at-requires
counts_at-requires c = let a = c.args in
    (same_got a.s.now a.at 5 c.requires c.in_ok-same_at.ensures).1

pub returns : goal.returns
returns c = let a = c.args in
    let known = same_got a.s.now a.at 5 c.requires c.in_ok-same_at.ensures in
    c.counts_at.ensures ∙ ap (answer (pad 0 5)) (sym (same_devices a.xs.now (drop a.at a.s.now) _ known.0))
