-- `reading::all_rules_at` meets its contract. Each return is one stage of the parser. Assumes nothing.
use mathlib.Core.Path.{sym, ap, ◌∙◌}
use native.Mathlib.Omega.{arith}
use lib.ListN.{drop, length-drop}
use Rattle.ticket.specs.Refusal.{answer}
use Rattle.reading.specs.Parts.{rules_of}
use Rattle.ticket.proofs.Laws.{little_short}
use Rattle.ticket.proofs.Stages.{no_rules_lem, many_rules, some_rules}
use Rattle.reading.proofs.all_rules_at.Goals as goal

pub returns-then-s-at-lt2 : goal.returns-then-s-at-lt2
returns-then-s-at-lt2 c = let a = c.args in
    let s = drop a.at a.s.now in
    rw (no_rules_lem a.n s (little_short 2 s (rw length-drop (omega arith))))

pub returns-then-m-gt-RULES : goal.returns-then-m-gt-RULES
returns-then-m-gt-RULES c = let a = c.args in
    let m = c.u16_at-m in
    rw (many_rules a.n (drop a.at a.s.now) m.result _ m.ensures c.if-m-gt-RULES.true)

pub returns : goal.returns
returns c = let a = c.args in
    let m = c.u16_at-m in
    c.rules_at.ensures ∙ ap (answer rules_of) (sym (some_rules a.n (drop a.at a.s.now) m.result _ m.ensures c.if-m-gt-RULES.false))
