-- `reading::ticket_at` meets its contract. Each return is one part of the parser. Assumes nothing.
use Prim.Native.Nat.{◌+◌}
use native.Mathlib.Omega.{arith}
use lib.ListN.{drop}
use Rattle.ticket.specs.Parser.{many}
use Rattle.ticket.specs.Format.{read_owner, read_front, read_rules}
use Rattle.ticket.specs.Stored.{pad}
use Rattle.reading.specs.Parts.{rules_of, front_of}
use Rattle.reading.specs.Rest.{front_got, owners_read, rules_read, ticket_got}
use Rattle.ticket.proofs.Refusals.{passed_up}
use Rattle.ticket.proofs.Stages.{bad_front, bad_owners, bad_rules}
use Rattle.reading.proofs.ticket_at.Goals as goal

pub returns-in_err-horizon : goal.returns-in_err-horizon
returns-in_err-horizon c = let a = c.args in
    let s = drop a.at a.s.now in
    passed_up front_of _ (read_front s) _ c.from_residual.result c.from_residual.ensures.1 c.in_err-horizon.ensures (bad_front s)

pub overflow_add-at : goal.overflow_add-at
overflow_add-at c = let a = c.args in
    omega (arith, (front_got a.s.now a.at _ c.in_ok-horizon.ensures).1)

pub owners_at-requires : goal.owners_at-requires
owners_at-requires c = let a = c.args in
    let f = front_got a.s.now a.at _ c.in_ok-horizon.ensures in
    (f.1, f.2)

pub returns-in_err-owners : goal.returns-in_err-owners
returns-in_err-owners c = let a = c.args in
    let s = a.s.now in
    let n = c.in_ok-horizon.field-0.events in
    let up = c.from_residual-in_err-owners in
    passed_up (pad 0 40) _ (many read_owner n (drop (a.at + 6) s)) _ up.result up.ensures.1 c.in_err-owners.ensures
    (bad_owners (drop a.at s) _ _ (front_got s a.at _ c.in_ok-horizon.ensures).0)

pub overflow_add-at-2 : goal.overflow_add-at-2
overflow_add-at-2 c = let a = c.args in
    omega (arith, (front_got a.s.now a.at _ c.in_ok-horizon.ensures).1)

pub overflow_add-at-3 : goal.overflow_add-at-3
overflow_add-at-3 c = let a = c.args in
    omega (arith, (owners_read a.s.now a.at _ c.in_ok-horizon.ensures _ c.in_ok-owners.ensures).4)

pub all_rules_at-requires : goal.all_rules_at-requires
all_rules_at-requires c = let a = c.args in
    (owners_read a.s.now a.at _ c.in_ok-horizon.ensures _ c.in_ok-owners.ensures).4

pub returns-in_err-count : goal.returns-in_err-count
returns-in_err-count c = let a = c.args in
    let s = a.s.now in
    let n = c.in_ok-horizon.field-0.events in
    let o = owners_read s a.at _ c.in_ok-horizon.ensures _ c.in_ok-owners.ensures in
    let up = c.from_residual-in_err-count in
    passed_up rules_of _ (read_rules n (drop (a.at + 6 + n) s)) _ up.result up.ensures.1 c.in_err-count.ensures
    (bad_rules (drop a.at s) _ _ (front_got s a.at _ c.in_ok-horizon.ensures).0 o.0 _ o.1)

pub overflow_add-result : goal.overflow_add-result
overflow_add-result c = let a = c.args in
    omega (arith, (rules_read a.s.now a.at _ c.in_ok-horizon.ensures _ c.in_ok-owners.ensures _ c.in_ok-count.ensures).4)

pub overflow_add-result-2 : goal.overflow_add-result-2
overflow_add-result-2 c = let a = c.args in
    omega (arith, (rules_read a.s.now a.at _ c.in_ok-horizon.ensures _ c.in_ok-owners.ensures _ c.in_ok-count.ensures).4)

pub overflow_mul-result : goal.overflow_mul-result
overflow_mul-result c = let a = c.args in
    omega (arith, (rules_read a.s.now a.at _ c.in_ok-horizon.ensures _ c.in_ok-owners.ensures _ c.in_ok-count.ensures).4)

pub overflow_add-result-3 : goal.overflow_add-result-3
overflow_add-result-3 c = let a = c.args in
    omega (arith, (rules_read a.s.now a.at _ c.in_ok-horizon.ensures _ c.in_ok-owners.ensures _ c.in_ok-count.ensures).4)

pub returns : goal.returns
returns c = let a = c.args in
    ticket_got a.s.now a.at _ c.in_ok-horizon.ensures _ c.in_ok-owners.ensures _ c.in_ok-count.ensures
