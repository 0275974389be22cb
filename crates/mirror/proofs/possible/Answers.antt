-- `possible` meets its contract: the three cases of a rule's points.
use Rattle.std.proofs.Common.{arith, ◌≡◌, to_z, of_z, get_or}
use Rattle.std.specs.Prelude.{pos, ◌-ℤ◌}
use Rattle.std.specs.Int.{w32}
use Rattle.std.proofs.lemmas.Int.{ints, to_z-of_z}
use Rattle.mirror.proofs.Structs.{possible_from_start, possible_to_start, rule_valid, valid_fits}
use Rattle.mirror.proofs.possible.Goals as goal

pub returns-in-0-default : goal.returns-in-0-default
returns-in-0-default c =
    let v = rule_valid c.args.t.now c.requires.valid c.args.j c.requires.j_in_bounds in
    rw (to_z-of_z w32 _ (valid_fits v)) (possible_from_start _ _ _ (get_or c.args.t.now.bound c.args.j (pos 0)) c.in-0-default.is-0 v.differ)

pub returns-in_default-eq0 : goal.returns-in_default-eq0
returns-in_default-eq0 c =
    let t = c.args.t.now in
    let v = rule_valid t c.requires.valid c.args.j c.requires.j_in_bounds in
    let least : to_z w32 (of_z w32 (pos 0 -ℤ to_z w32 t.horizon)) ≡ pos 0 -ℤ pos t.horizon = omega (arith, ints, c.requires.valid.horizon_limit) in
    rw (to_z-of_z w32 _ (valid_fits v), least) (possible_to_start _ _ _ (get_or t.bound c.args.j (pos 0)) c.in_default-eq0.is-0.1 c.in_default-eq0.is-1)
