-- `all_possible` meets its contract: what `all` answers, said of each rule by its place.
use Rattle.std.proofs.Common.{rules, ℕ, ◌<◌, ◌≡◌, true, false}
use Rattle.std.proofs.iter.runs.Sources.{ranges}
use Rattle.ticket.specs.Writing.{rule_in}
use Rattle.mirror.specs.Cut.{Possible}
use Rattle.mirror.proofs.Structs.{rules_all, rules_each}
use Rattle.mirror.proofs.all_possible.Goals as goal

pub returns : goal.returns
returns c =
    let t = c.args.t in
    let each : c.all.result ≡ true → (j : ℕ) → j < t.rules → Possible t.horizon (rule_in t j) = search (rules, ranges) in
    let some : c.all.result ≡ false → ((j : ℕ) → j < t.rules → Possible t.horizon (rule_in t j)) → ⊥ = search (rules, ranges) in
    record {
      holds = λ e. rules_all t (Possible t.horizon) (each e);
      fails = λ e all. some e (rules_each t (Possible t.horizon) all);
    }
