-- `reason::explain` meets its contract: the lists are tested, the ring is sought, and its text is put into the output. Assumes nothing.
use mathlib.Core.Path.{◌≡◌, refl, sym, ap, ◌∙◌}
use mathlib.Core.Bool.{true}
use native.Mathlib.Omega.{arith}
use Rattle.temporal.specs.Ticket.{events}
use Rattle.ticket.specs.Writing.{content}
use Rattle.ticket.proofs.Content.{in_events}
use Rattle.names.specs.Names.{well_formed}
use Rattle.reasons.proofs.Reasoning.{unlisted_labels, unlisted_roster}
use Rattle.reason.specs.Steps.{meets_refused, found_most, found_long, found_none, found_numbers, found_fits, found_printed}
use Rattle.reason.proofs.explain.Goals as goal
use Rattle.reason.proofs.explain.Goals.{Else-not-well_formed-2}

labelled : (c : Else-not-well_formed-2) → well_formed c.args.labels.now (events (content c.args.t)) ≡ true
labelled c = ap (well_formed c.args.labels.now) (in_events c.args.t) ∙ sym c.well_formed-2.ensures ∙ c.if-not-well_formed.false

known : (c : Else-not-well_formed-2) → well_formed c.args.roster.now 5 ≡ true
known c = sym c.well_formed-3.ensures ∙ c.if-not-well_formed-2.false

pub returns-then-not-well_formed : goal.returns-then-not-well_formed
returns-then-not-well_formed c =
    let a = c.args in
    let whole = meets_refused (unlisted_labels (content a.t) a.labels.now a.roster.now a.out.now
    (ap (well_formed a.labels.now) (in_events a.t) ∙ sym c.well_formed-2.ensures ∙ c.if-not-well_formed.true)) refl in
    record { value = whole.0; out_after = whole.1 }

pub returns-then-not-well_formed-2 : goal.returns-then-not-well_formed-2
returns-then-not-well_formed-2 c =
    let a = c.args in
    let whole = meets_refused (unlisted_roster (content a.t) a.labels.now a.roster.now a.out.now
    (ap (well_formed a.labels.now) (in_events a.t) ∙ sym c.well_formed-2.ensures ∙ c.if-not-well_formed.false)
    (sym c.well_formed-3.ensures ∙ c.if-not-well_formed-2.true)) refl in
    record { value = whole.0; out_after = whole.1 }

pub returns-in_default : goal.returns-in_default
returns-in_default c =
    let a = c.args in
    let whole = meets_refused (found_none (content a.t) c.requires.0 a.labels.now a.roster.now (labelled (goal.at.returns-in_default c).Else-not-well_formed-2) (known (goal.at.returns-in_default c).Else-not-well_formed-2)
    a.out.now c.in_default.ensures) refl in
    record { value = whole.0; out_after = whole.1 }

pub put_ring-length-requires : goal.put_ring-length-requires
put_ring-length-requires c = let a = c.args in
    let k = content a.t in
    let v = c.requires.0 in
    let l = labelled (goal.at.put_ring-length-requires c).Else-not-well_formed-2 in
    let r = known (goal.at.put_ring-length-requires c).Else-not-well_formed-2 in
    let e = c.in-Some.ensures in record {
      valid = v;
      ring_len = (
        found_long k v a.labels.now a.roster.now l r e,
        found_most k v a.labels.now a.roster.now l r e,
        found_numbers k v a.labels.now a.roster.now l r e,
      );
      t_value = (l, r);
      in_bounds = c.requires.1;
    }

pub overflow_cast-result : goal.overflow_cast-result
overflow_cast-result c = let a = c.args in
    let n = found_fits (content a.t) c.requires.0 a.labels.now a.roster.now (labelled (goal.at.overflow_cast-result c).Else-not-well_formed-2) (known (goal.at.overflow_cast-result c).Else-not-well_formed-2) c.in-Some.ensures in
    record { fits = omega (arith, n, c.put_ring-length.ensures.end) }

pub returns : goal.returns
returns c =
    let a = c.args in
    let whole = found_printed (content a.t) c.requires.0 a.labels.now a.roster.now (labelled (goal.at.returns c).Else-not-well_formed-2) (known (goal.at.returns c).Else-not-well_formed-2) c.in-Some.ensures
    c.requires.1 c.put_ring-length.ensures in
    record { value = whole.0; out_after = whole.1 }
