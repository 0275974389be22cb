-- `write_part` meets its contract: 9 where there is no schedule, else the count and the events are stored at the start of the output.
use Rattle.std.proofs.Common.{refl, ap, ◌∙◌, arith}
use Rattle.std.proofs.lemmas.List.Edits.{sets}
use Rattle.ticket.specs.Writer.{each}
use Rattle.ticket.specs.Writing.{firsts, content}
use Rattle.parts.specs.Parting.{write_numbered}
use Rattle.parts.proofs.Parting.{parted_none}
use Rattle.part.specs.Stored.{numbered_in}
use Rattle.part.specs.Steps.{meets_refused, event_most, part_written}
use Rattle.part.proofs.write_part.Goals as goal

pub returns-in_default : goal.returns-in_default
returns-in_default c = let a = c.args in
    let whole = meets_refused (parted_none a.device (content a.t) a.out.now c.in_default.ensures) refl in
    record { value = whole.0; out_after = whole.1 }

pub put_events-requires : goal.put_events-requires
put_events-requires c = let I = c.in-Some.ensures.1 in
    (I.few, omega arith, event_most (content c.args.t) c.requires.0 c.args.device I)

pub returns : goal.returns
returns c = let a = c.args in
    let p = c.in-Some.p in
    let I = c.in-Some.ensures.1 in
    let whole = part_written (content a.t) c.requires.0 a.device I a.out.now c.requires.1 c.in-Some.ensures.0
    (c.put_events.ensures
    ∙ ap (λ o. sets o 2 (each write_numbered (firsts p.events (numbered_in p.points p.opens p.closes)))) c.put_u16.ensures) in
    record { value = whole.0; out_after = whole.1 }
