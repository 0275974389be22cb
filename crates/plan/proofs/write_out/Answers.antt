-- `plan::write_out` meets its contract: what is written of a kept record, and its total. Assumes nothing.
use Rattle.potentials.specs.Arrays.{window_list}
use Rattle.causes.specs.Structs.{lies_asked, canonical_storable}
use Rattle.plan.proofs.write_out.Goals as goal

pub total-total-requires : goal.total-total-requires
total-total-requires c =
    let asked = lies_asked c.requires.0 in
    record { valid = asked.0; lie = asked.1 }

pub put_record-length-requires : goal.put_record-length-requires
put_record-length-requires c = record {
  storable = canonical_storable c.args.r.now c.requires.0;
  in_bounds = c.requires.1;
}

pub returns : goal.returns
unfolding window_list
returns c = let x = c.total-total.ensures in record {
  value = λ i. record { length = c.put_record-length.ensures.value i; total = x i };
  out_after = c.put_record-length.ensures.out_after;
}
