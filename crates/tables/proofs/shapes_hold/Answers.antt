-- `tables::shapes_hold` meets its contract: what is asked is what the places hold.
use Rattle.tables.proofs.shapes_hold.Goals as goal

pub invariant_of-places : goal.invariant_of-places
invariant_of-places c = record { known = c.requires }

pub returns : goal.returns
returns c = c.shapes_ok.ensures
