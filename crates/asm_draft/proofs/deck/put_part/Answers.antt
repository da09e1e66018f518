-- `asm_draft::deck::put_part` meets its contract: each arm is its part.
use Rattle.asm_draft.proofs.deck.put_part.Goals as goal

pub put_entry-requires : goal.put_entry-requires
put_entry-requires c = (c.requires.0, rw c.in-Entries.is at c.requires.3)

pub put_fresh-requires : goal.put_fresh-requires
put_fresh-requires c = (c.requires.1, c.requires.2, rw c.in-Fresh.is at c.requires.3)

pub put_count-requires : goal.put_count-requires
put_count-requires c = (c.requires.0, rw c.in-Counts.is at c.requires.3)

pub put_starts-requires : goal.put_starts-requires
put_starts-requires c = (c.requires.0, c.requires.2, rw c.in-Starts.is at c.requires.3)

pub returns-in-Entries : goal.returns-in-Entries
returns-in-Entries c = rw c.in-Entries.is c.put_entry.ensures

pub returns-in-Fresh : goal.returns-in-Fresh
returns-in-Fresh c = rw c.in-Fresh.is c.put_fresh.ensures

pub returns-in-Counts : goal.returns-in-Counts
returns-in-Counts c = rw c.in-Counts.is c.put_count.ensures

pub returns-in-Starts : goal.returns-in-Starts
returns-in-Starts c = rw c.in-Starts.is c.put_starts.ensures
