-- The code's answers as those of crate `language`, and what an answer leaves in the lent words.
-- Assumes nothing.
use Rattle.std.specs.Prelude.{ℕ, ◌≡◌, List, length, Result, Ok, Err}
use Rattle.language.specs.Answer.{Answer, Refusal, assembled, faulty, incomplete, judged, left_by, long_text, over_limit, refusal_line, refusal_number, refused, short_room}
use Rattle.language.specs.Fault.{Deck}
use Rattle.assembler.specs.declared.Refusal.{Refusal as Refused}
use Rattle.assembler.specs.declared.Refusal.TheVariants.{LongText, Faulty, Incomplete, OverLimit, ShortRoom}

abbrev pub refusal_view : Refused → Refusal
refusal_view LongText = long_text
refusal_view (Faulty f) = faulty f.number f.line
refusal_view Incomplete = incomplete
refusal_view OverLimit = over_limit
refusal_view ShortRoom = short_room

abbrev pub answer_view : Result ℕ Refused → Answer
answer_view (Ok n) = assembled n
answer_view (Err r) = refused (refusal_view r)

-- the host's number of an answer, 0 where it is a length, and the line that it names, 0 for none [S Numbers the host sees]
abbrev pub answer_number : Answer → ℕ
answer_number (assembled n) = 0
answer_number (refused r) = refusal_number r

abbrev pub line_of : Answer → ℕ
line_of (assembled n) = 0
line_of (refused r) = refusal_line r

-- r answers a deck, and the lent words go from old to new
pub record Answers (d : Deck) (r : Result ℕ Refused) (old new : List ℕ) : Type 0 where
  pub answered : answer_view r ≡ judged d (length old)
  pub left : new ≡ left_by (judged d (length old)) d.table old
