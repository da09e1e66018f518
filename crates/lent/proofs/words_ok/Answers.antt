-- `lent::words_ok` meets its contract: the count of words, then the flag, then the waiting word.
use Rattle.lent.proofs.Links.{few_words, flag_off, waiting-decides}
use Rattle.lent.proofs.words_ok.Goals as goal

pub returns-then-words-lt-WORDS : goal.returns-then-words-lt-WORDS
returns-then-words-lt-WORDS c = few_words _ c.if-words-lt-WORDS.true

pub returns-then-words-gt1 : goal.returns-then-words-gt1
returns-then-words-gt1 c = flag_off _ c.if-words-lt-WORDS.false c.if-words-gt1.true

pub returns : goal.returns
returns c = waiting-decides _ c.if-words-lt-WORDS.false c.if-words-gt1.false
