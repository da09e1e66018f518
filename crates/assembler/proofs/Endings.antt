-- The answer by what the passes have found, in the order of the refusals, and what it leaves in the lent words.
-- Assumes nothing.
use Prim.Native.Nat.{ℕ, ◌+◌, ◌<◌, ◌≤◌}
use mathlib.Core.Path.{◌≡◌, refl, sym, ap, subst, ◌∙◌}
use mathlib.Core.Bool.{Bool, true, false}
use mathlib.Core.List.{List, ◌++◌}
use borrow.Author.Tests.{le-leb, lt-leb}
use lib.Dec.{leb}
use lib.ListN.{drop, length}
use Rattle.std.specs.Prelude.{Result, Ok, Err}
use Rattle.base.specs.Test.{◌and◌}
use Rattle.rules.specs.Check.{sections_ok}
use Rattle.base.proofs.Bool.{if_no, if_yes}
use Rattle.language.specs.Text.{max_bytes}
use Rattle.language.specs.Card.{cards_of}
use Rattle.language.specs.Symbol.{all_placed}
use Rattle.language.specs.Fault.{Deck, deck_of}
use Rattle.language.specs.Answer.{Answer, answer_of, assembled, finished, is_complete, is_within, judged, left_by, left_of, limits_kept, long_text, refused}
use Rattle.assembler.specs.Answers.{Answers, answer_view, refusal_view}
use Rattle.asm_types.specs.Views.{symbols_in}
use Rattle.asm_collect.specs.declared.Collected.{Collected}
use Rattle.asm_answers.specs.Room.{Placed}
use Rattle.assembler.specs.Judges.{FirstFault, Prepared, deck_from}
use Rattle.assembler.proofs.Tables.{complete-is, deck-is, within-is}
use Rattle.assembler.specs.declared.Refusal.{Refusal as Refused}
use Rattle.assembler.specs.declared.Refusal.TheVariants.{LongText, Faulty, Incomplete, OverLimit, ShortRoom}
use Rattle.asm_answers.specs.Verdicts.{Verdict}
use Rattle.asm_answers.specs.declared.verdict.Fault.{Fault}

module _ (d : Deck) (old : List ℕ) where
  -- a refusal leaves all as it was
  refuses : (r : Refused) → judged d (length old) ≡ refused (refusal_view r) → Answers d (Err r) old old
  refuses r j = record { answered = sym j; left = sym (ap (λ (a : Answer). left_by a d.table old) j) }

  abbrev ending : Answer
  ending = finished (is_complete d) (limits_kept d) (length d.table) (length old)

  pub faulty-answers : (f : Fault) → FirstFault d d.cards (Err f) → Answers d (Err (Faulty f)) old old
  unfolding judged
  faulty-answers f v = refuses (Faulty f) (sym (v ending))

  -- no line has a fault
  module _ (v : FirstFault d d.cards (Ok tt)) where
    ends : judged d (length old) ≡ ending
    unfolding judged
    ends = sym (v ending)

    pub incomplete-answers : is_complete d ≡ false → Answers d (Err Incomplete) old old
    unfolding finished
    incomplete-answers e = refuses Incomplete (ends ∙ if_no _ _ _ e)

    module _ (complete : is_complete d ≡ true) where
      pub over-answers : limits_kept d ≡ false → Answers d (Err OverLimit) old old
      unfolding finished
      over-answers e = refuses OverLimit (ends ∙ if_yes _ _ _ complete ∙ if_no _ _ _ e)

      module _ (within : limits_kept d ≡ true) where
        pub short-answers : leb (length d.table) (length old) ≡ false → Answers d (Err ShortRoom) old old
        unfolding finished
        short-answers h = refuses ShortRoom (ends ∙ if_yes _ _ _ complete ∙ if_yes _ _ _ within ∙ if_no _ _ _ h)

        pub done-answers : leb (length d.table) (length old) ≡ true → (n : ℕ) → n ≡ length d.table → (new : List ℕ)
            → new ≡ d.table ++ drop n old → Answers d (Ok n) old new
        unfolding finished
        done-answers h n e new w =
            let j : judged d (length old) ≡ assembled n =
            ends ∙ if_yes _ _ _ complete ∙ if_yes _ _ _ within ∙ if_yes _ _ _ h ∙ ap assembled (sym e) in
            record { answered = sym j; left = w ∙ sym (ap (λ (a : Answer). left_by a d.table old) j) }

-- The same in the terms of the code: t is the draft, v what the lines' pass has found, then the tests of 8 and 9.
module _ (text syms t old : List ℕ) (c : Collected) (p : Prepared text syms t c) (v : Verdict)
    (found : FirstFault (deck_from (cards_of text) (symbols_in syms c.labels) t) (cards_of text) v) where
  first-is : (w : Verdict) → v ≡ w → FirstFault (deck_of text) (deck_of text).cards w
  first-is w e =
      subst (λ (d : Deck). FirstFault d d.cards w) (deck-is text syms t c p)
      (subst (λ (x : Verdict). FirstFault (deck_from (cards_of text) (symbols_in syms c.labels) t) (cards_of text) x) e found)

  table_is : (deck_of text).table ≡ t
  table_is = sym (ap (λ (d : Deck). d.table) (deck-is text syms t c p))

  pub broken-ends : (f : Fault) → v ≡ Err f → Answers (deck_of text) (Err (Faulty f)) old old
  broken-ends f e = faulty-answers (deck_of text) old f (first-is (Err f) e)

  module _ (clear : v ≡ Ok tt) (complete : Bool)
      (complete-by : complete ≡ (c.counts.closed and sections_ok t and all_placed (symbols_in syms c.labels) (symbols_in syms c.labels))) where
    complete-of : is_complete (deck_of text) ≡ complete
    complete-of = sym (complete-by ∙ complete-is text syms t c p)

    pub incomplete-ends : complete ≡ false → Answers (deck_of text) (Err Incomplete) old old
    incomplete-ends e = incomplete-answers (deck_of text) old (first-is (Ok tt) clear) (complete-of ∙ e)

    module _ (yes : complete ≡ true) (within : Bool) (within_by : within ≡ is_within c.counts.size c.labels c.counts.fresh (c.counts.constants + c.counts.workings)) where
      within_of : limits_kept (deck_of text) ≡ within
      within_of = sym (within_by ∙ within-is text syms t c p)

      pub over-ends : within ≡ false → Answers (deck_of text) (Err OverLimit) old old
      over-ends e = over-answers (deck_of text) old (first-is (Ok tt) clear) (complete-of ∙ yes) (within_of ∙ e)

      module _ (kept : within ≡ true) (new : List ℕ) (fits : Bool) (placed : Placed t old new fits) where
        pub short-ends : fits ≡ false → Answers (deck_of text) (Err ShortRoom) old new
        short-ends e =
            subst (λ (l : List ℕ). Answers (deck_of text) (Err ShortRoom) old l) (sym (placed.left ∙ if_no _ _ _ e))
            (short-answers (deck_of text) old (first-is (Ok tt) clear) (complete-of ∙ yes) (within_of ∙ kept)
            (rw table_is (sym placed.fits ∙ e)))

        pub done-ends : fits ≡ true → Answers (deck_of text) (Ok (length t)) old new
        done-ends e =
            done-answers (deck_of text) old (first-is (Ok tt) clear) (complete-of ∙ yes) (within_of ∙ kept)
            (rw table_is (sym placed.fits ∙ e)) (length t) (rw table_is refl) new
            (rw table_is (placed.left ∙ if_yes _ _ _ e))

-- The whole text: its length first.

pub long-answers : (text old : List ℕ) → max_bytes < length text
    → (answer_view (Err LongText) ≡ answer_of text (length old)) × (old ≡ left_of text old)
unfolding answer_of left_of
long-answers text old h =
    let e : answer_of text (length old) ≡ refused long_text = if_no _ _ _ (lt-leb (length text) max_bytes h) in
    (sym e, sym (ap (λ (a : Answer). left_by a (deck_of text).table old) e))

pub short-text : (text old new : List ℕ) (r : Result ℕ Refused) → length text ≤ max_bytes → Answers (deck_of text) r old new
    → (answer_view r ≡ answer_of text (length old)) × (new ≡ left_of text old)
unfolding answer_of left_of
short-text text old new r h a =
    let e : answer_of text (length old) ≡ judged (deck_of text) (length old) = if_yes _ _ _ (le-leb (length text) max_bytes h) in
    (a.answered ∙ sym e, a.left ∙ sym (ap (λ (x : Answer). left_by x (deck_of text).table old) e))
