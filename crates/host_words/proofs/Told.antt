-- What run and resume answer of a state, as the host is told it: the number, and the words that are left.
-- Assumes nothing.
use Prim.Native.Nat.{ℕ, ◌<◌, ◌≤◌}
use mathlib.Core.Path.{◌≡◌, refl, sym, ap, ◌∙◌}
use mathlib.Core.Bool.{Bool, true, false}
use mathlib.Core.List.{List, ◌++◌}
use lib.Dec.{ltb}
use lib.ListN.{drop}
use borrow.Author.Tests.{lt-ltb, le-ltb}
use Rattle.base.proofs.Bool.{failed, if_no, if_yes, true-ok, unless-no, unless-yes}
use Rattle.rules.specs.Number.{bad_table, bad_state}
use Rattle.rules.specs.Check.{table_ok}
use Rattle.rules.specs.State as Rules
use Rattle.rules.specs.Run as Run
use Rattle.rules.specs.Run.{Call, answer, left, refused, steps_in}
use Rattle.states.specs.declared.State.{State}
use Rattle.resuming.specs.Answers as Machine
use Rattle.resuming.specs.declared.answers.Answer as Ran
use Rattle.resuming.specs.declared.answers.Answer.TheVariants as ran
use Rattle.lent.specs.Lent.{code_from, lawful, state_from, words_from}
use Rattle.host_claims.specs.Running.{call_number, call_words, unread_number, words_left}
use Rattle.host_claims.proofs.Machines.{words-answer}

-- words that are none: 30, or 31
pub words-unread : (t ws mem : List ℕ) (c : Call) → lawful ws ≡ false
    → (unread_number t ≡ call_number (call_words t ws mem c)) × (steps_in (call_words t ws mem c) ≡ 0) × ((left (state_from ws mem) (call_words t ws mem c)).core.mem ≡ mem) × (words_left (call_words t ws mem c) ws ≡ ws)
unfolding unread_number call_words
words-unread t ws mem c a = by-table (table_ok t) refl
  where
    by-table : (b : Bool) → table_ok t ≡ b → (unread_number t ≡ call_number (call_words t ws mem c)) × (steps_in (call_words t ws mem c) ≡ 0) × ((left (state_from ws mem) (call_words t ws mem c)).core.mem ≡ mem) × (words_left (call_words t ws mem c) ws ≡ ws)
    by-table true e =
        let u : call_words t ws mem c ≡ refused bad_state = unless-yes _ _ _ e ∙ unless-no _ _ _ a in
        (if_yes _ _ _ e ∙ rw u, rw u, rw u, rw u)
    by-table false e =
        let u : call_words t ws mem c ≡ refused bad_table = unless-no _ _ _ e in
        (if_no _ _ _ e ∙ rw u, rw u, rw u, rw u)

-- an answer below 30 is an ending
is_ending : Machine.Report → Bool
is_ending (Machine.ends o) = true
is_ending (Machine.refuses e) = false

ending-below : (a : Ran.Answer) → ltb (Machine.report_number (Machine.report_of a)) 30 ≡ is_ending (Machine.report_of a)
unfolding is_ending
ending-below ran.Resumed = refl
ending-below ran.Waits = refl
ending-below ran.Used = refl
ending-below ran.BadAddress = refl
ending-below ran.ConstantWrite = refl
ending-below ran.NoEntry = refl
ending-below ran.NoCase = refl
ending-below ran.ImpossibleExit = refl
ending-below ran.LinksFull = refl
ending-below ran.AboveCount = refl
ending-below ran.BadDigit = refl
ending-below ran.BadTable = refl
ending-below ran.BadState = refl
ending-below ran.OverBudget = refl
ending-below ran.NotResumable = refl

-- the code's report r is the rules' answer x: its number, and the words of the state c that it leaves
module _ (x : Run.Answer) (r : Machine.Report) (k : ℕ) (m : Rules.State) (e : Machine.answered_by r k m ≡ x) where
  number-of : Machine.report_number r ≡ call_number x
  number-of = by-report r e
    where
      by-report : (y : Machine.Report) → Machine.answered_by y k m ≡ x → Machine.report_number y ≡ call_number x
      by-report (Machine.ends o) h = ap call_number h
      by-report (Machine.refuses z) h = ap call_number h

  module _ (s c : State) (ws words : List ℕ) where
    put-words : is_ending r ≡ true → c ≡ Machine.code_after s x → words ≡ words_from c ++ drop 270 ws → words ≡ words_left x ws
    unfolding is_ending
    put-words t h w = by-report r t e
      where
        by-report : (y : Machine.Report) → is_ending y ≡ true → Machine.answered_by y k m ≡ x → words ≡ words_left x ws
        by-report (Machine.ends o) q g =
            w ∙ ap (λ (z : State). words_from z ++ drop 270 ws) (h ∙ ap (Machine.code_after s) (sym g)) ∙ ap (λ (z : Run.Answer). words_left z ws) g
        by-report (Machine.refuses z) q g = absurd (failed (true-ok _ q))

  keep-words : (ws : List ℕ) → is_ending r ≡ false → ws ≡ words_left x ws
  unfolding is_ending
  keep-words ws t = by-report r t e
    where
      by-report : (y : Machine.Report) → is_ending y ≡ false → Machine.answered_by y k m ≡ x → ws ≡ words_left x ws
      by-report (Machine.ends o) q g = absurd (failed (true-ok _ (sym q)))
      by-report (Machine.refuses z) q g = ap (λ (z : Run.Answer). words_left z ws) g

-- a call on words that are a state, answered by a: n is its number
module _ (t ws mem : List ℕ) (call : Call) (ok : lawful ws ≡ true) (a : Ran.Answer) (k : ℕ) (m : Rules.State)
    (e : Machine.answered_by (Machine.report_of a) k m ≡ answer t (state_from ws mem) call) (n : ℕ) (q : n ≡ Machine.report_number (Machine.report_of a)) where
  pub told : n ≡ call_number (call_words t ws mem call)
  told = q ∙ number-of _ (Machine.report_of a) k m e ∙ rw (words-answer t ws mem call ok)

  -- an ending, with the words of the state that is left put in front
  pub put : n < 30 → (c : State) (words : List ℕ) → c ≡ Machine.code_after (code_from ws) (answer t (state_from ws mem) call)
      → words ≡ words_from c ++ drop 270 ws → words ≡ words_left (call_words t ws mem call) ws
  put l c words h w =
      put-words _ (Machine.report_of a) k m e (code_from ws) c ws words (sym (ending-below a) ∙ rw (sym q) (lt-ltb n 30 l)) h w
      ∙ rw (words-answer t ws mem call ok)

  -- a refusal, with the words as they were
  pub kept : 30 ≤ n → ws ≡ words_left (call_words t ws mem call) ws
  kept l =
      keep-words _ (Machine.report_of a) k m e ws (sym (ending-below a) ∙ rw (sym q) (le-ltb n 30 l)) ∙ rw (words-answer t ws mem call ok)
