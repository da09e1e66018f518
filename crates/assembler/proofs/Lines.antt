-- The first fault of a text, line by line: what the pass over the lines keeps, and each way through a line.
-- Assumes nothing.
use Prim.Native.Nat.{ℕ, ◌+◌, ◌-◌, ◌<◌, ◌≤◌}
use mathlib.Core.Path.{◌≡◌, refl, sym, ap, subst, ◌∙◌}
use mathlib.Core.Bool.{true, false}
use mathlib.Core.List.{List, [], ◌∷◌}
use native.Mathlib.Omega.{arith}
use lib.ListN.{drop, drop_of_length-le, length, length-drop, take}
use lib.Seq.{length-take-le}
use Rattle.base.specs.Test.{if}
use Rattle.language.specs.Text.{lines}
use Rattle.language.specs.Operation.{END, is_assembly}
use Rattle.language.specs.Card.{Card, Reader, card_of, cards_of, holds_place, one, past, start, walk}
use Rattle.language.specs.Image.{count}
use Rattle.language.specs.Fault.{Deck, fault_of}
use Rattle.language.specs.Answer.{Answer, first_fault}
use Rattle.language.proofs.Places.{behind}
use Rattle.asm_reader.specs.Line.{line_end}
use Rattle.asm_reader.proofs.Laws.{walk-line}
use Rattle.asm_cards.specs.Reading.{Counted}
use Rattle.asm_cards.proofs.Counting.{card-own, counted-past, counted_start}
use Rattle.asm_answers.specs.Verdicts.{Verdict, VerdictOf, verdict_view}
use Rattle.asm_answers.specs.declared.verdict.Fault.{Fault}
use Rattle.assembler.specs.Judges.{PlaceBelow}
use Rattle.std.specs.Prelude.{Ok, Err}

-- the reader r stands at byte i: what it has counted, the places below and those to come, and no fault above
pub record Judging (text : List ℕ) (d : Deck) (size : ℕ) (r : Reader) (i : ℕ) : Type 0 where
  pub inside : i ≤ length text + 1
  pub counted : Counted i r
  pub places : r.place + count holds_place (walk r (lines (drop i text))) ≡ size
  pub rest : (a : Answer) → first_fault d (walk r (lines (drop i text))) a ≡ first_fault d (cards_of text) a

pub judging-start : (text : List ℕ) (d : Deck) (size : ℕ) → count holds_place (cards_of text) ≡ size → Judging text d size start 0
unfolding cards_of
judging-start text d size e = record { inside = omega arith; counted = counted_start; places = omega arith; rest = λ a. refl }

-- a line with the card k
module _ (text : List ℕ) (d : Deck) (size : ℕ) (r : Reader) (i e : ℕ) (v : Judging text d size r i) (h : i < length text)
    (q : e ≡ line_end text i) (k : Card) (k-is : k ≡ card_of r (take (e - i) (drop i text))) where
  abbrev below : List Card
  below = behind k (lines (drop (e + 1) text))

  split : walk r (lines (drop i text)) ≡ k ∷ below
  split = rw k-is (walk-line r text i e h q)

  spot_is : k.spot ≡ r
  unfolding card_of
  spot_is = ap (λ (c : Card). c.spot) k-is

  line-is : k.line ≡ take (e - i) (drop i text)
  unfolding card_of
  line-is = ap (λ (c : Card). c.line) k-is

  card-places : r.place + (one (holds_place k) + count holds_place below) ≡ size
  card-places = rw split at v.places

  pub place-below : PlaceBelow size k
  unfolding if
  place-below t =
      let p : k.spot.place ≡ r.place = ap (λ (x : Reader). x.place) spot_is in
      let o : one (holds_place k) ≡ 1 = rw t in
      omega (arith, card-places)

  pub counted-here : Counted i k.spot
  counted-here = rw spot_is v.counted

  first_of : (a : Answer) → first_fault d (k ∷ below) a ≡ first_fault d (cards_of text) a
  first_of a = sym (ap (λ (cs : List Card). first_fault d cs a) split) ∙ v.rest a

  -- its verdict u, by its number f
  module _ (f : ℕ) (f-is : f ≡ fault_of d k) (u : Verdict) (u-is : VerdictOf f k.spot.line u) where
    told : (a : Answer) → verdict_view u (first_fault d below a) ≡ first_fault d (cards_of text) a
    unfolding first_fault
    told a = (rw f-is at (u-is (first_fault d below a))) ∙ first_of a

    pub broken : (f : Fault) → u ≡ Err f → (a : Answer) → verdict_view u a ≡ first_fault d (cards_of text) a
    broken f e a =
        ap (λ (x : Verdict). verdict_view x a) e ∙ sym (ap (λ (x : Verdict). verdict_view x (first_fault d below a)) e) ∙ told a

    goes_on_lem : u ≡ Ok tt → (a : Answer) → first_fault d below a ≡ first_fault d (cards_of text) a
    goes_on_lem e a = sym (ap (λ (x : Verdict). verdict_view x (first_fault d below a)) e) ∙ told a

    pub closes : u ≡ Ok tt → is_assembly END k.operation ≡ true → (a : Answer) → a ≡ first_fault d (cards_of text) a
    unfolding first_fault if
    closes n t a = rw t at (goes_on_lem n a)

    pub step : u ≡ Ok tt → is_assembly END k.operation ≡ false → e ≤ length text → Judging text d size (past k) (e + 1)
    unfolding past if
    step n t l =
        let m : length k.line ≡ e - i = rw line-is (length-take-le (e - i) (drop i text) (omega (arith, length-drop i text))) in
        let w : i + length k.line + 1 ≡ e + 1 = omega arith in
        let b : below ≡ walk (past k) (lines (drop (e + 1) text)) = rw t refl in
        record {
          inside = omega arith;
          counted = subst (λ (j : ℕ). Counted j (past k)) w (counted-past i k (card-own k r (take (e - i) (drop i text)) k-is) counted-here);
          places = let p : k.spot.place ≡ r.place = ap (λ (x : Reader). x.place) spot_is in omega (arith, rw b at card-places);
          rest = λ a. rw b at (goes_on_lem n a);
        }

-- no line is left
pub all-clear : (text : List ℕ) (d : Deck) (size : ℕ) (r : Reader) (i : ℕ) → Judging text d size r i → length text ≤ i
    → (a : Answer) → a ≡ first_fault d (cards_of text) a
unfolding first_fault walk lines
all-clear text d size r i v h a = let e : drop i text ≡ [] = drop_of_length-le text {i = i} h in rw e at (v.rest a)
