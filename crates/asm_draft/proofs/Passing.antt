-- What a pass over the lines keeps from line to line.
-- Assumes nothing.
use Prim.Native.Nat.{ℕ, ◌+◌, ◌-◌, ◌<◌, ◌≤◌}
use native.Mathlib.Omega.{arith}
use mathlib.Core.Path.{◌≡◌, refl, sym, ap, subst}
use mathlib.Core.Bool.{true, false}
use mathlib.Core.List.{List, [], ◌++◌}
use lib.ListN.{drop, drop_of_length-le, length, length-drop, take}
use lib.Seq.{length-take-le}
use Rattle.base.specs.Test.{if}
use Rattle.language.specs.Text.{lines, max_bytes}
use Rattle.language.specs.Operation.{END, is_assembly}
use Rattle.language.specs.Card.{Card, Reader, card_of, cards_of, past, start, walk}
use Rattle.language.specs.Image.{flat}
use Rattle.language.proofs.Places.{behind}
use Rattle.asm_reader.specs.Line.{line_end}
use Rattle.asm_reader.proofs.Laws.{walk-line}
use Rattle.asm_cards.specs.Reading.{Counted}
use Rattle.asm_cards.proofs.Counting.{card-own, counted-more, counted-past, counted_start}
use Rattle.asm_draft.specs.Written.{Written}
use Rattle.asm_draft.proofs.Storing.{Filling, begun, filled, put-more, room}

pub record Passing (f : Card → List ℕ) (text old : List ℕ) (first : ℕ) (out : List ℕ) (w i : ℕ) (r : Reader) : Type 0 where
  pub i_le : i ≤ length text + 1
  pub enough : first + length (flat f (cards_of text)) ≤ length old
  pub counted : Counted i r
  pub so_far : Filling old first (flat f (cards_of text)) out w (flat f (walk r (lines (drop i text))))

pub passing-start : (f : Card → List ℕ) (text old : List ℕ) (first : ℕ) → first + length (flat f (cards_of text)) ≤ length old
    → Passing f text old first old first 0 start
unfolding cards_of
passing-start f text old first h =
    record { i_le = omega arith; enough = h; counted = counted_start; so_far = begun old first (flat f (cards_of text)) }

pub card-spot : (k : Card) (r : Reader) (s : List ℕ) → k ≡ card_of r s → k.spot ≡ r
unfolding card_of
card-spot k r s e = ap (λ (x : Card). x.spot) e

card-line : (k : Card) (r : Reader) (s : List ℕ) → k ≡ card_of r s → k.line ≡ s
unfolding card_of
card-line k r s e = ap (λ (x : Card). x.line) e

module _ (f : Card → List ℕ) (text old : List ℕ) (first : ℕ) (out : List ℕ) (w i : ℕ) (r : Reader) (v : Passing f text old first out w i r)
    (e : ℕ) (h : i < length text) (q : e ≡ line_end text i) (le : e ≤ length text) where
  abbrev line : List ℕ
  line = take (e - i) (drop i text)

  pub line-long : length line ≡ e - i
  line-long = length-take-le (e - i) (drop i text) (omega (arith, length-drop i text))

  module _ (k : Card) (ek : k ≡ card_of r line) where
    split : Filling old first (flat f (cards_of text)) out w (f k ++ flat f (behind k (lines (drop (e + 1) text))))
    split = rw (walk-line r text i e h q, ← ek) at v.so_far

    pub passing-room : w + length (f k) ≤ length out
    passing-room =
        room old first (flat f (cards_of text)) out w (f k) (flat f (behind k (lines (drop (e + 1) text)))) split v.enough

    pub spot-counted : length text ≤ max_bytes → Counted max_bytes k.spot
    spot-counted l =
        counted-more i max_bytes k.spot (omega arith) (subst (Counted i) (sym (card-spot k r line ek)) v.counted)

    module _ (new : List ℕ) (u : ℕ) (p : Written out w (f k) new u) where
      after : Filling old first (flat f (cards_of text)) new u (flat f (behind k (lines (drop (e + 1) text))))
      after = put-more old first (flat f (cards_of text)) out w (f k) (flat f (behind k (lines (drop (e + 1) text)))) new u split p

      pub passing-end : is_assembly END k.operation ≡ true → Written old first (flat f (cards_of text)) new u
      unfolding if
      passing-end t = filled old first (flat f (cards_of text)) new u (rw t at after)

      pub passing-more : is_assembly END k.operation ≡ false → (r' : Reader) → r' ≡ past k → Passing f text old first new u (e + 1) r'
      unfolding if
      passing-more t r' er =
          let n : Counted i k.spot = subst (Counted i) (sym (card-spot k r line ek)) v.counted in
          let m : i + length k.line + 1 ≡ e + 1 = omega (arith, ap length (card-line k r line ek), line-long, q) in
          let a : Filling old first (flat f (cards_of text)) new u (flat f (walk (past k) (lines (drop (e + 1) text)))) = rw t at after in
          record {
            i_le = omega arith;
            enough = v.enough;
            counted = rw er (subst (λ (j : ℕ). Counted j (past k)) m (counted-past i k (card-own k r line ek) n));
            so_far = rw er a;
          }

-- nothing is to come
pub passing-over : (f : Card → List ℕ) (text old : List ℕ) (first : ℕ) (out : List ℕ) (w i : ℕ) (r : Reader) → Passing f text old first out w i r
    → flat f (walk r (lines (drop i text))) ≡ [] → Written old first (flat f (cards_of text)) out w
passing-over f text old first out w i r v e = filled old first (flat f (cards_of text)) out w (rw e at v.so_far)

pub passing-done : (f : Card → List ℕ) (text old : List ℕ) (first : ℕ) (out : List ℕ) (w i : ℕ) (r : Reader) → Passing f text old first out w i r
    → length text ≤ i → Written old first (flat f (cards_of text)) out w
unfolding walk lines
passing-done f text old first out w i r v h =
    let d : drop i text ≡ [] = drop_of_length-le text {i = i} h in
    passing-over f text old first out w i r v (rw d refl)
