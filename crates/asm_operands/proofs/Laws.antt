-- Laws of operands: what they look at of a card, and numbers cut off at the largest word, which is over every limit.
-- Assumes nothing.
use Prim.Native.Nat.{ℕ, ◌+◌, ◌*◌, ◌≤◌, ◌<◌}
use mathlib.Core.Path.{◌≡◌, refl}
use mathlib.Core.Bool.{Bool, true, false}
use mathlib.Core.List.{List}
use native.Mathlib.Omega.{arith}
use borrow.Author.Tests.{leb-false, lt-leb}
use lib.Dec.{leb}
use Rattle.base.specs.Test.{◌or◌, if}
use Rattle.ops.specs.Machine.{cfp_m}
use Rattle.ops.specs.Format.{Format}
use Rattle.language.specs.Card.{Card}
use Rattle.language.specs.Form.{Form, Term, constant, difference, falling, formless, indexed, indirect, literal, multiple, named, omitted, plain, procedure_type, real, register, rising, signed, star, sum}
use Rattle.language.specs.Symbol.{Symbol}
use Rattle.language.specs.Operand.{Outcome, awaits, displaced, gives, indexed_by, misfits, operand_of, plain_by, resolved, signed_within, takes, term_by, then_both, unnamed, value_within}
use Rattle.asm_types.specs.Views.{cut, cut_form, cut_term, most_word}
use Rattle.asm_operands.specs.LineCard.{line_card}

-- two ways to put values together that agree
pub both_by : (a b : Outcome) (f g : ℕ → ℕ → Outcome) → ((v w : ℕ) → f v w ≡ g v w) → then_both a b f ≡ then_both a b g
both_by (gives k r v) (gives k' r' w) f g h = h v w
both_by (gives k r v) awaits f g h = refl
both_by (gives k r v) misfits f g h = refl
both_by (gives k r v) unnamed f g h = refl
both_by awaits b f g h = refl
both_by misfits b f g h = refl
both_by unnamed b f g h = refl

-- an operand looks at the number and the bytes of its line alone
pub line-card : (all : List Symbol) (c : Card) (f : Format) (o : Form)
    → operand_of all c f o ≡ operand_of all (line_card c.spot.line c.line) f o
unfolding operand_of
line-card all c f formless = refl
line-card all c f omitted = refl
line-card all c f star = refl
line-card all c f real = refl
line-card all c f (plain (constant n)) = refl
line-card all c f (plain (named k)) = refl
line-card all c f (register r) = refl
line-card all c f (literal k) = refl
line-card all c f (multiple k) = refl
line-card all c f (indirect r) = refl
line-card all c f (rising r) = refl
line-card all c f (falling r) = refl
line-card all c f (procedure_type b) = refl
line-card all c f (indexed v r) = refl
line-card all c f (sum v w) = refl
line-card all c f (difference v w) = refl
line-card all c f (signed b n) = refl

-- a number that is cut off: it is as it was, or both are over the limit
cut-cases : (P : ℕ → ℕ → Type 0) (n : ℕ) → P n n → (most_word < n → P most_word n) → P (cut n) n
unfolding cut if
cut-cases P n same over = go (leb n most_word) refl
  where
    go : (b : Bool) → leb n most_word ≡ b → P (if b n most_word) n
    go true e = same
    go false e = over (leb-false n most_word e)

cut-within : (limit n : ℕ) → limit ≤ cfp_m → value_within limit (cut n) ≡ value_within limit n
unfolding value_within if
cut-within limit n h =
    cut-cases (λ (a b : ℕ). value_within limit a ≡ value_within limit b) n refl
    (λ g. rw (lt-leb most_word limit (omega arith), lt-leb n limit (omega arith)) refl)

cut-displaced : (r n : ℕ) → displaced r (4 * cut n) ≡ displaced r (4 * n)
unfolding displaced if
cut-displaced r n =
    cut-cases (λ (a b : ℕ). displaced r (4 * a) ≡ displaced r (4 * b)) n refl
    (λ g. let h : cfp_m < 4 * n = omega arith in rw (lt-leb (4 * n) cfp_m h) refl)

cut-signed : (b : Bool) (n : ℕ) → signed_within b (cut n) ≡ signed_within b n
unfolding signed_within if
cut-signed true n =
    cut-cases (λ (x y : ℕ). signed_within true x ≡ signed_within true y) n refl (λ g. rw (lt-leb n (cfp_m + 1) (omega arith)) refl)
cut-signed false n = cut-within cfp_m n (omega arith)

cut-term : (all : List Symbol) (l : ℕ) (v : Term) → term_by all l (cut_term v) ≡ term_by all l v
cut-term all l (constant n) = cut-within cfp_m n (omega arith)
cut-term all l (named k) = refl

cut-indexed : (all : List Symbol) (v : Term) (r : ℕ) → indexed_by all (cut_term v) r ≡ indexed_by all v r
cut-indexed all (constant n) r = cut-displaced r n
cut-indexed all (named k) r = refl

cut-plain : (all : List Symbol) (c : Card) (f : Format) → f.largest ≤ cfp_m → (v : Term) → plain_by all c f (cut_term v) ≡ plain_by all c f v
cut-plain all c f h (constant n) = cut-within f.largest n h
cut-plain all c f h (named k) = refl

cut-takes : (f : Format) (o : Form) → takes f (cut_form o) ≡ takes f o
unfolding takes
cut-takes f formless = refl
cut-takes f omitted = refl
cut-takes f star = refl
cut-takes f real = refl
cut-takes f (plain (constant n)) = refl
cut-takes f (plain (named k)) = refl
cut-takes f (register r) = refl
cut-takes f (literal k) = refl
cut-takes f (multiple k) = refl
cut-takes f (indirect r) = refl
cut-takes f (rising r) = refl
cut-takes f (falling r) = refl
cut-takes f (procedure_type b) = refl
cut-takes f (indexed v r) = refl
cut-takes f (sum v w) = refl
cut-takes f (difference v w) = refl
cut-takes f (signed b n) = refl

module _ (all : List Symbol) (c : Card) (f : Format) (h : f.largest ≤ cfp_m) where
  cut-resolved : (o : Form) → resolved all c f (cut_form o) ≡ resolved all c f o
  cut-resolved formless = refl
  cut-resolved omitted = refl
  cut-resolved star = refl
  cut-resolved real = refl
  cut-resolved (plain v) = cut-plain all c f h v
  cut-resolved (register r) = refl
  cut-resolved (literal k) = refl
  cut-resolved (multiple k) = refl
  cut-resolved (indirect r) = refl
  cut-resolved (rising r) = refl
  cut-resolved (falling r) = refl
  cut-resolved (procedure_type b) = refl
  cut-resolved (indexed v r) = cut-indexed all v r
  cut-resolved (sum v w) = rw (cut-term all c.spot.line v, cut-term all c.spot.line w) refl
  cut-resolved (difference v w) = rw (cut-term all c.spot.line v, cut-term all c.spot.line w) refl
  cut-resolved (signed b n) = cut-signed b n

  pub cut-operand : (o : Form) → operand_of all c f (cut_form o) ≡ operand_of all c f o
  unfolding operand_of
  cut-operand o = rw (cut-takes f o, cut-resolved o) refl
