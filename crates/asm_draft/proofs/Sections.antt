-- From section 4 on cards have words in the entries alone.
-- Assumes nothing.
use Prim.Native.Nat.{ℕ, ◌≤◌}
use native.Mathlib.Omega.{arith}
use mathlib.Core.Path.{◌≡◌, refl}
use mathlib.Core.Bool.{true, false}
use mathlib.Core.List.{List, [], ◌∷◌}
use borrow.Author.Tests.{le-leb, ne_eqb}
use lib.Dec.{leb}
use Rattle.base.specs.Test.{◌and◌, ◌or◌, if}
use Rattle.base.proofs.Bool.{failed, ok-le, true-ok}
use Rattle.language.specs.Card.{Card, Reader, card_of, is_external, of_words, opened_past, past, walk}
use Rattle.language.specs.Symbol.{Symbol}
use Rattle.language.specs.Image.{counts_in, flat, fresh_in, is_fresh, starts_in, words_in}
use Rattle.language.proofs.Places.{behind, behind-cases}
use Rattle.asm_draft.specs.Parts.{is_over, part_in}
use Rattle.asm_draft.specs.declared.deck.Part.{Part}
use Rattle.asm_draft.specs.declared.deck.Part.TheVariants as part

refuted : {A : Type 0} → false ≡ true → A
refuted e = absurd (failed (true-ok false e))

not-section : (n k : ℕ) → leb 5 n ≡ true → k ≤ 4 → n ≡ k → ⊥
not-section n k e h q = omega (arith, ok-le 5 n (true-ok _ e))

no-fresh : (c : Card) → leb 5 c.spot.opened ≡ true → is_fresh c ≡ false
unfolding is_fresh ◌and◌
no-fresh c e = rw (ne_eqb c.spot.opened 4 (not-section _ 4 e (omega arith))) refl

no_words : (all : List Symbol) (c : Card) → leb 5 c.spot.opened ≡ true → words_in all c ≡ []
unfolding words_in of_words if ◌or◌
no_words all c e =
    rw (ne_eqb c.spot.opened 3 (not-section _ 3 e (omega arith)), ne_eqb c.spot.opened 4 (not-section _ 4 e (omega arith))) refl

card-over : (p : Part) (all : List Symbol) (c : Card) → is_over p c.spot.opened ≡ true → part_in p all c ≡ []
unfolding fresh_in counts_in starts_in is_external if ◌and◌
card-over part.Entries all c e = refuted e
card-over part.Fresh all c e = rw (no-fresh c e) refl
card-over part.Counts all c e = rw (ne_eqb c.spot.opened 1 (not-section _ 1 e (omega arith))) refl
card-over part.Starts all c e = rw (no-fresh c e, no_words all c e) refl

stays-over : (p : Part) (n m : ℕ) → n ≤ m → is_over p n ≡ true → is_over p m ≡ true
stays-over part.Entries n m h e = e
stays-over part.Fresh n m h e = le-leb 5 m (omega (arith, ok-le 5 n (true-ok _ e)))
stays-over part.Counts n m h e = le-leb 5 m (omega (arith, ok-le 5 n (true-ok _ e)))
stays-over part.Starts n m h e = le-leb 5 m (omega (arith, ok-le 5 n (true-ok _ e)))

pub rest_over : (p : Part) (all : List Symbol) (r : Reader) (ls : List (List ℕ)) → is_over p r.opened ≡ true
    → flat (part_in p all) (walk r ls) ≡ []
unfolding walk card_of past opened_past
rest_over p all r [] e = refl
rest_over p all r (s ∷ ls) e =
    let c = card_of r s in
    let h : flat (part_in p all) (behind c ls) ≡ [] =
    behind-cases (λ (cs : List Card). flat (part_in p all) cs ≡ []) c ls refl
    (rest_over p all (past c) ls (stays-over p r.opened (past c).opened (omega arith) e)) in
    rw (card-over p all c e, h) refl
