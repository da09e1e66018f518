-- A place that an operand gives is the value of a symbol of a place, which is within its limit.
-- Assumes nothing.
use Prim.Native.Nat.{ℕ, zero, suc, ◌+◌, ◌*◌, ◌≤◌}
use native.Mathlib.Omega.{arith}
use mathlib.Core.Path.{◌≡◌, refl, sym, ◌∙◌}
use mathlib.Core.Bool.{Bool, true, false}
use mathlib.Core.List.{List, [], ◌∷◌}
use lib.Dec.{eqb, leb, ltb}
use Rattle.base.specs.Test.{if}
use Rattle.base.specs.Lists.{◌at◌, member}
use Rattle.ops.specs.Format.{Format, no_kind}
use Rattle.ops.specs.Machine.{cfp_m}
use Rattle.supplied.specs.Supplied.{supplied_of}
use Rattle.std.specs.Prelude.{Option, Some, None}
use Rattle.language.specs.Text.{Parsed, parsed, unparsed}
use Rattle.language.specs.Operation.{formats_of}
use Rattle.language.specs.Form.{Form, constant, difference, falling, formless, indexed, indirect, literal, multiple, named, omitted, plain, procedure_type, real, register, rising, signed, star, sum, written_forms}
use Rattle.language.specs.Card.{Card}
use Rattle.language.specs.Symbol as Symbols
use Rattle.language.specs.Symbol.{Meaning, Sort, Symbol, address_of, carries, external_of, fields_named, first_place, global_meaning, has_sort, is_sort, lacking, meaning, meaning_by, meaning_in, place_of, placed_by, sort_of_place, sortless, undefined, value_of}
use Rattle.language.specs.Operand as Operands
use Rattle.language.specs.Operand.{Outcome, awaits, displaced, gives, misfits, operand_at, operand_of, operands_of, outcomes, resolved, signed_within, subtracted, summed, supplied_by, symbol_by, takes, term_by, then_both, then_value, unnamed, value_within}
use Rattle.asm_types.specs.Views.{sort_at, symbols_from, symbols_in}
use Rattle.asm_symbols.specs.Symbolic.{Symbolic, first_placed, last_sort, most_places}
use Rattle.asm_symbols.specs.Walk.{sort_code}
use Rattle.asm_symbols.proofs.Places.{among-le}
use Rattle.asm_symbols.proofs.Sorts.{carries-by, single, sort-code}
use Rattle.asm_draft.specs.Operands.{PlaceFits}

-- Symbols.

-- the values of places are within their limit
abbrev PlacesFit : List Symbol → Type 0
PlacesFit [] = Unit {0}
PlacesFit (x ∷ xs) = (first_placed ≤ sort_code x.sort → x.value ≤ most_places) × PlacesFit xs

symbols-fit : (xs : List ℕ) (n : ℕ) → Symbolic xs n → (i k : ℕ) → i + k ≤ n → PlacesFit (symbols_from xs i k)
unfolding symbols_from
symbols-fit xs n y i zero h = tt
symbols-fit xs n y i (suc k) h =
    let e : sort_code (sort_at (xs at (5 * i + 2))) ≡ xs at (5 * i + 2) = sort-code (xs at (5 * i + 2)) (y.sorts i (omega arith)) in
    ((λ l. y.places i (omega arith) (omega arith)), symbols-fit xs n y (suc i) k (omega arith))

named-fit : (k : ℕ) (xs : List Symbol) → PlacesFit xs → PlacesFit (fields_named k xs)
unfolding fields_named if
named-fit k [] f = tt
named-fit k (x ∷ xs) f = go (eqb k x.name) (named-fit k xs f.1)
  where
    go : (b : Bool) → PlacesFit (fields_named k xs) → PlacesFit (if b (x ∷ fields_named k xs) (fields_named k xs))
    go true r = (f.0, r)
    go false r = r

abbrev ParsedFits : Parsed → Type 0
ParsedFits (parsed v) = v ≤ most_places
ParsedFits unparsed = Unit {0}

first-fit : (p : Sort → Bool) → ((a : Sort) → p a ≡ true → first_placed ≤ sort_code a) → (xs : List Symbol) → PlacesFit xs → ParsedFits (first_place p xs)
unfolding first_place if
first-fit p h [] f = tt
first-fit p h (x ∷ xs) f = go (p x.sort) refl (first-fit p h xs f.1)
  where
    go : (b : Bool) → p x.sort ≡ b → ParsedFits (first_place p xs) → ParsedFits (if b (parsed x.value) (first_place p xs))
    go true e r = f.0 (h x.sort e)
    go false e r = r

-- the sorts that are places
is-place : (n : ℕ) → n ≤ last_sort → first_placed ≤ n → (a : Sort) → is_sort (sort_at n) a ≡ true → first_placed ≤ sort_code a
is-place n l h a e = omega (arith, (among-le n n (sort_code a) (sym (single n l a) ∙ e)).0)

carries-place : (a : Sort) → carries a ≡ true → first_placed ≤ sort_code a
carries-place a e = omega (arith, (among-le 7 10 (sort_code a) (sym (carries-by a) ∙ e)).0)

-- Meanings.

abbrev MeaningFits : Meaning → Type 0
MeaningFits undefined = Unit {0}
MeaningFits sortless = Unit {0}
MeaningFits (external_of n) = Unit {0}
MeaningFits (address_of a) = Unit {0}
MeaningFits (value_of v l) = Unit {0}
MeaningFits (place_of a p g) = p ≤ most_places
MeaningFits (lacking a g) = Unit {0}

placed-fit : (q : Parsed) (a d : Sort) (g : Bool) → ParsedFits q → MeaningFits (placed_by q a d g)
placed-fit (parsed p) a d g f = f
placed-fit unparsed a d g f = tt

procedure-fit : (xs : List Symbol) → PlacesFit xs → ParsedFits (first_place (is_sort Symbols.procedure) xs)
procedure-fit xs f = first-fit (is_sort Symbols.procedure) (is-place 8 (omega arith) (omega arith)) xs f

returns-fit : (xs : List Symbol) → PlacesFit xs → ParsedFits (first_place (is_sort Symbols.returns) xs)
returns-fit xs f = first-fit (is_sort Symbols.returns) (is-place 9 (omega arith) (omega arith)) xs f

global-fit : (xs : List Symbol) → PlacesFit xs → MeaningFits (global_meaning xs)
unfolding global_meaning if
global-fit xs f = go (has_sort Symbols.routine xs)
  where
    go : (b : Bool)
        → MeaningFits (if b (placed_by (first_place (is_sort Symbols.returns) xs) Symbols.returns Symbols.routine true)
        (placed_by (first_place carries xs) (sort_of_place xs) Symbols.global true))
    go true = placed-fit (first_place (is_sort Symbols.returns) xs) _ _ _ (returns-fit xs f)
    go false = placed-fit (first_place carries xs) _ _ _ (first-fit carries carries-place xs f)

by-fit : (a : Sort) (x : Symbol) (xs : List Symbol) → (first_placed ≤ sort_code a → x.value ≤ most_places) → PlacesFit xs → MeaningFits (meaning_by a x xs)
by-fit Symbols.bare x xs h f = tt
by-fit Symbols.external x xs h f = tt
by-fit Symbols.internal x xs h f = placed-fit (first_place (is_sort Symbols.procedure) xs) _ _ _ (procedure-fit xs f)
by-fit Symbols.routine x xs h f = placed-fit (first_place (is_sort Symbols.returns) xs) _ _ _ (returns-fit xs f)
by-fit Symbols.global x xs h f = global-fit xs f
by-fit Symbols.equal x xs h f = tt
by-fit Symbols.word x xs h f = tt
by-fit Symbols.entry x xs h f = h (omega arith)
by-fit Symbols.procedure x xs h f = h (omega arith)
by-fit Symbols.returns x xs h f = h (omega arith)
by-fit Symbols.plain x xs h f = h (omega arith)
by-fit Symbols.labelless x xs h f = h (omega arith)

in-fit : (xs : List Symbol) → PlacesFit xs → MeaningFits (meaning_in xs)
in-fit [] f = tt
in-fit (x ∷ xs) f = by-fit x.sort x xs f.0 f.1

meaning-fit : (all : List Symbol) → PlacesFit all → (k : ℕ) → MeaningFits (meaning all k)
unfolding meaning
meaning-fit all f k = in-fit (fields_named k all) (named-fit k all f)

-- Outcomes.

if-fit : (b : Bool) (o o' : Outcome) → PlaceFits o → PlaceFits o' → PlaceFits (if b o o')
unfolding if
if-fit true o o' f g = f
if-fit false o o' f g = g

value-fit : (limit v : ℕ) → PlaceFits (value_within limit v)
unfolding value_within
value-fit limit v = if-fit (leb v limit) _ _ (λ e. omega arith) tt

displaced-fit : (r v : ℕ) → PlaceFits (displaced r v)
unfolding displaced
displaced-fit r v = if-fit (leb v cfp_m) _ _ (λ e. omega arith) tt

value-by : (limit : ℕ) (m : Meaning) → PlaceFits (Operands.value_by limit m)
value-by limit undefined = tt
value-by limit sortless = tt
value-by limit (external_of n) = tt
value-by limit (address_of a) = tt
value-by limit (value_of v l) = value-fit limit v
value-by limit (place_of a p g) = tt
value-by limit (lacking a g) = tt

multiple-by : (m : Meaning) → PlaceFits (Operands.multiple_by m)
multiple-by undefined = tt
multiple-by sortless = tt
multiple-by (external_of n) = tt
multiple-by (address_of a) = tt
multiple-by (value_of v l) = value-fit _ _
multiple-by (place_of a p g) = tt
multiple-by (lacking a g) = tt

equal_by_lem : (l : ℕ) (m : Meaning) → PlaceFits (Operands.equal_by l m)
equal_by_lem l undefined = tt
equal_by_lem l sortless = tt
equal_by_lem l (external_of n) = tt
equal_by_lem l (address_of a) = tt
equal_by_lem l (value_of v l') = if-fit (ltb l' l) _ _ (value-fit _ _) tt
equal_by_lem l (place_of a p g) = tt
equal_by_lem l (lacking a g) = tt

literal-by : (m : Meaning) → PlaceFits (Operands.literal_by m)
literal-by undefined = tt
literal-by sortless = tt
literal-by (external_of n) = tt
literal-by (address_of a) = λ e. omega arith
literal-by (value_of v l) = λ e. omega arith
literal-by (place_of a p g) = if-fit (is_sort Symbols.entry a) _ _ (λ e. omega arith) tt
literal-by (lacking a g) = if-fit (is_sort Symbols.global a) _ _ tt tt

address-by : (m : Meaning) → PlaceFits (Operands.address_by m)
address-by undefined = tt
address-by sortless = tt
address-by (external_of n) = tt
address-by (address_of a) = λ e. omega arith
address-by (value_of v l) = tt
address-by (place_of a p g) = tt
address-by (lacking a g) = tt

displaced-by : (r : ℕ) (m : Meaning) → PlaceFits (Operands.displaced_by r m)
displaced-by r undefined = tt
displaced-by r sortless = tt
displaced-by r (external_of n) = tt
displaced-by r (address_of a) = displaced-fit _ _
displaced-by r (value_of v l) = displaced-fit _ _
displaced-by r (place_of a p g) = tt
displaced-by r (lacking a g) = tt

place-by : (m : Meaning) → MeaningFits m → PlaceFits (Operands.place_by m)
place-by undefined f = tt
place-by sortless f = tt
place-by (external_of n) f = tt
place-by (address_of a) f = tt
place-by (value_of v l) f = tt
place-by (place_of a p g) f = λ e. f
place-by (lacking a g) f = tt

callee-by : (m : Meaning) → MeaningFits m → PlaceFits (Operands.callee_by m)
callee-by undefined f = tt
callee-by sortless f = tt
callee-by (external_of n) f = λ e. omega arith
callee-by (address_of a) f = tt
callee-by (value_of v l) f = tt
callee-by (place_of a p g) f = if-fit (is_sort Symbols.procedure a) _ _ (λ e. f) tt
callee-by (lacking a g) f = if-fit (is_sort Symbols.internal a) _ _ tt tt

global-by : (m : Meaning) → MeaningFits m → PlaceFits (Operands.global_by m)
global-by undefined f = tt
global-by sortless f = tt
global-by (external_of n) f = tt
global-by (address_of a) f = tt
global-by (value_of v l) f = tt
global-by (place_of a p g) f = if-fit g _ _ (λ e. f) tt
global-by (lacking a g) f = if-fit g _ _ tt tt

symbol-by : (f : Format) (l : ℕ) (m : Meaning) → MeaningFits m → PlaceFits (symbol_by f l m)
unfolding symbol_by
symbol-by f l m h =
    if-fit _ _ _ (value-by f.largest m)
    (if-fit _ _ _ (equal_by_lem l m)
    (if-fit _ _ _ (literal-by m)
    (if-fit _ _ _ (place-by m h) (if-fit _ _ _ (callee-by m h) (if-fit _ _ _ (global-by m h) (address-by m))))))

then_fit : (o : Outcome) (f : ℕ → Outcome) → ((v : ℕ) → PlaceFits (f v)) → PlaceFits (then_value o f)
then_fit (gives k r v) f h = h v
then_fit awaits f h = tt
then_fit misfits f h = tt
then_fit unnamed f h = tt

both-fit : (o o' : Outcome) (f : ℕ → ℕ → Outcome) → ((v w : ℕ) → PlaceFits (f v w)) → PlaceFits (then_both o o' f)
both-fit (gives k r v) o' f h = then_fit o' (f v) (h v)
both-fit awaits o' f h = tt
both-fit misfits o' f h = tt
both-fit unnamed o' f h = then_fit o' (λ w. unnamed) (λ w. tt)

summed-fit : (v w : ℕ) → PlaceFits (summed v w)
unfolding summed
summed-fit v w = value-fit _ _

subtracted-fit : (v w : ℕ) → PlaceFits (subtracted v w)
unfolding subtracted
subtracted-fit v w = if-fit (leb w v) _ _ (λ e. omega arith) tt

signed_fit : (b : Bool) (n : ℕ) → PlaceFits (signed_within b n)
unfolding signed_within
signed_fit b n = if-fit b _ _ (if-fit _ _ _ (λ e. omega arith) tt) (value-fit _ _)

supplied-fit : (s : Option ℕ) → PlaceFits (supplied_by s)
supplied-fit (Some v) = λ e. omega arith
supplied-fit None = tt

module _ (all : List Symbol) (fit : PlacesFit all) (c : Card) where
  resolved-fit : (f : Format) (o : Form) → PlaceFits (resolved all c f o)
  resolved-fit f formless = tt
  resolved-fit f omitted = λ e. omega arith
  resolved-fit f star =
      supplied-fit (supplied_of (c.line at 0) (c.line at 1) (c.line at 2) (c.line at 3) (c.line at 4))
  resolved-fit f real = λ e. omega arith
  resolved-fit f (plain (constant n)) = value-fit _ _
  resolved-fit f (plain (named k)) = symbol-by f c.spot.line (meaning all k) (meaning-fit all fit k)
  resolved-fit f (register r) = λ e. omega arith
  resolved-fit f (literal k) = literal-by (meaning all k)
  resolved-fit f (multiple k) = multiple-by (meaning all k)
  resolved-fit f (indirect r) = λ e. omega arith
  resolved-fit f (rising r) = λ e. omega arith
  resolved-fit f (falling r) = λ e. omega arith
  resolved-fit f (procedure_type b) = λ e. omega arith
  resolved-fit f (indexed (constant n) r) = displaced-fit _ _
  resolved-fit f (indexed (named k) r) = displaced-by r (meaning all k)
  resolved-fit f (sum v w) = both-fit (term_by all c.spot.line v) (term_by all c.spot.line w) summed summed-fit
  resolved-fit f (difference v w) = both-fit (term_by all c.spot.line v) (term_by all c.spot.line w) subtracted subtracted-fit
  resolved-fit f (signed b n) = signed_fit b n

  operand_fit : (f : Format) (o : Form) → PlaceFits (operand_of all c f o)
  unfolding operand_of
  operand_fit f o = if-fit (takes f o) _ _ (resolved-fit f o) tt

  missing-fit : (f : Format) → PlaceFits (Operands.missing f)
  missing-fit f = if-fit (member no_kind f.kinds) _ _ (λ e. omega arith) tt

  operands-fit : (fs : List Format) (os : List Form) (i : ℕ) → PlaceFits (operand_at (operands_of all c fs os) i)
  unfolding operands_of
  operands-fit [] os i = λ e. omega arith
  operands-fit (f ∷ fs) [] zero = missing-fit f
  operands-fit (f ∷ fs) [] (suc i) = operands-fit fs [] i
  operands-fit (f ∷ fs) (o ∷ os) zero = operand_fit f o
  operands-fit (f ∷ fs) (o ∷ os) (suc i) = operands-fit fs os i

pub outcomes-fit : (xs : List ℕ) (n : ℕ) → Symbolic xs n → (c : Card) (i : ℕ) → PlaceFits (operand_at (outcomes (symbols_in xs n) c) i)
unfolding outcomes
outcomes-fit xs n y c i =
    operands-fit (symbols_in xs n) (symbols-fit xs n y 0 n (omega arith)) c (formats_of c.operation) (written_forms c.operation c.line) i

-- as the code holds it
pub place_le : (o : Outcome) → PlaceFits o → (k v : ℕ) → k ≡ Operands.kind_of o → v ≡ Operands.value_in o → k ≡ 6 → v ≤ most_places
place_le (gives a r b) f k v e q h = omega (arith, f (sym e ∙ h))
place_le awaits f k v e q h = omega arith
place_le misfits f k v e q h = omega arith
place_le unnamed f k v e q h = omega arith
