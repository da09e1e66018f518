-- The dispatcher has an arm for every operation that can be arrived at.
-- Assumes nothing.
use Prim.Native.Nat.{ℕ, zero, suc, ◌+◌, ◌-◌, ◌<◌, ◌≤◌}
use mathlib.Core.Path.{◌≡◌, refl, subst}
use mathlib.Core.Bool.{Bool, true, false, cond}
use mathlib.Core.List.{List, [], ◌∷◌}
use mathlib.Core.Logic.{⊎_elim}
use native.Mathlib.Omega.{arith}
use lib.Dec.{eqb, leb, ltb}
use borrow.Author.Tests.{le-leb, lt-leb}
use Rattle.base.specs.Test.{Ok, ◌and◌, ◌or◌, if}
use Rattle.base.specs.Lists.{◌at◌, member}
use Rattle.base.proofs.Bool.{eq-ok, failed, ok-eq, or_cases, or_l, or_r, passed, true-ok}
use Rattle.ops.specs.Class.{is_executable}
use Rattle.ops.specs.Ops.{Row, rows, class_in}
use Rattle.exec_core.specs.Seen.{Running}
use Rattle.dispatch.specs.Reals.{real_numbers}
use Rattle.exec_core.proofs.Steps.{executable-number}

-- a number put before the first that is less
abbrev pub placed : ℕ → List ℕ → List ℕ
placed n [] = n ∷ []
placed n (m ∷ ms) = cond (ltb m n) (n ∷ m ∷ ms) (m ∷ placed n ms)

-- the numbers of these operations and of ns, the largest first
abbrev pub arrivable : List ℕ → List Row → List ℕ
arrivable ns [] = ns
arrivable ns (r ∷ rs) = arrivable (cond (is_executable r.class) (placed r.number ns) ns) rs

member-placed : (k n : ℕ) (ns : List ℕ) → Ok (member k ns) → Ok (member k (placed n ns))
unfolding member
member-placed k n [] h = absurd (failed h)
member-placed k n (m ∷ ms) h = go (member-placed k n ms) (ltb m n)
  where
    go : (Ok (member k ms) → Ok (member k (placed n ms))) → (b : Bool) → Ok (member k (cond b (n ∷ m ∷ ms) (m ∷ placed n ms)))
    go ih true = or_r _ _ h
    go ih false = ⊎_elim (λ e. or_l _ _ e) (λ e. or_r _ _ (ih e)) (or_cases _ _ h)

member-there : (k n : ℕ) (ns : List ℕ) → k ≡ n → Ok (member k (placed n ns))
unfolding member
member-there k n [] e = or_l _ _ (eq-ok k n e)
member-there k n (m ∷ ms) e = go (member-there k n ms e) (ltb m n)
  where
    go : Ok (member k (placed n ms)) → (b : Bool) → Ok (member k (cond b (n ∷ m ∷ ms) (m ∷ placed n ms)))
    go ih true = or_l _ _ (eq-ok k n e)
    go ih false = or_r _ _ ih

member-more : (k n : ℕ) (ns : List ℕ) (b : Bool) → Ok (member k ns) → Ok (member k (cond b (placed n ns) ns))
member-more k n ns true h = member-placed k n ns h
member-more k n ns false h = h

member-first : (k n : ℕ) (ns : List ℕ) (b : Bool) → Ok b → k ≡ n → Ok (member k (cond b (placed n ns) ns))
member-first k n ns true h e = member-there k n ns e
member-first k n ns false h e = absurd (failed h)

member-kept : (k : ℕ) (ns : List ℕ) (rs : List Row) → Ok (member k ns) → Ok (member k (arrivable ns rs))
member-kept k ns [] h = h
member-kept k ns (r ∷ rs) h =
    member-kept k (cond (is_executable r.class) (placed r.number ns) ns) rs (member-more k r.number ns (is_executable r.class) h)

listed_by : (k : ℕ) (ns : List ℕ) (r : Row) (rs : List Row) (b : Bool) → eqb k r.number ≡ b
    → (Ok (is_executable (class_in k rs)) → Ok (member k (arrivable ns (r ∷ rs))))
    → Ok (is_executable (if b r.class (class_in k rs))) → Ok (member k (arrivable ns (r ∷ rs)))
unfolding if
listed_by k ns r rs true e f a =
    member-kept k _ rs (member-first k r.number ns (is_executable r.class) a (ok-eq k r.number (true-ok _ e)))
listed_by k ns r rs false e f a = f a

listed : (k : ℕ) (ns : List ℕ) (rs : List Row) → Ok (is_executable (class_in k rs)) → Ok (member k (arrivable ns rs))
listed k ns [] a = absurd (failed a)
listed k ns (r ∷ rs) a = listed_by k ns r rs (eqb k r.number) refl (λ x. listed k (cond (is_executable r.class) (placed r.number ns) ns) rs x) a

-- k is none of these numbers
abbrev pub NoneOf : ℕ → List ℕ → Type 0
NoneOf k [] = Unit {0}
NoneOf k (n ∷ ns) = NoneOf k ns × (k ≡ n → ⊥)

pub none_of : (k : ℕ) (ns : List ℕ) → NoneOf k ns → Ok (member k ns) → ⊥
unfolding member
none_of k [] h a = failed a
none_of k (n ∷ ns) h a = ⊎_elim (λ e. h.1 (ok-eq k n e)) (λ e. none_of k ns h.0 e) (or_cases _ _ a)

-- The real operations that go by a function of their own.

abbrev pub is_real : ℕ → Bool
is_real n = leb 503 n and leb n 506 or leb 509 n and leb n 515 or leb 805 n and leb n 806

pub below-reals : (n : ℕ) → n < 501 → is_real n ≡ false
unfolding ◌and◌ ◌or◌
below-reals n h = rw (lt-leb 503 n (omega arith), lt-leb 509 n (omega arith), lt-leb 805 n (omega arith)) refl

pub between-reals : (n : ℕ) → 515 < n → n < 805 → is_real n ≡ false
unfolding ◌and◌ ◌or◌
between-reals n h g =
    rw (le-leb 503 n (omega arith), lt-leb n 506 (omega arith), le-leb 509 n (omega arith), lt-leb n 515 h, lt-leb 805 n g) refl

pub above-reals : (n : ℕ) → 806 < n → is_real n ≡ false
unfolding ◌and◌ ◌or◌
above-reals n h =
    rw (
      le-leb 503 n (omega arith),
      lt-leb n 506 (omega arith),
      le-leb 509 n (omega arith),
      lt-leb n 515 (omega arith),
      le-leb 805 n (omega arith),
      lt-leb n 806 h,
    ) refl

-- the numbers that are no real operation's
abbrev pub others : List ℕ → List ℕ
others [] = []
others (n ∷ ns) = cond (is_real n) (others ns) (n ∷ others ns)

member-others : (k : ℕ) (ns : List ℕ) → is_real k ≡ false → Ok (member k ns) → Ok (member k (others ns))
unfolding member
member-others k [] e h = absurd (failed h)
member-others k (n ∷ ns) e h =
    ⊎_elim (λ q. there (ok-eq k n q)) (λ q. kept (is_real n) (member-others k ns e q)) (or_cases _ _ h)
  where
    kept : (b : Bool) → Ok (member k (others ns)) → Ok (member k (cond b (others ns) (n ∷ others ns)))
    kept true a = a
    kept false a = or_r _ _ a

    there : k ≡ n → Ok (member k (cond (is_real n) (others ns) (n ∷ others ns)))
    there q = rw (← q, e) (or_l _ _ (eq-ok k k refl))

-- the number of a sum, difference, product or quotient
pub computes-listed : (n : ℕ) → 501 ≤ n → (n ≡ 501 → ⊥) → (n ≡ 502 → ⊥) → n < 507 → Ok (member n real_numbers)
unfolding member ◌or◌
computes-listed n a p q g =
    let h : 503 ≤ n = omega arith in
    let e : 503 + (n - 503) ≡ n = omega (arith, h) in
    subst (λ (k : ℕ). Ok (member k real_numbers)) e (go (n - 503) (omega (arith, h, g)))
  where
    go : (i : ℕ) → i ≤ 3 → Ok (member (503 + i) real_numbers)
    go zero l = passed
    go (suc zero) l = passed
    go (suc (suc zero)) l = passed
    go (suc (suc (suc zero))) l = passed
    go (suc (suc (suc (suc i)))) l = absurd (omega arith)

-- of a negation or a test
pub tests-listed : (n : ℕ) → 507 ≤ n → (n ≡ 507 → ⊥) → (n ≡ 508 → ⊥) → n < 516 → Ok (member n real_numbers)
unfolding member ◌or◌
tests-listed n a p q g =
    let h : 509 ≤ n = omega arith in
    let e : 509 + (n - 509) ≡ n = omega (arith, h) in
    subst (λ (k : ℕ). Ok (member k real_numbers)) e (go (n - 509) (omega (arith, h, g)))
  where
    go : (i : ℕ) → i ≤ 6 → Ok (member (509 + i) real_numbers)
    go zero l = passed
    go (suc zero) l = passed
    go (suc (suc zero)) l = passed
    go (suc (suc (suc zero))) l = passed
    go (suc (suc (suc (suc zero)))) l = passed
    go (suc (suc (suc (suc (suc zero))))) l = passed
    go (suc (suc (suc (suc (suc (suc zero)))))) l = passed
    go (suc (suc (suc (suc (suc (suc (suc i))))))) l = absurd (omega arith)

-- of a conversion
pub converts-listed : (n : ℕ) → 801 ≤ n → (n ≡ 801 → ⊥) → (n ≡ 802 → ⊥) → (n ≡ 803 → ⊥) → (n ≡ 804 → ⊥) → n < 807 → Ok (member n real_numbers)
unfolding member ◌or◌
converts-listed n a p q r s g =
    let h : 805 ≤ n = omega arith in
    let e : 805 + (n - 805) ≡ n = omega (arith, h) in
    subst (λ (k : ℕ). Ok (member k real_numbers)) e (go (n - 805) (omega (arith, h, g)))
  where
    go : (i : ℕ) → i ≤ 1 → Ok (member (805 + i) real_numbers)
    go zero l = passed
    go (suc zero) l = passed
    go (suc (suc i)) l = absurd (omega arith)

-- no other operation stands where the machine runs
pub unlisted : {t : List ℕ} {b : ℕ} {z m l : List ℕ} {c : ℕ} → Running t b z m l c → NoneOf (t at b) (others (arrivable [] rows))
    → is_real (t at b) ≡ false → ⊥
unlisted {t} {b} y h e =
    none_of (t at b) (others (arrivable [] rows)) h
    (member-others (t at b) (arrivable [] rows) e (listed (t at b) [] rows (executable-number y)))
