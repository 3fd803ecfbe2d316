-- What it says of a set that no move lowers its cost, as a bound by any routing of the clients: `add_by`, `drop_by` and `swap_by`.
-- They hold for every facility o, open or closed, so that the proof has no cases of its own for that.
use Prim.Native.Nat.{ℕ, ◌+◌, ◌*◌, ◌≤◌, ◌<◌}
use native.Mathlib.Omega.{arith}
use mathlib.Core.Path.{◌≡◌, refl, sym, ap, ◌∙◌}
use mathlib.Core.Bool.{Bool, true, false, cond, not}
use borrow.Author.Tests.{eqb-true}
use lib.Dec.{eqb}
use Rattle.model.specs.Loops.{on, sum}
use Rattle.model.specs.Sets.{plus, minus, trade}
use Rattle.model.specs.Instance.{Instance, opening_cost, service_cost, total_cost}
use Rattle.model.proofs.Bools.{and_right, or_cases, cases, Eq?, same, diff, test}
use Rattle.model.proofs.SumLaws.{sum_cong, sum_add}
use Rattle.model.proofs.CountLaws.{sum_plus_le, sum_minus, count_two}
use Rattle.model.proofs.TestSetLaws.{plus_same, minus_in}
use Rattle.model.proofs.CostLaws.{served_by}
use Rattle.bounds.specs.Optimum.{OpenOptimum}

-- what it costs to serve each client j from facility r j
abbrev pub routed : Instance → (ℕ → ℕ) → ℕ
routed I r = sum I.clients (λ j. I.weight j * I.service (r j) j)

-- every client is sent to a facility of S
pub record Routes (I : Instance) (S : ℕ → Bool) (r : ℕ → ℕ) : Type 0 where
  pub below : (j : ℕ) → j < I.clients → r j < I.facilities
  pub is_in_lem : (j : ℕ) → j < I.clients → S (r j) ≡ true

module _ (I : Instance) where
  open I use {facilities as m, clients as n, opening, service, weight}

  -- the clients that pass b are sent to p j in place of s j
  pub reroute : (b : ℕ → Bool) (p s : ℕ → ℕ)
      → routed I (λ j. cond (b j) (p j) (s j)) + sum n (λ j. on (b j) (weight j * service (s j) j))
      ≡ routed I s + sum n (λ j. on (b j) (weight j * service (p j) j))
  reroute b p s =
      sym (sum_add n (λ j. weight j * service (cond (b j) (p j) (s j)) j) (λ j. on (b j) (weight j * service (s j) j)))
      ∙ (sum_cong n (λ j l. at j (b j)) ∙ sum_add n (λ j. weight j * service (s j) j) (λ j. on (b j) (weight j * service (p j) j)))
    where
      at : (j : ℕ) (c : Bool) → weight j * service (cond c (p j) (s j)) j + on c (weight j * service (s j) j)
          ≡ weight j * service (s j) j + on c (weight j * service (p j) j)
      at j true = omega arith
      at j false = omega arith

  service_by : (S : ℕ → Bool) (r : ℕ → ℕ) → Routes I S r → service_cost I S ≤ routed I r
  service_by S r into = served_by I S r into.below into.is_in_lem

  opening_plus : (S : ℕ → Bool) (o : ℕ) → o < m → opening_cost I (plus S o) ≤ opening_cost I S + opening o
  unfolding opening_cost
  opening_plus S o l = sum_plus_le m o S opening l

  opening_minus : (S : ℕ → Bool) (f : ℕ) → f < m → S f ≡ true → opening_cost I (minus S f) + opening f ≡ opening_cost I S
  unfolding opening_cost
  opening_minus S f l e = sum_minus m f S opening l e

  module _ (S : ℕ → Bool) (opt : OpenOptimum I S) where
    pub add_by : (o : ℕ) → o < m → (r : ℕ → ℕ) → Routes I (plus S o) r → service_cost I S ≤ opening o + routed I r
    unfolding total_cost
    add_by o l r into =
        cases (S o)
        (λ e. omega (arith, service_by S r record { below = into.below; is_in_lem = λ j h. plus_same S o (r j) e (into.is_in_lem j h) }))
        (λ e. omega (arith, opt.add o l e, opening_plus S o l, service_by (plus S o) r into))

    -- f is dropped where another facility g stays open
    pub drop_by : (f g : ℕ) → f < m → S f ≡ true → g < m → S g ≡ true → ¬ (f ≡ g) → (r : ℕ → ℕ) → Routes I (minus S f) r
        → opening f + service_cost I S ≤ routed I r
    unfolding total_cost
    drop_by f g lf ef lg eg d r into =
        omega (arith, opt.drop f lf ef (count_two m f g S lf lg ef eg d), opening_minus S f lf ef, service_by (minus S f) r into)

    pub swap_by : (f : ℕ) → f < m → S f ≡ true → (o : ℕ) → o < m → (r : ℕ → ℕ) → Routes I (trade S f o) r
        → opening f + service_cost I S ≤ opening o + routed I r
    unfolding total_cost
    swap_by f l e o k r into = go (S o) refl (eqb f o) (test f o)
      where
        -- where o is open, nothing comes in
        back : S o ≡ true → (i : ℕ) → trade S f o i ≡ true → S i ≡ true
        back so i h =
            or_cases (eqb o i) (minus S f i) h (λ q. sym (ap S (eqb-true o i q)) ∙ so) (λ q. and_right (not (eqb f i)) (S i) q)

        go : (b : Bool) → S o ≡ b → (c : Bool) → Eq? f o c → opening f + service_cost I S ≤ opening o + routed I r
        go false so c t =
            omega (arith, opt.swap f o l e k so, opening_plus (minus S f) o k, opening_minus S f l e, service_by (trade S f o) r into)
        go true so true (same q) =
            omega (arith, ap opening q, service_by S r record { below = into.below; is_in_lem = λ j h. back so (r j) (into.is_in_lem j h) })
        go true so false (diff q) =
            omega (
              arith,
              drop_by f o l e k so q r
                  record { below = into.below; is_in_lem = λ j h. plus_same (minus S f) o (r j) (minus_in S f o q so) (into.is_in_lem j h) },
            )
