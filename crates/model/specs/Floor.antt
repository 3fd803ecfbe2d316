-- A floor under the total cost of every set (document 02, paper 10): each client offers one amount for a unit, and no facility is offered more than its
-- opening cost. In the terms of document 000, 3.4: a feasible solution of the dual program, and its value.
use Rattle.std.specs.Prelude.{ℕ, ◌-◌, ◌*◌, Bool, leb}
use Rattle.model.specs.Loops.{all_below, sum}
use Rattle.model.specs.Instance.{Instance}

-- Client j offers v j. "At every yard the loads times the excess of amount over haul, where positive": what facility i is offered. A difference of
-- numbers is 0 where it would be below.
unfoldable pub excess_at : Instance → (ℕ → ℕ) → ℕ → ℕ
excess_at I v i = sum I.clients (λ j. I.weight j * (v j - I.service i j))

-- does it sum "to at most the fee"
unfoldable pub within_at : Instance → (ℕ → ℕ) → ℕ → Bool
within_at I v i = leb (excess_at I v i) (I.opening i)

-- "It is accepted when at every yard" it does.
unfoldable pub feasible : Instance → (ℕ → ℕ) → Bool
feasible I v = all_below I.facilities (within_at I v)

-- "The sum of loads times amounts."
unfoldable pub floor : Instance → (ℕ → ℕ) → ℕ
floor I v = sum I.clients (λ j. I.weight j * v j)

-- The instance with every opening cost set to one amount: what is feasible there gives a floor under the service cost of few facilities.
abbrev pub with_equal_opening : ℕ → Instance → Instance
with_equal_opening amount I =
    record {
      facilities = I.facilities;
      clients = I.clients;
      opening = λ i. amount;
      service = I.service;
      weight = I.weight;
    }
