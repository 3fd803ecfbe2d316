-- Closing one facility of a set (document 02, paper 5): each client's second facility, and the change in total cost.
use Rattle.std.specs.Prelude.{ℕ, ◌+◌, ◌*◌, Bool, eqb, ℤ, pos, ◌-ℤ◌}
use Rattle.model.specs.Loops.{on, sum}
use Rattle.model.specs.Sets.{minus}
use Rattle.model.specs.Instance.{Instance, nearest, assigned}

-- the facilities of S but the one that serves client j
abbrev pub others : Instance → (ℕ → Bool) → ℕ → ℕ → Bool
others I S j = minus S (assigned I S j)

-- "each farm's second cheapest open yard": of these the one that would serve client j, "ties as in paper 1", and its service cost; both 0 where S
-- has no other facility
unfoldable pub second : Instance → (ℕ → Bool) → ℕ → ℕ
second I S j = assigned I (others I S j) j

unfoldable pub second_cost : Instance → (ℕ → Bool) → ℕ → ℕ
second_cost I S j = nearest I (others I S j) j

-- what the clients of facility f cost there, and what they cost at their second facility
unfoldable pub cost_at : Instance → (ℕ → Bool) → ℕ → ℕ
cost_at I S f = sum I.clients (λ j. on (eqb (assigned I S j) f) (I.weight j * nearest I S j))

unfoldable pub cost_elsewhere : Instance → (ℕ → Bool) → ℕ → ℕ
cost_elsewhere I S f = sum I.clients (λ j. on (eqb (assigned I S j) f) (I.weight j * second_cost I S j))

-- "from those pairs, the loads and the yard's fee": what closing f adds less what it saves, "below zero when closing saves money"
unfoldable pub closing_change : Instance → (ℕ → Bool) → ℕ → ℤ
closing_change I S f = pos (cost_elsewhere I S f) -ℤ pos (I.opening f + cost_at I S f)
