-- What the theorems of local search speak of: metric service costs, sets that no move makes cheaper, and the bounds beside a rival.
-- A set of facilities is a test on numbers; what it says below `facilities` counts.
use Rattle.std.specs.Prelude.{ℕ, ◌+◌, ◌*◌, ◌≤◌, ◌<◌, ◌≡◌, Bool, true, false, not, ◌&&◌, ◌||◌}
use Rattle.model.specs.Sets.{count, plus, minus, trade}
use Rattle.model.specs.Instance.{Instance, opening_cost, service_cost, total_cost}

-- Metric service costs (document 000, 3.2): from facility a to client q by client p and facility b is no shorter.
pub record Metric (I : Instance) : Type 0 where
  pub rule : (a b p q : ℕ) → a < I.facilities → b < I.facilities → p < I.clients → q < I.clients
      → I.service a q ≤ I.service a p + I.service b p + I.service b q

-- No add, no drop while two or more are open, and no swap lowers the total cost of S.
pub record OpenOptimum (I : Instance) (S : ℕ → Bool) : Type 0 where
  pub add : (o : ℕ) → o < I.facilities → S o ≡ false → total_cost I S ≤ total_cost I (plus S o)
  pub drop : (f : ℕ) → f < I.facilities → S f ≡ true → 2 ≤ count I.facilities S → total_cost I S ≤ total_cost I (minus S f)
  pub swap : (f o : ℕ) → f < I.facilities → S f ≡ true → o < I.facilities → S o ≡ false → total_cost I S ≤ total_cost I (trade S f o)

-- What is claimed of such a set F beside any rival set G.
pub record OpenBounded (I : Instance) (F G : ℕ → Bool) : Type 0 where
  pub service : service_cost I F ≤ opening_cost I G + service_cost I G
  pub opening : opening_cost I F ≤ opening_cost I G + 2 * service_cost I G

-- S with all of Y in the place of all of X
abbrev pub exchange : (ℕ → Bool) → (ℕ → Bool) → (ℕ → Bool) → ℕ → Bool
exchange S X Y i = (S i && not (X i)) || Y i

-- No exchange of at most q facilities of S for as many others lowers the service cost of S.
abbrev pub LimitedOptimum : Instance → ℕ → (ℕ → Bool) → Type 0
LimitedOptimum I q S =
    (X Y : ℕ → Bool) → ((i : ℕ) → X i ≡ true → (i < I.facilities) × (S i ≡ true)) → ((i : ℕ) → Y i ≡ true → (i < I.facilities) × (S i ≡ false))
    → count I.facilities X ≡ count I.facilities Y → count I.facilities Y ≤ q
    → service_cost I S ≤ service_cost I (exchange S X Y)
