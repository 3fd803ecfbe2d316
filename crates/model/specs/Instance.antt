-- An instance of uncapacitated facility location (document 000, section 3) and the costs of a set of facilities.
use Rattle.std.specs.Prelude.{ℕ, ◌+◌, ◌*◌, ◌<◌, Bool, ◌&&◌, eqb, leb}
use Rattle.model.specs.Loops.{on, all_below, sum}
use Rattle.model.specs.Least.{least, arg}

-- Facilities are the numbers below `facilities`, clients those below `clients`. Opening facility i costs `opening i`;
-- serving one unit of client j from facility i costs `service i j`; client j has `weight j` units.
-- At the format: yards and their fees, farms and their hauls, loads.
pub record Instance : Type 0 where
  pub facilities : ℕ
  pub clients : ℕ
  pub opening : ℕ → ℕ
  pub service : ℕ → ℕ → ℕ
  pub weight : ℕ → ℕ

-- The four-point rule for facilities a, b and clients p, q: the way from a to q by p and b is no shorter (document 000, 3.2).
unfoldable pub four_point : Instance → ℕ → ℕ → ℕ → ℕ → Bool
four_point I a b p q = leb (I.service a q) (I.service a p + I.service b p + I.service b q)

-- the rule for all clients q; for all p and q; for all b, p and q
unfoldable pub four_point_q : Instance → ℕ → ℕ → ℕ → Bool
four_point_q I a b p = all_below I.clients (four_point I a b p)

unfoldable pub four_point_pq : Instance → ℕ → ℕ → Bool
four_point_pq I a b = all_below I.clients (four_point_q I a b)

unfoldable pub four_point_bpq : Instance → ℕ → Bool
four_point_bpq I a = all_below I.facilities (four_point_pq I a)

-- Metric service costs: the rule for all ordered pairs of facilities and of clients (document 01, question 6).
unfoldable pub metric : Instance → Bool
metric I = all_below I.facilities (four_point_bpq I)

-- two facilities and two clients that break the rule
pub record Breaks (I : Instance) : Type 0 where
  pub a : ℕ
  pub b : ℕ
  pub p : ℕ
  pub q : ℕ
  pub a_below : a < I.facilities
  pub b_below : b < I.facilities
  pub p_below : p < I.clients
  pub q_below : q < I.clients
  pub shorter : I.service a p + I.service b p + I.service b q < I.service a q

-- A set of facilities is a test on numbers; what it says below `facilities` counts.

-- the least service cost of client j over the facilities of S
unfoldable pub nearest : Instance → (ℕ → Bool) → ℕ → ℕ
nearest I S j = least I.facilities S (λ i. I.service i j)

-- is facility i one of those of S at that cost
unfoldable pub at_nearest : Instance → (ℕ → Bool) → ℕ → ℕ → Bool
at_nearest I S j i = S i && eqb (I.service i j) (nearest I S j)

-- Of these the one of least opening cost, "and only then" the lowest number (document 02, paper 1): it serves client j.
unfoldable pub assigned : Instance → (ℕ → Bool) → ℕ → ℕ
assigned I S j = arg I.facilities (at_nearest I S j) I.opening

-- the sum of the opening costs of S: document 01's fees
unfoldable pub opening_cost : Instance → (ℕ → Bool) → ℕ
opening_cost I S = sum I.facilities (λ i. on (S i) (I.opening i))

-- what it costs to serve every client from its nearest facility of S: document 01's haul cost
unfoldable pub service_cost : Instance → (ℕ → Bool) → ℕ
service_cost I S = sum I.clients (λ j. I.weight j * nearest I S j)

-- both: document 01's full cost
unfoldable pub total_cost : Instance → (ℕ → Bool) → ℕ
total_cost I S = opening_cost I S + service_cost I S
