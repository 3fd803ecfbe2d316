-- For private functions: what the first farms offer the yards, as a row of sums holds it.
use Rattle.std.specs.Prelude.{ℕ, ◌-◌, ◌*◌, ◌≤◌, ◌<◌, ◌≡◌, Bool, List, get_or, leb}
use Rattle.model.specs.Loops.{sum, most_term}
use Rattle.record.specs.Records.{amount_at}
use Rattle.questions.specs.Sheet.{fee, haul, farm_byte, loads_of}

-- what farm p offers yard i, times its loads
unfoldable pub offer_to : List ℕ → ℕ → List ℕ → ℕ → ℕ → ℕ
offer_to s m offers i p = loads_of (farm_byte s m p) * (amount_at offers p - haul s m i p)

-- its loads times its amount
unfoldable pub farm_offer : List ℕ → ℕ → List ℕ → ℕ → ℕ
farm_offer s m offers p = loads_of (farm_byte s m p) * amount_at offers p

-- a sum of as many offers to yard i, exact and small
abbrev pub SumOf : List ℕ → ℕ → List ℕ → ℕ → ℕ → ℕ → Type 0
SumOf s m offers count i total = (total ≡ sum count (offer_to s m offers i)) × (total ≤ count * most_term)

-- each yard's sum of the first so many farms' offers
abbrev pub Offered : List ℕ → ℕ → List ℕ → ℕ → List ℕ → Type 0
Offered s m offers count excess = (i : ℕ) → i < m → SumOf s m offers count i (get_or excess i 0)

-- is the sum of yard i at most its fee
unfoldable pub covered_at : List ℕ → List ℕ → ℕ → Bool
covered_at s excess i = leb (get_or excess i 0) (fee s i)
