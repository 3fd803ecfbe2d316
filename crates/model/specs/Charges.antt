-- Charges: service costs that are worked out from distances.
use Rattle.std.specs.Prelude.{ℕ, ◌+◌, ◌≤◌}
use Rattle.model.specs.Instance.{Instance}

-- the instance whose service costs are what f charges for those of I, as for distances
unfoldable pub charged : (ℕ → ℕ) → Instance → Instance
charged f I =
    record {
      facilities = I.facilities;
      clients = I.clients;
      opening = I.opening;
      service = λ i j. f (I.service i j);
      weight = I.weight;
    }

-- A charge that does not fall as the way gets longer, and is at most additive: no more for a way than for its two parts.
pub record MonotoneSubadditive (f : ℕ → ℕ) : Type 0 where
  pub monotone : (a b : ℕ) → a ≤ b → f a ≤ f b
  pub subadditive : (a b : ℕ) → f (a + b) ≤ f a + f b
