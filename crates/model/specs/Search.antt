-- Local search by any cost and any neighbourhood: steps to a neighbour of least cost while that lowers the cost.
use Rattle.std.specs.Prelude.{ℕ, zero, suc, ◌≤◌, ◌<◌, ◌≡◌, cond, true, false, ltb}
use mathlib.Core.List.{List, [], ◌∷◌, ◌++◌, Memᴰ}

-- x is one of the list
abbrev pub Among : ℕ → List ℕ → Type 0
Among x xs = Memᴰ x xs

-- where a search is: the set, and the steps made
pub record Reached : Type 0 where
  pub set : ℕ
  pub steps : ℕ

abbrev pub reached : ℕ → ℕ → Reached
reached set steps = record { set = set; steps = steps }

module _ (cost : ℕ → ℕ) where
  -- x where it costs less than b, else b
  unfoldable pub better : ℕ → ℕ → ℕ
  better x b = cond (ltb (cost x) (cost b)) x b

  -- the earliest of least cost among b and then the list
  unfoldable pub best : ℕ → List ℕ → ℕ
  best b [] = b
  best b (x ∷ xs) = best (better x b) xs

  -- no set of the list costs less than `set`: "no move lowers the cost"
  abbrev pub NoLower : List ℕ → ℕ → Type 0
  NoLower xs set = (x : ℕ) → Among x xs → cost set ≤ cost x

  -- x is of least cost in the list, and the earliest of those
  pub record Earliest (xs : List ℕ) (x : ℕ) : Type 0 where
    pub before : List ℕ
    pub after : List ℕ
    pub place : xs ≡ before ++ (x ∷ after)
    pub earlier : (y : ℕ) → Among y before → cost x < cost y
    pub later : (y : ℕ) → Among y after → cost x ≤ cost y

  module _ (neighbours : ℕ → List ℕ) where
    -- the neighbour to go to, or the set itself where none costs less
    unfoldable pub next : ℕ → ℕ
    next set = best set (neighbours set)

    -- at most `fuel` steps more, each while it lowers the cost
    unfoldable pub descend : ℕ → ℕ → ℕ → Reached
    descend zero set steps = reached set steps
    descend (suc fuel) set steps =
        elim (ltb (cost (next set)) (cost set)) [ true ↦ descend fuel (next set) (suc steps) | false ↦ reached set steps ]

    -- The whole search. Each step lowers the cost by at least one, so the cost of the start is fuel enough.
    unfoldable pub search : ℕ → Reached
    search start = descend (cost start) start 0
