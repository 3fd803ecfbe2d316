-- A search with a limit on moves (document 02, paper 7), by any cost and any neighbourhood.
use Rattle.std.specs.Prelude.{ℕ, Bool, ◌&&◌, List, eqb, ltb}
use Rattle.model.specs.Search as Search
use Rattle.model.specs.Search.{Reached}

-- how such a search comes out: stopped, or else settled; the set, and the steps made
pub record Outcome : Type 0 where
  pub stopped : Bool
  pub set : ℕ
  pub steps : ℕ

module _ (cost : ℕ → ℕ) (neighbours : ℕ → List ℕ) where
  -- "stopped" exactly if `limit` steps were made and another would lower the cost
  unfoldable pub outcome : ℕ → Reached → Outcome
  outcome limit r =
      record {
        stopped = eqb r.steps limit && ltb (cost (Search.next cost neighbours r.set)) (cost r.set);
        set = r.set;
        steps = r.steps;
      }

  -- the search from `start` with at most `limit` steps
  unfoldable pub search_within : ℕ → ℕ → Outcome
  search_within limit start = outcome limit (Search.descend cost neighbours limit start 0)
