-- The cases of `keeps_rule`: what it says of a table that is none, and that of another all pairs of facilities together are the rule.
use Prim.Native.Nat.{ℕ, ◌*◌, ◌≤◌, ◌<◌}
use mathlib.Core.Path.{◌≡◌, sym, ◌∙◌}
use mathlib.Core.Bool.{true, false, ◌&&◌}
use mathlib.Core.List.{List}
use borrow.Author.Tests.{le-leb, lt-leb, lt-ltb}
use lib.ListN.{length, get_or}
use lib.Dec.{ltb}
use Rattle.model.specs.Loops.{all_below}
use Rattle.model.specs.Instance.{metric}
use Rattle.model.specs.QuickMetric.{quick_metric}
use Rattle.model.proofs.LoopLaws.{all_from}
use Rattle.model.proofs.QuickMetricLaws.{quick_metric_lem}
use Rattle.four_point.specs.Table.{row_places, most_facilities, cost_limit, table_instance, costs_below, keeps_rule}
use Rattle.four_point.specs.Rounded.{pair_keeps, row_keeps}

pub costs_low : (table : List ℕ) (m : ℕ) → ((k : ℕ) → k < row_places * m → get_or table k 0 < cost_limit) → costs_below table m ≡ true
unfolding costs_below
costs_low table m low =
    all_from (λ k. ltb (get_or table k 0) cost_limit) (row_places * m) (λ k l. lt-ltb (get_or table k 0) cost_limit (low k l))

module _ (table : List ℕ) (m n : ℕ) where
  pub many_facilities : most_facilities < m → keeps_rule table m n ≡ false
  unfolding keeps_rule
  many_facilities l = rw (lt-leb m most_facilities l)

  module _ (few_facilities : m ≤ most_facilities) where
    pub many_clients : row_places < n → keeps_rule table m n ≡ false
    unfolding keeps_rule
    many_clients l = rw (le-leb m most_facilities few_facilities, lt-leb n row_places l)

    module _ (few_clients : n ≤ row_places) where
      pub rows_missing : length table < row_places * m → keeps_rule table m n ≡ false
      unfolding keeps_rule
      rows_missing l = rw (le-leb m most_facilities few_facilities, le-leb n row_places few_clients, lt-leb (row_places * m) (length table) l)

      module _ (room : row_places * m ≤ length table) where
        asked : keeps_rule table m n ≡ costs_below table m && metric (table_instance table m n)
        unfolding keeps_rule
        asked = rw (le-leb m most_facilities few_facilities, le-leb n row_places few_clients, le-leb (row_places * m) (length table) room)

        pub cost_too_high : costs_below table m ≡ false → keeps_rule table m n ≡ false
        cost_too_high e = asked ∙ rw e

        pub keeps_metric : ((k : ℕ) → k < row_places * m → get_or table k 0 < cost_limit) → keeps_rule table m n ≡ metric (table_instance table m n)
        keeps_metric low = asked ∙ rw (costs_low table m low)

        pub every_pair : costs_below table m ≡ true → all_below m (row_keeps table n) ≡ keeps_rule table m n
        unfolding row_keeps pair_keeps quick_metric table_instance
        every_pair e = quick_metric_lem (table_instance table m n) ∙ sym (asked ∙ rw e)
