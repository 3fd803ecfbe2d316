-- Laws of the table of which question 6 is asked: as it is filled, and that the rule of a table with all hauls is the sheet's.
use Prim.Native.Nat.{ℕ, ◌+◌, ◌*◌, ◌<◌}
use native.Mathlib.Nat.{not-suc-le-zero}
use native.Mathlib.Omega.{arith}
use mathlib.Core.Path.{◌≡◌, refl, subst, ◌∙◌}
use mathlib.Core.List.{List}
use lib.ListN.{length, get_or, set, replicate, length-set, length-replicate}
use lib.Seq.{get_or-set_same, get_or-set_other}
use Rattle.model.specs.Instance.{metric}
use Rattle.model.proofs.LoopLaws.{up_to}
use Rattle.model.proofs.PlaceLaws.{each_set, same_most}
use Rattle.model.proofs.CostLaws.{same_metric}
use Rattle.four_point.specs.Table.{row_places, most_facilities, cost_limit, row, table_instance, keeps_rule}
use Rattle.four_point.proofs.TableLaws.{keeps_metric}
use Rattle.questions.specs.Sheet.{haul, instance_by}
use Rattle.questions.specs.Shape.{Shape}
use Rattle.sheet.specs.Hauls.{HasRows, Filled}

pub zero_rows : HasRows (replicate (most_facilities * row_places) 0)
zero_rows =
    record {
      room = omega (arith, length-replicate {A = ℕ} (most_facilities * row_places) 0);
      low = λ k. omega (arith, same_most (most_facilities * row_places) 0 k);
    }

module _ (s : List ℕ) (m : ℕ) where
  pub filled_none : {table : List ℕ} → HasRows table → Filled s m 0 0 table
  filled_none rows =
      record { rows = rows; farms_before = λ i q l k. absurd (not-suc-le-zero k); yards_before = λ i l. absurd (not-suc-le-zero l) }

  -- a turn, with what its call answers
  pub filled_more : (p a k x : ℕ) (table : List ℕ) → k ≡ row_places * a + p → p < row_places → k < length table → x ≡ haul s m a p → x < cost_limit
      → Filled s m p a table → Filled s m p (a + 1) (set table k x)
  filled_more p a k x table e few room is small done =
      record {
        rows =
            record {
              room = simp length-set done.rows.room;
              low = each_set (λ c. c < cost_limit) k x table room small done.rows.low;
            };
        farms_before = λ i q l b. get_or-set_other table k (row_places * i + q) x 0 (λ o. omega arith) ∙ done.farms_before i q l b;
        yards_before =
            λ i l. up_to (λ i. row (set table k x) i p ≡ haul s m i p) a
            (λ i b. get_or-set_other table k (row_places * i + p) x 0 (λ o. omega arith) ∙ done.yards_before i b)
            (subst (λ j. get_or (set table k x) j 0 ≡ haul s m a p) e (get_or-set_same table k x 0 room ∙ is)) i (omega arith);
      }

  -- all yards of farm p
  pub filled_farm : (p : ℕ) (table : List ℕ) → Filled s m p m table → Filled s m (p + 1) 0 table
  filled_farm p table done =
      record {
        rows = done.rows;
        farms_before =
            λ i q l b. up_to (λ q. row table i q ≡ haul s m i q) p (λ q k. done.farms_before i q l k) (done.yards_before i l) q (omega arith);
        yards_before = λ i l. absurd (not-suc-le-zero l);
      }

  -- all hauls: the table keeps the rule exactly where the sheet does
  pub filled_metric : (n : ℕ) (table : List ℕ) → Shape s m n → Filled s m n 0 table → keeps_rule table m n ≡ metric (instance_by s m n)
  unfolding table_instance instance_by
  filled_metric n table shape done =
      keeps_metric table m n shape.few_yards shape.few_farms (omega (arith, shape.few_yards, done.rows.room)) (λ k l. done.rows.low k)
      ∙ same_metric (table_instance table m n) (instance_by s m n) refl refl (λ a p la lp. done.farms_before a p la lp)
