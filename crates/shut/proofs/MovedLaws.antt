-- Laws of the farms of a yard that shuts: each one's first and second yard, and the two sums over all farms.
use Prim.Native.Nat.{ℕ, ◌+◌, ◌*◌, ◌≤◌, ◌<◌}
use mathlib.Core.Path.{◌≡◌, refl, sym, ap, ap₂, ◌∙◌}
use mathlib.Core.List.{List}
use borrow.Author.Tests.{eq-eqb, ne_eqb}
use Rattle.model.specs.Loops.{most_term}
use Rattle.model.specs.Sets.{member, minus, without}
use Rattle.model.specs.Instance.{Instance, nearest, assigned}
use Rattle.model.specs.Closing.{others, second_cost, cost_at, cost_elsewhere}
use Rattle.model.proofs.SetLaws.{member_without}
use Rattle.model.proofs.CostLaws.{nearest_cong}
use Rattle.model.proofs.SumLaws.{Summed, summed_none, summed_more}
use Rattle.sets.specs.Members.{rising_below, listed}
use Rattle.questions.specs.Sheet.{farm_byte, loads_of, instance_by}
use Rattle.questions.specs.Shape.{Shape}
use Rattle.stretch.specs.Stretch.{stretch}
use Rattle.nearest.specs.Nearest.{Nearest}
use Rattle.nearest.specs.Nearest.{nearest_in, nearest_on}
use Rattle.plan_area.proofs.FarmNearestLaws.{farm_listed, farm_yard, farm_haul}
use Rattle.shut.specs.HaulsMoved.{farm_there, farm_elsewhere}

-- without a client's own facility the nearest is the second
without_first : (I : Instance) (set f j : ℕ) → assigned I (member set) j ≡ f → nearest I (member (without set f)) j ≡ second_cost I (member set) j
unfolding second_cost
without_first I set f j e =
    nearest_cong I (member (without set f)) (others I (member set) j) (λ i l. member_without set f i ∙ ap (λ x. minus (member set) x i) (sym e)) j

module _ (s : List ℕ) (m n set yard : ℕ) where
  -- ---- a farm, with the lists of the set's yards and of the others

  module _ (p : ℕ) (shape : Shape s m n) (below : p < n) (hauls : List ℕ) (part : hauls ≡ stretch s m p) where
    -- the nearest of the listed yards of a set
    listed_near : (set : ℕ) (yards : List ℕ) (r : Nearest) → yards ≡ rising_below m set → r ≡ nearest_in s hauls (listed yards)
        → (r.yard ≡ assigned (instance_by s m n) (member set) p) × (r.haul ≡ nearest (instance_by s m n) (member set) p)
    listed_near set yards r e h =
        let near = h ∙ farm_listed s m n p shape below set hauls yards part e ∙ ap (λ x. nearest_on s x set) part in (
          ap (λ (x : Nearest). x.yard) near ∙ farm_yard s m n p shape below (member set),
          ap (λ (x : Nearest). x.haul) near ∙ farm_haul s m n p shape below (member set),
        )

    module _ (yards : List ℕ) (first : Nearest) (e : yards ≡ rising_below m set) (h : first ≡ nearest_in s hauls (listed yards)) where
      -- it goes to another yard
      pub stays : (first.yard ≡ yard → ⊥) → (0 ≡ farm_there s m n set yard p) × (0 ≡ farm_elsewhere s m n set yard p)
      stays other =
          let goes = (listed_near set yards first e h).0 in
          rw (ne_eqb (assigned (instance_by s m n) (member set) p) yard (λ q. other (goes ∙ q))) (refl, refl)

      -- it goes to this one
      pub moves : first.yard ≡ yard → (rest : List ℕ) (second : Nearest) (byte loads : ℕ) → rest ≡ rising_below m (without set yard)
          → second ≡ nearest_in s hauls (listed rest) → byte ≡ farm_byte s m p → loads ≡ loads_of byte
          → (loads * first.haul ≡ farm_there s m n set yard p) × (loads * second.haul ≡ farm_elsewhere s m n set yard p)
      moves here rest second byte loads er h' eb told =
          let goes = listed_near set yards first e h in
          let at : assigned (instance_by s m n) (member set) p ≡ yard = sym goes.0 ∙ here in
          let weight : loads ≡ loads_of (farm_byte s m p) = told ∙ ap loads_of eb in
          rw (eq-eqb (assigned (instance_by s m n) (member set) p) yard at)
          (ap₂ ◌*◌ weight goes.1, ap₂ ◌*◌ weight ((listed_near (without set yard) rest second er h').1 ∙ without_first (instance_by s m n) set yard p at))

  -- ---- all farms

  -- both sums after so many farms
  pub record Moved (there elsewhere farm : ℕ) : Type 0 where
    pub there_so_far : Summed (farm_there s m n set yard) there farm
    pub elsewhere_so_far : Summed (farm_elsewhere s m n set yard) elsewhere farm

  pub moved_none : Moved 0 0 0
  moved_none = record {
    there_so_far = summed_none (farm_there s m n set yard);
    elsewhere_so_far = summed_none (farm_elsewhere s m n set yard);
  }

  pub moved_more : (there elsewhere farm x y : ℕ) → Moved there elsewhere farm → x ≡ farm_there s m n set yard farm → y ≡ farm_elsewhere s m n set yard farm
      → (x ≤ most_term) × (y ≤ most_term) → Moved (there + x) (elsewhere + y) (farm + 1)
  moved_more there elsewhere farm x y h ex ey small =
      record {
        there_so_far = summed_more (farm_there s m n set yard) there farm x h.there_so_far ex small.0;
        elsewhere_so_far = summed_more (farm_elsewhere s m n set yard) elsewhere farm y h.elsewhere_so_far ey small.1;
      }

  pub moved_all : (there elsewhere farm : ℕ) → farm ≡ n → Moved there elsewhere farm
      → (there ≡ cost_at (instance_by s m n) (member set) yard)
      × ((elsewhere ≡ cost_elsewhere (instance_by s m n) (member set) yard) × ((there ≤ n * most_term) × (elsewhere ≤ n * most_term)))
  unfolding cost_at cost_elsewhere instance_by
  moved_all there elsewhere farm done h =
      let g = rw done at h in
      (g.there_so_far.exact, (g.elsewhere_so_far.exact, (g.there_so_far.small, g.elsewhere_so_far.small)))
