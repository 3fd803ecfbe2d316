-- The nearest open yard of a farm (document 02, paper 1): the smallest haul, among equals the lower fee, and only then the lower number. And
-- its "second cheapest open yard .. with the haul there, ties as in paper 1, or none where one is open" (paper 5).
use Rattle.std.specs.Prelude.{ℕ, min, Bool, true, false, List, Option, Some, None}
use Rattle.model.specs.Least.{any}
use Rattle.model.specs.Sets.{member}
use Rattle.model.specs.Instance.{Instance, nearest, assigned}
use Rattle.model.specs.Closing.{others, second, second_cost}
use Rattle.record.specs.Records.{records, amount_at}
use Rattle.nearest.specs.declared.Nearest as declared

-- a yard and the haul there; both 0 where none is found
pub record Nearest : Type 0 where
  pub found : Bool
  pub yard : ℕ
  pub haul : ℕ

abbrev pub near : Bool → ℕ → ℕ → Nearest
near found yard haul = record { found = found; yard = yard; haul = haul }

-- the same in each case of the code's option
abbrev pub told : Option declared.Nearest → Nearest
told (Some nearest) = near true nearest.yard nearest.haul
told None = near false 0 0

-- what stands in the place of a nearest yard where there is none
abbrev pub nowhere : declared.Nearest
nowhere = record { yard = 0; haul = 0 }

-- the yards that have a record in both
abbrev pub yards_on : List ℕ → List ℕ → ℕ
yards_on fees hauls = min (records fees) (records hauls)

-- a farm by itself: its hauls on a stretch of the sheet, the yards' records for their fees
unfoldable pub one_farm : List ℕ → List ℕ → Instance
one_farm fees hauls =
    record {
      facilities = yards_on fees hauls;
      clients = 1;
      opening = amount_at fees;
      service = λ i j. amount_at hauls i;
      weight = λ j. 1;
    }

-- the yard of S that the farm is assigned to, and the haul there; both 0, and not found, where S has none of these yards
unfoldable pub nearest_in : List ℕ → List ℕ → (ℕ → Bool) → Nearest
nearest_in fees hauls S = near (any (yards_on fees hauls) S) (assigned (one_farm fees hauls) S 0) (nearest (one_farm fees hauls) S 0)

-- of a set that is a number
abbrev pub nearest_on : List ℕ → List ℕ → ℕ → Nearest
nearest_on fees hauls set = nearest_in fees hauls (member set)

-- the second facility of a client and its service cost; not found where S has no other
abbrev pub second_in : Instance → (ℕ → Bool) → ℕ → Nearest
second_in I S j = near (any I.facilities (others I S j)) (second I S j) (second_cost I S j)

-- the farm's second yard of the set
unfoldable pub second_on : List ℕ → List ℕ → ℕ → Nearest
second_on fees hauls set = second_in (one_farm fees hauls) (member set) 0
