-- The numbers of the calls without a tariff: each answer keeps to its bits, so the number says what the call answered.
use Prim.Native.Nat.{ℕ, ◌^◌, ◌≤◌, ◌<◌}
use native.Mathlib.Omega.{arith}
use mathlib.Core.Path.{◌≡◌, refl, sym, ap}
use mathlib.Core.List.{List}
use lib.ListN.{length}
use Rattle.model.specs.Sets.{member}
use Rattle.model.specs.Instance.{Instance, total_cost}
use Rattle.model.specs.Plans.{open_start, open_search, limited_start, limited_search}
use Rattle.model.proofs.CountLaws.{count_le}
use Rattle.model.specs.Answers.{Answer, accepted, refused, ask}
use Rattle.questions.specs.Sheet.{yards, farm_byte, instance_of}
use Rattle.questions.specs.declared.Counts.{Counts}
use Rattle.questions.specs.Reading.{counts, reading}
use Rattle.questions.proofs.ReadingLaws.{refused_by}
use Rattle.questions.proofs.AcceptedLaws.{WithinBounds, instance_is, door, accepts}
use Rattle.plan_area.specs.Plan.{question9}
use Rattle.price.specs.Pricing.{Plan, plan, answer, area_after, question8, pricing}
use Rattle.plan_area.proofs.PlanRecordLaws.{plan_length}
use Rattle.search.specs.SearchEnds.{open_end, limited_end, plan_of}
use Rattle.search.specs.Planning.{open_plan, limited_plan, question7, open_planning, limited_planning}
use Rattle.price.proofs.OfPlanLaws.{priced_set}
use Rattle.search.proofs.PlanningLaws.{open_small, limited_small}
use Rattle.search.proofs.PromiseLaws.{open_plan_of, limited_plan_of}
use Rattle.numbers.specs.Numbers.{result_number, OfWritten, KeepsBits, CountsKeepBits}
use Rattle.numbers.proofs.SaidLaws.{Said, said, CountsSaid, counts_said, written_of}
use Rattle.exports.proofs.BitLaws.{asked_within, after_within}

-- ---- reading

pub counts_within : (s : List ℕ) → CountsKeepBits (reading s)
counts_within s = go (reading s) refl
  where
    go : (r : Answer Counts) → reading s ≡ r → CountsKeepBits r
    go (accepted c) e = let f = (accepts s c.yards c.farms e).has in (omega (arith, f.few_yards), omega (arith, f.few_farms))
    go (refused k) e = let l = refused_by s k e in (l.0, omega (arith, l.1))

-- so every caller reads the answer off its number
pub reading_said : (s : List ℕ) → CountsSaid (reading s)
reading_said s = counts_said (reading s) (counts_within s)

-- ---- the answers of pricing and of the plans keep to their bits

abbrev pub PlanKeepsBits : Answer Plan → Type 0
PlanKeepsBits a = KeepsBits (answer a)

pub plan_numbered : (k : ℕ) → 1 ≤ k → k < 2 ^ 8 → PlanKeepsBits (refused k)
unfolding answer
plan_numbered k some few = (some, few)

-- the plan of an accepted sheet has fewer than 2^24 bytes
plan_within : (I : Instance) (byte3 : ℕ → ℕ) (set total moves : ℕ) → WithinBounds I → moves < 2 ^ 32
    → KeepsBits (answer (accepted (plan I byte3 set total moves)))
unfolding answer
plan_within I byte3 set total moves w small = (
  omega (arith, plan_length I byte3 set total moves, count_le I.facilities (member set), w.few_facilities, w.few_clients),
  small,
)

-- where question 9 comes last, before the plan
ninth_within : (s : List ℕ) (room set total moves m n : ℕ) → reading s ≡ accepted (counts m n) → moves < 2 ^ 32
    → KeepsBits (answer (ask (question9 m n room) 9 (accepted (plan (instance_of s) (farm_byte s (yards s)) set total moves))))
ninth_within s room set total moves m n e small =
    asked_within PlanKeepsBits plan_numbered (question9 m n room) 9 _ (omega arith) (omega arith) (λ q. plan_within (instance_of s) (farm_byte s (yards s)) set total moves (door s m n e) small)

-- the searches make fewer than 2^32 moves
module _ (s : List ℕ) (m n : ℕ) (e : reading s ≡ accepted (counts m n)) where
  open_moves : (open_end (instance_of s)).moves < 2 ^ 32
  open_moves = (open_small s m n _ e (ap open_end (sym (instance_is (accepts s m n e).has)))).1

  limited_moves : (k : ℕ) → (limited_end (instance_of s) k).moves < 2 ^ 32
  limited_moves k = (limited_small s m n _ e k (ap (λ I. limited_end I k) (sym (instance_is (accepts s m n e).has)))).1

module _ (s : List ℕ) (room : ℕ) where
  pub pricing_within : (set : ℕ) → KeepsBits (answer (pricing s set room))
  unfolding pricing
  pricing_within set =
      after_within PlanKeepsBits plan_numbered s _ (λ m n e. asked_within PlanKeepsBits plan_numbered (question8 m set) 8 _ (omega arith) (omega arith)
      (λ q. ninth_within s room set (total_cost (instance_of s) (member set)) 0 m n e (omega arith)))

  pub open_within : KeepsBits (answer (open_planning s room))
  unfolding open_planning open_plan plan_of
  open_within =
      let end = open_end (instance_of s) in
      after_within PlanKeepsBits plan_numbered s _ (λ m n e. ninth_within s room end.set end.cost end.moves m n e (open_moves s m n e))

  pub limited_within : (k : ℕ) → KeepsBits (answer (limited_planning s k room))
  unfolding limited_planning limited_plan plan_of
  limited_within k =
      let end = limited_end (instance_of s) k in
      after_within PlanKeepsBits plan_numbered s _ (λ m n e. asked_within PlanKeepsBits plan_numbered (question7 m k) 7 _ (omega arith) (omega arith)
      (λ q. ninth_within s room end.set end.cost end.moves m n e (limited_moves s m n e k)))

  -- so every caller of pricing and of the plans reads the call's answer off its number
  pub pricing_said : (set : ℕ) → Said (answer (pricing s set room))
  pricing_said set = said (answer (pricing s set room)) (pricing_within set)

  pub open_said : Said (answer (open_planning s room))
  open_said = said (answer (open_planning s room)) open_within

  pub limited_said : (k : ℕ) → Said (answer (limited_planning s k room))
  limited_said k = said (answer (limited_planning s k room)) (limited_within k)

-- ---- what is promised by the number of an accepted call holds of its plan's own set

module _ (s area : List ℕ) (p : Plan) (P : ℕ → Type 0) where
  pub pricing_promised : (set : ℕ) → pricing s set (length area) ≡ accepted p
      → OfWritten (result_number (answer (pricing s set (length area)))) (area_after (pricing s set (length area)) area) P → P set
  pricing_promised set e =
      written_of (pricing s set (length area)) p e (pricing_within s (length area) set) area P set (priced_set s set (length area) p e)

  pub open_promised : open_planning s (length area) ≡ accepted p
      → OfWritten (result_number (answer (open_planning s (length area)))) (area_after (open_planning s (length area)) area) P
      → P (open_search (instance_of s) (open_start (instance_of s))).set
  open_promised e =
      written_of (open_planning s (length area)) p e (open_within s (length area)) area P _ (open_plan_of s (length area) p e)

  pub limited_promised : (k : ℕ) → limited_planning s k (length area) ≡ accepted p
      → OfWritten (result_number (answer (limited_planning s k (length area)))) (area_after (limited_planning s k (length area)) area) P
      → P (limited_search (instance_of s) (limited_start k)).set
  limited_promised k e =
      written_of (limited_planning s k (length area)) p e (limited_within s (length area) k) area P _ (limited_plan_of s k (length area) p e)
