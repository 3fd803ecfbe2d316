-- A floor under all lists (document 02, paper 10): what the call answers to offers.
use Rattle.std.specs.Prelude.{ℕ, ◌*◌, ◌≤◌, ◌<◌, ◌≡◌, Bool, true, ◌&&◌, List, length, eqb, Result, Ok}
use Rattle.model.specs.Loops.{all_below}
use Rattle.model.specs.Least.{any}
use Rattle.model.specs.Instance.{total_cost}
use Rattle.model.specs.Floor.{feasible, floor}
use Rattle.model.specs.Answers.{Answer, accepted, ask, after}
use Rattle.record.specs.declared.Record.{Record}
use Rattle.record.specs.Records.{records, record_of, record_at, amount_at}
use Rattle.questions.specs.Bounds.{yard_kind}
use Rattle.questions.specs.Sheet.{yards, instance_of}
use Rattle.questions.specs.Reading.{reading}

-- "records of kind 56 hex by farm"
abbrev pub offer_kind : ℕ
offer_kind = 0x56

-- "byte 2 the farm, bytes 1 and 3 zero": is record p the offer of farm p
unfoldable pub is_offer : ℕ → Record → Bool
is_offer p r = eqb r.kind offer_kind && (eqb r.yard 0 && (eqb r.farm p && eqb r.byte3 0))

unfoldable pub offer_in_place : List ℕ → ℕ → Bool
offer_in_place offers p = is_offer p (record_at offers p)

-- 15. Are the records whole, "one per farm in order", for n farms?
unfoldable pub question15 : ℕ → List ℕ → Bool
question15 n offers = eqb (length offers) (8 * n) && all_below n (offer_in_place offers)

-- 16. Is no yard overbid by the amounts offered?
unfoldable pub question16 : List ℕ → List ℕ → Bool
question16 s offers = feasible (instance_of s) (amount_at offers)

-- the call asks what reading asks, then 15 and 16, and "gives back the sum of loads times amounts"
unfoldable pub offering : List ℕ → List ℕ → Answer ℕ
offering s offers =
    after (reading s) (λ c. ask (question15 c.farms offers) 15 (ask (question16 s offers) 16
    (accepted (floor (instance_of s) (amount_at offers)))))

-- "which is no more than the full cost of any non-empty set"
abbrev pub UnderAll : {E : Type 0} → List ℕ → Result ℕ E → Type 0
UnderAll s r =
    (sum : ℕ) → r ≡ Ok sum → (rival : ℕ → Bool) → any (yards s) rival ≡ true → sum ≤ total_cost (instance_of s) rival

-- For limited lists "a caller changes the fees of a copy of the sheet and asks the same call": t is s with every fee set to one amount.
pub record WithFees (amount : ℕ) (s t : List ℕ) : Type 0 where
  pub as_long : length t ≡ length s
  pub yard_records : (i : ℕ) → i < yards s → record_at t i ≡ record_of yard_kind i 0 0 amount
  pub other_records : (i : ℕ) → yards s ≤ i → i < records s → record_at t i ≡ record_at s i
