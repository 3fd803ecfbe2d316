-- Laws of the yards' sums: what a farm offers each yard is added to them, farm by farm, and in the end they are the model's excesses.
use Prim.Native.Nat.{ℕ, ◌+◌, ◌-◌, ◌*◌, ◌≤◌, ◌<◌}
use native.Mathlib.Nat.{le_refl}
use native.Mathlib.Omega.{arith}
use mathlib.Core.Path.{◌≡◌, refl, sym, ap, ap₂, ◌∙◌}
use mathlib.Core.Bool.{true, false}
use mathlib.Core.List.{List}
use borrow.Author.Tests.{le-leb, lt-leb}
use lib.ListN.{length, get_or, take, drop, set, replicate}
use lib.Dec.{leb}
use Rattle.model.specs.Loops.{all_below, sum, most_term}
use Rattle.model.specs.Floor.{excess_at, within_at, feasible, floor}
use Rattle.model.proofs.LoopLaws.{all_cong}
use Rattle.model.proofs.SumLaws.{sum_none, sum_more}
use Rattle.model.proofs.PlaceLaws.{same_most, ChangedTo, changed_more}
use Rattle.record.specs.declared.Record.{Record}
use Rattle.record.specs.Records.{record_at, whole_record_at, amount_at}
use Rattle.record.proofs.RecordLaws.{whole, part_amount}
use Rattle.questions.specs.Sheet.{fee, haul, farm_byte, loads_of, instance_by}
use Rattle.questions.specs.Shape.{Shape}
use Rattle.stretch.specs.Stretch.{stretch}
use Rattle.stretch.proofs.FarmLaws.{stretch_length, stretch_record}
use Rattle.floor.specs.Offered.{offer_to, farm_offer, SumOf, Offered, covered_at}

-- ---- what one farm offers, with what the calls answer of its stretch and of its offer

pub hauls_long : (s : List ℕ) (m n p : ℕ) → Shape s m n → p < n → (hauls : List ℕ) → hauls ≡ stretch s m p → length hauls ≡ 8 * m
hauls_long s m n p shape below hauls part = ap length part ∙ stretch_length s m n p shape below

module _ (s : List ℕ) (m n p : ℕ) (offers : List ℕ) (shape : Shape s m n) (room : 8 * n ≤ length offers) (below : p < n)
    (hauls : List ℕ) (part : hauls ≡ stretch s m p) (byte : ℕ) (read_byte : byte ≡ farm_byte s m p)
    (loads : ℕ) (told : loads ≡ loads_of byte) (offer : Record) (read_offer : offer ≡ whole_record_at offers p) where
  loads_are : loads ≡ loads_of (farm_byte s m p)
  loads_are = told ∙ ap loads_of read_byte

  amount_is : offer.amount ≡ amount_at offers p
  unfolding amount_at
  amount_is = ap (λ (r : Record). r.amount) (read_offer ∙ whole offers p (omega arith))

  pub sum_is : loads * offer.amount ≡ farm_offer s m offers p
  unfolding farm_offer
  sum_is = ap₂ ◌*◌ loads_are amount_is

  -- the haul to yard a, read as the eight bytes of its record
  module _ (a : ℕ) (cut : List ℕ) (r : Record) (facility : a < m) (at : cut ≡ take (8 * a + 8 - 8 * a) (drop (8 * a) hauls)) (read : r ≡ whole_record_at cut 0) where
    haul_is : r.amount ≡ haul s m a p
    unfolding amount_at haul
    haul_is =
        part_amount hauls cut a r (omega (arith, hauls_long s m n p shape below hauls part)) at read
        ∙ ap (λ (bytes : List ℕ). (record_at bytes a).amount) part
        ∙ ap (λ (x : Record). x.amount) (stretch_record s m n p shape below a facility)

    pub offer_is : (over : ℕ) → over ≡ offer.amount - r.amount → loads * over ≡ offer_to s m offers a p
    unfolding offer_to
    offer_is over e = ap₂ ◌*◌ loads_are (e ∙ ap₂ ◌-◌ amount_is haul_is)

-- ---- a turn along the yards

pub offer_more : (s : List ℕ) (m p : ℕ) (offers : List ℕ) (a x : ℕ) (excess : List ℕ) → a < m → a < length excess → x ≡ offer_to s m offers a p → x ≤ most_term
    → ChangedTo (SumOf s m offers p) (SumOf s m offers (p + 1)) m a excess
    → ChangedTo (SumOf s m offers p) (SumOf s m offers (p + 1)) m (a + 1) (set excess a (get_or excess a 0 + x))
offer_more s m p offers a x excess below room e small h =
    let so_far = h.still a (le_refl a) below in
    changed_more (SumOf s m offers p) (SumOf s m offers (p + 1)) m a (get_or excess a 0 + x) excess room
    (ap₂ ◌+◌ so_far.0 e ∙ sym (sum_more (offer_to s m offers a) p), omega (arith, so_far.1)) h

-- ---- a yard's fee beside its sum

module _ (s excess : List ℕ) (i amount : ℕ) (read : amount ≡ fee s i) where
  pub not_covered : amount < get_or excess i 0 → covered_at s excess i ≡ false
  unfolding covered_at
  not_covered more = lt-leb (get_or excess i 0) (fee s i) (omega arith)

  pub is_covered : get_or excess i 0 ≤ amount → covered_at s excess i ≡ true
  unfolding covered_at
  is_covered few = le-leb (get_or excess i 0) (fee s i) (omega arith)

-- ---- before the first farm, and behind the last

pub offered_none : (s : List ℕ) (m : ℕ) (offers : List ℕ) (count : ℕ) → Offered s m offers 0 (replicate count 0)
offered_none s m offers count i l =
    let none = same_most count 0 i in
    let zero : ℕ = 0 in
    let e : get_or (replicate count zero) i 0 ≡ zero = omega arith in
    (e ∙ sum_none (offer_to s m offers i), omega arith)

module _ (s : List ℕ) (m n : ℕ) (offers : List ℕ) where
  pub all_offers : sum n (farm_offer s m offers) ≡ floor (instance_by s m n) (amount_at offers)
  unfolding floor instance_by farm_offer
  all_offers = refl

  pub covered : (excess : List ℕ) → Offered s m offers n excess → all_below m (covered_at s excess) ≡ feasible (instance_by s m n) (amount_at offers)
  unfolding feasible within_at excess_at instance_by covered_at offer_to
  covered excess h =
      all_cong m (covered_at s excess) (within_at (instance_by s m n) (amount_at offers)) (λ i l. ap (λ x. leb x (fee s i)) (h i l).0)
