-- What a number says is what the call answered, where the answer keeps to its bits: no part of it reaches into another part's bits, and 0 is no refusal.
use Prim.Native.Nat.{ℕ, suc, ◌/◌, ◌%◌, ◌^◌, ◌≤◌}
use native.Mathlib.Omega.{arith}
use mathlib.Core.Path.{◌≡◌, refl, sym, ap, subst, ◌∙◌}
use mathlib.Core.Bool.{Bool, true, false}
use mathlib.Core.List.{List}
use borrow.Author.Tests.{eq-eqb, ne_eqb}
use lib.ListN.{length}
use lib.Dec.{eqb}
use lib.IntN.{ℤ, pos, negsuc, neg_ℤ}
use Rattle.std.specs.Prelude.{Result, Ok, Err}
use Rattle.model.specs.Answers.{Answer, accepted, refused}
use Rattle.questions.specs.declared.Counts.{Counts}
use Rattle.nearest.specs.Nearest.{Nearest, near}
use Rattle.plan_area.specs.Plan.{plan_set}
use Rattle.price.specs.declared.Written.{Written}
use Rattle.refusal.specs.Numbers.{answer_by}
use Rattle.price.specs.Pricing.{written, Plan, answer, area_after, OfPlan}
use Rattle.price.proofs.OfPlanLaws.{PlanOf, set_read_off}
use Rattle.shut.specs.Shutting.{IsDifference}
use Rattle.floor.specs.Offering.{UnderAll}
use Rattle.numbers.specs.Numbers.{counts_number, result_number, second_number, change_number, sum_number, refusal, yards_read, farms_read, bytes_written, moves_made, second_found, yard_told, haul_told, change_told, sum_told, OfWritten, DifferenceTold, UnderAllTold, KeepsBits, CountsKeepBits, SecondKeepsBits, ChangeKeepsBits, SumKeepsBits}

-- ---- reading: no refusal, and the counts, or the refusal number, which is not 0

abbrev pub CountsSaid : Answer Counts → Type 0
CountsSaid (accepted c) =
    (refusal (counts_number (accepted c)) ≡ 0) × (yards_read (counts_number (accepted c)) ≡ c.yards) × (farms_read (counts_number (accepted c)) ≡ c.farms)
CountsSaid (refused k) = (refusal (counts_number (refused k)) ≡ k) × (1 ≤ k)

pub counts_said : (a : Answer Counts) → CountsKeepBits a → CountsSaid a
unfolding refusal yards_read farms_read
counts_said (accepted c) (few, small) = (omega arith, omega arith, omega arith)
counts_said (refused k) (some, small) = (omega arith, some)

-- ---- pricing and the plans: no refusal, the bytes and the moves, or the refusal number

abbrev pub Said : Answer Written → Type 0
Said (accepted r) =
    (refusal (result_number (accepted r)) ≡ 0) × (bytes_written (result_number (accepted r)) ≡ r.bytes)
    × (moves_made (result_number (accepted r)) ≡ r.moves)
Said (refused k) = (refusal (result_number (refused k)) ≡ k) × (1 ≤ k)

pub said : (a : Answer Written) → KeepsBits a → Said a
unfolding refusal bytes_written moves_made
said (accepted r) (few, small) = (omega arith, omega arith, omega arith)
said (refused k) (some, small) = (omega arith, some)

-- ---- a farm's second yard: no refusal, whether there is one, the yard and the haul there

abbrev pub SecondSaid : Answer Nearest → Type 0
SecondSaid (accepted r) =
    (refusal (second_number (accepted r)) ≡ 0) × (second_found (second_number (accepted r)) ≡ r.found)
    × (yard_told (second_number (accepted r)) ≡ r.yard) × (haul_told (second_number (accepted r)) ≡ r.haul)
SecondSaid (refused k) = (refusal (second_number (refused k)) ≡ k) × (1 ≤ k)

bit_8 : (found : Bool) (yard haul : ℕ) → second_found (second_number (accepted (near found yard haul))) ≡ found
unfolding second_found
bit_8 true yard haul = let bit : second_number (accepted (near true yard haul)) / 2 ^ 8 % 2 ≡ 1 = omega arith in ap (λ (x : ℕ). eqb x 1) bit
bit_8 false yard haul = let bit : second_number (accepted (near false yard haul)) / 2 ^ 8 % 2 ≡ 0 = omega arith in ap (λ (x : ℕ). eqb x 1) bit

second_parts : (found : Bool) (yard haul : ℕ) → SecondKeepsBits (accepted (near found yard haul)) → SecondSaid (accepted (near found yard haul))
unfolding refusal yard_told haul_told
second_parts true yard haul (few, small) = (omega arith, bit_8 true yard haul, omega arith, omega arith)
second_parts false yard haul (few, small) = (omega arith, bit_8 false yard haul, omega arith, omega arith)

pub second_said : (a : Answer Nearest) → SecondKeepsBits a → SecondSaid a
unfolding refusal
second_said (accepted r) h = second_parts r.found r.yard r.haul h
second_said (refused k) (some, small) = (omega arith, some)

-- ---- what shutting a yard changes: no refusal, and the change with its sign

abbrev pub ChangeSaid : Answer ℤ → Type 0
ChangeSaid (accepted change) = (refusal (change_number (accepted change)) ≡ 0) × (change_told (change_number (accepted change)) ≡ change)
ChangeSaid (refused k) = (refusal (change_number (refused k)) ≡ k) × (1 ≤ k)

pub change_said : (a : Answer ℤ) → ChangeKeepsBits a → ChangeSaid a
unfolding refusal change_told
change_said (accepted (pos n)) small =
    let r = change_number (accepted (pos n)) in
    let bit : r / 2 ^ 8 % 2 ≡ 0 = omega arith in
    let size : r / 2 ^ 16 % 2 ^ 48 ≡ n = omega arith in
    (omega arith, rw (ne_eqb (r / 2 ^ 8 % 2) 1 (λ e. omega (arith, bit, e))) (ap pos size))
change_said (accepted (negsuc n)) small =
    let r = change_number (accepted (negsuc n)) in
    let bit : r / 2 ^ 8 % 2 ≡ 1 = omega arith in
    let size : r / 2 ^ 16 % 2 ^ 48 ≡ suc n = omega arith in
    (omega arith, rw (eq-eqb (r / 2 ^ 8 % 2) 1 bit) (ap (λ x. neg_ℤ (pos x)) size))
change_said (refused k) (some, small) = (omega arith, some)

-- ---- a floor: no refusal, and the sum, or the refusal number

abbrev pub SumSaid : Answer ℕ → Type 0
SumSaid (accepted sum) = (refusal (sum_number (accepted sum)) ≡ 0) × (sum_told (sum_number (accepted sum)) ≡ sum)
SumSaid (refused k) = (refusal (sum_number (refused k)) ≡ k) × (1 ≤ k)

pub sum_said : (a : Answer ℕ) → SumKeepsBits a → SumSaid a
unfolding refusal sum_told
sum_said (accepted sum) small = (omega arith, omega arith)
sum_said (refused k) (some, small) = (omega arith, some)

-- ---- what is promised of a plan is promised of the bytes that the number tells

module _ (r : ℕ) (area : List ℕ) (P : ℕ → Type 0) where
  pub of_written : {E : Type 0} (number : E → ℕ) (p : Result Written E) → KeepsBits (answer_by number p) → r ≡ result_number (answer_by number p) → OfPlan p area P
      → OfWritten r area P
  of_written number (Ok w) within e h accepts =
      let told : bytes_written r ≡ w.bytes = ap bytes_written e ∙ (said (accepted w) within).1 in
      subst (λ b. P (plan_set area b)) (sym told) (h w refl)
  of_written number (Err unplanned) within e h accepts =
      absurd (omega (arith, sym (said (refused (number unplanned)) within).0 ∙ sym (ap refusal e) ∙ accepts, within.0))

-- ---- and is used: what is promised by the number of an accepted call holds of its plan's own set

module _ (outcome : Answer Plan) (p : Plan) (e : outcome ≡ accepted p) (bits : KeepsBits (answer outcome)) (area : List ℕ) (P : ℕ → Type 0) where
  pub written_of : (set : ℕ) → PlanOf set p → OfWritten (result_number (answer outcome)) (area_after outcome area) P → P set
  unfolding answer
  written_of set f h =
      let is : answer outcome ≡ accepted (written (length p.bytes) p.moves) = ap answer e in
      let told = said (accepted (written (length p.bytes) p.moves)) (subst KeepsBits is bits) in
      subst P (ap (plan_set (area_after outcome area)) (ap (λ a. bytes_written (result_number a)) is ∙ told.1) ∙ set_read_off outcome p set e f area)
      (h (ap (λ a. refusal (result_number a)) is ∙ told.0))

-- ---- what is promised of a change is promised of the one that the number tells

pub difference_told : {E : Type 0} (s : List ℕ) (set yard r : ℕ) (number : E → ℕ) (c : Result ℤ E) → ChangeKeepsBits (answer_by number c)
    → r ≡ change_number (answer_by number c) → IsDifference s set yard c → DifferenceTold s set yard r
difference_told s set yard r number (Ok cents) within e h accepts =
    ap change_told e ∙ (change_said (accepted cents) within).1 ∙ h cents refl
difference_told s set yard r number (Err unpriced) within e h accepts =
    absurd (omega (arith, sym (change_said (refused (number unpriced)) within).0 ∙ sym (ap refusal e) ∙ accepts, within.0))

-- ---- and of a sum

pub under_told : {E : Type 0} (s : List ℕ) (r : ℕ) (number : E → ℕ) (b : Result ℕ E) → SumKeepsBits (answer_by number b) → r ≡ sum_number (answer_by number b)
    → UnderAll s b → UnderAllTold s r
under_told s r number (Ok sum) within e under accepts rival some =
    rw (ap sum_told e ∙ (sum_said (accepted sum) within).1) (under sum refl rival some)
under_told s r number (Err unfounded) within e under accepts rival some =
    absurd (omega (arith, sym (sum_said (refused (number unfounded)) within).0 ∙ sym (ap refusal e) ∙ accepts, within.0))

-- ---- and used where a refusal is a number already, that of a question or not

module _ (r : ℕ) where
  pub written_numbered : (area : List ℕ) (P : ℕ → Type 0) (p : Result Written ℕ) → KeepsBits (answer_by (λ k. k) p) → r ≡ result_number (answer_by (λ k. k) p)
      → OfPlan p area P → OfWritten r area P
  written_numbered area P = of_written r area P (λ k. k)

  pub difference_numbered : (s : List ℕ) (set yard : ℕ) (c : Result ℤ ℕ) → ChangeKeepsBits (answer_by (λ k. k) c) → r ≡ change_number (answer_by (λ k. k) c)
      → IsDifference s set yard c → DifferenceTold s set yard r
  difference_numbered s set yard = difference_told s set yard r (λ k. k)

  pub under_numbered : (s : List ℕ) (b : Result ℕ ℕ) → SumKeepsBits (answer_by (λ k. k) b) → r ≡ sum_number (answer_by (λ k. k) b) → UnderAll s b
      → UnderAllTold s r
  under_numbered s = under_told s r (λ k. k)
