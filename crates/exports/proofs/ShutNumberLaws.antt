-- The numbers of the calls for a second yard and for a shut one: each answer keeps to its bits, so the number says what the call answered, and the change
-- that it tells is the difference of two full costs.
use Prim.Native.Nat.{ℕ, zero, suc, ◌^◌, ◌<◌}
use native.Mathlib.Omega.{arith}
use mathlib.Core.Path.{◌≡◌, sym, ap, subst, ◌∙◌}
use mathlib.Core.List.{List}
use borrow.Author.Tests.{ltb-true}
use lib.Dec.{ltb}
use lib.IntN.{ℤ, pos, nat_abs, ◌-ℤ◌}
use Rattle.model.specs.Sets.{member, without}
use Rattle.model.specs.Instance.{Instance, total_cost}
use Rattle.model.specs.Closing.{others, second, second_cost}
use Rattle.model.specs.Answers.{accepted}
use Rattle.model.proofs.Bools.{cases}
use Rattle.model.proofs.CostLaws.{assigned_le}
use Rattle.questions.specs.Sheet.{instance_of}
use Rattle.questions.specs.Reading.{counts, reading}
use Rattle.questions.proofs.AcceptedLaws.{WithinBounds, door, facilities_read}
use Rattle.questions.proofs.CostBounds.{nearest_within, total_fits}
use Rattle.tariff.specs.declared.TariffChoice.{TariffChoice}
use Rattle.distances.specs.Priced.{sheet_by, OnHauls}
use Rattle.price.specs.Pricing.{question8}
use Rattle.shut.specs.Shutting.{second_of, seconding, question14, shutting}
use Rattle.shut.proofs.ShuttingLaws.{differs}
use Rattle.shut_by.specs.ShuttingBy.{seconding_by, shutting_by}
use Rattle.shut_by.proofs.ShuttingByLaws.{shut_on_hauls}
use Rattle.numbers.specs.Numbers.{change_number, change_told, refusal, SecondKeepsBits, ChangeKeepsBits, DifferenceTold}
use Rattle.numbers.proofs.SaidLaws.{SecondSaid, second_said, ChangeSaid, change_said}
use Rattle.exports.proofs.BitLaws.{asked_within, after_within, by_within}

-- ---- the answers keep to their bits

second_of_within : (I : Instance) (set farm : ℕ) → WithinBounds I → SecondKeepsBits (accepted (second_of I set farm))
unfolding second_of second second_cost
second_of_within I set farm w =
    cases (ltb farm I.clients)
    (λ e. rw e (omega (arith, assigned_le I (others I (member set) farm) farm, w.few_facilities), omega (arith, nearest_within I w (others I (member set) farm) farm (ltb-true farm I.clients e))))
    (λ e. rw e (omega arith, omega arith))

second_within : (s : List ℕ) (set farm : ℕ) → SecondKeepsBits (seconding s set farm)
unfolding seconding
second_within s set farm =
    after_within SecondKeepsBits (λ k some few. (some, few)) s _ (λ m n e. asked_within SecondKeepsBits (λ k some few. (some, few)) (question8 m set) 8 _ (omega arith) (omega arith)
    (λ q. second_of_within (instance_of s) set farm (door s m n e)))

difference_size : (x y most : ℕ) → x < most → y < most → nat_abs (pos x -ℤ pos y) < most
difference_size x zero most h k = omega arith
difference_size x (suc y) most h k = cases (ltb x (suc y)) (λ e. rw e (omega arith)) (λ e. rw e (omega arith))

shut_within : (s : List ℕ) (set yard : ℕ) → ChangeKeepsBits (shutting s set yard)
unfolding shutting
shut_within s set yard =
    after_within ChangeKeepsBits (λ k some few. (some, few)) s _ (λ m n e. asked_within ChangeKeepsBits (λ k some few. (some, few)) (question8 m set) 8 _ (omega arith) (omega arith)
    (λ q. asked_within ChangeKeepsBits (λ k some few. (some, few)) (question14 m set yard) 14 _ (omega arith) (omega arith)
    (λ h. rw (differs (instance_of s) m set yard (facilities_read s m n e) q h) (small m n e))))
  where
    small : (m n : ℕ) → reading s ≡ accepted (counts m n)
        → nat_abs (pos (total_cost (instance_of s) (member (without set yard))) -ℤ pos (total_cost (instance_of s) (member set))) < 2 ^ 48
    small m n e =
        let w = door s m n e in
        let fits = total_fits (instance_of s) w in
        let rest : total_cost (instance_of s) (member (without set yard)) < 2 ^ 48 = omega (arith, fits (member (without set yard))) in
        let all : total_cost (instance_of s) (member set) < 2 ^ 48 = omega (arith, fits (member set)) in
        difference_size _ _ (2 ^ 48) rest all

module _ (choice : TariffChoice) (tariff s : List ℕ) (set : ℕ) where
  pub second_by_within : (farm : ℕ) → SecondKeepsBits (seconding_by choice tariff s set farm)
  unfolding seconding_by
  second_by_within farm = by_within SecondKeepsBits (λ k some few. (some, few)) choice tariff s (λ h. seconding h set farm) (λ h. second_within h set farm)

  pub shut_by_within : (yard : ℕ) → ChangeKeepsBits (shutting_by choice tariff s set yard)
  unfolding shutting_by
  shut_by_within yard = by_within ChangeKeepsBits (λ k some few. (some, few)) choice tariff s (λ h. shutting h set yard) (λ h. shut_within h set yard)

  -- ---- so every caller reads the call's answer off its number

  pub second_by_said : (farm : ℕ) → SecondSaid (seconding_by choice tariff s set farm)
  second_by_said farm = second_said (seconding_by choice tariff s set farm) (second_by_within farm)

  pub shut_by_said : (yard : ℕ) → ChangeSaid (shutting_by choice tariff s set yard)
  shut_by_said yard = change_said (shutting_by choice tariff s set yard) (shut_by_within yard)

  -- ---- what is promised by the number of an accepted call holds of the change, on the sheet of hauls

  pub shut_by_promised : (yard : ℕ) (change : ℤ) → shutting_by choice tariff s set yard ≡ accepted change
      → OnHauls (sheet_by choice tariff s) (λ h. DifferenceTold h set yard (change_number (shutting_by choice tariff s set yard)))
      → (h : List ℕ) × (sheet_by choice tariff s ≡ accepted h)
      × (change ≡ pos (total_cost (instance_of h) (member (without set yard))) -ℤ pos (total_cost (instance_of h) (member set)))
  shut_by_promised yard change e told =
      let r = shut_on_hauls choice tariff s set yard change e in
      let said = subst ChangeSaid e (shut_by_said yard) in
      (r.0, r.1, sym (ap (λ a. change_told (change_number a)) e ∙ said.1) ∙ told r.0 r.1 (ap (λ a. refusal (change_number a)) e ∙ said.0))
