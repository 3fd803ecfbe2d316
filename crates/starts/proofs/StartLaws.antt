-- Laws of where a search begins: the question of the start, and that a start which passes it is a set of facilities that is not empty.
use Prim.Native.Nat.{ℕ, suc, ◌^◌, ◌≤◌, ◌<◌}
use native.Mathlib.Omega.{arith}
use mathlib.Core.Path.{◌≡◌, refl, sym, ap, subst, ◌∙◌}
use mathlib.Core.Bool.{Bool, true, false, cond, and-false}
use mathlib.Core.List.{List}
use borrow.Author.Tests.{le-leb, lt-leb, leb-true, lt-ltb, ltb-true}
use lib.Dec.{leb}
use lib.Pow.{pow-lt}
use Rattle.model.specs.Least.{any, arg}
use Rattle.model.specs.Sets.{member}
use Rattle.model.specs.Plans.{open_start, limited_start}
use Rattle.model.specs.Answers.{Answer, accepted, refused}
use Rattle.model.proofs.Bools.{cases, and_left, and_right, and_both, eqb_self}
use Rattle.model.proofs.LeastLaws.{any_of, any_counted, arg_least}
use Rattle.model.proofs.SetLaws.{member_single, member_some, some_member}
use Rattle.model.proofs.PlanLaws.{limited_start_lem}
use Rattle.model.proofs.AnswerLaws.{asked, not_both}
use Rattle.questions.specs.Bounds.{most_yards}
use Rattle.price.specs.Pricing.{question8}
use Rattle.tables.specs.Tables.{tabled, table_cost}
use Rattle.engine.specs.SearchOnTables.{good_start, start_set}
use Rattle.starts.specs.Starts.{start_by, question7, ask_start, asked_start, start_refusal, engine_start}
use Rattle.starts.specs.declared.PlanStart.{PlanStart}
use Rattle.starts.specs.declared.PlanStart.TheVariants.{Cheapest, First, Given}

-- ---- question 7

module _ (m k : ℕ) where
  pub too_few : k < 1 → question7 m k ≡ false
  unfolding question7
  too_few h = rw (lt-leb 1 k h)

  pub too_many : m < k → question7 m k ≡ false
  unfolding question7
  too_many h = rw (lt-leb k m h) (and-false (leb 1 k))

  pub k_good : 1 ≤ k → k ≤ m → question7 m k ≡ true
  unfolding question7
  k_good some few = rw (le-leb 1 k some, le-leb k m few)

  pub k_within : question7 m k ≡ true → (1 ≤ k) × (k ≤ m)
  unfolding question7
  k_within h = (leb-true 1 k (and_left _ _ h), leb-true k m (and_right (leb 1 k) _ h))

-- ---- the question of the start

-- a number that is 0 exactly where the test holds
passes : (b : Bool) (k : ℕ) → cond b 0 (suc k) ≡ 0 → b ≡ true
passes true k h = refl
passes false k h = absurd (omega arith)

pub first_within : (m k : ℕ) → start_refusal (First k) m ≡ 0 → (1 ≤ k) × (k ≤ m)
unfolding start_refusal
first_within m k h = k_within m k (passes (question7 m k) 6 h)

pub given_passes : (m set : ℕ) → start_refusal (Given set) m ≡ 0 → question8 m set ≡ true
unfolding start_refusal
given_passes m set h = passes (question8 m set) 7 h

pub given_passed : (m set : ℕ) → question8 m set ≡ true → start_refusal (Given set) m ≡ 0
unfolding start_refusal
given_passed m set h = rw h

-- the cases of its number
module _ (start : PlanStart) (m : ℕ) where
  module _ (k : ℕ) (e : start ≡ First k) where
    pub few_refused : k < 1 → 7 ≡ start_refusal start m
    unfolding start_refusal
    few_refused h = subst (λ (x : PlanStart). 7 ≡ start_refusal x m) (sym e) (rw (too_few m k h))

    pub many_refused : m < k → 7 ≡ start_refusal start m
    unfolding start_refusal
    many_refused h = subst (λ (x : PlanStart). 7 ≡ start_refusal x m) (sym e) (rw (too_many m k h))

    pub first_passed : 1 ≤ k → k ≤ m → 0 ≡ start_refusal start m
    unfolding start_refusal
    first_passed some few = subst (λ (x : PlanStart). 0 ≡ start_refusal x m) (sym e) (rw (k_good m k some few))

  module _ (set : ℕ) (e : start ≡ Given set) (good : Bool) (is : good ≡ question8 m set) where
    pub set_passed : good ≡ true → 0 ≡ start_refusal start m
    unfolding start_refusal
    set_passed h = subst (λ (x : PlanStart). 0 ≡ start_refusal x m) (sym e) (rw (sym is ∙ h))

    pub set_refused : good ≡ false → 8 ≡ start_refusal start m
    unfolding start_refusal
    set_refused h = subst (λ (x : PlanStart). 8 ≡ start_refusal x m) (sym e) (rw (sym is ∙ h))

module _ {A : Type 0} (m : ℕ) (rest : Answer A) where
  pub start_passed : (start : PlanStart) → start_refusal start m ≡ 0 → ask_start start m rest ≡ rest
  unfolding start_refusal ask_start
  start_passed Cheapest h = refl
  start_passed (First k) h = rw (passes (question7 m k) 6 h)
  start_passed (Given set) h = rw (passes (question8 m set) 7 h)

  pub start_refused : (start : PlanStart) → (start_refusal start m ≡ 0 → ⊥) → ask_start start m rest ≡ refused (start_refusal start m)
  unfolding start_refusal ask_start
  start_refused Cheapest h = absurd (h refl)
  start_refused (First k) h = cases (question7 m k) (λ e. absurd (h (rw e))) (λ e. rw e)
  start_refused (Given set) h = cases (question8 m set) (λ e. absurd (h (rw e))) (λ e. rw e)

  pub start_asked : (start : PlanStart) (x : A) → ask_start start m rest ≡ accepted x → (start_refusal start m ≡ 0) × (rest ≡ accepted x)
  unfolding start_refusal ask_start
  start_asked Cheapest x h = (refl, h)
  start_asked (First k) x h = let a = asked (question7 m k) 7 rest x h in (rw a.0, a.1)
  start_asked (Given set) x h = let a = asked (question8 m set) 8 rest x h in (rw a.0, a.1)

-- ---- the question alone

abbrev number : {A : Type 0} → Answer A → ℕ
number (accepted x) = 0
number (refused k) = k

-- where its number is 0 it passes, else it is refused by that number; and back
module _ (start : PlanStart) (m : ℕ) where
  pub asked_yes : 0 ≡ start_refusal start m → accepted tt ≡ asked_start start m
  unfolding asked_start
  asked_yes e = sym (start_passed m (accepted tt) start (sym e))

  pub asked_no : (k : ℕ) → (k ≡ 0 → ⊥) → k ≡ start_refusal start m → refused k ≡ asked_start start m
  unfolding asked_start
  asked_no k some e = ap refused e ∙ sym (start_refused m (accepted tt) start (λ z. some (e ∙ z)))

  pub passed_alone : accepted tt ≡ asked_start start m → start_refusal start m ≡ 0
  unfolding asked_start
  passed_alone e = (start_asked m (accepted tt) start tt (sym e)).0

  pub refused_alone : (k : ℕ) → refused k ≡ asked_start start m → (start_refusal start m ≡ 0 → ⊥) × (start_refusal start m ≡ k)
  unfolding asked_start
  refused_alone k e =
      let some = λ (z : start_refusal start m ≡ 0). not_both (sym (start_passed m (accepted tt) start z) ∙ sym e) in
      (some, ap number (sym (start_refused m (accepted tt) start some) ∙ sym e))

-- ---- where it begins

module _ (m : ℕ) where
  pub start_good : (start : PlanStart) (cost : ℕ → ℕ) → 1 ≤ m → start_refusal start m ≡ 0
      → (start_by start cost m < 2 ^ m) × (any m (member (start_by start cost m)) ≡ true)
  unfolding start_by question8
  start_good Cheapest cost some h =
      let a = arg m (λ i. true) (λ i. cost (2 ^ i)) in
      let below = (arg_least m (λ i. true) (λ i. cost (2 ^ i)) (any_of m 0 (λ i. true) some refl)).below in
      (pow-lt below, any_of m a (member (2 ^ a)) below (member_single a a ∙ eqb_self a))
  start_good (First k) cost some h =
      let w = first_within m k h in
      let start = limited_start_lem m k w.1 in
      (start.0, any_counted m (member (limited_start k)) (omega (arith, start.1, w.0)))
  start_good (Given set) cost some h =
      let q = given_passes m set h in
      let small = ltb-true set (2 ^ m) (and_right (leb 1 set) _ q) in
      (small, some_member m set small (leb-true 1 set (and_left (leb 1 set) _ q)))

  -- a set of facilities that is not empty passes question 8
  pub set_passes : (set : ℕ) → set < 2 ^ m → any m (member set) ≡ true → question8 m set ≡ true
  unfolding question8
  set_passes set small some = and_both (le-leb 1 set (member_some m set some)) (lt-ltb set (2 ^ m) small)

  module _ (start : PlanStart) (few : m ≤ most_yards) (passed : start_refusal start m ≡ 0) where
    -- the engine begins there
    pub start_same : (n : ℕ) (opening service : List ℕ)
        → start_set (engine_start start) (tabled m n opening service) ≡ start_by start (table_cost m n opening service) m
    start_same n opening service = by start passed
      where
        by : (start : PlanStart) → start_refusal start m ≡ 0
            → start_set (engine_start start) (tabled m n opening service) ≡ start_by start (table_cost m n opening service) m
        by Cheapest h = unfold start_set engine_start start_by open_start tabled table_cost in refl
        by (First k) h = unfold start_set engine_start start_by in rw (le-leb k most_yards (omega (arith, (first_within m k h).1)))
        by (Given set) h = unfold start_set engine_start start_by in refl

    -- and takes it
    pub start_taken : good_start m (engine_start start) ≡ true
    start_taken = by start passed
      where
        by : (start : PlanStart) → start_refusal start m ≡ 0 → good_start m (engine_start start) ≡ true
        by Cheapest h = unfold good_start engine_start in refl
        by (First k) h =
            let w = first_within m k h in
            let start = limited_start_lem m k w.1 in
            let has = any_counted m (member (limited_start k)) (omega (arith, start.1, w.0)) in
            unfold good_start engine_start in
            rw (le-leb k most_yards (omega (arith, w.1)))
            (and_both (le-leb 1 (limited_start k) (member_some m (limited_start k) has)) (lt-ltb (limited_start k) (2 ^ m) start.0))
        by (Given set) h = unfold good_start engine_start question8 in given_passes m set h
