-- Laws of the nearest yard: how the loop over the listed yards keeps it, and the second one by two searches.
use Prim.Native.Nat.{ℕ, ◌+◌, ◌*◌, ◌/◌, ◌^◌, ◌≤◌, ◌<◌}
use native.Mathlib.Numerals.{add-one}
use native.Mathlib.Omega.{arith}
use native.Mathlib.Decide.{dec_lt}
use mathlib.Core.Path.{◌≡◌, refl, sym, ap, ◌∙◌}
use mathlib.Core.Logic.{◌⊎◌, inl, inr}
use mathlib.Core.Bool.{Bool, true, false, ◌&&◌, ◌||◌, and-false}
use mathlib.Core.List.{List}
use borrow.Author.Tests.{lt-ltb, le-ltb, eq-eqb, ne_eqb}
use lib.Dec.{eqb, ltb}
use lib.ListN.{length, get_or}
use Rattle.model.specs.Least.{any}
use Rattle.model.specs.Sets.{member, plus, minus, without}
use Rattle.model.specs.Instance.{nearest}
use Rattle.model.specs.Closing.{others, second, second_cost}
use Rattle.model.proofs.Bools.{cases, clash, fails, or_left, or_right, and_both, Eq?, same, diff, test, Lt?, less, more, test<}
use Rattle.model.proofs.SetLaws.{member_without}
use Rattle.model.proofs.LeastLaws.{any_of, any_cong, any_none}
use Rattle.model.proofs.LeastThenLaws.{LeastThen, then_agree, then_only, then_taken, then_kept}
use Rattle.model.proofs.CostLaws.{assigned_is, assigned_nearest, assigned_none, assigned_cong, nearest_cong}
use Rattle.sets.specs.Members.{rising_below, listed}
use Rattle.sets.proofs.ListedLaws.{listed_all, listed_up_to, none_yet, at_end}
use Rattle.record.specs.Records.{amount_at, amount_end}
use Rattle.nearest.specs.declared.Choice.{Choice}
use Rattle.nearest.specs.Nearest.{Nearest, near, yards_on, one_farm, nearest_in, nearest_on, second_on}
use Rattle.nearest.specs.Choices.{haul_step, no_yard, last_key, choice, no_choice, choice_of, AmountsFit, nearer}

-- ---- the order of two choices

abbrev before : ℕ → ℕ → ℕ → ℕ → Bool
before p q y z = ltb p q || (eqb p q && ltb y z)

module _ (p q y z : ℕ) where
  comes_first : before p q y z ≡ true → (p ≤ q) × (p ≡ q → y ≤ z)
  comes_first = go (ltb p q) (test< p q) (eqb p q) (test p q) (ltb y z) (test< y z)
    where
      go : (l : Bool) → Lt? p q l → (e : Bool) → Eq? p q e → (k : Bool) → Lt? y z k → l || (e && k) ≡ true → (p ≤ q) × (p ≡ q → y ≤ z)
      go true (less l) e r k s h = (omega arith, λ level. absurd (omega arith))
      go false (more l) true (same r) true (less s) h = (omega arith, λ level. omega arith)
      go false (more l) true (same r) false (more s) h = clash h refl
      go false (more l) false (diff r) k s h = clash h refl

  comes_later : before p q y z ≡ false → (q ≤ p) × (p ≡ q → z ≤ y)
  comes_later = go (ltb p q) (test< p q) (eqb p q) (test p q) (ltb y z) (test< y z)
    where
      go : (l : Bool) → Lt? p q l → (e : Bool) → Eq? p q e → (k : Bool) → Lt? y z k → l || (e && k) ≡ false → (q ≤ p) × (p ≡ q → z ≤ y)
      go true (less l) e r k s h = clash refl h
      go false (more l) true (same r) true (less s) h = clash refl h
      go false (more l) true (same r) false (more s) h = (l, λ level. s)
      go false (more l) false (diff r) k s h = (l, λ level. absurd (r level))

  first_when : p ≤ q → (p ≡ q → y < z) → before p q y z ≡ true
  first_when up lower = elim (dec_lt p q) [
    | yes l ↦ or_left (ltb p q) (eqb p q && ltb y z) (lt-ltb p q l)
    | no g ↦
        let level : p ≡ q = omega arith in
        or_right (ltb p q) (eqb p q && ltb y z) (and_both (eq-eqb p q level) (lt-ltb y z (lower level)))
  ]

  later_when : q ≤ p → z ≤ y → before p q y z ≡ false
  later_when up lower = go (eqb p q)
    where
      go : (e : Bool) → ltb p q || (e && ltb y z) ≡ false
      go true = rw (le-ltb p q up, le-ltb y z lower)
      go false = rw (le-ltb p q up)

module _ (fees hauls : List ℕ) where
  abbrev m : ℕ
  m = yards_on fees hauls

  -- sets that agree on the yards
  pub near_cong : (S T : ℕ → Bool) → ((i : ℕ) → i < yards_on fees hauls → S i ≡ T i) → nearest_in fees hauls S ≡ nearest_in fees hauls T
  unfolding nearest_in one_farm
  near_cong S T agree =
      let I = one_farm fees hauls in
      rw (any_cong m S T agree, assigned_cong I S T agree 0, nearest_cong I S T agree 0)

  -- the list of a set's yards
  pub near_listed : (set : ℕ) (yards : List ℕ) → set < 2 ^ 32 → yards ≡ rising_below 32 set → nearest_in fees hauls (listed yards) ≡ nearest_on fees hauls set
  near_listed set yards small e =
      near_cong (listed yards) (member set) (λ i l. ap (λ (xs : List ℕ). listed xs i) e ∙ listed_all set i small)

  -- the second is the nearest of the set without the first
  pub second_after : (set first : ℕ) → first ≡ (nearest_on fees hauls set).yard → nearest_on fees hauls (without set first) ≡ second_on fees hauls set
  unfolding second_on second second_cost nearest_in one_farm
  second_after set first e =
      near_cong (member (without set first)) (others (one_farm fees hauls) (member set) 0)
      (λ i l. member_without set first i ∙ ap (λ f. minus (member set) f i) e)

  -- where no yard of the set is found, no second one is
  pub second_none : (set : ℕ) → near false 0 0 ≡ nearest_on fees hauls set → near false 0 0 ≡ second_on fees hauls set
  unfolding second_on second second_cost nearest_in one_farm
  second_none set e =
      let none : (i : ℕ) → i < m → member set i ≡ false =
      λ i l. fails (λ has. clash (any_of m i (member set) l has) (sym (ap (λ (r : Nearest). r.found) e))) in
      e ∙ near_cong (member set) (others (one_farm fees hauls) (member set) 0) (λ i l. none i l ∙ sym (rw (none i l) (and-false _)))

  -- ---- the loop over the listed yards

  -- the choice is that of the nearest yard of S
  record Chosen (S : ℕ → Bool) (b : Choice) : Type 0 where
    choice_is : b ≡ choice b.yard (amount_at hauls b.yard) (amount_at fees b.yard)
    numbered : b.yard < no_yard
    haul_fits : amount_at hauls b.yard < amount_end
    fee_fits : amount_at fees b.yard < amount_end
    nearest_is : LeastThen m S (amount_at hauls) (amount_at fees) b.yard

  -- S has none of the yards, and there is no choice yet
  record NoneChosen (S : ℕ → Bool) (b : Choice) : Type 0 where
    choice_is : b ≡ no_choice
    none : any m S ≡ false

  pub Kept : (ℕ → Bool) → Choice → Type 0
  Kept S b = NoneChosen S b ⊎ Chosen S b

  pub none_listed : (yards : List ℕ) → Kept (listed_up_to yards 0) no_choice
  unfolding Kept
  none_listed yards = inl (record { choice_is = refl; none = any_none m _ (λ i l. none_yet yards i) })

  module _ (S : ℕ → Bool) (x : ℕ) (a b : Choice) where
    -- a yard that has not both records is no yard: S with it has the same ones
    passed_over : m ≤ x → b ≡ no_choice → Kept S a → Kept (plus S x) (nearer a b)
    unfolding Kept nearer
    passed_over above eb (inl k) =
        rw (k.choice_is, eb) (inl (record { choice_is = refl; none = any_cong m (plus S x) S (λ i l. rw (ne_eqb x i (λ q. omega arith))) ∙ k.none }))
    passed_over above eb (inr k) =
        rw (eb, later_when last_key a.key no_yard a.yard (omega (arith, ap (λ (c : Choice). c.key) k.choice_is, k.haul_fits, k.fee_fits)) (omega (arith, k.numbered)))
        (inr (record {
          choice_is = k.choice_is;
          numbered = k.numbered;
          haul_fits = k.haul_fits;
          fee_fits = k.fee_fits;
          nearest_is =
              then_agree S (amount_at hauls) (amount_at fees) (plus S x) m a.yard (λ i l. rw (ne_eqb x i (λ q. omega arith))) k.nearest_is;
        }))

    module _ (within : x < m) (small : x < no_yard) (haul_fits : amount_at hauls x < amount_end) (fee_fits : amount_at fees x < amount_end)
        (eb : b ≡ choice x (amount_at hauls x) (amount_at fees x)) where
      -- its choice, where x is the nearest of S with x
      chosen_of : LeastThen m (plus S x) (amount_at hauls) (amount_at fees) x → Chosen (plus S x) b
      chosen_of r = rw eb (record { choice_is = refl; numbered = small; haul_fits = haul_fits; fee_fits = fee_fits; nearest_is = r })

      taken_over : Kept S a → Kept (plus S x) (nearer a b)
      unfolding Kept nearer
      taken_over (inl k) =
          let first = first_when b.key a.key b.yard a.yard
          (omega (arith, ap (λ (c : Choice). c.key) k.choice_is, ap (λ (c : Choice). c.key) eb))
          (λ level. omega (arith, ap (λ (c : Choice). c.yard) k.choice_is, ap (λ (c : Choice). c.yard) eb)) in
          rw first (inr (chosen_of (then_only S (amount_at hauls) (amount_at fees) m x within k.none)))
      taken_over (inr k) =
          cases (before b.key a.key b.yard a.yard)
          (λ q. let first = comes_first b.key a.key b.yard a.yard q in
          rw q (inr (chosen_of (then_taken S (amount_at hauls) (amount_at fees) m x within a.yard k.nearest_is (
            omega (arith, key_a, key_b, first.0, k.fee_fits),
            (λ level. omega (arith, key_a, key_b, first.0, level)),
            (λ level same_fee. omega (arith, yard_b, first.1 (omega (arith, key_a, key_b, level, same_fee)))),
          )))))
          (λ q. let later = comes_later b.key a.key b.yard a.yard q in
          rw q (inr (record {
            choice_is = k.choice_is;
            numbered = k.numbered;
            haul_fits = k.haul_fits;
            fee_fits = k.fee_fits;
            nearest_is = then_kept S (amount_at hauls) (amount_at fees) m x within a.yard k.nearest_is (
              omega (arith, key_a, key_b, later.0, fee_fits),
              (λ level. omega (arith, key_a, key_b, later.0, level)),
              (λ level same_fee. omega (arith, yard_b, later.1 (omega (arith, key_a, key_b, level, same_fee)))),
            );
          })))
        where
          key_a : a.key ≡ haul_step * amount_at hauls a.yard + amount_at fees a.yard
          key_a = ap (λ (c : Choice). c.key) k.choice_is

          key_b : b.key ≡ haul_step * amount_at hauls x + amount_at fees x
          key_b = ap (λ (c : Choice). c.key) eb

          yard_b : b.yard ≡ x
          yard_b = ap (λ (c : Choice). c.yard) eb

  -- a turn
  pub next_listed : (yards : List ℕ) (t : ℕ) (a b r : Choice) → get_or yards t 0 < no_yard → b ≡ choice_of fees hauls (get_or yards t 0)
      → AmountsFit fees hauls (get_or yards t 0) → r ≡ nearer a b → Kept (listed_up_to yards t) a → Kept (listed_up_to yards (t + 1)) r
  unfolding choice_of any
  next_listed yards t a b r small eb fits er k =
      let x = get_or yards t 0 in
      let S = listed_up_to yards t in
      rw (er, add-one t) (elim (dec_lt x m) [
        | yes l ↦ taken_over S x a b l small (fits l).0 (fits l).1 (eb ∙ rw (lt-ltb x m l)) k
        | no g ↦ passed_over S x a b (omega arith) (eb ∙ rw (le-ltb x m (omega arith))) k
      ])

  -- at the end
  module _ (yards : List ℕ) (t : ℕ) (done : t ≡ length yards) (b : Choice) where
    all_of : nearest_in fees hauls (listed_up_to yards t) ≡ nearest_in fees hauls (listed yards)
    all_of = near_cong (listed_up_to yards t) (listed yards) (λ i l. at_end yards t i done)

    pub none_found : b.yard ≡ no_yard → Kept (listed_up_to yards t) b → near false 0 0 ≡ nearest_in fees hauls (listed yards)
    unfolding Kept nearest_in one_farm
    none_found e (inl k) =
        let zeros = assigned_none (one_farm fees hauls) (listed_up_to yards t) 0 k.none in
        rw (k.none, zeros.0, zeros.1) at all_of
    none_found e (inr k) = absurd (omega (arith, k.numbered))

    pub one_found : (b.yard ≡ no_yard → ⊥) → Kept (listed_up_to yards t) b → near true b.yard (b.key / haul_step) ≡ nearest_in fees hauls (listed yards)
    unfolding Kept nearest_in one_farm
    one_found e (inl k) = absurd (e (ap (λ (c : Choice). c.yard) k.choice_is))
    one_found e (inr k) =
        let I = one_farm fees hauls in
        let S = listed_up_to yards t in
        let r = k.nearest_is in
        let some = any_of m b.yard S r.below r.is_in_lem in
        let yard = assigned_is I S 0 b.yard r in
        let haul : b.key / haul_step ≡ nearest I S 0 =
        omega (arith, ap (λ (c : Choice). c.key) k.choice_is, k.fee_fits, ap (amount_at hauls) yard, assigned_nearest I S 0 some) in
        rw (haul, sym yard, sym some) all_of
