-- Laws of the listed facilities of a set: going through their list is going through all numbers below m, where only those in the set count.
-- Idea: by induction over m, since the list of the numbers below m + 1 is that below m, with m behind it where m is in the set.
use Prim.Native.Nat.{ℕ, zero, suc, ◌+◌, ◌-◌, ◌^◌, ◌≤◌, ◌<◌}
use native.Mathlib.Nat.{le_refl}
use native.Mathlib.Omega.{arith}
use mathlib.Core.Path.{◌≡◌, refl, sym, ap, ◌∙◌}
use mathlib.Core.Bool.{Bool, true, false, cond}
use mathlib.Core.List.{List, [], ◌∷◌, ◌++◌}
use lib.ListN.{length, get_or, take, length-append, get_or-append}
use lib.Seq.{get_or-append_seam}
use Rattle.model.specs.Loops.{on, sum}
use Rattle.model.specs.Passing.{through}
use Rattle.model.specs.Sets.{sum_on, count, member}
use Rattle.model.proofs.Bools.{cases, fails}
use Rattle.model.proofs.PassingLaws.{through_cong}
use Rattle.model.proofs.SetLaws.{member_below}
use Rattle.sets.specs.declared.Members.{Members}
use Rattle.sets.specs.Members.{rising_below, members_of}
use Rattle.sets.proofs.MemberLaws.{rising_none, rising_in, rising_out, rising_few, rising_count, listed_next, part_small, part_numbers}
use Rattle.engine.specs.Near.{Listed}
use Rattle.engine.specs.Moves.{at_place}

-- what is done with a number that is in the set
abbrev pub in_set : {A : Type 0} → ℕ → (ℕ → A → A) → ℕ → A → A
in_set set f o b = cond (member set o) (f o b) b

-- one number behind a list comes last
through_behind : {A : Type 0} (f : ℕ → A → A) (b : A) (xs : List ℕ) (x : ℕ)
    → through (length (xs ++ (x ∷ []))) (at_place (xs ++ (x ∷ [])) f) b ≡ f x (through (length xs) (at_place xs f) b)
unfolding through
through_behind f b xs x =
    let size : length (xs ++ (x ∷ [])) ≡ suc (length xs) = omega (arith, length-append xs (x ∷ [])) in
    let front = through_cong (at_place (xs ++ (x ∷ [])) f) (at_place xs f) b (length xs)
    (λ t l y. ap (λ (o : ℕ). f o y) (get_or-append xs (x ∷ []) 0 t l)) in
    rw (size, get_or-append_seam xs x [] 0, front)

rising_through : {A : Type 0} (f : ℕ → A → A) (b : A) (set m : ℕ)
    → through (length (rising_below m set)) (at_place (rising_below m set) f) b ≡ through m (in_set set f) b
unfolding through
rising_through f b set zero = rw (rising_none set)
rising_through f b set (suc m) =
    cases (member set m)
    (λ e. rw (rising_in set m e, e) (through_behind f b (rising_below m set) m ∙ ap (f m) (rising_through f b set m)))
    (λ e. rw (rising_out set m e, e) (rising_through f b set m))

sum_through : (n : ℕ) (f : ℕ → ℕ) → sum n f ≡ through n (λ i x. x + f i) 0
unfolding sum through
sum_through zero f = refl
sum_through (suc n) f = ap (λ (x : ℕ). x + f n) (sum_through n f)

added_in : (x k : ℕ) (b : Bool) → cond b (x + k) x ≡ x + on b k
added_in x k true = refl
added_in x k false = omega arith

-- a set below 2 ^ m has no number from m on
rising_all : (set m d : ℕ) → set < 2 ^ m → rising_below (d + m) set ≡ rising_below m set
rising_all set m zero small = ap (λ (k : ℕ). rising_below k set) (omega arith)
rising_all set m (suc d) small =
    let shut : member set (d + m) ≡ false = fails (λ e. let l = member_below m set (d + m) small e in omega arith) in
    ap (λ (k : ℕ). rising_below k set) (omega arith) ∙ rising_out set (d + m) shut ∙ rising_all set m d small

-- ---- the list of a set of facilities below m

-- the list that `sets::members_of` gives
pub part_room : (set : ℕ) (r : Members) → r ≡ members_of set → r.count ≤ 32
part_room set r e = part_small set 32 r e

pub part_listed : (set : ℕ) (r : Members) → r ≡ members_of set → Listed set (take r.count r.list)
part_listed set r e = part_numbers set 32 r e (le_refl 32)

module _ (set m : ℕ) (list : List ℕ) (listed : Listed set list) (few : m ≤ 32) (small : set < 2 ^ m) where
  all_here : list ≡ rising_below m set
  all_here = listed ∙ ap (λ (k : ℕ). rising_below k set) (omega arith) ∙ rising_all set m (32 - m) small

  pub places_few : length list ≤ m
  places_few = omega (arith, ap length all_here, rising_few set m)

  -- as many are listed as the set has
  pub places_count : length list ≡ count m (member set)
  places_count = ap length all_here ∙ rising_count set m

  -- each is a facility of the set
  pub place_below : (t : ℕ) → t < length list → get_or list t 0 < m
  place_below t l = (listed_next set m list all_here t l).below

  pub place_in : (t : ℕ) → t < length list → member set (get_or list t 0) ≡ true
  place_in t l = (listed_next set m list all_here t l).is_in_lem

  -- going through the list is going through the set
  pub through_listed : {A : Type 0} (f : ℕ → A → A) (b : A) → through (length list) (at_place list f) b ≡ through m (in_set set f) b
  through_listed f b = rw all_here (rising_through f b set m)

  -- and so for sums
  pub sum_listed : (w : ℕ → ℕ) → sum (length list) (λ t. w (get_or list t 0)) ≡ sum_on m (member set) w
  sum_listed w =
      sum_through (length list) (λ t. w (get_or list t 0)) ∙ through_listed (λ o x. x + w o) 0
      ∙ through_cong (in_set set (λ o x. x + w o)) (λ o x. x + on (member set o) (w o)) 0 m (λ o l x. added_in x (w o) (member set o))
      ∙ sym (sum_through m (λ o. on (member set o) (w o)))
