-- Laws of the listed numbers of a set: filling the list, what its places hold, and that no number between two of them is in the set.
use Prim.Native.Nat.{ℕ, zero, suc, ◌+◌, ◌-◌, ◌≤◌, ◌<◌, min}
use native.Mathlib.Nat.{le_refl, le_step, le_of_lt, lt-suc_self, not-suc-le-zero, min-eq_left}
use native.Mathlib.Numerals.{add-one}
use native.Mathlib.Omega.{arith}
use native.Mathlib.Decide.{dec_lt}
use mathlib.Core.Path.{◌≡◌, refl, sym, ap, ap₂, ◌∙◌}
use mathlib.Core.Logic.{inl, inr}
use mathlib.Core.Bool.{Bool, true, false}
use mathlib.Core.List.{List, [], ◌∷◌, ◌++◌, append-nil}
use lib.ListN.{length, get_or, set as put, take, replicate, length-append, length-replicate, get_or-append}
use lib.Seq.{set-append_seam, get_or-append_seam, append_snoc, take-append_seam, length-take-le}
use Rattle.model.specs.Loops.{on, sum, join}
use Rattle.model.specs.Sets.{count, member}
use Rattle.model.proofs.Bools.{cases}
use Rattle.model.proofs.LoopLaws.{last_or}
use Rattle.model.proofs.GapLaws.{NoneFrom}
use Rattle.sets.specs.declared.Members.{Members}
use Rattle.sets.specs.Members.{listed_at, rising_below, listing, members_below}

-- ---- the numbers below m, one number more

module _ (set m : ℕ) where
  pub rising_in : member set m ≡ true → rising_below (suc m) set ≡ rising_below m set ++ (m ∷ [])
  unfolding rising_below listed_at join
  rising_in e = rw e

  pub rising_out : member set m ≡ false → rising_below (suc m) set ≡ rising_below m set
  unfolding rising_below listed_at join
  rising_out e = rw e (append-nil (join m (listed_at set)))

pub rising_none : (set : ℕ) → rising_below 0 set ≡ []
unfolding rising_below join
rising_none set = refl

pub rising_few : (set m : ℕ) → length (rising_below m set) ≤ m
rising_few set zero = omega (arith, ap length (rising_none set))
rising_few set (suc m) =
    cases (member set m)
    (λ e. omega (arith, ap length (rising_in set m e), length-append (rising_below m set) (m ∷ []), rising_few set m))
    (λ e. omega (arith, ap length (rising_out set m e), rising_few set m))

pub rising_count : (set m : ℕ) → length (rising_below m set) ≡ count m (member set)
unfolding sum
rising_count set zero = ap length (rising_none set)
rising_count set (suc m) =
    cases (member set m)
    (λ e. rw e (omega (arith, ap length (rising_in set m e), length-append (rising_below m set) (m ∷ []), rising_count set m)))
    (λ e. rw e (omega (arith, ap length (rising_out set m e), rising_count set m)))

-- ---- filling the list

abbrev pub members : List ℕ → ℕ → Members
members list count = record { list = list; count = count }

abbrev zeros : ℕ → List ℕ
zeros n = replicate n 0

-- 32 places whose front holds the numbers
abbrev places : List ℕ → List ℕ
places numbers = numbers ++ zeros (32 - length numbers)

module _ (xs : List ℕ) (room : length xs < 32) where
  -- one more place is free
  free : zeros (32 - length xs) ≡ 0 ∷ zeros (32 - suc (length xs))
  free = let e : 32 - length xs ≡ suc (32 - suc (length xs)) = omega arith in rw e

  put_more : (i : ℕ) → put (places xs) (length xs) i ≡ places (xs ++ (i ∷ []))
  put_more i =
      let e : length (xs ++ (i ∷ [])) ≡ suc (length xs) = omega (arith, length-append xs (i ∷ [])) in
      rw (free, e) (set-append_seam xs 0 (zeros (32 - suc (length xs))) i ∙ sym (append_snoc xs i (zeros (32 - suc (length xs)))))

  put_zero : put (places xs) (length xs) 0 ≡ places xs
  put_zero = rw free (set-append_seam xs 0 (zeros (32 - suc (length xs))) 0)

pub listing_none : (set : ℕ) → members (zeros 32) 0 ≡ listing (rising_below 0 set)
unfolding listing
listing_none set = rw (rising_none set)

-- a turn, with what its calls answer: i is put behind the numbers below it where it is in the set, else a zero
module _ (set i : ℕ) (list : List ℕ) (count : ℕ) (few : i < 32) (held : members list count ≡ listing (rising_below i set)) where
  count_is : count ≡ length (rising_below i set)
  unfolding listing
  count_is = ap (λ (r : Members). r.count) held

  list_is : list ≡ places (rising_below i set)
  unfolding listing
  list_is = ap (λ (r : Members). r.list) held

  pub count_room : count < 32
  count_room = omega (arith, count_is, rising_few set i)

  room : length (rising_below i set) < 32
  room = omega (arith, rising_few set i)

  pub listing_more : (is_in : Bool) → is_in ≡ member set i → (x y : ℕ) → x ≡ on is_in i → y ≡ on is_in 1
      → members (put list count x) (count + y) ≡ listing (rising_below (i + 1) set)
  unfolding listing
  listing_more true e x y ex ey =
      rw (add-one, rising_in set i (sym e), count_is, list_is, ex, ey)
      (ap₂ members (put_more (rising_below i set) room i) (sym (length-append (rising_below i set) (i ∷ []))))
  listing_more false e x y ex ey =
      rw (add-one, rising_out set i (sym e), count_is, list_is, ex, ey)
      (ap₂ members (put_zero (rising_below i set) room) (omega arith))

-- ---- what the places hold

-- where the numbers that come after the first t of a list begin
unfoldable pub passed : List ℕ → ℕ → ℕ
passed list zero = 0
passed list (suc t) = suc (get_or list t 0)

pub passed_none : (list : List ℕ) → passed list 0 ≡ 0
unfolding passed
passed_none list = refl

pub passed_more : (list : List ℕ) (t : ℕ) → passed list (t + 1) ≡ get_or list t 0 + 1
unfolding passed
passed_more list t = rw (add-one t, add-one (get_or list t 0))

-- the first numbers of a longer list
passed_front : (xs ys : List ℕ) (t : ℕ) → t ≤ length xs → passed (xs ++ ys) t ≡ passed xs t
unfolding passed
passed_front xs ys zero h = refl
passed_front xs ys (suc t) h = ap suc (get_or-append xs ys 0 t h)

-- x is the first number of the set from p on, and below m
pub record Next (set m p x : ℕ) : Type 0 where
  pub below : x < m
  pub is_in_lem : member set x ≡ true
  pub rises : p ≤ x
  pub none : NoneFrom (member set) p x

-- from p on the set has no number below m
pub record Last (set m p : ℕ) : Type 0 where
  pub within : p ≤ m
  pub none : NoneFrom (member set) p m

-- what holds at each place of a list and of a number behind it
behind : (Q : ℕ → ℕ → Type 0) (xs : List ℕ) (x : ℕ)
    → ((t : ℕ) → t < length xs → Q (passed xs t) (get_or xs t 0)) → Q (passed xs (length xs)) x
    → (t : ℕ) → t < length (xs ++ (x ∷ [])) → Q (passed (xs ++ (x ∷ [])) t) (get_or (xs ++ (x ∷ [])) t 0)
behind Q xs x h q t l =
    elim (dec_lt t (length xs)) [
      | yes k ↦ rw (passed_front xs (x ∷ []) t (le_of_lt k), get_or-append xs (x ∷ []) 0 t k) (h t k)
      | no g ↦
          let e : t ≡ length xs = omega (arith, length-append xs (x ∷ [])) in
          rw (e, passed_front xs (x ∷ []) (length xs) (le_refl (length xs)), get_or-append_seam xs x [] 0) q
    ]

record Rising (set m : ℕ) (xs : List ℕ) : Type 0 where
  next : (t : ℕ) → t < length xs → Next set m (passed xs t) (get_or xs t 0)
  last : Last set m (passed xs (length xs))

later : (set m p x : ℕ) → Next set m p x → Next set (suc m) p x
later set m p x r = record { below = le_step r.below; is_in_lem = r.is_in_lem; rises = r.rises; none = r.none }

module _ (set m : ℕ) (xs : List ℕ) (r : Rising set m xs) where
  rises_in : member set m ≡ true → Rising set (suc m) (xs ++ (m ∷ []))
  unfolding passed
  rises_in e =
      let l = r.last in
      let size : length (xs ++ (m ∷ [])) ≡ suc (length xs) = omega (arith, length-append xs (m ∷ [])) in
      record {
        next = behind (Next set (suc m)) xs m (λ t k. later set m (passed xs t) (get_or xs t 0) (r.next t k))
            (record { below = lt-suc_self m; is_in_lem = e; rises = l.within; none = l.none });
        last = rw (size, get_or-append_seam xs m [] 0) (record { within = le_refl (suc m); none = λ j a b. absurd (omega arith) });
      }

  rises_out : member set m ≡ false → Rising set (suc m) xs
  rises_out e = record {
    next = λ t k. later set m (passed xs t) (get_or xs t 0) (r.next t k);
    last = record {
      within = le_step r.last.within;
      none = λ j a b. elim (last_or b) [ inl q ↦ rw q e | inr k ↦ r.last.none j a k ];
    };
  }

rising : (set m : ℕ) → Rising set m (rising_below m set)
rising set zero = rw (rising_none set) (record {
  next = λ t k. absurd (not-suc-le-zero k);
  last = record { within = omega (arith, passed_none []); none = λ j a b. absurd (not-suc-le-zero b) };
})
rising set (suc m) =
    cases (member set m)
    (λ e. rw (rising_in set m e) (rises_in set m (rising_below m set) (rising set m) e))
    (λ e. rw (rising_out set m e) (rises_out set m (rising_below m set) (rising set m) e))

-- ---- for callers that pass the numbers on as a list

module _ (set m : ℕ) (xs : List ℕ) (e : xs ≡ rising_below m set) where
  -- each is the next number of the set
  pub listed_next : (t : ℕ) → t < length xs → Next set m (passed xs t) (get_or xs t 0)
  listed_next = rw e (rising set m).next

  -- and none comes after the last
  pub listed_last : Last set m (passed xs (length xs))
  listed_last = rw e (rising set m).last

-- the part of the list that a caller takes
module _ (set m : ℕ) (r : Members) (e : r ≡ members_below m set) where
  places_32 : length r.list ≡ 32
  unfolding members_below listing
  places_32 =
      let xs = rising_below (min m 32) set in
      rw e (omega (arith, length-append xs (zeros (32 - length xs)), length-replicate {A = ℕ} (32 - length xs) 0, rising_few set (min m 32)))

  pub part_room : r.count ≤ length r.list
  unfolding members_below listing
  part_room = rw places_32 (rw e (omega (arith, rising_few set (min m 32))))

  pub part_small : r.count ≤ 32
  part_small = omega (arith, part_room, places_32)

  pub part_length : r.count ≡ length (take r.count r.list)
  part_length = sym (length-take-le r.count r.list part_room)

  pub part_is : take r.count r.list ≡ rising_below (min m 32) set
  unfolding members_below listing
  part_is = let xs = rising_below (min m 32) set in rw e (take-append_seam xs (zeros (32 - length xs)))

  module _ (few : m ≤ 32) where
    pub part_numbers : take r.count r.list ≡ rising_below m set
    part_numbers = part_is ∙ ap (λ k. rising_below k set) (min-eq_left few)

    pub part_count : r.count ≡ count m (member set)
    part_count = part_length ∙ ap length part_numbers ∙ rising_count set m

    pub part_few : r.count ≤ m
    part_few = omega (arith, part_length, ap length part_numbers, rising_few set m)

-- ---- for callers, of m yards

module _ (set m : ℕ) (few : m ≤ 32) where
  listed : members_below m set ≡ listing (rising_below m set)
  unfolding members_below
  listed = rw (min-eq_left few)

  pub count_few : (members_below m set).count ≤ m
  unfolding listing
  count_few = rw listed (rising_few set m)

  pub list_length : length (members_below m set).list ≡ 32
  list_length = places_32 set m (members_below m set) refl

  -- each place is the next number of the set
  pub member_at : (t : ℕ) → t < (members_below m set).count
      → Next set m (passed (members_below m set).list t) (get_or (members_below m set).list t 0)
  unfolding listing
  member_at = rw listed (λ t k. let xs = rising_below m set in
      let ys = zeros (32 - length xs) in
      rw (passed_front xs ys t (le_of_lt k), get_or-append xs ys 0 t k) ((rising set m).next t k))

  -- and none comes after the last
  pub none_after : Last set m (passed (members_below m set).list (members_below m set).count)
  unfolding listing
  none_after = rw listed (let xs = rising_below m set in
      rw (passed_front xs (zeros (32 - length xs)) (length xs) (le_refl (length xs))) (rising set m).last)
