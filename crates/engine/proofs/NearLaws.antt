-- Laws of a client's two nearest facilities: counted along the list of a set's facilities, and after a move.
-- A facility that came is inserted; one that went leaves no trace where neither of the two names it, else the other of the two is the
-- nearest, and the second is the least along the list other than that one.
use Prim.Native.Nat.{ℕ, ◌+◌, ◌*◌, ◌%◌, ◌^◌, ◌≤◌, ◌<◌, min}
use native.Mathlib.Omega.{arith}
use native.Mathlib.Decide.{dec_lt}
use mathlib.Core.Path.{◌≡◌, refl, sym, ap, ◌∙◌}
use mathlib.Core.Logic.{inl, inr}
use mathlib.Core.Bool.{Bool, true, false, cond, not, ◌&&◌, ◌||◌}
use mathlib.Core.List.{List}
use borrow.Author.Tests.{le-ltb, eq-eqb, ne_eqb, eqb-false}
use lib.Dec.{eqb, ltb}
use lib.ListN.{length, get_or}
use Rattle.model.specs.Sets.{member, plus, minus}
use Rattle.model.specs.TwoLeast.{Two, two, insert, two_least, packed}
use Rattle.model.proofs.Bools.{clash, fails, or_right, or_left, Eq?, same, diff, test, Lt?, less, more, test<}
use Rattle.model.proofs.SetLaws.{member_below}
use Rattle.model.proofs.TwoLeastLaws.{two_none, two_take, two_skip, two_cong, two_ordered, two_below, two_with, first_with, first_attained}
use Rattle.model.proofs.PackedLaws.{packed_facility, packed_without, packed_first_without, other_than, packed_second}
use Rattle.model.proofs.PlaceLaws.{row_within, few_places}
use Rattle.sets.proofs.MemberLaws.{passed, passed_none, passed_more, Next, listed_last}
use Rattle.engine.specs.Bounds.{no_facility}
use Rattle.engine.specs.Rows.{entry, Rows}
use Rattle.engine.specs.Near.{near_two, two_of, near_of, InOrder, Moved, arrival_at, goes_to, Listed}
use Rattle.engine.specs.declared.near.Near.{Near}

-- ---- x, which counts as missing where it is the first

module _ (first x other : ℕ) where
  pub other_first : x ≡ first → other ≡ no_facility → other ≡ other_than no_facility first x
  other_first e is = is ∙ sym (ap (λ (t : Bool). cond t no_facility x) (eq-eqb x first e))

  pub other_else : ¬ (x ≡ first) → other ≡ x → other ≡ other_than no_facility first x
  other_else ne is = is ∙ sym (ap (λ (t : Bool). cond t no_facility x) (ne_eqb x first ne))

-- ---- a client's row

module _ (m n : ℕ) (service : List ℕ) (rows : Rows m n service) (j i : ℕ) (client : j < n) (facility : i < m) where
  -- the entry of facility i in client j's row lies within the table
  pub entry_within_lem : j * m + i < length service
  entry_within_lem = omega (arith, row_within m n j client, rows.room)

  -- the rows come to few entries
  pub entry_early : j * m + i < 4096
  entry_early = omega (arith, row_within m n j client, few_places m n rows.few_facilities rows.few_clients)

module _ (m : ℕ) (service : List ℕ) (set j : ℕ) where
  -- client j's two nearest of the facilities below p
  abbrev pub near_below : ℕ → Two
  near_below p = two_least no_facility p (member set) (packed (entry m service j))

  pub near_none : (list : List ℕ) → near_of (two no_facility no_facility) ≡ near_of (near_below (passed list 0))
  near_none list = rw (passed_none list) (ap near_of (two_none no_facility (member set) (packed (entry m service j))))

  -- a turn, with what its calls answer: the facility at place t is inserted
  pub near_more : (list : List ℕ) (t x : ℕ) (near : Near) → Next set 32 (passed list t) (get_or list t 0)
      → near ≡ near_of (near_below (passed list t)) → x ≡ packed (entry m service j) (get_or list t 0)
      → near_of (insert x (two_of near)) ≡ near_of (near_below (passed list (t + 1)))
  near_more list t x near r near_is x_is =
      let v = packed (entry m service j) in
      let skip = two_skip no_facility (passed list t) (get_or list t 0) (member set) v r.rises r.none in
      let take = two_take no_facility (member set) v (get_or list t 0) r.is_in_lem in
      rw (near_is, x_is, passed_more list t, take, skip)

  -- all places are passed
  passed_all : (v : ℕ → ℕ) (list : List ℕ) → Listed set list → m ≤ 32 → set < 2 ^ m
      → two_least no_facility (passed list (length list)) (member set) v ≡ two_least no_facility m (member set) v
  passed_all v list listed few small =
      let r = listed_last set 32 list listed in
      sym (two_skip no_facility (passed list (length list)) 32 (member set) v r.within r.none)
      ∙ two_skip no_facility m 32 (member set) v few (λ i a b. fails (λ e. let l = member_below m set i small e in omega arith))

  pub near_all : (list : List ℕ) → Listed set list → m ≤ 32 → set < 2 ^ m
      → near_below (passed list (length list)) ≡ near_two m service set j
  unfolding near_two
  near_all = passed_all (packed (entry m service j))

  -- what facility i is to client j, and is missing where it is the one that is known
  abbrev others : ℕ → ℕ → ℕ
  others first i = other_than no_facility first (packed (entry m service j) i)

  -- the nearest of those below p
  abbrev pub least_below : ℕ → ℕ → ℕ
  least_below first p = (two_least no_facility p (member set) (others first)).first

  pub least_none : (first : ℕ) (list : List ℕ) → no_facility ≡ least_below first (passed list 0)
  least_none first list = rw (passed_none list) (ap (λ (t : Two). t.first) (two_none no_facility (member set) (others first)))

  -- a turn, with what its calls answer: the lesser of the facility at place t and of the least so far
  pub least_more : (first : ℕ) (list : List ℕ) (t x y least : ℕ) → Next set 32 (passed list t) (get_or list t 0)
      → least ≡ least_below first (passed list t) → x ≡ packed (entry m service j) (get_or list t 0) → y ≡ other_than no_facility first x
      → min y least ≡ least_below first (passed list (t + 1))
  least_more first list t x y least r least_is x_is y_is =
      let i = get_or list t 0 in
      let v = others first in
      let skip = two_skip no_facility (passed list t) i (member set) v r.rises r.none in
      let take = two_take no_facility (member set) v i r.is_in_lem in
      rw (least_is, y_is, x_is, passed_more list t)
      (sym (ap (λ (u : Two). u.first) take ∙ first_with (v i) (two_least no_facility i (member set) v) ∙ ap (λ (u : Two). min (v i) u.first) skip))

  -- all places are passed: what is found is the second nearest, where the one that is known is the nearest
  pub least_all : (first : ℕ) (list : List ℕ) → Listed set list → m ≤ 32 → set < 2 ^ m
      → first ≡ (near_two m service set j).first → least_below first (passed list (length list)) ≡ (near_two m service set j).second
  unfolding near_two
  least_all first list listed few small first_is =
      ap (λ (t : Two). t.first) (passed_all (others first) list listed few small)
      ∙ rw first_is (packed_second no_facility m (member set) (entry m service j) few)

  pub near_in_order : InOrder (near_of (near_two m service set j))
  unfolding near_two
  near_in_order = record {
    ordered = two_ordered no_facility m (member set) (packed (entry m service j));
    within = two_below no_facility m (member set) (packed (entry m service j));
  }

-- ---- after a move

-- what is not before the second changes nothing
insert_none : (x : ℕ) (t : Two) → t.first ≤ t.second → t.second ≤ x → insert x t ≡ t
unfolding insert
insert_none x t o l = rw (le-ltb x t.first (omega arith), le-ltb x t.second l)

or_fails_left : (a b : Bool) → a || b ≡ false → a ≡ false
or_fails_left a b h = fails (λ e. clash (or_left a b e) h)

or_fails_right : (a b : Bool) → a || b ≡ false → b ≡ false
or_fails_right a b h = fails (λ e. clash (or_right a b e) h)

module _ (m : ℕ) (service : List ℕ) (set next came went j : ℕ) (few : m ≤ 32) (moved : Moved m set next came went) where
  abbrev v : ℕ → ℕ
  v = packed (entry m service j)

  abbrev S : ℕ → Bool
  S = member set

  -- `came` is inserted
  came_in : two_least no_facility m (plus S came) v ≡ insert (arrival_at m service came j) (near_two m service set j)
  unfolding near_two arrival_at
  came_in = go (ltb came m) (test< came m)
    where
      go : (b : Bool) → Lt? came m b
          → two_least no_facility m (plus S came) v ≡ insert (cond b (v came) no_facility) (two_least no_facility m S v)
      go true (less l) = two_with no_facility m came S v l (moved.comes l)
      go false (more g) =
          two_cong no_facility m (plus S came) S v (λ k l. ap (λ (b : Bool). b || S k) (ne_eqb came k (λ q. omega arith)))
          ∙ sym (insert_none no_facility (two_least no_facility m S v) (two_ordered no_facility m S v) (two_below no_facility m S v))

  -- where neither of the two names `went`, it leaves no trace
  went_out : (T : ℕ → Bool) → (went < m → T went ≡ true) → goes_to (near_of (two_least no_facility m T v)) went ≡ false
      → two_least no_facility m (minus T went) v ≡ two_least no_facility m T v
  unfolding goes_to
  went_out T is_in_lem stays =
      let t = two_least no_facility m T v in
      elim (dec_lt went m) [
        | yes l ↦
            packed_without no_facility m went T (entry m service j) few l (is_in_lem l)
            (eqb-false (t.first % 32) went (or_fails_left (eqb (t.first % 32) went) (eqb (t.second % 32) went) stays))
            (eqb-false (t.second % 32) went (or_fails_right (eqb (t.first % 32) went) (eqb (t.second % 32) went) stays))
        | no g ↦ two_cong no_facility m (minus T went) T v (λ k l. ap (λ (b : Bool). not b && T k) (ne_eqb went k (λ q. omega arith)))
      ]

  near_moves : goes_to (near_of (insert (arrival_at m service came j) (near_two m service set j))) went ≡ false
      → near_two m service next j ≡ insert (arrival_at m service came j) (near_two m service set j)
  unfolding near_two
  near_moves stays =
      two_cong no_facility m (member next) (minus (plus S came) went) v moved.after
      ∙ went_out (plus S came) (λ l. or_right (eqb came went) (S went) (moved.goes l)) (rw (← came_in) at stays)
      ∙ came_in

  -- the nearer of the two that does not name `went` is the nearest that is left
  first_left : (T : ℕ → Bool) → (went < m → T went ≡ true)
      → (two_least no_facility m (minus T went) v).first
      ≡ cond (eqb ((two_least no_facility m T v).first % 32) went) (two_least no_facility m T v).second (two_least no_facility m T v).first
  first_left T is_in_lem =
      elim (dec_lt went m) [
        | yes l ↦ packed_first_without no_facility m went T (entry m service j) few l (is_in_lem l)
        | no g ↦
            ap (λ (t : Two). t.first)
            (two_cong no_facility m (minus T went) T v (λ k l. ap (λ (b : Bool). not b && T k) (ne_eqb went k (λ q. omega arith))))
            ∙ go g (eqb (x % 32) went) (test (x % 32) went)
      ]
    where
      x : ℕ
      x = (two_least no_facility m T v).first

      y : ℕ
      y = (two_least no_facility m T v).second

      -- only what stands for a missing one can name a number that is no facility, and then the second is missing too
      go : ¬ (went < m) → (b : Bool) → Eq? (x % 32) went b → x ≡ cond b y x
      go g false (diff d) = refl
      go g true (same e) =
          elim (first_attained no_facility m T v) [
            | inl none ↦ omega (arith, none, two_ordered no_facility m T v, two_below no_facility m T v)
            | inr r ↦
                let named : x % 32 ≡ r.0 = ap (λ (z : ℕ). z % 32) r.3 ∙ packed_facility (entry m service j) r.0 (omega (arith, r.1)) in
                absurd (omega (arith, named, e, r.1, g))
          ]

  -- so it is the nearest after the move, with what calls answer
  module _ (near kept : Near) (arrived first : ℕ) (near_is : near ≡ near_of (near_two m service set j)) (arrived_is : arrived ≡ arrival_at m service came j)
      (kept_is : kept ≡ near_of (insert arrived (two_of near))) where
    first_after : first ≡ cond (eqb (kept.first % 32) went) kept.second kept.first → first ≡ (near_two m service next j).first
    unfolding near_two
    first_after first_is =
        let e : kept ≡ near_of (two_least no_facility m (plus S came) v) = kept_is ∙ rw (near_is, arrived_is, came_in) in
        let left = first_left (plus S came) (λ l. or_right (eqb came went) (S went) (moved.goes l)) in
        let same = two_cong no_facility m (member next) (minus (plus S came) went) v moved.after in
        first_is ∙ rw e (sym (ap (λ (t : Two). t.first) same ∙ left))

    pub first_gone : kept.first % 32 ≡ went → first ≡ kept.second → first ≡ (near_two m service next j).first
    first_gone gone is = first_after (is ∙ sym (ap (λ (t : Bool). cond t kept.second kept.first) (eq-eqb (kept.first % 32) went gone)))

    pub first_stays : ¬ (kept.first % 32 ≡ went) → first ≡ kept.first → first ≡ (near_two m service next j).first
    first_stays stays is = first_after (is ∙ sym (ap (λ (t : Bool). cond t kept.second kept.first) (ne_eqb (kept.first % 32) went stays)))

  -- where neither went, with what calls answer
  pub near_with : (near kept : Near) (arrived : ℕ) → near ≡ near_of (near_two m service set j) → arrived ≡ arrival_at m service came j
      → kept ≡ near_of (insert arrived (two_of near)) → goes_to kept went ≡ false → kept ≡ near_of (near_two m service next j)
  near_with near kept arrived near_is arrived_is kept_is stays =
      let e : kept ≡ near_of (insert (arrival_at m service came j) (near_two m service set j)) = kept_is ∙ rw (near_is, arrived_is) in
      e ∙ ap near_of (sym (near_moves (rw e at stays)))

  -- where the one that came is no nearer and neither of the two went, nothing changes
  pub near_stays : (near : Near) → near ≡ near_of (near_two m service set j) → near.second ≤ arrival_at m service came j → goes_to near went ≡ false
      → near_two m service next j ≡ near_two m service set j
  near_stays near near_is far stays =
      let o = near_in_order m service set j in
      let kept = insert_none (arrival_at m service came j) (near_two m service set j) o.ordered (rw near_is at far) in
      near_moves (rw kept (rw near_is at stays)) ∙ kept
