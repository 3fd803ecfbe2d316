-- Laws of going from client to client: what a client's new places say of it and of the others.
use Prim.Native.Nat.{ℕ, ◌+◌, ◌%◌, ◌≤◌, ◌<◌}
use native.Mathlib.Nat.{not-suc-le-zero}
use native.Mathlib.Omega.{arith}
use mathlib.Core.Path.{◌≡◌, refl, sym, ap, subst, ◌∙◌}
use mathlib.Core.Bool.{Bool, false, not, ◌&&◌}
use mathlib.Core.List.{List}
use borrow.Author.Tests.{ne_eqb}
use Rattle.model.specs.Sets.{member, plus}
use Rattle.model.specs.TwoLeast.{Two, insert}
use Rattle.model.proofs.LoopLaws.{up_to}
use Rattle.tables.specs.Bounds.{most_clients}
use Rattle.engine.specs.Near.{InOrder, near_two, two_of, near_of, Moved, arrival_at, goes_to}
use Rattle.engine.specs.Sums.{first_at, second_at, NearAt, Uncounted, NearUpTo, NearFrom, Others, PutAt}
use Rattle.engine.specs.declared.near.Near.{Near}
use Rattle.engine.proofs.NearLaws.{near_stays, near_with, near_in_order}

-- ---- a table after a client's two places were put

pub others_same : (j : ℕ) (kept : List ℕ) → Others j kept kept
others_same j kept = record { firsts = λ k l ne. refl; seconds = λ k l ne. refl }

module _ (m : ℕ) (service before after : List ℕ) (j : ℕ) where
  pub near_put : (set : ℕ) (near : Near) → near ≡ near_of (near_two m service set j)
      → PutAt j near.first near.second before after → NearAt m service after set j
  near_put set near e put =
      record {
        first = put.first_is ∙ ap (λ (near : Near). near.first) e;
        second = put.second_is ∙ ap (λ (near : Near). near.second) e;
      }

  module _ (n : ℕ) (few : n ≤ most_clients) (client : j < n) (others : Others j before after) where
    near_stays_put : (set k : ℕ) → k < n → ¬ (k ≡ j) → NearAt m service before set k → NearAt m service after set k
    near_stays_put set k l other here =
        record {
          first = others.firsts k (omega arith) other ∙ here.first;
          second = others.seconds k (omega arith) other ∙ here.second;
        }

    -- a client more is counted
    pub begun_more : (set : ℕ) → NearUpTo m n service before set j → NearAt m service after set j → NearUpTo m n service after set (j + 1)
    begun_more set h here =
        record {
          begun = λ k l. up_to (NearAt m service after set) j (λ k l. near_stays_put set k (omega arith) (λ q. omega arith) (h.begun k l)) here k (omega arith);
          waiting = λ k l below.
              let still = h.waiting k (omega arith) below in
              record {
                first = others.firsts k (omega arith) (λ q. omega arith) ∙ still.first;
                second = others.seconds k (omega arith) (λ q. omega arith) ∙ still.second;
              };
        }

    -- a client more has moved
    pub moved_more : (set next : ℕ) → NearFrom m n service before set next j → NearAt m service after next j
        → NearFrom m n service after set next (j + 1)
    moved_more set next h here =
        record {
          moved = λ k l. up_to (NearAt m service after next) j (λ k l. near_stays_put next k (omega arith) (λ q. omega arith) (h.moved k l)) here k (omega arith);
          waiting = λ k l below. near_stays_put set k below (λ q. omega arith) (h.waiting k (omega arith) below);
        }

-- before the first client
pub none_moved : (m n : ℕ) (service kept : List ℕ) (set next : ℕ) → ((j : ℕ) → j < n → NearAt m service kept set j)
    → NearFrom m n service kept set next 0
none_moved m n service kept set next h = record { moved = λ k l. absurd (not-suc-le-zero l); waiting = λ k l below. h k below }

pub none_begun : (m n : ℕ) (service kept : List ℕ) (set : ℕ) → ((j : ℕ) → j < n → Uncounted kept j)
    → NearUpTo m n service kept set 0
none_begun m n service kept set h = record { begun = λ k l. absurd (not-suc-le-zero l); waiting = λ k l below. h k below }

-- the two places of a client are its two nearest
pub near_is : (m : ℕ) (service kept : List ℕ) (set j : ℕ) → NearAt m service kept set j
    → record { first = first_at kept j; second = second_at kept j } ≡ near_of (near_two m service set j)
near_is m service kept set j h =
    rw (h.first, h.second)

-- and any two that are a client's nearest have an order
pub near_ordered : (m : ℕ) (service : List ℕ) (set j : ℕ) (near : Near) → near ≡ near_of (near_two m service set j) → InOrder near
near_ordered m service set j near e = subst InOrder (sym e) (near_in_order m service set j)

-- ---- a client that keeps its two nearest

near_same : (m : ℕ) (service kept : List ℕ) (set next j : ℕ) → near_two m service next j ≡ near_two m service set j
    → NearAt m service kept set j → NearAt m service kept next j
near_same m service kept set next j e h =
    record { first = h.first ∙ sym (ap (λ (t : Two). t.first) e); second = h.second ∙ sym (ap (λ (t : Two). t.second) e) }

-- the one that came is no nearer and neither of the two went, so its places hold the two nearest of the next set
pub near_kept : (m : ℕ) (service kept : List ℕ) (set next came went j arrived : ℕ) → m ≤ 32 → Moved m set next came went
    → NearAt m service kept set j → arrived ≡ arrival_at m service came j → second_at kept j ≤ arrived
    → goes_to (record { first = first_at kept j; second = second_at kept j }) went ≡ false → NearAt m service kept next j
near_kept m service kept set next came went j arrived few moved here arrives no_nearer stay =
    let near : Near = record { first = first_at kept j; second = second_at kept j } in
    near_same m service kept set next j
    (near_stays m service set next came went j few moved near (near_is m service kept set j here)
    (subst (λ (x : ℕ). second_at kept j ≤ x) arrives no_nearer) stay)
    here

-- ---- where none went

-- no facility is numbered 32, so one that went is as good as any number from 32 on
pub none_went : (m set next came went : ℕ) → m ≤ 32 → 32 ≤ went → Moved m set next came went → Moved m set next came 32
none_went m set next came went few none moved =
    record {
      after =
          λ k l. moved.after k l
          ∙ ap (λ (b : Bool). not b && plus (member set) came k) (ne_eqb went k (λ q. omega arith) ∙ sym (ne_eqb 32 k (λ q. omega arith)));
      comes = moved.comes;
      goes = λ l. let none : ⊥ = omega arith in absurd none;
    }

pub goes_nowhere : (near : Near) → goes_to near 32 ≡ false
unfolding goes_to
goes_nowhere near = rw (ne_eqb (near.first % 32) 32 (λ q. omega arith), ne_eqb (near.second % 32) 32 (λ q. omega arith))

-- with the one that came inserted, its two nearest are those of the next set
pub near_joined : (m : ℕ) (service kept : List ℕ) (set next came j arrived : ℕ) (after : Near) → m ≤ 32 → Moved m set next came 32
    → NearAt m service kept set j → arrived ≡ arrival_at m service came j
    → after ≡ near_of (insert arrived (two_of (record { first = first_at kept j; second = second_at kept j })))
    → after ≡ near_of (near_two m service next j)
near_joined m service kept set next came j arrived after few moved here arrives is =
    near_with m service set next came 32 j few moved (record { first = first_at kept j; second = second_at kept j }) after arrived
    (near_is m service kept set j here) arrives is (goes_nowhere after)
