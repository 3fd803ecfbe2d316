-- Laws of the tables that are lent: counting numbers that are too high, what good tables say, and the service costs in them added up.
use Prim.Native.Nat.{ℕ, ◌+◌, ◌*◌, ◌≤◌, ◌<◌}
use native.Mathlib.Omega.{arith}
use mathlib.Core.Path.{◌≡◌, refl, sym, ap₂, ◌∙◌}
use mathlib.Core.Bool.{Bool, true, false, ◌&&◌}
use mathlib.Core.List.{List}
use borrow.Author.Tests.{leb-true, le-leb, lt-leb, ltb-true, ltb-false, eqb-true, eqb-false}
use lib.Dec.{eqb, leb, ltb}
use lib.ListN.{length, get_or, take}
use Rattle.std.specs.List.{list_all, count_by}
use Rattle.model.specs.Loops.{on, all_below, sum}
use Rattle.model.specs.Sets.{count}
use Rattle.model.specs.Instance.{nearest, service_cost}
use Rattle.model.proofs.Bools.{and_left, and_right, cases}
use Rattle.model.proofs.LoopLaws.{all_at, all_from, all_stops}
use Rattle.model.proofs.RangeLaws.{all_front, count_front}
use Rattle.model.proofs.CountLaws.{count_some, count_find, count_le}
use Rattle.model.proofs.SumLaws.{sum_more}
use Rattle.model.proofs.CostLaws.{service_once}
use Rattle.tables.specs.Bounds.{most_clients, most_entry, most_opening}
use Rattle.tables.specs.Tables.{tabled, opening_within, entry_within, good_tables, too_high_at}

-- ---- counting, and what is found of the numbers of a front

-- the count with one place more, and its bound
pub counts_on : (S : ℕ → Bool) (total i r : ℕ) → total ≡ count i S → r ≡ on (S i) 1
    → (total + r ≡ count (i + 1) S) × (total + r ≤ i + 1)
counts_on S total i r e h =
    let more : total + r ≡ count (i + 1) S = ap₂ ◌+◌ e h ∙ sym (sum_more _ _) in
    (more, rw more (count_le (i + 1) S))

pub high_entries : (service : List ℕ) (n : ℕ) → n ≤ length service → count_by (ltb most_entry) (take n service) ≡ count n (too_high_at service)
unfolding too_high_at
high_entries service n room = count_front (ltb most_entry) 0 service n room

pub all_openings : (opening : List ℕ) (m : ℕ) → m ≤ length opening → list_all (λ fee. leb fee most_opening) (take m opening) ≡ all_below m (opening_within opening)
unfolding opening_within
all_openings opening m room = all_front (λ fee. leb fee most_opening) 0 opening m room

-- ---- which tables are good

pub record Good (m n : ℕ) (opening service : List ℕ) : Type 0 where
  pub some_facility : 1 ≤ m
  pub few_facilities : m ≤ 32
  pub few_clients : n ≤ most_clients
  pub opening_room : m ≤ length opening
  pub service_room : n * m ≤ length service
  pub openings : (i : ℕ) → i < m → get_or opening i 0 ≤ most_opening
  pub entries : (k : ℕ) → k < n * m → get_or service k 0 ≤ most_entry

module _ (m n : ℕ) (opening service : List ℕ) where
  pub good_when : good_tables m n opening service ≡ true → Good m n opening service
  unfolding good_tables opening_within entry_within
  good_when h =
      let sizes = and_left (leb 1 m && (leb m 32 && leb n most_clients)) _ h in
      let rest = and_right (leb 1 m && (leb m 32 && leb n most_clients)) _ h in
      let rooms = and_left (leb m (length opening) && leb (n * m) (length service)) _ rest in
      let numbers = and_right (leb m (length opening) && leb (n * m) (length service)) _ rest in
      record {
        some_facility = leb-true 1 m (and_left (leb 1 m) _ sizes);
        few_facilities = leb-true m 32 (and_left (leb m 32) _ (and_right (leb 1 m) _ sizes));
        few_clients = leb-true n most_clients (and_right (leb m 32) _ (and_right (leb 1 m) _ sizes));
        opening_room = leb-true m (length opening) (and_left _ _ rooms);
        service_room = leb-true (n * m) (length service) (and_right (leb m (length opening)) _ rooms);
        openings = λ i l. leb-true (get_or opening i 0) most_opening (all_at (opening_within opening) m i (and_left _ _ numbers) l);
        entries = λ k l. leb-true (get_or service k 0) most_entry (all_at (entry_within service) (n * m) k (and_right (all_below m (opening_within opening)) _ numbers) l);
      }

  pub good_from : Good m n opening service → good_tables m n opening service ≡ true
  unfolding good_tables opening_within entry_within
  good_from g =
      rw (
        le-leb 1 m g.some_facility,
        le-leb m 32 g.few_facilities,
        le-leb n most_clients g.few_clients,
        le-leb m (length opening) g.opening_room,
        le-leb (n * m) (length service) g.service_room,
        all_from (opening_within opening) m (λ i l. le-leb (get_or opening i 0) most_opening (g.openings i l)),
        all_from (entry_within service) (n * m) (λ k l. le-leb (get_or service k 0) most_entry (g.entries k l)),
      )

  -- the tests one after the other
  pub no_facility_lem : m < 1 → good_tables m n opening service ≡ false
  unfolding good_tables
  no_facility_lem h = rw (lt-leb 1 m h)

  pub many_facilities : 1 ≤ m → 32 < m → good_tables m n opening service ≡ false
  unfolding good_tables
  many_facilities some h = rw (le-leb 1 m some, lt-leb m 32 h)

  module _ (some : 1 ≤ m) (few : m ≤ 32) where
    pub many_clients : most_clients < n → good_tables m n opening service ≡ false
    unfolding good_tables
    many_clients h = rw (le-leb 1 m some, le-leb m 32 few, lt-leb n most_clients h)

    module _ (clients : n ≤ most_clients) where
      pub opening_short : length opening < m → good_tables m n opening service ≡ false
      unfolding good_tables
      opening_short h = rw (le-leb 1 m some, le-leb m 32 few, le-leb n most_clients clients, lt-leb m (length opening) h)

      module _ (room : m ≤ length opening) where
        pub service_short : length service < n * m → good_tables m n opening service ≡ false
        unfolding good_tables
        service_short h =
            rw (le-leb 1 m some, le-leb m 32 few, le-leb n most_clients clients, le-leb m (length opening) room, lt-leb (n * m) (length service) h)

        module _ (long : n * m ≤ length service) where
          tests_left : good_tables m n opening service ≡ all_below m (opening_within opening) && all_below (n * m) (entry_within service)
          unfolding good_tables
          tests_left =
              rw (le-leb 1 m some, le-leb m 32 few, le-leb n most_clients clients, le-leb m (length opening) room, le-leb (n * m) (length service) long)

          pub opening_high : all_below m (opening_within opening) ≡ false → good_tables m n opening service ≡ false
          opening_high h = tests_left ∙ rw h

          entries_told : (total : ℕ) → all_below m (opening_within opening) ≡ true → total ≡ count (n * m) (too_high_at service)
              → (total ≡ 0 → good_tables m n opening service ≡ true) × (¬ (total ≡ 0) → good_tables m n opening service ≡ false)
          unfolding too_high_at entry_within
          entries_told total within is = (
            λ none. tests_left ∙ rw within (all_from (entry_within service) (n * m) (λ k l. le-leb (get_or service k 0) most_entry
                (cases (ltb most_entry (get_or service k 0))
                (λ e. let some = count_some (n * m) k (too_high_at service) l e in absurd (omega arith))
                (λ e. ltb_not e)))),
            λ some. let r = count_find (n * m) (too_high_at service) (omega arith) in
                tests_left ∙ rw within (all_stops (entry_within service) (n * m) r.0 r.1
                (lt-leb (get_or service r.0 0) most_entry (ltb-true most_entry (get_or service r.0 0) r.2))),
          )
            where
              ltb_not : {x y : ℕ} → ltb x y ≡ false → y ≤ x
              ltb_not {x} {y} e = ltb-false x y e

          pub entries_tell : (total : ℕ) → all_below m (opening_within opening) ≡ true → total ≡ count (n * m) (too_high_at service)
              → eqb total 0 ≡ good_tables m n opening service
          entries_tell total within is =
              let told = entries_told total within is in
              cases (eqb total 0) (λ e. e ∙ sym (told.0 (eqb-true total 0 e))) (λ e. e ∙ sym (told.1 (eqb-false total 0 e)))

-- ---- a loop over the clients

pub service_sum : (m n : ℕ) (opening service : List ℕ) (S : ℕ → Bool)
    → sum n (nearest (tabled m n opening service) S) ≡ service_cost (tabled m n opening service) S
unfolding tabled
service_sum m n opening service S = service_once (tabled m n opening service) (λ j. refl) S
