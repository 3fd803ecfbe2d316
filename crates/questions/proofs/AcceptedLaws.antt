-- What a sheet has that questions 1 to 4 pass, its counts, its length and each of its records, and what one has that passes 10 and 5 too, as
-- every accepted sheet does; and the door: the instance of an accepted sheet is metric and within the bounds of the format.
use Prim.Native.Nat.{ℕ, ◌+◌, ◌*◌, ◌≤◌, ◌<◌}
use native.Mathlib.Nat.{add_assoc, zero-add}
use native.Mathlib.Omega.{arith}
use mathlib.Core.Path.{◌≡◌, refl, sym, ap, ap₂, ◌∙◌}
use mathlib.Core.Bool.{true, false}
use mathlib.Core.List.{List}
use borrow.Author.Tests.{eqb-true, leb-true}
use lib.ListN.{length}
use lib.Dec.{eqb}
use Rattle.model.specs.Loops.{all_below}
use Rattle.model.specs.Instance.{Instance, metric}
use Rattle.model.proofs.Bools.{and_left, and_right}
use Rattle.model.proofs.LoopLaws.{leading_holds, all_at}
use Rattle.model.proofs.PlaceLaws.{row_within}
use Rattle.record.specs.declared.Record.{Record}
use Rattle.record.specs.Records.{records, record_of, record_at}
use Rattle.record.proofs.RecordLaws.{record_is}
use Rattle.questions.specs.Bounds.{yard_kind, haul_kind, most_yards, most_farms, most_loads, most_fee, most_haul}
use Rattle.model.specs.Answers.{accepted}
use Rattle.questions.specs.Sheet.{is_yard, yards, hauls, farms, fee, place, haul, loads_byte, farm_byte, instance_by, instance_of}
use Rattle.questions.specs.Questions.{well_formed, question10, haul_loaded, farm_loaded, question5, question6, amount_within}
use Rattle.questions.specs.Shape.{Shape}
use Rattle.questions.specs.Reading.{counts, form, form_and_loads, reading}
use Rattle.questions.proofs.ReadingLaws.{Formed, formed, loaded, accepted_when}
use Rattle.questions.proofs.FormLaws.{yards_le, hauls_are, some_yards, few_yards, whole_records, well_formed_lem, yard_numbered, no_yard_after_lem, hauls_shared, some_farms, few_farms, haul_numbered}

-- what questions 1 to 4 say of a sheet of m yards and n farms
pub record HasForm (s : List ℕ) (m n : ℕ) : Type 0 where
  pub yards_are : yards s ≡ m
  pub farms_are : farms s ≡ n
  pub long : length s ≡ 8 * (m + n * m)
  pub some_yards : 1 ≤ m
  pub few_yards : m ≤ most_yards
  pub some_farms : 1 ≤ n
  pub few_farms : n ≤ most_farms
  pub yard_record : (i : ℕ) → i < m → record_at s i ≡ record_of yard_kind i 0 0 (fee s i)
  pub haul_record : (a p : ℕ) → a < m → p < n → record_at s (place m p a) ≡ record_of haul_kind a p (loads_byte s m a p) (haul s m a p)

-- ---- single records

-- question 2 of a yard record
yard_well_formed : (r : Record) → eqb r.kind yard_kind ≡ true → well_formed r ≡ true → (r.farm ≡ 0) × (r.byte3 ≡ 0)
unfolding well_formed
yard_well_formed r e h =
    let both = rw e at h in
    (eqb-true r.farm 0 (and_left _ _ both), eqb-true r.byte3 0 (and_right (eqb r.farm 0) _ both))

-- question 2 of any other record
pub haul_well_formed : (r : Record) → eqb r.kind yard_kind ≡ false → well_formed r ≡ true → r.kind ≡ haul_kind
unfolding well_formed
haul_well_formed r e h = eqb-true r.kind haul_kind (rw e at h)

-- the number among the haul records of farm p's haul to yard a is below n times m
within_hauls : (m n a p : ℕ) → a < m → p < n → p * m + a < n * m
within_hauls m n a p la lp = omega (arith, row_within m n p lp)

-- ---- sheets that questions 1 to 4 pass

module _ (s : List ℕ) (y : Formed s) where
  all_records : records s ≡ yards s + farms s * yards s
  all_records = omega (arith, yards_le s, hauls_are s, hauls_shared s y)

  yard_at : (i : ℕ) → i < yards s → record_at s i ≡ record_of yard_kind i 0 0 (fee s i)
  unfolding yards is_yard fee
  yard_at i l =
      let kind = leading_holds (is_yard s) (records s) i l in
      let rest = yard_well_formed (record_at s i) kind (well_formed_lem s y i (omega (arith, yards_le s))) in
      record_is (record_at s i) yard_kind i 0 0 (eqb-true (record_at s i).kind yard_kind kind) (yard_numbered s y i l) rest.0 rest.1

  haul_no_yard : (a p : ℕ) → a < yards s → p < farms s → is_yard s (place (yards s) p a) ≡ false
  haul_no_yard a p la lp =
      let below = within_hauls (yards s) (farms s) a p la lp in
      rw (add_assoc (yards s) (p * yards s) a) (no_yard_after_lem s y (p * yards s + a) (omega (arith, hauls_shared s y)))

  haul_at : (a p : ℕ) → a < yards s → p < farms s
      → record_at s (place (yards s) p a) ≡ record_of haul_kind a p (loads_byte s (yards s) a p) (haul s (yards s) a p)
  unfolding is_yard haul loads_byte
  haul_at a p la lp =
      let r = record_at s (place (yards s) p a) in
      let inside = well_formed_lem s y (place (yards s) p a) (omega (arith, all_records, within_hauls (yards s) (farms s) a p la lp)) in
      let numbers = haul_numbered s y a p la lp in
      record_is r haul_kind a p r.byte3 (haul_well_formed r (haul_no_yard a p la lp) inside) numbers.0 numbers.1 refl

  form_has : HasForm s (yards s) (farms s)
  form_has =
      record {
        yards_are = refl;
        farms_are = refl;
        long = whole_records s y ∙ ap (λ k. 8 * k) all_records;
        some_yards = some_yards s y.third;
        few_yards = few_yards s y.third;
        some_farms = some_farms s y;
        few_farms = few_farms s y;
        yard_record = yard_at;
        haul_record = haul_at;
      }

pub has_form : (s : List ℕ) (m n : ℕ) → form s ≡ accepted (counts m n) → HasForm s m n
has_form s m n h =
    let f = formed s m n h in
    rw (← f.1, ← f.2) (form_has s f.0)

pub shape_of : {s : List ℕ} {m n : ℕ} → HasForm s m n → Shape s m n
shape_of f =
    record { room = omega (arith, f.long); some_yards = f.some_yards; few_yards = f.few_yards; few_farms = f.few_farms }

-- the instance read off by its counts is the sheet's own
pub instance_is : {s : List ℕ} {m n : ℕ} → HasForm s m n → instance_by s m n ≡ instance_of s
unfolding instance_of
instance_is {s} f = ap₂ (instance_by s) (sym f.yards_are) (sym f.farms_are)

pub facilities_are : (s : List ℕ) → (instance_of s).facilities ≡ yards s
unfolding instance_of instance_by
facilities_are s = refl

pub tenth_is : {s : List ℕ} {m n : ℕ} → HasForm s m n → all_below n (farm_loaded s m) ≡ question10 s
unfolding question10
tenth_is {s} f = ap₂ (λ x y. all_below x (farm_loaded s y)) (sym f.farms_are) (sym f.yards_are)

pub sixth_is : {s : List ℕ} {m n : ℕ} → HasForm s m n → metric (instance_by s m n) ≡ question6 s
unfolding question6
sixth_is f = ap metric (instance_is f)

-- ---- sheets that questions 1 to 4, 10 and 5 pass

-- what these say of a sheet of m yards and n farms
pub record HasAmounts (s : List ℕ) (m n : ℕ) : Type 0 where
  pub has : HasForm s m n
  pub loads_same : (a p : ℕ) → a < m → p < n → loads_byte s m a p ≡ farm_byte s m p
  pub loads_within : (p : ℕ) → p < n → farm_byte s m p ≤ most_loads
  pub fees : (i : ℕ) → i < m → fee s i ≤ most_fee
  pub hauls_within_lem : (a p : ℕ) → a < m → p < n → haul s m a p ≤ most_haul

haul_loaded_lem : (s : List ℕ) → question10 s ≡ true → (a p : ℕ) → a < yards s → p < farms s
    → (loads_byte s (yards s) a p ≡ farm_byte s (yards s) p) × (loads_byte s (yards s) a p ≤ most_loads)
unfolding question10 farm_loaded haul_loaded
haul_loaded_lem s h a p la lp =
    let byte = loads_byte s (yards s) a p in
    let first = farm_byte s (yards s) p in
    let both = all_at (haul_loaded s (yards s) p) (yards s) a (all_at (farm_loaded s (yards s)) (farms s) p h lp) la in
    (eqb-true byte first (and_left _ _ both), leb-true byte most_loads (and_right (eqb byte first) _ both))

fee_within : (s : List ℕ) → question5 s ≡ true → (i : ℕ) → i < yards s → fee s i ≤ most_fee
unfolding question5 amount_within fee
fee_within s h i l =
    rw (fee, ← zero-add i)
    (leb-true (record_at s (0 + i)).amount most_fee (all_at (amount_within s 0 most_fee) (yards s) i (and_left _ _ h) l))

amount_within_lem : (s : List ℕ) → question5 s ≡ true → (i : ℕ) → i < hauls s → (record_at s (yards s + i)).amount ≤ most_haul
unfolding question5 amount_within
amount_within_lem s h i l =
    leb-true (record_at s (yards s + i)).amount most_haul
    (all_at (amount_within s (yards s) most_haul) (hauls s) i (and_right (all_below (yards s) (amount_within s 0 most_fee)) _ h) l)

haul_within : (s : List ℕ) → Formed s → question5 s ≡ true → (a p : ℕ) → a < yards s → p < farms s → haul s (yards s) a p ≤ most_haul
unfolding haul
haul_within s y h a p la lp =
    let below = within_hauls (yards s) (farms s) a p la lp in
    rw (haul, add_assoc (yards s) (p * yards s) a) (amount_within_lem s h (p * yards s + a) (omega (arith, hauls_shared s y)))

amounts_have : (s : List ℕ) → Formed s → question10 s ≡ true → question5 s ≡ true → HasAmounts s (yards s) (farms s)
amounts_have s y t h =
    record {
      has = form_has s y;
      loads_same = λ a p la lp. (haul_loaded_lem s t a p la lp).0;
      loads_within = λ p lp. (haul_loaded_lem s t 0 p (some_yards s y.third) lp).1;
      fees = fee_within s h;
      hauls_within_lem = haul_within s y h;
    }

pub has_amounts : (s : List ℕ) (m n : ℕ) → form_and_loads s ≡ accepted (counts m n) → question5 s ≡ true → HasAmounts s m n
has_amounts s m n h fifth =
    let l = loaded s m n h in
    let f = formed s m n l.0 in
    rw (← f.1, ← f.2) (amounts_have s f.0 l.1 fifth)

-- ---- accepted sheets

pub accepts : (s : List ℕ) (m n : ℕ) → reading s ≡ accepted (counts m n) → HasAmounts s m n
accepts s m n h =
    let w = accepted_when s m n h in
    let y = w.0 in
    rw (← w.1, ← w.2) (amounts_have s y.well_formed_lem y.tenth y.fifth)

-- the sheet's own instance has the yards that reading counts
pub facilities_read : (s : List ℕ) (m n : ℕ) → reading s ≡ accepted (counts m n) → (instance_of s).facilities ≡ m
facilities_read s m n e = facilities_are s ∙ (accepts s m n e).has.yards_are

-- the bounds that the format sets an instance
pub record WithinBounds (I : Instance) : Type 0 where
  pub some_facilities : 1 ≤ I.facilities
  pub few_facilities : I.facilities ≤ most_yards
  pub some_clients : 1 ≤ I.clients
  pub few_clients : I.clients ≤ most_farms
  pub opening_within_lem : (i : ℕ) → i < I.facilities → I.opening i ≤ most_fee
  pub service_within : (a p : ℕ) → a < I.facilities → p < I.clients → I.service a p ≤ most_haul
  pub weight_within : (j : ℕ) → j < I.clients → I.weight j ≤ most_loads
  pub is_metric : metric I ≡ true

-- the door: an accepted sheet's instance is metric and within its bounds
pub door : (s : List ℕ) (m n : ℕ) → reading s ≡ accepted (counts m n) → WithinBounds (instance_of s)
unfolding instance_of instance_by question6
door s m n h =
    let all = (accepted_when s m n h).0 in
    let y = all.well_formed_lem in
    record {
      some_facilities = some_yards s y.third;
      few_facilities = few_yards s y.third;
      some_clients = some_farms s y;
      few_clients = few_farms s y;
      opening_within_lem = fee_within s all.fifth;
      service_within = haul_within s y all.fifth;
      weight_within = λ j l. let few = (haul_loaded_lem s all.tenth 0 j (some_yards s y.third) l).1 in omega arith;
      is_metric = all.sixth;
    }
