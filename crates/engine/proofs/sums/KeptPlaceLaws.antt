-- Laws of the kept table where a client's places and a loss are stored in it, and of the losses and what is paid more as a client's second nearest goes on.
use Prim.Native.Nat.{ℕ, ◌+◌, ◌-◌, ◌*◌, ◌/◌, ◌%◌, ◌≤◌, ◌<◌, min}
use native.Mathlib.Omega.{arith}
use mathlib.Core.Path.{◌≡◌, refl, sym, ap, ap₂, subst, ◌∙◌}
use mathlib.Core.List.{List}
use borrow.Author.Tests.{eqb-true, eqb-false, ltb-true, ltb-false}
use lib.Dec.{eqb, ltb}
use lib.ListN.{length, get_or, set, length-set}
use lib.Seq.{get_or-set_same, get_or-set_other}
use Rattle.model.proofs.Bools.{cases}
use Rattle.tables.specs.Bounds.{most_clients}
use Rattle.engine.specs.Bounds.{seconds_from, added_from, loss_from, more_from, kept_length}
use Rattle.engine.specs.Sums.{PutAt}
use Rattle.engine.proofs.ClientSumLaws.{more_of, loss_of, on_owner, on_other, more_fills}

-- ---- places stored

-- the loss of facility o has been stored, and the other places from there on are as they were
pub record LossStored (o x : ℕ) (mid after : List ℕ) : Type 0 where
  pub here : get_or after (loss_from + o) 0 ≡ x
  pub else_where : (k : ℕ) → loss_from ≤ k → ¬ (k ≡ loss_from + o) → get_or after k 0 ≡ get_or mid k 0

-- the table with a loss and a second stored
module _ (mid : List ℕ) (room : kept_length ≤ length mid) (j o x second : ℕ) (client : j < most_clients) (facility : o < 32) where
  abbrev stored : List ℕ
  stored = set (set mid (loss_from + o) x) (seconds_from + j) second

  pub stored_room : kept_length ≤ length stored
  stored_room = rw (length-set, length-set) room

  pub stored_else : (k : ℕ) → ¬ (k ≡ seconds_from + j) → ¬ (k ≡ loss_from + o) → get_or stored k 0 ≡ get_or mid k 0
  stored_else k ne other = get_or-set_other (set mid (loss_from + o) x) (seconds_from + j) k second 0 ne ∙ get_or-set_other mid (loss_from + o) k x 0 other

  stored_second : get_or stored (seconds_from + j) 0 ≡ second
  stored_second = get_or-set_same (set mid (loss_from + o) x) (seconds_from + j) second 0 (rw length-set (omega arith))

  stored_loss : get_or stored (loss_from + o) 0 ≡ x
  stored_loss =
      get_or-set_other (set mid (loss_from + o) x) (seconds_from + j) (loss_from + o) second 0 (λ q. omega arith) ∙ get_or-set_same mid (loss_from + o) x 0 (omega arith)

  pub stored_loss_alone : LossStored o x mid stored
  stored_loss_alone = record { here = stored_loss; else_where = λ k from ne. stored_else k (λ q. omega arith) ne }

  -- where the table held the other clients' places and these before, it is a put
  pub stored_put : (before : List ℕ) (first : ℕ) → get_or mid j 0 ≡ first
      → ((k : ℕ) → k < added_from → ¬ (k ≡ j) → get_or mid k 0 ≡ get_or before k 0) → PutAt j first second before stored
  stored_put before first here same =
      record {
        first_is = stored_else j (λ q. omega arith) (λ q. omega arith) ∙ here;
        second_is = stored_second;
        others =
            record {
              firsts = λ k l ne. stored_else k (λ q. omega arith) (λ q. omega arith) ∙ same k (omega arith) ne;
              seconds = λ k l ne. stored_else (seconds_from + k) (λ q. ne (omega arith)) (λ q. omega arith) ∙ same (seconds_from + k) (omega arith) (λ q. omega arith);
            };
      }

-- ---- the second goes on

-- from the losses on one row alone has been shifted
pub record RowShifted (service : List ℕ) (row o plus minus : ℕ) (before mid : List ℕ) : Type 0 where
  pub inside : (i : ℕ) → i < 32
      → get_or mid (more_from + 32 * o + i) 0 + (get_or service (row + i) 0 - minus)
      ≡ get_or before (more_from + 32 * o + i) 0 + (get_or service (row + i) 0 - plus)
  pub below : (k : ℕ) → loss_from ≤ k → k < more_from + 32 * o → get_or mid k 0 ≡ get_or before k 0
  pub above : (k : ℕ) → more_from + 32 * o + 32 ≤ k → get_or mid k 0 ≡ get_or before k 0

loss_goes_on : (x first last second : ℕ) → first ≤ last → first ≤ second → last ≤ x + first
    → (x + second - last) + (last - first) ≡ x + (second - first)
loss_goes_on x first last second l g enough = omega arith

more_goes_on : (x y c first last second : ℕ) → first ≤ last → first ≤ second → y + (c - second) ≡ x + (c - last)
    → y + (min c last - min c first) ≡ x + (min c second - min c first)
more_goes_on x y c first last second l g moved =
    let a = more_fills c first last l in
    let b = more_fills c first second g in
    from_fills x y (min c last - min c first) (min c second - min c first) (c - last) (c - second) (c - first) a b moved
  where
    from_fills : (x y p q r s t : ℕ) → p + r ≡ t → q + s ≡ t → y + s ≡ x + r → y + p ≡ x + q
    from_fills x y p q r s t a b e = omega arith

pub divided : (x y : ℕ) → x ≤ y → x / 32 ≤ y / 32
divided x y l = omega arith

module _ {service before mid after : List ℕ} (row first last second : ℕ) (ordered : first ≤ last) (above_first : first ≤ second)
    (shifted : RowShifted service row (first % 32) (last / 32) (second / 32) before mid)
    (enough : last / 32 ≤ get_or before (loss_from + first % 32) 0 + first / 32)
    (loss : LossStored (first % 32) (get_or mid (loss_from + first % 32) 0 + second / 32 - last / 32) mid after) where
  abbrev owner : ℕ
  owner = first % 32

  pub loss_step : (o : ℕ) → o < 32 → get_or after (loss_from + o) 0 + loss_of o first last ≡ get_or before (loss_from + o) 0 + loss_of o first second
  loss_step o l =
      cases (eqb owner o)
      (λ e. let same : owner ≡ o = eqb-true owner o e in
      subst (λ (o : ℕ). get_or after (loss_from + o) 0 + loss_of o first last ≡ get_or before (loss_from + o) 0 + loss_of o first second) same here)
      (λ e. let ne : ¬ (owner ≡ o) = eqb-false owner o e in
      ap₂ ◌+◌
      (loss.else_where (loss_from + o) (omega arith) (λ q. ne (omega arith)) ∙ shifted.below (loss_from + o) (omega arith) (omega arith))
      (on_other owner o (last / 32 - first / 32) ne ∙ sym (on_other owner o (second / 32 - first / 32) ne)))
    where
      held : get_or mid (loss_from + owner) 0 ≡ get_or before (loss_from + owner) 0
      held = shifted.below (loss_from + owner) (omega arith) (omega arith)

      here : get_or after (loss_from + owner) 0 + loss_of owner first last ≡ get_or before (loss_from + owner) 0 + loss_of owner first second
      here =
          ap₂ ◌+◌
          (loss.here ∙ ap (λ (x : ℕ). x + second / 32 - last / 32) held)
          (on_owner owner owner (last / 32 - first / 32) refl)
          ∙ loss_goes_on (get_or before (loss_from + owner) 0) (first / 32) (last / 32) (second / 32) (divided first last ordered) (divided first second above_first) enough
          ∙ ap (λ (x : ℕ). get_or before (loss_from + owner) 0 + x) (sym (on_owner owner owner (second / 32 - first / 32) refl))

  pub more_step : (o i : ℕ) → o < 32 → i < 32
      → get_or after (more_from + 32 * o + i) 0 + more_of o (get_or service (row + i) 0) first last
      ≡ get_or before (more_from + 32 * o + i) 0 + more_of o (get_or service (row + i) 0) first second
  more_step o i lo li =
      let c = get_or service (row + i) 0 in
      let before_part = min c (last / 32) - min c (first / 32) in
      let after_part = min c (second / 32) - min c (first / 32) in
      let stays = loss.else_where (more_from + 32 * o + i) (omega arith) (λ q. omega arith) in
      cases (eqb owner o)
      (λ e. let same : owner ≡ o = eqb-true owner o e in
      ap₂ ◌+◌ stays (on_owner owner o before_part same)
      ∙ more_goes_on (get_or before (more_from + 32 * o + i) 0) (get_or mid (more_from + 32 * o + i) 0) c (first / 32) (last / 32) (second / 32)
      (divided first last ordered) (divided first second above_first)
      (subst (λ (o : ℕ). get_or mid (more_from + 32 * o + i) 0 + (c - second / 32) ≡ get_or before (more_from + 32 * o + i) 0 + (c - last / 32)) same (shifted.inside i li))
      ∙ ap (λ (x : ℕ). get_or before (more_from + 32 * o + i) 0 + x) (sym (on_owner owner o after_part same)))
      (λ e. let ne : ¬ (owner ≡ o) = eqb-false owner o e in
      ap₂ ◌+◌ (stays ∙ other_row o i lo li ne) (on_other owner o before_part ne ∙ sym (on_other owner o after_part ne)))
    where
      past : (o i p : ℕ) → p ≤ o → ¬ (o ≡ p) → more_from + 32 * p + 32 ≤ more_from + 32 * o + i
      past o i p g ne = omega arith

      other_row : (o i : ℕ) → o < 32 → i < 32 → ¬ (owner ≡ o) → get_or mid (more_from + 32 * o + i) 0 ≡ get_or before (more_from + 32 * o + i) 0
      other_row o i lo li ne =
          cases (ltb o owner)
          (λ e. let l = ltb-true o owner e in shifted.below (more_from + 32 * o + i) (omega arith) (omega arith))
          (λ e. let g = ltb-false o owner e in shifted.above (more_from + 32 * o + i) (past o i (first % 32) g (λ q. ne (sym q))))
