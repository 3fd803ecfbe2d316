-- Laws of how a search comes out, whatever its kind and its start: it keeps to sets of facilities, its moves fit four bytes, it is never dearer than its
-- start, a settled one has no move left, a stopped one has made all its moves and has one left, and one that is cut goes on to where an unbroken one ends.
use Prim.Native.Nat.{ℕ, suc, ◌+◌, ◌^◌, ◌≤◌, ◌<◌}
use native.Mathlib.Nat.{lt_of_lt_of_le}
use native.Mathlib.Omega.{arith}
use mathlib.Core.Path.{◌≡◌, refl, sym, ap, ◌∙◌}
use mathlib.Core.Bool.{true, false}
use lib.Pow.{pow_mono}
use Rattle.model.specs.Least.{any}
use Rattle.model.specs.Sets.{member}
use Rattle.model.specs.Instance.{Instance}
use Rattle.model.specs.Passing.{through}
use Rattle.model.specs.Search.{Among, NoLower, next, search}
use Rattle.model.specs.Limit.{Outcome}
use Rattle.model.proofs.FewStepsLaws.{descend_few, never_stopped}
use Rattle.model.proofs.LimitLaws.{within_keeps, within_steps, within_after, within_never_dearer, stopped_steps, stopped_lower, stopped_where, settled_no_lower, settled_search, goes_on}
use Rattle.questions.specs.Bounds.{most_yards}
use Rattle.engine.specs.Bounds.{no_limit}
use Rattle.starts.specs.Starts.{start_by, start_refusal}
use Rattle.plan_search.specs.Kinds.{cost_by_kind, moves_by, outcome_by}
use Rattle.plan_search.specs.declared.PlanKind.{PlanKind}
use Rattle.starts.specs.declared.PlanStart.{PlanStart}
use Rattle.starts.specs.declared.PlanStart.TheVariants.{Given}
use Rattle.starts.proofs.StartLaws.{start_good, set_passes, given_passed}
use Rattle.plan_search.proofs.KindLaws.{kind_keeps, kind_below}

-- where a search begins, on an instance
abbrev pub first_set : PlanKind → PlanStart → Instance → ℕ
first_set kind start I = start_by start (cost_by_kind kind I) I.facilities

module _ (kind : PlanKind) (I : Instance) (limit : ℕ) where
  open I use {facilities as m}

  pub outcome_not_dearer : (start : PlanStart) → cost_by_kind kind I (outcome_by kind start limit I).set ≤ cost_by_kind kind I (first_set kind start I)
  unfolding outcome_by
  outcome_not_dearer start = omega (arith, within_never_dearer (cost_by_kind kind I) (moves_by kind m) limit (first_set kind start I))

  pub outcome_settled : (start : PlanStart) → (outcome_by kind start limit I).stopped ≡ false
      → NoLower (cost_by_kind kind I) (moves_by kind m (outcome_by kind start limit I).set) (outcome_by kind start limit I).set
  unfolding outcome_by
  outcome_settled start h = settled_no_lower (cost_by_kind kind I) (moves_by kind m) limit (first_set kind start I) h

  -- the set after so many moves; a search that settles earlier stays where it is
  pub outcome_after : (start : PlanStart)
      → (outcome_by kind start limit I).set ≡ through limit (λ i. next (cost_by_kind kind I) (moves_by kind m)) (first_set kind start I)
  unfolding outcome_by
  outcome_after start = within_after (cost_by_kind kind I) (moves_by kind m) limit (first_set kind start I)

  -- stopped exactly where that many moves were made and another would lower the cost
  pub outcome_all : (start : PlanStart) → (outcome_by kind start limit I).stopped ≡ true → (outcome_by kind start limit I).steps ≡ limit
  unfolding outcome_by
  outcome_all start h = stopped_steps (cost_by_kind kind I) (moves_by kind m) limit (first_set kind start I) h

  pub outcome_left : (start : PlanStart) → (outcome_by kind start limit I).stopped ≡ true
      → (x : ℕ) × Among x (moves_by kind m (outcome_by kind start limit I).set) × (cost_by_kind kind I x < cost_by_kind kind I (outcome_by kind start limit I).set)
  unfolding outcome_by
  outcome_left start h = stopped_lower (cost_by_kind kind I) (moves_by kind m) limit (first_set kind start I) h

  pub outcome_stops : (start : PlanStart) (x : ℕ) → Among x (moves_by kind m (outcome_by kind start limit I).set)
      → cost_by_kind kind I x < cost_by_kind kind I (outcome_by kind start limit I).set → (outcome_by kind start limit I).stopped ≡ true
  unfolding outcome_by
  outcome_stops start x among lower = stopped_where (cost_by_kind kind I) (moves_by kind m) limit (first_set kind start I) x among lower

  module _ (start : PlanStart) (some : 1 ≤ m) (passed : start_refusal start m ≡ 0) where
    pub outcome_keeps : ((outcome_by kind start limit I).set < 2 ^ m) × (any m (member (outcome_by kind start limit I).set) ≡ true)
    unfolding outcome_by
    outcome_keeps =
        within_keeps (cost_by_kind kind I) (moves_by kind m) limit (first_set kind start I) (λ set. (set < 2 ^ m) × (any m (member set) ≡ true))
        (kind_keeps kind m) (start_good m start (cost_by_kind kind I) some passed)

    pub outcome_steps : m ≤ most_yards → (outcome_by kind start limit I).steps < 2 ^ 32
    unfolding outcome_by
    outcome_steps few =
        rw (within_steps (cost_by_kind kind I) (moves_by kind m) limit (first_set kind start I))
        (lt_of_lt_of_le (descend_few (cost_by_kind kind I) (moves_by kind m) (2 ^ m) (kind_below kind m) limit (first_set kind start I)
        (start_good m start (cost_by_kind kind I) some passed).0) (pow_mono few))

    -- with a limit that no search reaches it is the unbroken one
    pub outcome_unbroken : m ≤ most_yards → no_limit ≤ limit
        → outcome_by kind start limit I
        ≡ record {
          stopped = false;
          set = (search (cost_by_kind kind I) (moves_by kind m) (first_set kind start I)).set;
          steps = (search (cost_by_kind kind I) (moves_by kind m) (first_set kind start I)).steps;
        }
    unfolding outcome_by
    outcome_unbroken few high =
        let first = first_set kind start I in
        let enough : 2 ^ m ≤ suc limit = omega (arith, pow_mono few) in
        let settles = never_stopped (cost_by_kind kind I) (moves_by kind m) (2 ^ m) (kind_below kind m) limit first
        (start_good m start (cost_by_kind kind I) some passed).0 enough in
        let is = settled_search (cost_by_kind kind I) (moves_by kind m) limit first settles in
        outcome_is _ settles is.0 is.1
      where
        outcome_is : (r : Outcome) {set steps : ℕ} → r.stopped ≡ false → r.set ≡ set → r.steps ≡ steps
            → r ≡ record { stopped = false; set = set; steps = steps }
        outcome_is r e f g = rw (sym e, sym f, sym g) refl

    pub not_stopped : m ≤ most_yards → no_limit ≤ limit → (outcome_by kind start limit I).stopped ≡ false
    not_stopped few high = ap (λ (r : Outcome). r.stopped) (outcome_unbroken few high)

-- ---- going on without a limit, by the same search, from where it was cut

module _ (kind : PlanKind) (I : Instance) (limit : ℕ) (start : PlanStart) (some : 1 ≤ I.facilities) (few : I.facilities ≤ most_yards)
    (passed : start_refusal start I.facilities ≡ 0) where
  open I use {facilities as m}

  -- where it was cut
  abbrev pub cut : Outcome
  cut = outcome_by kind start limit I

  -- the set there may be given as a start
  pub cut_passes : start_refusal (Given cut.set) m ≡ 0
  cut_passes = let k = outcome_keeps kind I limit start some passed in given_passed m cut.set (set_passes m cut.set k.0 k.1)

  pub goes_on_from : (far whole : ℕ) → no_limit ≤ far → no_limit ≤ whole
      → ((outcome_by kind (Given cut.set) far I).stopped ≡ false)
      × ((outcome_by kind (Given cut.set) far I).set ≡ (outcome_by kind start whole I).set)
      × (cut.steps + (outcome_by kind (Given cut.set) far I).steps ≡ (outcome_by kind start whole I).steps)
  unfolding start_by
  goes_on_from far whole high high2 =
      let rest = outcome_unbroken kind I far (Given cut.set) some cut_passes few high in
      let all = outcome_unbroken kind I whole start some passed few high2 in
      let on = cut_goes_on in (
        ap (λ (r : Outcome). r.stopped) rest,
        ap (λ (r : Outcome). r.set) rest ∙ on.0 ∙ sym (ap (λ (r : Outcome). r.set) all),
        ap (λ (r : Outcome). cut.steps + r.steps) rest ∙ on.1 ∙ sym (ap (λ (r : Outcome). r.steps) all),
      )
    where
      cut_goes_on : ((search (cost_by_kind kind I) (moves_by kind m) cut.set).set ≡ (search (cost_by_kind kind I) (moves_by kind m) (first_set kind start I)).set)
          × (cut.steps + (search (cost_by_kind kind I) (moves_by kind m) cut.set).steps ≡ (search (cost_by_kind kind I) (moves_by kind m) (first_set kind start I)).steps)
      cut_goes_on = unfold outcome_by in goes_on (cost_by_kind kind I) (moves_by kind m) limit (first_set kind start I)
