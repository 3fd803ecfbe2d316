-- Laws of reading: each refusal number comes exactly when its question is the first that is answered no.
use Prim.Native.Nat.{ℕ, ◌≤◌}
use native.Mathlib.Omega.{arith}
use mathlib.Core.Path.{◌≡◌, refl, sym, ap, subst, ◌∙◌}
use mathlib.Core.Logic.{◌⊎◌, inl, inr}
use mathlib.Core.Bool.{Bool, true, false}
use mathlib.Core.List.{List}
use Rattle.model.specs.Instance.{Breaks}
use Rattle.model.proofs.CostLaws.{not_metric, broken}
use Rattle.model.proofs.AnswerLaws.{same_result, not_both, asked, passed_first}
use Rattle.model.specs.Answers.{Answer, accepted, refused}
use Rattle.questions.specs.Sheet.{yards, farms, instance_of}
use Rattle.questions.specs.Questions.{question1, question2, question3, question4, question10, question5, question6}
use Rattle.questions.specs.declared.Counts.{Counts}
use Rattle.questions.specs.Reading.{counts, form, form_and_loads, reading}

-- questions 1 to 4 are answered yes
pub record Formed (s : List ℕ) : Type 0 where
  pub first : question1 s ≡ true
  pub second : question2 s ≡ true
  pub third : question3 s ≡ true
  pub fourth : question4 s ≡ true

-- question k is the first that is answered no
pub data FirstNo (s : List ℕ) : ℕ → Type 0 where
  by_1 : question1 s ≡ false → FirstNo s 1
  by_2 : question1 s ≡ true → question2 s ≡ false → FirstNo s 2
  by_3 : question1 s ≡ true → question2 s ≡ true → question3 s ≡ false → FirstNo s 3
  by_4 : question1 s ≡ true → question2 s ≡ true → question3 s ≡ true → question4 s ≡ false → FirstNo s 4
  by_10 : Formed s → question10 s ≡ false → FirstNo s 10
  by_5 : Formed s → question10 s ≡ true → question5 s ≡ false → FirstNo s 5
  by_6 : Formed s → question10 s ≡ true → question5 s ≡ true → question6 s ≡ false → FirstNo s 6

-- all are answered yes
pub record AllYes (s : List ℕ) : Type 0 where
  pub well_formed_lem : Formed s
  pub tenth : question10 s ≡ true
  pub fifth : question5 s ≡ true
  pub sixth : question6 s ≡ true

same_number : {j k : ℕ} → ◌≡◌ {A = Answer Counts} (refused j) (refused k) → j ≡ k
same_number h = cc

module _ (s : List ℕ) where
  -- ---- from the answers to the form, and to the reading

  pub form_1 : question1 s ≡ false → form s ≡ refused 1
  unfolding form
  form_1 a = rw a

  pub form_2 : question1 s ≡ true → question2 s ≡ false → form s ≡ refused 2
  unfolding form
  form_2 a b = rw (a, b)

  pub form_3 : question1 s ≡ true → question2 s ≡ true → question3 s ≡ false → form s ≡ refused 3
  unfolding form
  form_3 a b c = rw (a, b, c)

  pub form_4 : question1 s ≡ true → question2 s ≡ true → question3 s ≡ true → question4 s ≡ false → form s ≡ refused 4
  unfolding form
  form_4 a b c d = rw (a, b, c, d)

  pub form_yes : Formed s → form s ≡ accepted (counts (yards s) (farms s))
  unfolding form
  form_yes y = rw (y.first, y.second, y.third, y.fourth)

  pub loads_form : (k : ℕ) → form s ≡ refused k → form_and_loads s ≡ refused k
  unfolding form_and_loads
  loads_form k f = rw f

  pub loads_10 : {c : Counts} → form s ≡ accepted c → question10 s ≡ false → form_and_loads s ≡ refused 10
  unfolding form_and_loads
  loads_10 f a = rw (f, a)

  pub loads_yes : {c : Counts} → form s ≡ accepted c → question10 s ≡ true → form_and_loads s ≡ accepted c
  unfolding form_and_loads
  loads_yes f a = rw (f, a)

  pub reading_loads : (k : ℕ) → form_and_loads s ≡ refused k → reading s ≡ refused k
  unfolding reading
  reading_loads k f = rw f

  pub reading_5 : {c : Counts} → form_and_loads s ≡ accepted c → question5 s ≡ false → reading s ≡ refused 5
  unfolding reading
  reading_5 f a = rw (f, a)

  pub reading_6 : {c : Counts} → form_and_loads s ≡ accepted c → question5 s ≡ true → question6 s ≡ false → reading s ≡ refused 6
  unfolding reading
  reading_6 f a b = rw (f, a, b)

  pub reading_yes : {c : Counts} → form_and_loads s ≡ accepted c → question5 s ≡ true → question6 s ≡ true → reading s ≡ accepted c
  unfolding reading
  reading_yes f a b = rw (f, a, b)

  reading_form : (k : ℕ) → form s ≡ refused k → reading s ≡ refused k
  reading_form k f = reading_loads k (loads_form k f)

  loaded_yes : Formed s → question10 s ≡ true → form_and_loads s ≡ accepted (counts (yards s) (farms s))
  loaded_yes y t = loads_yes (form_yes y) t

  pub when_refused : (k : ℕ) → FirstNo s k → reading s ≡ refused k
  when_refused k (by_1 a) = reading_form 1 (form_1 a)
  when_refused k (by_2 a b) = reading_form 2 (form_2 a b)
  when_refused k (by_3 a b c) = reading_form 3 (form_3 a b c)
  when_refused k (by_4 a b c d) = reading_form 4 (form_4 a b c d)
  when_refused k (by_10 y t) = reading_loads 10 (loads_10 (form_yes y) t)
  when_refused k (by_5 y t a) = reading_5 (loaded_yes y t) a
  when_refused k (by_6 y t a b) = reading_6 (loaded_yes y t) a b

  pub when_accepted : AllYes s → reading s ≡ accepted (counts (yards s) (farms s))
  when_accepted y = reading_yes (loaded_yes y.well_formed_lem y.tenth) y.fifth y.sixth

  -- ---- and back: some question is the first that is answered no, or all are answered yes

  answered : AllYes s ⊎ ((k : ℕ) × FirstNo s k)
  answered = go _ _ _ _ refl refl refl refl
    where
      rest : Formed s → (a b c : Bool) → question10 s ≡ a → question5 s ≡ b → question6 s ≡ c → AllYes s ⊎ ((k : ℕ) × FirstNo s k)
      rest y true true true t u v = inl record { well_formed_lem = y; tenth = t; fifth = u; sixth = v }
      rest y true true false t u v = inr (6, by_6 y t u v)
      rest y true false c t u v = inr (5, by_5 y t u)
      rest y false b c t u v = inr (10, by_10 y t)

      go : (a b c d : Bool) → question1 s ≡ a → question2 s ≡ b → question3 s ≡ c → question4 s ≡ d → AllYes s ⊎ ((k : ℕ) × FirstNo s k)
      go true true true true p q r t = rest record { first = p; second = q; third = r; fourth = t } _ _ _ refl refl refl
      go true true true false p q r t = inr (4, by_4 p q r t)
      go true true false d p q r t = inr (3, by_3 p q r)
      go true false c d p q r t = inr (2, by_2 p q)
      go false b c d p q r t = inr (1, by_1 p)

  pub refused_when : (k : ℕ) → reading s ≡ refused k → FirstNo s k
  refused_when k h =
      elim answered [
        | inl y ↦ absurd (not_both (sym (when_accepted y) ∙ h))
        | inr f ↦ subst (FirstNo s) (same_number (sym (when_refused f.0 f.1) ∙ h)) f.1
      ]

  -- reading refuses by a number from 1 to 10
  pub refused_by : (k : ℕ) → reading s ≡ refused k → (1 ≤ k) × (k ≤ 10)
  refused_by k h = go k (refused_when k h)
    where
      go : (j : ℕ) → FirstNo s j → (1 ≤ j) × (j ≤ 10)
      go j (by_1 a) = (omega arith, omega arith)
      go j (by_2 a b) = (omega arith, omega arith)
      go j (by_3 a b c) = (omega arith, omega arith)
      go j (by_4 a b c d) = (omega arith, omega arith)
      go j (by_10 y t) = (omega arith, omega arith)
      go j (by_5 y t a) = (omega arith, omega arith)
      go j (by_6 y t a b) = (omega arith, omega arith)

  pub accepted_when : (m n : ℕ) → reading s ≡ accepted (counts m n) → AllYes s × (yards s ≡ m) × (farms s ≡ n)
  accepted_when m n h =
      elim answered [
        | inl y ↦
            let e = same_result (sym (when_accepted y) ∙ h) in
            (y, ap (λ c. c.yards) e, ap (λ c. c.farms) e)
        | inr f ↦ absurd (not_both (sym h ∙ when_refused f.0 f.1))
      ]

  -- a sheet that the first four pass has the counts that it is read to have
  pub formed : (m n : ℕ) → form s ≡ accepted (counts m n) → Formed s × (yards s ≡ m) × (farms s ≡ n)
  formed m n h = let y = passed answered in
      let e = same_result (sym (form_yes y) ∙ h) in
      (y, ap (λ c. c.yards) e, ap (λ c. c.farms) e)
    where
      no_form : (k : ℕ) → FirstNo s k → Formed s
      no_form k (by_1 a) = absurd (not_both (sym h ∙ form_1 a))
      no_form k (by_2 a b) = absurd (not_both (sym h ∙ form_2 a b))
      no_form k (by_3 a b c) = absurd (not_both (sym h ∙ form_3 a b c))
      no_form k (by_4 a b c d) = absurd (not_both (sym h ∙ form_4 a b c d))
      no_form k (by_10 y t) = y
      no_form k (by_5 y t a) = y
      no_form k (by_6 y t a b) = y

      passed : AllYes s ⊎ ((k : ℕ) × FirstNo s k) → Formed s
      passed (inl y) = y.well_formed_lem
      passed (inr f) = no_form f.0 f.1

  -- and with good loads one that 10 passes too
  pub loaded : (m n : ℕ) → form_and_loads s ≡ accepted (counts m n) → (form s ≡ accepted (counts m n)) × (question10 s ≡ true)
  unfolding form_and_loads
  loaded m n h =
      let f = passed_first (form s) _ _ h in
      let t = asked (question10 s) 10 _ _ f.2 in
      (f.1 ∙ t.1, t.0)

  -- ---- demand 2 of the letter: refused for its hauls exactly when form, loads and amounts pass and some two yards and two farms
  -- break the rule

  broken_rule : FirstNo s 6 → Formed s × (question10 s ≡ true) × (question5 s ≡ true) × Breaks (instance_of s)
  unfolding question6
  broken_rule (by_6 y t a b) = (y, t, a, not_metric (instance_of s) b)

  pub refused_by_6 : (reading s ≡ refused 6 → Formed s × (question10 s ≡ true) × (question5 s ≡ true) × Breaks (instance_of s))
      × (Formed s → question10 s ≡ true → question5 s ≡ true → Breaks (instance_of s) → reading s ≡ refused 6)
  unfolding question6
  refused_by_6 = (λ h. broken_rule (refused_when 6 h), λ y t a w. reading_6 (loaded_yes y t) a (broken (instance_of s) w))
