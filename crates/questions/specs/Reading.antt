-- What reading gives.
use Rattle.std.specs.Prelude.{ℕ, List}
use Rattle.model.specs.Answers.{Answer, accepted, refused, ask, after}
use Rattle.questions.specs.Sheet.{yards, farms}
use Rattle.questions.specs.Questions.{question1, question2, question3, question4, question10, question5, question6}
use Rattle.questions.specs.declared.Counts.{Counts}

-- m and n
abbrev pub counts : ℕ → ℕ → Counts
counts m n = record { yards = m; farms = n }

-- questions 1 to 4: the form of a sheet
unfoldable pub form : List ℕ → Answer Counts
form s =
    ask (question1 s) 1 (ask (question2 s) 2 (ask (question3 s) 3 (ask (question4 s) 4 (accepted (counts (yards s) (farms s))))))

-- and question 10 after them: the farms' loads
unfoldable pub form_and_loads : List ℕ → Answer Counts
form_and_loads s = after (form s) (λ c. ask (question10 s) 10 (accepted c))

-- "Reading asks 1 to 6 and returns m and n", with 10 at its place.
unfoldable pub reading : List ℕ → Answer Counts
reading s = after (form_and_loads s) (λ c. ask (question5 s) 5 (ask (question6 s) 6 (accepted c)))
