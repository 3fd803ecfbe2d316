-- `ask_start` meets its contract: each arm is a case of the start's question.
use mathlib.Core.Path.{ap, sym, ◌∙◌}
use native.Mathlib.Omega.{arith}
use Rattle.starts.specs.Starts.{start_refusal}
use Rattle.starts.proofs.StartLaws.{few_refused, many_refused, first_passed, set_passed, set_refused, asked_yes, asked_no}
use Rattle.starts.proofs.ask_start.Goals as goal

pub returns-then-k-lt1 : goal.returns-then-k-lt1
returns-then-k-lt1 c = asked_no _ _ 7 (λ e. omega arith) (few_refused _ _ _ c.in-First.is c.if-k-lt1.true)

pub returns-in-Cheapest : goal.returns-in-Cheapest
unfolding start_refusal
returns-in-Cheapest c = asked_yes _ _ (rw c.in-Cheapest.is)

pub returns-then-m-k : goal.returns-then-m-k
returns-then-m-k c = asked_no _ _ 7 (λ e. omega arith) (many_refused _ _ _ c.in-First.is c.if-m-k.true)

pub returns-else-m-k : goal.returns-else-m-k
returns-else-m-k c = asked_yes _ _ (first_passed _ _ _ c.in-First.is c.if-k-lt1.false c.if-m-k.false)

pub returns-then-set_good : goal.returns-then-set_good
returns-then-set_good c = asked_yes _ _ (set_passed _ _ _ c.in-Given.is _ c.set_good.ensures c.if-set_good.true)

pub returns-else-set_good : goal.returns-else-set_good
returns-else-set_good c = asked_no _ _ 8 (λ e. omega arith) (set_refused _ _ _ c.in-Given.is _ c.set_good.ensures c.if-set_good.false)
