-- `planning::write` meets its contract: the writer's two equations, of the set that the search ended in.
use mathlib.Core.Path.{◌≡◌, sym, ap, ◌∙◌}
use mathlib.Core.Bool.{true, false}
use Rattle.engine.specs.declared.Found.{Found}
use Rattle.plan_search.specs.Terms.{outcome_of}
use Rattle.plan_search.proofs.PlanningLaws.{cost_small, writes_end}
use Rattle.plan_search.proofs.planning.EndLaws.{PartsOf, parts_settled, parts_stopped}
use Rattle.plan_search.proofs.planning.write.Goals.{Joined-end, in-Settled, in-Stopped}
use Rattle.plan_search.proofs.planning.write.Goals as goal

parts : (c : Joined-end) → PartsOf c.args.end c.match-end.set.0 c.match-end.set.1 c.match-end.set.2
parts c = elim c.match-end.branch [
  | in-Settled w ↦ rw w.set-is (parts_settled c.args.end _ _ _ w.in-Settled.is)
  | in-Stopped w ↦ rw w.set-is (parts_stopped c.args.end _ _ _ w.in-Stopped.is)
]

pub overflow_cast-total : goal.overflow_cast-total
overflow_cast-total c = let a = c.args in
    record { fits = cost_small a.kind _ _ _ a.sheet.read _ _ ((parts c).cost_is _ c.requires.1) }

pub returns-in-Stopped-end : goal.returns-in-Stopped-end
returns-in-Stopped-end c = let a = c.args in
    let of = parts (goal.at.returns-in-Stopped-end c).Joined-end in
    let same : c.match-end.end ≡ a.end = elim c.match-end.branch [
      | in-Settled w ↦ w.end-is ∙ sym w.in-Settled.is
      | in-Stopped w ↦ w.end-is ∙ sym w.in-Stopped.is
    ] in
    let told = writes_end a.kind _ _ _ a.sheet.read _ _ (of.cost_is _ c.requires.1) a.area.now _ _ _ c.requires.0
    c.write_plan-bytes.ensures.bytes c.write_plan-bytes.ensures.area (outcome_of a.end) of.set_is of.moves_are
    true (ap (λ (x : Found). (outcome_of x).stopped) (sym same ∙ c.in-Stopped-end.is)) in
    record { answer = told.0; area = told.1 }

pub returns-in_default : goal.returns-in_default
returns-in_default c = let a = c.args in
    let of = parts (goal.at.returns-in_default c).Joined-end in
    let settled : (outcome_of a.end).stopped ≡ false = elim c.match-end.branch [
      | in-Settled w ↦ ap (λ (x : Found). (outcome_of x).stopped) w.in-Settled.is
      | in-Stopped w ↦ absurd (c.in_default.not-Stopped _ _ _ w.end-is)
    ] in
    let told = writes_end a.kind _ _ _ a.sheet.read _ _ (of.cost_is _ c.requires.1) a.area.now _ _ _ c.requires.0
    c.write_plan-bytes.ensures.bytes c.write_plan-bytes.ensures.area (outcome_of a.end) of.set_is of.moves_are false settled in
    record { answer = told.0; area = told.1 }
