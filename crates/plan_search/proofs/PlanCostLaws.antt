-- What the searches of the two plans go by: fees and hauls, and for a limited plan the hauls alone, with every opening cost 0.
use Prim.Native.Nat.{ℕ, ◌*◌}
use mathlib.Core.Path.{◌≡◌, sym, ◌∙◌}
use mathlib.Core.List.{List}
use Rattle.model.specs.Plans.{open_cost, limited_cost}
use Rattle.questions.specs.Sheet.{instance_by}
use Rattle.tables.specs.Tables.{table_cost}
use Rattle.plan_search.specs.Kinds.{cost_by_kind}
use Rattle.plan_search.specs.SheetTables.{Holds, scaled_fee, scaled_haul}
use Rattle.plan_search.specs.declared.PlanKind.TheVariants.{Open, Limited}
use Rattle.plan_search.proofs.KindLaws.{cost_terms}
use Rattle.plan_search.proofs.SheetTableLaws.{table_cost_lem}

module _ (s : List ℕ) (m n : ℕ) (opening service : List ℕ) (hauls : Holds (scaled_haul 1 s m) (n * m) service) where
  pub open_cost_is : Holds (scaled_fee 1 s) m opening → (set : ℕ) → table_cost m n opening service set ≡ open_cost (instance_by s m n) set
  unfolding cost_by_kind
  open_cost_is fees set = table_cost_lem s m n 1 1 opening service fees hauls set ∙ sym (cost_terms Open (instance_by s m n) set)

  pub limited_cost_is : Holds (scaled_fee 0 s) m opening → (set : ℕ) → table_cost m n opening service set ≡ limited_cost (instance_by s m n) set
  unfolding cost_by_kind
  limited_cost_is none set = table_cost_lem s m n 0 1 opening service none hauls set ∙ sym (cost_terms Limited (instance_by s m n) set)
