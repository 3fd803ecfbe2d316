-- What is told of a nearest yard is what the code has of it, with `nowhere` where there is none.
use Rattle.std.specs.Prelude.{ℕ, ◌≡◌, Option, Some, None, unwrap_or, refl}
use Rattle.nearest.specs.declared.Nearest.{Nearest}
use Rattle.nearest.specs.Nearest.{nowhere, told}

pub told_or : (o : Option Nearest) (near : Nearest) → near ≡ unwrap_or o nowhere → (near.yard ≡ (told o).yard) × (near.haul ≡ (told o).haul)
told_or (Some nearest) near e = rw e (refl, refl)
told_or None near e = rw e (refl, refl)
