-- What is kept of a search's answer, for private functions alone.
use Rattle.model.specs.Answers.{Answer, accepted, after}
use Rattle.price.specs.declared.Written.{Written}
use Rattle.price.specs.Pricing.{written}
use Rattle.plan_search.specs.Planning.{Told}

-- the bytes written and the moves made
abbrev pub written_answer : Answer Told → Answer Written
written_answer a = after a (λ t. accepted (written t.bytes t.moves))
