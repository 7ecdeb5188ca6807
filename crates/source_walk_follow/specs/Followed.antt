-- What a walk over the source of one thread says of what the thread did.
use Rattle.std.specs.Prelude.{ℕ, List, Option, Some, None}
use Rattle.capabilities.specs.declared.Caps.{Caps}
use Rattle.lam_value.specs.declared.values.Value.{Value}
use Rattle.lam_asks.specs.declared.answer.What.{What}
use Rattle.lam_asks.specs.declared.ask.Ask.{Ask}
use Rattle.lam_resolve_tree.specs.Tree.{ResolvedTree}
use Rattle.lam_meaning.specs.Plays.{asks_made}
use Rattle.lam_meaning_laws.specs.Acts.{AreFirst}
use Rattle.source_walk_terms.specs.Runs.{asked_in, answers_in}
use Rattle.source_walk_terms.specs.Departs.{DepartsAt}

-- asks against those that are made: they are the first ones, or depart at a place
abbrev pub Follows : List Ask → List Ask → Option ℕ → Type 0
Follows asked made None = AreFirst asked made
Follows asked made (Some place) = DepartsAt asked made place

-- what a thread did, against its source with so many units: its asks are the first ones, or it departs at a place
abbrev pub IsFollowed : ResolvedTree → ℕ → ℕ → List Value → Caps → List What → Option ℕ → Type 0
IsFollowed r n f vs k did at = Follows (asked_in did) (asks_made r n f vs k (answers_in did)) at
