-- Worked examples: where asks leave those of a small program.
use Rattle.std.specs.Prelude.{pos, List, [], ◌∷◌, Some, codes, refl}
use Rattle.std.proofs.Common.{arith}
use Rattle.capabilities.specs.Changes.{no_caps}
use Rattle.lam_value.specs.declared.values.Value.TheVariants.{Int}
use Rattle.lam_builtins.specs.Types.{int}
use Rattle.lam_asks.specs.declared.answer.Outcome.TheVariants as outcome
use Rattle.lam_asks.specs.declared.ask.Ask.{Ask}
use Rattle.lam_asks.specs.declared.ask.Ask.TheVariants as ask
use Rattle.lam_resolve_tree.specs.Tree.{number_value, return_value, block_end, block_more, ResolvedTree}
use Rattle.lam_meaning.specs.Trees.{on_end}
use Rattle.lam_meaning.specs.Means.{means}
use Rattle.lam_meaning.specs.Plays.{asks_made}
use Rattle.source_walk_terms.specs.Departs.{DepartsAt}

-- `fn main(): int { return 1; }`
abbrev gives_one : ResolvedTree
gives_one = record { classes = []; functions = record { name = codes "main"; params = []; result = Some int; slots = []; body = block_more (return_value (Some (number_value (pos 1)))) block_end } ∷ [] }

abbrev ends_with_two : List Ask
ends_with_two = ask.End (outcome.Value (Int (pos 2))) ∷ []

-- a thread that took two turns and ended with 2 leaves it at its first ask
leaves_at_once : DepartsAt ends_with_two (asks_made gives_one 2 0 [] no_caps []) 0
unfolding means on_end
leaves_at_once = record { before = refl; there = omega arith; differs = λ e. cc }
