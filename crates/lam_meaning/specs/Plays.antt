-- What a list of answers makes of a tree: the asks, in order, and how it stands when they are used up.
use Rattle.std.specs.Prelude.{ℕ, ◌≡◌, true, if◌then◌else◌, List, [], ◌∷◌, map}
use Rattle.thread_steps.specs.Caps.{Caps}
use Rattle.thread_steps.specs.Value.{Value}
use Rattle.thread_steps.specs.Answer.{Answer}
use Rattle.thread_steps.specs.Ask.{Ask}
use Rattle.thread_steps.specs.Suits.{fits}
use Rattle.lam_resolve_tree.specs.Tree.{ResolvedTree}
use Rattle.lam_meaning.specs.Trees.{Asked, Tree, ends, spent, broken, asks}
use Rattle.lam_meaning.specs.Means.{means}

pub data How : Type 0 where
  -- it made its last ask, which was answered
  has_ended : How
  -- the answers are used up, or one does not suit its ask
  waits : How
  -- the units are used up
  is_spent : How
  -- no typed program comes here
  is_broken : How

-- no ask follows an answer that does not suit
abbrev pub asks_of : {A : Type 0} → Tree A → List Answer → List Asked
asks_of (asks q go) [] = q ∷ []
asks_of (asks q go) (x ∷ xs) = if fits q.want x then q ∷ asks_of (go x) xs else q ∷ []
asks_of t xs = []

abbrev pub how_of : {A : Type 0} → Tree A → List Answer → How
how_of (asks q go) [] = waits
how_of (asks q go) (x ∷ xs) = if fits q.want x then how_of (go x) xs else waits
how_of spent xs = is_spent
how_of broken xs = is_broken
how_of (ends e) xs = has_ended

-- each answer suits the ask that it answers
abbrev pub AllFit : List Asked → List Answer → Type 0
AllFit (q ∷ qs) (x ∷ xs) = (fits q.want x ≡ true) × AllFit qs xs
AllFit _ xs = Unit {0}

-- the asks of a thread, as the reference monitor gets them
abbrev pub asks_made : ResolvedTree → ℕ → ℕ → List Value → Caps → List Answer → List Ask
asks_made r n f vs k xs = map (λ q. q.ask) (asks_of (means r n f vs k) xs)
