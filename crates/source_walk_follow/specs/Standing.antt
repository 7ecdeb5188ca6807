-- Where a walk stands, and what it asks there.
use Rattle.std.specs.Prelude.{◌≡◌, ◌≢◌, ℕ, Bool, true, false, List, [], ◌∷◌, map, Option, Some, None, slice_get}
use Rattle.flow_labels.specs.Flow.{public_label}
use Rattle.capabilities.specs.declared.Caps.{Caps}
use Rattle.lam_value.specs.declared.values.Value.{Value}
use Rattle.lam_value.specs.declared.shapes.Shape.TheVariants.{Class}
use Rattle.lam_asks.specs.declared.answer.Answer.{Answer}
use Rattle.lam_asks.specs.declared.ask.Ask.{Ask}
use Rattle.lam_asks.specs.declared.ask.Ask.TheVariants as ask
use Rattle.lam_resolve_tree.specs.Tree.{ResolvedTree}
use Rattle.lam_meaning.specs.Trees.{Own}
use Rattle.lam_meaning.specs.Means.{class_fields}
use Rattle.lam_meaning.specs.Plays.{asks_of}
use Rattle.source_walk_state.specs.declared.Sort.{Sort}
use Rattle.source_walk_state.specs.declared.Sort.TheVariants.{Number}
use Rattle.source_walk_state.specs.declared.Control.{Control}
use Rattle.source_walk_state.specs.declared.Control.TheVariants as control
use Rattle.source_walk_state.specs.Meaning.{region_args}
use Rattle.source_walk_parts.specs.States.{State, left_at}

-- it asks, or asks no more
abbrev pub stands : Control → Bool
stands (control.Eval d e) = false
stands (control.Gather d rest vs u) = false
stands (control.Exec d s) = false
stands (control.Block d rest) = false
stands (control.Give v) = false
stands (control.Raise f) = false
stands (control.Leave v) = false
stands c = true

-- the ask at which it stands
abbrev pub made_by : ResolvedTree → Control → Own → Option Ask
made_by r (control.Ask a q y) o = Some a
made_by r (control.New c) o = Some (ask.New (Class c (class_fields (slice_get r.classes c))))
made_by r (control.Spawn f vs k) o = Some (ask.Spawn f vs k)
made_by r (control.Enter d l k x) o = Some (ask.Enter l k x.number (region_args o x))
made_by r (control.End x) o = Some (ask.End x)
made_by r c o = None

-- the sort of value that the place of the ask wants
abbrev pub place_sort : Control → Sort
place_sort (control.Ask a q y) = q
place_sort c = Number

-- the asks that are left, with these answers
abbrev pub asks_left : ResolvedTree → Control → State → List Answer → List Ask
asks_left r c s xs = map (λ q. q.ask) (asks_of (left_at r c s) xs)

-- the next ask is this one, and with its answer the walk goes on at control d
abbrev pub GoesOn : ResolvedTree → Control → State → Ask → Answer → Control → State → Type 0
GoesOn r c s a x d t = (xs : List Answer) → asks_left r c s (x ∷ xs) ≡ a ∷ asks_left r d t xs

-- the next ask is another one, or there is none
abbrev pub MakesOther : ResolvedTree → Control → State → Ask → Type 0
MakesOther r c s a = (xs : List Answer) → slice_get (asks_left r c s xs) 0 ≢ Some a

-- an ask and its answer: the ask is the next one, and the walk goes on at a control, or it is not
abbrev pub Meets : ResolvedTree → Control → State → Ask → Answer → State → Option Control → Type 0
Meets r c s a x t None = MakesOther r c s a
Meets r c s a x t (Some d) = GoesOn r c s a x d t

-- where a walk begins
abbrev pub first_state : ℕ → List Value → Caps → State
first_state n ls k = record { frames = []; place = record { label = public_label; calls = 1 }; units = n; own = record { locals = ls; caps = k } }
