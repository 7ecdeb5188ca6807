-- The rule of the table, and what its steps tell.
use Rattle.std.specs.Prelude.{◌≡◌, ℕ, ◌+◌, ◌<◌, ◌≤◌, ◌++◌, ◌==◌, ◌⊎◌, List, [], ◌∷◌, Bool, true, false, length, Option, Some, None, slice_get, max, nat_lt, cond, MatchBool}
use Rattle.std.specs.List.{All}
use mathlib.Core.Option.{some, none}
use mathlib.Core.List.{IsPrefix}
use lib.ListN.{get_elem?}
use Rattle.atomic_table.specs.Table.{State, Me, Step}
use Rattle.lam_bytecode.specs.Codes.{code_of}
use Rattle.capabilities.specs.Changes.{no_caps}
use Rattle.labelled_heap.specs.Things.{no_things}
use Rattle.labelled_files.specs.Trees.{root_alone}
use Rattle.labelled_pipes.specs.Queues.{no_pipes}
use Rattle.lam_machine_terms.specs.Worlds.{World}
use Rattle.std.specs.FinMap as map
use Rattle.seat_host.specs.Places.{Shared, shared}
use Rattle.seat_host.specs.declared.law.View.{View}
use Rattle.seat_host.specs.declared.law.Given.{Given}

-- what a seat's view has to do with the code, the start, the finished places, the ticket word, and whose each ticket is
pub record Fits (g : Given) (log : List (Option ℕ)) (ticket : ℕ) (owner : ℕ → ℕ) (by : ℕ) (v : View) : Type 0 where
  pub given : v.alive ≡ true → (v.code ≡ g.code) × (v.start ≡ g.start)
  pub seen : IsPrefix v.seen log
  pub told : IsPrefix v.told log
  pub drawn : v.drawn ≤ ticket
  pub mine : All (λ e. (slice_get log e.0 ≡ Some e.1) × (owner e.0 ≡ by)) v.mine
  pub waits : v.waits ≡ true → (owner v.ticket ≡ by) × (length log ≤ v.ticket) × (v.ticket < ticket)
  pub acts : v.acts ≡ true → (v.waits ≡ true) × (v.ticket ≡ length log) × (v.seen ≡ log)

-- the slot is at home with all finished places, or out with the seat whose ticket is served
abbrev pub HomeOrOut : Given → List (Option ℕ) → ℕ → (ℕ → ℕ) → State Shared View → Type 0
HomeOrOut g log ticket owner s =
    (s.homes ≡ some (shared g.code g.start log) ∷ [])
    ⊎ ((s.homes ≡ none ∷ []) × (length log < ticket) × ((v : View) × (get_elem? s.views (owner (length log)) ≡ some v) × (v.acts ≡ true)))

-- the words are the next ticket and the number of finished places
pub record Keeps (g : Given) (s : State Shared View) : Type 0 where
  pub log : List (Option ℕ)
  pub ticket : ℕ
  pub owner : ℕ → ℕ
  pub words : s.words ≡ ticket ∷ length log ∷ []
  pub room : length log ≤ ticket
  pub slot : HomeOrOut g log ticket owner s
  pub views : (by : ℕ) (v : View) → get_elem? s.views by ≡ some v → Fits g log ticket owner by v

-- a seat that has seen and done nothing
abbrev pub newcomer : Given → View
newcomer g = record { alive = true; code = g.code; start = g.start; seen = []; told = []; mine = []; drawn = 0; waits = false; ticket = 0; acts = false }

-- no seat is any more one that was joined to another; what it would be told is nothing
abbrev pub no_world : World
no_world = record { names = []; public = no_caps; next_tag = 0; heap = no_things; monitors = map.empty; files = root_alone; pipes = no_pipes; threads = [] }

abbrev pub nobody : View
nobody = record { alive = false; code = code_of [] [] []; start = no_world; seen = []; told = []; mine = []; drawn = 0; waits = false; ticket = 0; acts = false }

-- a look at the ticket word
abbrev pub looked : View → ℕ → View
looked v n = record v { drawn = n }

abbrev pub Looks : Step Shared → Me Shared View → ℕ → Me Shared View → Type 0
Looks s m n w = (m.0.drawn ≤ n) × (w ≡ (looked m.0 n, m.1))

-- a ticket was drawn; or another one was, and nothing changed
abbrev pub ticketed : View → ℕ → View
ticketed v n = record v { waits = true; ticket = n }

abbrev pub Draws : Step Shared → Me Shared View → ℕ → Me Shared View → Type 0
Draws s m n w = MatchBool (n == s.first) (w ≡ (ticketed m.0 n, m.1)) (w ≡ m)

-- the turn has come, all places are seen, and the slot is taken; or it has not
abbrev pub served : View → List (Option ℕ) → View
served v log = record v { seen = log; acts = true }

abbrev pub Serves : Step Shared → Me Shared View → ℕ → Me Shared View → Type 0
Serves s m n w =
    MatchBool (n == m.0.ticket)
    ((log : List (Option ℕ)) × (length log ≡ n) × IsPrefix m.0.seen log × (w ≡ (served m.0 log, (0, shared m.0.code m.0.start log) ∷ m.1)))
    (w ≡ m)

abbrev pub last_place : List (Option ℕ) → Option ℕ
last_place [] = None
last_place (x ∷ []) = x
last_place (x ∷ y ∷ ys) = last_place (y ∷ ys)

abbrev pub places_in : List (ℕ × Shared) → List (Option ℕ)
places_in [] = []
places_in (x ∷ xs) = x.1.places

-- the place is finished, and the slot given back
abbrev pub finished : View → List (Option ℕ) → View
finished v places = record v { seen = places; mine = v.mine ++ (v.ticket, last_place places) ∷ []; waits = false; acts = false }

abbrev pub Finishes : Step Shared → Me Shared View → ℕ → Me Shared View → Type 0
Finishes s m n w = w ≡ (finished m.0 (places_in m.1), [])

-- a seat with the same places seen, and no calls
abbrev pub fresh : View → View
fresh v = record v { mine = []; waits = false; ticket = 0; acts = false }

-- the longer of two lists
abbrev pub longer : List (Option ℕ) → List (Option ℕ) → List (Option ℕ)
longer xs ys = cond (nat_lt (length xs) (length ys)) ys xs

-- what another seat told is seen
abbrev pub learned : View → View
learned v = record v { seen = longer v.seen v.told; told = [] }

abbrev pub Learns : Step Shared → Me Shared View → ℕ → Me Shared View → Type 0
Learns s m n w = (w ≡ (learned m.0, m.1)) × IsPrefix m.0.seen (longer m.0.seen m.0.told) × IsPrefix m.0.told (longer m.0.seen m.0.told)

-- a call among others, in order of place
abbrev pub placed : ℕ × Option ℕ → List (ℕ × Option ℕ) → List (ℕ × Option ℕ)
placed y [] = y ∷ []
placed y (x ∷ xs) = cond (nat_lt y.0 x.0) (y ∷ x ∷ xs) (x ∷ placed y xs)

abbrev pub merged : List (ℕ × Option ℕ) → List (ℕ × Option ℕ) → List (ℕ × Option ℕ)
merged xs [] = xs
merged xs (y ∷ ys) = merged (placed y xs) ys

-- a seat with the calls of two
abbrev pub joined : View → View → View
joined v w = record v { told = w.seen; mine = merged v.mine w.mine; drawn = max v.drawn w.drawn }
