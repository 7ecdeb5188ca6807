-- A turn of a thread by its parts, as each function of the machine takes one.
use Rattle.std.specs.Prelude.{◌≡◌, ℕ, Bool, true, List, [], ◌∷◌, ◌++◌, Option, Some, None, slice_get, slice_set}
use Rattle.flow_labels.specs.declared.Label.{Label}
use Rattle.flow_labels.specs.Flow.{public_label}
use Rattle.lam_asks.specs.declared.ask.Ask.{Ask}
use Rattle.lam_asks.specs.declared.answer.Answer.{Answer}
use Rattle.lam_asks.specs.declared.answer.What.TheVariants.{Private, Asked}
use Rattle.lam_asks.specs.declared.answer.Event.{Event}
use Rattle.lam_bytecode.specs.Codes.{CodeTree}
use Rattle.thread_steps.specs.Threads.{Inside, Context, Thread}
use Rattle.thread_steps.specs.Next.{next_of, asks, takes}
use Rattle.thread_core_answers.specs.Turn.{Turn}
use Rattle.thread_core_answers.specs.Turn.TheVariants as turn
use Rattle.lam_machine_terms.specs.Worlds.{World, contexts_at}
use Rattle.lam_machine_terms.specs.Serving.{serve}
use Rattle.lam_machine_terms.specs.Turns.{is_ready, step}
use Rattle.lam_machine_laws.specs.Sound.{CopiesLiving}
use Rattle.lam_machine_effects.specs.declared.stores.Stores.{Stores}
use Rattle.lam_machine_effects.specs.declared.effect.Effect.{Effect}
use Rattle.lam_machine_effects.specs.declared.served.Served.{Served}
use Rattle.lam_machine_effects.specs.Meaning.{meaning, DoesAs, IsAfter}
use Rattle.lam_machine_effects.specs.Room.{HasRoom}
use Rattle.lam_machine_laws.specs.Turned.{IsTurn, Acts, born}

-- ---- the acting context

abbrev pub top_label : List Context → Label
top_label [] = public_label
top_label (c ∷ rest) = c.label

abbrev pub label_at : World → ℕ → Label
label_at w t = top_label (contexts_at w t)

-- ---- a thread was advanced

-- a thread asks this next
pub record AsksNext (code : CodeTree) (w : World) (t : ℕ) (a : Ask) : Type 0 where
  pub thread : Thread
  pub top : Context
  pub rest : List Context
  pub after : Inside
  pub acts : Acts w t thread top rest
  pub next : next_of code top ≡ asks a after

-- a private turn was taken, an ask was handed out, or there is nothing to do
unfoldable pub Advances : CodeTree → World → ℕ → Turn → World → Type 0
Advances code w t turn.Private after = (l : Label) → l ≡ label_at w t → IsTurn code t w (record { label = l; thread = t; what = Private }) after
Advances code w t (turn.Asks a) after = AsksNext code w t a × (after ≡ w)
Advances code w t turn.Stuck after = (step code w t ≡ None) × (after ≡ w)
Advances code w t turn.Ended after = (step code w t ≡ None) × (after ≡ w)

-- ---- its ask

-- whether an ask of a thread is ready
unfoldable pub IsReadiness : World → ℕ → Ask → Bool → Type 0
IsReadiness w t a b = (c : Context) → slice_get (contexts_at w t) 0 ≡ Some c → b ≡ is_ready w t c a

pub record ReadyAsk (code : CodeTree) (w : World) (t : ℕ) (a : Ask) : Type 0 where
  pub asking : AsksNext code w t a
  pub ready : is_ready w t asking.top a ≡ true
  pub living : CopiesLiving w a

-- a thread asks this next, the ask is ready, and what it copies lives
unfoldable pub MayAsk : CodeTree → World → ℕ → Ask → Type 0
MayAsk code w t a = ReadyAsk code w t a

-- the event of an ask, where there is an answer
abbrev pub asked_event : Label → ℕ → Ask → Option Answer → Option Event
asked_event l t a None = None
asked_event l t a (Some x) = Some (record { label = l; thread = t; what = Asked a x })

-- ---- the service that serves it

unfoldable pub Serves : World → ℕ → Ask → Served → Type 0
Serves w t a d = (c : Context) → slice_get (contexts_at w t) 0 ≡ Some c → DoesAs d (serve w c a)

-- the stores have room for an effect of a thread
unfoldable pub Fits : ℕ → Effect → Stores → Type 0
Fits t e s = HasRoom t (meaning e) s

-- the stores after it
unfoldable pub Applied : ℕ → Effect → Stores → Stores → Type 0
Applied t e s after = IsAfter t e s after

-- the threads, and last the one that an effect adds
unfoldable pub with_born : CodeTree → Effect → List Thread → List Thread
with_born code e threads = threads ++ born code e

-- a thread took the answer to its ask
unfoldable pub Took : CodeTree → Thread → Ask → Answer → Thread → Type 0
Took code th a x to = (c : Context) (rest : List Context) (i : Inside) → th.contexts ≡ c ∷ rest → next_of code c ≡ asks a i → to ≡ takes code th c rest i a x

-- one of many did
pub record TookAt (code : CodeTree) (threads : List Thread) (t : ℕ) (a : Ask) (x : Answer) (after : List Thread) : Type 0 where
  pub to : Thread
  pub took : (th : Thread) → slice_get threads t ≡ Some th → Took code th a x to
  pub list : after ≡ slice_set threads t to
