-- A turn by its parts: what the acting thread takes, and what the effect does to the stores and the threads.
use Rattle.std.specs.Prelude.{◌≡◌, ℕ, true, List, [], ◌∷◌, ◌++◌, Option, Some, slice_set}
use Rattle.lam_machine_effects.specs.Ask.{Ask}
use Rattle.lam_machine_effects.specs.What.TheVariants.{Private, Asked}
use Rattle.lam_machine_effects.specs.Event.{Event}
use Rattle.lam_machine_effects.specs.Codes.{CodeTree}
use Rattle.lam_machine_effects.specs.Threads.{Inside, Context, Thread}
use Rattle.lam_machine_effects.specs.Next.{next_of, goes, asks, with_inside, started, takes}
use Rattle.lam_machine_effects.specs.Worlds.{World, thread_at, with_thread}
use Rattle.lam_machine_effects.specs.Serves.{Made}
use Rattle.lam_machine_effects.specs.Serving.{serve}
use Rattle.lam_machine_effects.specs.Turns.{is_ready, step}
use Rattle.lam_machine_effects.specs.declared.stores.Stores.{Stores}
use Rattle.lam_machine_effects.specs.Parts.{stores_of, world_of}
use Rattle.lam_machine_effects.specs.declared.effect.Effect.{Effect}
use Rattle.lam_machine_effects.specs.declared.effect.Effect.TheVariants.{AddsThread}
use Rattle.lam_machine_effects.specs.declared.served.Served.{Served}
use Rattle.lam_machine_effects.specs.Meaning.{DoesAs, IsAfter}

-- a turn of a thread gives this event and this world
pub record IsTurn (code : CodeTree) (t : ℕ) (w : World) (e : Event) (after : World) : Type 0 where
  pub made : Option Made
  pub is : step code w t ≡ Some (record { event = e; made = made; world = after })

-- the acting context of a thread, and those below it
pub record Acts (w : World) (t : ℕ) (th : Thread) (c : Context) (rest : List Context) : Type 0 where
  pub at : thread_at w t ≡ Some th
  pub list : th.contexts ≡ c ∷ rest

-- the threads that an effect adds
abbrev pub born : CodeTree → Effect → List Thread
born code (AddsThread unit args caps) = started code unit args caps ∷ []
born code e = []

-- the thread with another inside of its acting context
abbrev pub gone_on : Thread → Context → List Context → Inside → Thread
gone_on th c rest i = record { contexts = with_inside c i ∷ rest; result = th.result }

pub record TurnsHaveParts : Type 0 where
  -- a private turn changes its thread
  pub private : (code : CodeTree) (w : World) (t : ℕ) (th : Thread) (c : Context) (rest : List Context) (i : Inside) → Acts w t th c rest → next_of code c ≡ goes i → IsTurn code t w (record { label = c.label; thread = t; what = Private }) (with_thread w t (gone_on th c rest i))
  -- a turn that asks: the thread takes the service's answer, and the service's effect is applied to the stores and adds a thread
  pub asked : (code : CodeTree) (w : World) (t : ℕ) (th : Thread) (c : Context) (rest : List Context) (a : Ask) (i : Inside) (d : Served) (s : Stores) → Acts w t th c rest → next_of code c ≡ asks a i → is_ready w t c a ≡ true → DoesAs d (serve w c a) → IsAfter t d.effect (stores_of w) s → IsTurn code t w (record { label = c.label; thread = t; what = Asked a d.answer }) (world_of s (slice_set w.threads t (takes code th c rest i a d.answer) ++ born code d.effect))
