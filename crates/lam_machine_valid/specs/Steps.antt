-- What turns and runs keep of valid worlds, and which worlds a run may start from.
use Rattle.std.specs.Prelude.{◌≡◌, ℕ, ◌<◌, ◌≤◌, List, length, Some}
use Rattle.std.specs.List.{AllByRecursion}
use Rattle.std.specs.FinMap.{empty}
use Rattle.capabilities.specs.declared.Caps.{Caps}
use Rattle.lam_value.specs.declared.names.Name.{Name}
use Rattle.lam_value.specs.declared.values.Value.{Value}
use Rattle.labelled_heap.specs.Things.{no_things}
use Rattle.labelled_files.specs.Trees.{root_alone}
use Rattle.labelled_pipes.specs.Queues.{no_pipes}
use Rattle.lam_bytecode.specs.Codes.{CodeTree, IsCode}
use Rattle.thread_steps.specs.Threads.{Thread}
use Rattle.thread_steps.specs.Next.{started}
use Rattle.lam_machine_laws.specs.Limits.{most_tags, most_threads}
use Rattle.lam_machine_laws.specs.Worlds.{World, thread_at}
use Rattle.lam_machine_laws.specs.Turns.{Moment, step, moments, replay}
use Rattle.lam_machine_laws.specs.Valid.{AreKnown, AllLive, all_listings, AreSoundStores, StoresLive, IsValid}

abbrev pub StaysValid : CodeTree → Type 0
StaysValid code = IsCode code → (w : World) (t : ℕ) (m : Moment) → IsValid w → step code w t ≡ Some m → IsValid m.world

abbrev pub RunsStayValid : CodeTree → Type 0
RunsStayValid code =
    IsCode code → (w : World) (turns : List ℕ) → IsValid w → AllByRecursion (λ (m : Moment). IsValid m.world) (moments code turns w) × IsValid (replay code turns w)

-- a monitor is listed in one thread alone
abbrev pub MonitorsExclude : Type 0
MonitorsExclude =
    (w : World) → IsValid w → (t u : ℕ) (a b : Thread) → thread_at w t ≡ Some a → thread_at w u ≡ Some b →
    (n : Name) → 0 < all_listings n a.contexts → 0 < all_listings n b.contexts → t ≡ u

-- ---- starts

-- a thread at the entry of a unit, with arguments that live and known capabilities
pub record IsStart (code : CodeTree) (w : World) (th : Thread) : Type 0 where
  pub unit : ℕ
  pub args : List Value
  pub caps : Caps
  pub it : th ≡ started code unit args caps
  pub lives : AllLive w args
  pub known : AreKnown w caps

-- an empty directory alone, and nothing else but threads
abbrev pub bare : List (List ℕ) → Caps → ℕ → List Thread → World
bare names public n ths =
    record { names = names; public = public; next_tag = n; heap = no_things; monitors = empty; files = root_alone; pipes = no_pipes; threads = ths }

pub record StartsAreValid (code : CodeTree) : Type 0 where
  -- where the stores are sound, what stands in them lives, public capabilities are known, and each thread just starts
  pub all : (w : World) → AreSoundStores w → StoresLive w → AreKnown w w.public → w.next_tag ≤ most_tags → length w.threads ≤ most_threads → AllByRecursion (IsStart code w) w.threads → IsValid w
  -- and so where there is nothing but an empty directory
  pub nothing_else :
      (names : List (List ℕ)) (public : Caps) (n : ℕ) (ths : List Thread) → AreKnown (bare names public n ths) public → n ≤ most_tags → length ths ≤ most_threads →
      AllByRecursion (IsStart code (bare names public n ths)) ths → IsValid (bare names public n ths)
