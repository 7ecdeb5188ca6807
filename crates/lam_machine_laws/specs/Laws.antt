-- What every turn keeps, for every code and every world.
use Rattle.std.specs.Prelude.{◌≡◌, ◌⊎◌, ℕ, true, List, [], ◌∷◌, ◌++◌, map, Some, None, is_some}
use Rattle.std.specs.List.{AllByRecursion}
use Rattle.flow_labels.specs.declared.Denied.{Denied}
use Rattle.lam_machine_effects.specs.Caps.{Caps}
use Rattle.lam_machine_effects.specs.Changes.{MayChange, Covers, used, with_both, joined}
use Rattle.lam_value.specs.declared.values.Value.{Value}
use Rattle.lam_value.specs.declared.values.Value.TheVariants.{Tag, CapV}
use Rattle.lam_machine_effects.specs.Fault.{Fault}
use Rattle.lam_machine_effects.specs.Fault.TheVariants as fault
use Rattle.lam_machine_effects.specs.Outcome.TheVariants as outcome
use Rattle.lam_machine_effects.specs.Answer.{Answer}
use Rattle.lam_machine_effects.specs.Answer.TheVariants.{Done, Entered, Val, Refused, Failed}
use Rattle.lam_machine_effects.specs.What.{What}
use Rattle.lam_machine_effects.specs.What.TheVariants.{Private, Asked}
use Rattle.lam_machine_effects.specs.Ask.{Ask}
use Rattle.lam_machine_effects.specs.Ask.TheVariants as ask
use Rattle.lam_machine_effects.specs.Codes.{CodeTree}
use Rattle.lam_machine_effects.specs.Threads.{Phase, Bottom, Body, Catch, Context}
use Rattle.lam_machine_effects.specs.Next.{asks, next_of}
use Rattle.lam_machine_effects.specs.Worlds.{World, thread_at, contexts_at}
use Rattle.lam_machine_effects.specs.Serves.{Made, made_label}
use Rattle.lam_machine_effects.specs.Turns.{Moment, step, moments}
use Rattle.lam_machine_effects.specs.Views.{is_release, release_of}
use Rattle.lam_machine_laws.specs.Own.{done_by}

-- the acting context of a thread
abbrev pub IsActing : World → ℕ → Context → List Context → Type 0
IsActing w t c rest = contexts_at w t ≡ c ∷ rest

-- ---- contexts come back

-- a thread has these contexts below some more
abbrev pub StandsAbove : World → ℕ → List Context → Type 0
StandsAbove w u below = (c : Context) × (cs : List Context) × (contexts_at w u ≡ c ∷ (cs ++ below))

-- after each turn it has them still below some more, until it has them alone
abbrev pub ComesBack : ℕ → List Context → List Moment → Type 0
ComesBack u below [] = Unit {0}
ComesBack u below (m ∷ ms) = (contexts_at m.world u ≡ below) ⊎ (StandsAbove m.world u below × ComesBack u below ms)

abbrev pub ContextsComeBack : CodeTree → Type 0
ContextsComeBack code =
    (turns : List ℕ) (w : World) (u : ℕ) (below : List Context) → StandsAbove w u below → ComesBack u below (moments code turns w)

-- ---- faults

abbrev pub handling : Phase → Fault → Ask
handling Bottom f = ask.End (outcome.Failed f)
handling (Body catch_at) f = ask.Caught f
handling Catch f = ask.Suppressed f

-- nothing was done, or this first
abbrev pub BeginWith : What → List What → Type 0
BeginWith first [] = Unit {0}
BeginWith first (what ∷ more) = what ≡ first

-- in each run from a world, a thread first has the fault handled, and that is done
abbrev pub IsHandledFirst : CodeTree → World → ℕ → Phase → Fault → Type 0
IsHandledFirst code w t phase f = (turns : List ℕ) → BeginWith (Asked (handling phase f) Done) (done_by t (moments code turns w))

pub record FaultsAreHandled (code : CodeTree) : Type 0 where
  -- the fault of a context is what it turns to next
  pub next : (c : Context) (f : Fault) → c.inside.fault ≡ Some f → next_of code c ≡ asks (handling c.phase f) c.inside
  -- and that of an acting context is the first that its thread has handled
  pub first :
      (w : World) (t : ℕ) (c : Context) (rest : List Context) (f : Fault) → IsActing w t c rest → c.inside.fault ≡ Some f →
      IsHandledFirst code w t c.phase f
  -- so is Denied after a refusal
  pub refused :
      (w : World) (t : ℕ) (m : Moment) (a : Ask) (x : Denied) (c : Context) (rest : List Context) →
      step code w t ≡ Some m → m.event.what ≡ Asked a (Refused x) → IsActing w t c rest → IsHandledFirst code m.world t c.phase fault.Denied
  -- and its fault after a failure
  pub failed :
      (w : World) (t : ℕ) (m : Moment) (a : Ask) (f : Fault) (c : Context) (rest : List Context) →
      step code w t ≡ Some m → m.event.what ≡ Asked a (Failed f) → IsActing w t c rest → IsHandledFirst code m.world t c.phase f

-- ---- releases

-- what is made, and that the acting context, with the public capabilities beside its own, may change its label to what is
-- made
pub record IsAllowed (public : Caps) (c : Context) (m : Moment) : Type 0 where
  pub made : Made
  pub it : m.made ≡ Some made
  pub may : MayChange (joined c.caps public) c.label (made_label made)
  pub by : (release_of m).by ≡ Some (used c.label (made_label made))
  pub held : Covers (joined c.caps public) (used c.label (made_label made))

abbrev pub ReleasesAreAllowed : CodeTree → Type 0
ReleasesAreAllowed code =
    (w : World) (t : ℕ) (m : Moment) → step code w t ≡ Some m → is_release m ≡ true →
    (c : Context) × (rest : List Context) × IsActing w t c rest × IsAllowed w.public c m

-- ---- capabilities

-- those of a context after a value: with a minted tag both of its own, and with received ones these
abbrev pub granted : Ask → Value → Caps → Caps
granted ask.Mint (Tag t) k = with_both k t
granted (ask.ReceiveCaps p) (CapV plus minus) k = joined k (record { plus = plus; minus = minus })
granted a v k = k

-- a region's context goes when it is left, as does one whose second fault is told, and that of a thread that ends
abbrev pub left_after : Caps → Ask → List Caps
left_after k ask.Leave = []
left_after k (ask.Suppressed f) = []
left_after k (ask.End outcome) = []
left_after k a = k ∷ []

-- a region that is entered has the capabilities that were asked for. Each is held by the context below, or is public; that
-- context keeps its own
abbrev pub AreEntered : Caps → Caps → Ask → List Caps → Type 0
AreEntered public k (ask.Enter label caps region args) ks = (ks ≡ caps ∷ k ∷ []) × Covers (joined k public) caps
AreEntered public k a ks = ks ≡ k ∷ []

abbrev pub AreAfter : Caps → Caps → Ask → Answer → List Caps → Type 0
AreAfter public k a Done ks = ks ≡ left_after k a
AreAfter public k a Entered ks = AreEntered public k a ks
AreAfter public k a (Val v) ks = ks ≡ granted a v k ∷ []
AreAfter public k a (Refused denied) ks = ks ≡ k ∷ []
AreAfter public k a (Failed f) ks = ks ≡ k ∷ []

-- the capabilities of the contexts that stand in place of the acting one after a turn, the new acting one's first
abbrev pub AreHeld : Caps → Caps → What → List Caps → Type 0
AreHeld public k Private ks = ks ≡ k ∷ []
AreHeld public k (Asked a x) ks = AreAfter public k a x ks

pub record KeepsCaps (w : World) (t : ℕ) (m : Moment) : Type 0 where
  pub top : Context
  pub rest : List Context
  pub acting : IsActing w t top rest
  -- in the acting thread the contexts below stay as they are
  pub new : List Context
  pub after : contexts_at m.world t ≡ new ++ rest
  pub caps : AreHeld w.public top.caps m.event.what (map (λ (d : Context). d.caps) new)
  -- other threads stay as they are
  pub others : (j : ℕ) → (j ≡ t → ⊥) → is_some (thread_at w j) ≡ true → contexts_at m.world j ≡ contexts_at w j
  -- a new thread has what the acting context holds or is public
  pub started : (j : ℕ) → thread_at w j ≡ None → AllByRecursion (λ (d : Context). Covers (joined top.caps w.public) d.caps) (contexts_at m.world j)

abbrev pub CapsDoNotGrow : CodeTree → Type 0
CapsDoNotGrow code = (w : World) (t : ℕ) (m : Moment) → step code w t ≡ Some m → KeepsCaps w t m

-- no turn changes what is public
abbrev pub PublicStay : CodeTree → Type 0
PublicStay code = (w : World) (t : ℕ) (m : Moment) → step code w t ≡ Some m → m.world.public ≡ w.public
