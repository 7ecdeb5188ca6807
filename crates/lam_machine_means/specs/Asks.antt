-- Programs that ask typed asks alone, under what is known of the names of the heap, and whatever more comes to be known.
use Rattle.std.specs.Prelude.{◌≡◌, ℕ, true, List, Some, slice_get}
use Rattle.capabilities.specs.declared.Caps.{Caps}
use Rattle.lam_value.specs.declared.values.Value.{Value}
use Rattle.lam_builtins.specs.Types.{int}
use Rattle.lam_asks.specs.declared.answer.Answer.{Answer}
use Rattle.lam_asks.specs.declared.ask.Ask.{Ask}
use Rattle.lam_asks.specs.declared.ask.Ask.TheVariants.{Spawn}
use Rattle.lam_asks.specs.Suits.{want_of, fits}
use Rattle.lam_resolve_tree.specs.Tree.{ResolvedType, ResolvedFunction, ResolvedTree}
use Rattle.lam_resolve_tree.specs.Typing.{IsTypedTree}
use Rattle.lam_meaning.specs.Trees.{Asked, End, Tree, ends, spent, broken, asks}
use Rattle.lam_meaning.specs.Means.{sort_of, means}
use Rattle.lam_machine_means.specs.Typing.{Typing, Extends, Are}
use Rattle.lam_machine_means.specs.Served.{IsAsk, given_type, IsAnswer}

-- a thread starts at a function of the program whose result is a number, with arguments of its parameters' types
abbrev pub IsStart : ResolvedTree → Typing → ℕ → List Value → Type 0
IsStart r G f vs = (fn : ResolvedFunction) × (slice_get r.functions f ≡ Some fn) × (fn.result ≡ Some int) × Are G fn.params vs

abbrev pub IsSpawn : ResolvedTree → Typing → Ask → Type 0
IsSpawn r G (Spawn f vs k) = IsStart r G f vs
IsSpawn r G a = Unit {0}

-- an ask is typed, and what may be answered at its place is what may be where a value of the type is wanted
pub record IsTypedAsk (r : ResolvedTree) (G : Typing) (q : Asked) : Type 0 where
  pub wanted : ResolvedType
  pub typed : IsAsk r.classes G wanted q.ask
  pub spawns : IsSpawn r G q.ask
  pub want : q.want ≡ want_of (sort_of wanted) q.ask

-- All asks are typed, while each answer suits its ask and is of the type wanted by then; E holds of each end. A typing
-- may grow with each answer.
abbrev pub AsksWell : {A : Type 0} → ResolvedTree → (Typing → End A → Type 0) → Typing → Tree A → Type 0
AsksWell r E G (ends e) = E G e
AsksWell r E G spent = Unit {0}
AsksWell r E G broken = ⊥
AsksWell r E G (asks q go) =
    (it : IsTypedAsk r G q) × ((H : Typing) (x : Answer) → Extends G H → fits q.want x ≡ true → IsAnswer H (given_type it.wanted q.ask) x → AsksWell r E H (go x))

abbrev pub AnyEnd : Typing → End (Unit {0}) → Type 0
AnyEnd G e = Unit {0}

-- a thread of a typed program, with any capabilities and any number of units
abbrev pub AsksAreTyped : ResolvedTree → Type 0
AsksAreTyped r = IsTypedTree r → (n f : ℕ) (vs : List Value) (k : Caps) (G : Typing) → IsStart r G f vs → AsksWell r AnyEnd G (means r n f vs k)
