-- What is typed stays so under a typing that knows more, and answers of the types wanted suit.
use Rattle.std.proofs.Common.{◌≡◌, ℕ, true, List, Some, refl, sym, ap, ◌∙◌, subst}
use Rattle.lam_value.specs.declared.values.Value.{Value}
use Rattle.lam_builtins.specs.Types.{int}
use Rattle.lam_asks.specs.declared.answer.Answer.{Answer}
use Rattle.lam_asks.specs.declared.answer.Answer.TheVariants.{Val}
use Rattle.lam_asks.specs.declared.answer.What.TheVariants.{Private, Asked}
use Rattle.lam_asks.specs.declared.ask.Ask.{Ask}
use Rattle.lam_asks.specs.declared.ask.Ask.TheVariants.{Read, Write, New, CopyTo, Spawn, Join, End}
use Rattle.lam_asks.specs.Suits.{want_of, fits}
use Rattle.lam_bytecode.specs.Codes.{CodeTree}
use Rattle.thread_steps.specs.Threads.{Context}
use Rattle.thread_steps.specs.Next.{Next, goes, asks, stuck, next_of}
use Rattle.lam_resolve_tree.specs.Tree.{ResolvedType, ResolvedTree}
use Rattle.lam_meaning.specs.Trees as trees
use Rattle.lam_meaning.specs.Trees.{Tree, ends, spent, broken}
use Rattle.lam_meaning.specs.Means.{sort_of}
use Rattle.lam_machine_valid.specs.Worlds.{World}
use Rattle.lam_machine_valid.specs.Turns.{is_ready, Moment, goes_on, served, turn_by, step}
use Rattle.lam_machine_valid.specs.Serving.{serve}
use Rattle.lam_machine_valid.proofs.ThreadLemmas.{some_inj}
use Rattle.lam_machine_valid.proofs.TurnLemmas.{acts, only}
use Rattle.lam_machine_valid.specs.Suiting.{Joined, with_value, forbidden, without_value, Suits}
use Rattle.lam_machine_valid.proofs.SuitLemmas.{all_suit}
use Rattle.lam_machine_means.specs.Typing.{Typing, Extends, Classes}
use Rattle.lam_machine_means.specs.Served.{IsSlot, IsAsk, given_type, IsAnswer}
use Rattle.lam_machine_means.proofs.HeapLemmas.{is_on, are_on}
use Rattle.lam_machine_means.specs.Asks.{IsStart, IsSpawn, AsksWell, AnyEnd}
use Rattle.lam_machine_means.proofs.Typings.{further}
use Rattle.lam_machine_means.proofs.Values.{kind_is}

module _ (G H : Typing) (more : Extends G H) where
  slot_on : (classes : Classes) (v : Value) (at : ℕ) (t : ResolvedType) → IsSlot classes G v at t → IsSlot classes H v at t
  slot_on classes v at t (n, x, leads, e, s) = (n, x, leads, more n x e, s)

  ask_on : (classes : Classes) (t : ResolvedType) (a : Ask) → IsAsk classes G t a → IsAsk classes H t a
  ask_on classes t (Read v at) h = slot_on classes v at t h
  ask_on classes t (Write v at x) (u, slot, is) = (u, slot_on classes v at u slot, is_on G H more u x is)
  ask_on classes t (New shape) h = h
  ask_on classes t (CopyTo v own) (n, leads, is) = (n, leads, is_on G H more t v is)
  ask_on classes t (End result) h = h
  ask_on classes t a h = tt

  pub start_on : (r : ResolvedTree) (f : ℕ) (vs : List Value) → IsStart r G f vs → IsStart r H f vs
  start_on r f vs (fn, found, result, are) = (fn, found, result, are_on G H more fn.params vs are)

  spawn_on : (r : ResolvedTree) (a : Ask) → IsSpawn r G a → IsSpawn r H a
  spawn_on r (Spawn f vs k) h = start_on r f vs h
  spawn_on r a h = tt

  pub well_on : (r : ResolvedTree) (t : Tree (Unit {0})) → AsksWell r AnyEnd G t → AsksWell r AnyEnd H t
  well_on r (ends e) h = tt
  well_on r spent h = tt
  well_on r broken h = absurd h
  well_on r (trees.asks q go) h =
      let it = h.0 in (
        record { wanted = it.wanted; typed = ask_on r.classes it.wanted q.ask it.typed; spawns = spawn_on r q.ask it.spawns; want = it.want },
        λ J x later s a. h.1 J x (further G H J more later) s a,
      )

-- ---- answers

joined_fits : (H : Typing) (t : ResolvedType) (u : ℕ) (x : Answer) → Joined x → IsAnswer H int x → fits (want_of (sort_of t) (Join u)) x ≡ true
joined_fits H t u _ (with_value v) i = kind_is H int v i
joined_fits H t u _ (forbidden d) i = refl
joined_fits H t u _ without_value i = refl

read_fits : (H : Typing) (t : ResolvedType) (v : Value) (at : ℕ) (x : Answer) → (w : Value) × (x ≡ Val w) → IsAnswer H t x → fits (want_of (sort_of t) (Read v at)) x ≡ true
read_fits H t v at x (w, e) i = subst (λ x. fits (want_of (sort_of t) (Read v at)) x ≡ true) (sym e) (kind_is H t w (subst (λ x. IsAnswer H t x) e i))

-- an answer of the type wanted suits where it suits whatever is wanted
pub fits_by : (H : Typing) (t : ResolvedType) (a : Ask) (x : Answer) → Suits a x → IsAnswer H (given_type t a) x → fits (want_of (sort_of t) a) x ≡ true
fits_by H t (Read v at) x h i = read_fits H t v at x h i
fits_by H t (Join u) x h i = joined_fits H t u x h i
fits_by H t a x h i = h (sort_of t)

same_asked : (a b : Ask) (x y : Answer) → Asked a x ≡ Asked b y → (a ≡ b) × (x ≡ y)
same_asked a b x y e = (cc, cc)

-- what a turn answers suits what it asked
pub turn_suits : (code : CodeTree) (w : World) (t : ℕ) (m : Moment) (a : Ask) (x : Answer) → step code w t ≡ Some m → m.event.what ≡ Asked a x → Suits a x
turn_suits code w t m a x h e =
    let k = acts code w t m h in
    by k.thread k.top k.rest (next_of code k.top) refl k.gives
  where
    by : (th : _) (c : Context) (rest : List Context) (nx : Next) → next_of code c ≡ nx → turn_by code w t th c rest nx ≡ Some m → Suits a x
    by th c rest (goes i) f g = absurd (let same = ap (λ (n : Moment). n.event.what) (some_inj (goes_on w t th c rest i) m g) in let z : Private ≡ Asked a x = same ∙ e in cc)
    by th c rest (asks b i) f g =
        let made = served code w t th c rest b i (serve w c b) in
        let same = ap (λ (n : Moment). n.event.what) (only (is_ready w t c b) made m g).1 in
        let z = same_asked b a (serve w c b).answer x (same ∙ e) in
        subst (λ b. Suits b x) z.0 (subst (λ y. Suits b y) z.1 (all_suit code c b i f w))
    by th c rest stuck f g = absurd cc
