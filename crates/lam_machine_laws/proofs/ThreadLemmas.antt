-- What an answer does to the acting thread: its context stays behind with its label or is left, and a region's context
-- alone is new.
use Rattle.std.proofs.Common.{◌≡◌, ℕ, zero, suc, ◌+◌, Bool, true, false, List, [], ◌∷◌, ◌++◌, Option, Some, None, length, refl, sym, ap, ◌∙◌}
use Rattle.std.specs.Prelude.{cond, slice_get, slice_set, is_some, filter, ◌||◌}
use Rattle.std.specs.List.{AllByRecursion}
use Rattle.std.specs.Cmp.{Equal-is}
use Rattle.flow_labels.specs.declared.Label.{Label}
use Rattle.flow_labels.specs.Flow.{flows, public_label}
use Rattle.lam_machine_effects.specs.Caps.{Caps}
use Rattle.lam_value.specs.declared.names.Name.{Name}
use Rattle.lam_value.specs.Names.{name_cmp}
use Rattle.lam_value.specs.declared.values.Value.{Value}
use Rattle.lam_value.specs.declared.values.Value.TheVariants.{Obj, Arr, Tag, CapV}
use Rattle.lam_value.proofs.Keys.{name_exact}
use Rattle.lam_machine_effects.specs.Fault.{Fault}
use Rattle.lam_machine_effects.specs.Fault.TheVariants.{Denied}
use Rattle.lam_machine_effects.specs.Outcome.{Outcome}
use Rattle.lam_machine_effects.specs.Answer.{Answer}
use Rattle.lam_machine_effects.specs.Answer.TheVariants.{Done, Entered, Val, Refused, Failed}
use Rattle.lam_machine_effects.specs.Ask.{Ask}
use Rattle.lam_machine_effects.specs.Ask.TheVariants as ask
use Rattle.lam_machine_effects.specs.Codes.{CodeTree}
use Rattle.lam_machine_effects.specs.Equal.{same_names}
use Rattle.lam_machine_effects.specs.Threads.{Inside, Phase, Bottom, Body, Catch, Context, Thread}
use Rattle.lam_machine_effects.specs.Ops.{is_held, region_in}
use Rattle.lam_machine_effects.specs.Next.{entry, faulted, with_inside, with_held, given, without, held_by, catch_place, unit_number, catching, gains, done, entered, answered, result_after}
use Rattle.lam_machine_effects.specs.Serves.{Made, a_region}
use Rattle.lam_machine_effects.specs.Turns.{is_bottom, may_ask}
use Rattle.lam_machine_effects.specs.Views.{is_seen}
use Rattle.lam_machine_laws.specs.Isolation.{IsWellLabelled}
use Rattle.lam_machine_laws.proofs.FlowLemmas.{not_both}
use Rattle.lam_machine_laws.proofs.AlikeLemmas.{SameStacks, SameResults, AlikeThreads}

-- ---- one thread of many

module _ (P : Option Thread → Option Thread → Type 0) where
  pub both_set : (t : ℕ) (xs ys : List Thread) (a b : Thread) → ((j : ℕ) → P (slice_get xs j) (slice_get ys j)) → is_some (slice_get xs t) ≡ true → is_some (slice_get ys t) ≡ true → P (Some a) (Some b) → (j : ℕ) → P (slice_get (slice_set xs t a) j) (slice_get (slice_set ys t b) j)
  both_set t [] ys a b all e f here j = absurd cc
  both_set t (x ∷ xs) [] a b all e f here j = absurd cc
  both_set zero (x ∷ xs) (y ∷ ys) a b all e f here zero = here
  both_set zero (x ∷ xs) (y ∷ ys) a b all e f here (suc j) = all (suc j)
  both_set (suc t) (x ∷ xs) (y ∷ ys) a b all e f here zero = all zero
  both_set (suc t) (x ∷ xs) (y ∷ ys) a b all e f here (suc j) = both_set t xs ys a b (λ k. all (suc k)) e f here j

pub length-set : (t : ℕ) (xs : List Thread) (a : Thread) → length (slice_set xs t a) ≡ length xs
length-set t [] a = refl
length-set zero (x ∷ xs) a = refl
length-set (suc t) (x ∷ xs) a = ap suc (length-set t xs a)

pub some_inj : {X : Type 0} (a b : X) → Some a ≡ Some b → a ≡ b
some_inj a b e = cc

pub set_same : (t : ℕ) (xs : List Thread) (a : Thread) → slice_get xs t ≡ Some a → slice_set xs t a ≡ xs
set_same t [] a e = refl
set_same zero (x ∷ xs) a e = ap (λ y. y ∷ xs) (sym (some_inj x a e))
set_same (suc t) (x ∷ xs) a e = ap (λ ys. x ∷ ys) (set_same t xs a e)

pub there : {X : Type 0} (x : Option X) (a : X) → x ≡ Some a → is_some x ≡ true
there x a e = ap is_some e

pub threads_set : (o : Label) (t : ℕ) (xs ys : List Thread) (th th' a b : Thread) → AlikeThreads o xs ys → slice_get xs t ≡ Some th → slice_get ys t ≡ Some th' → filter (is_seen o) a.contexts ≡ filter (is_seen o) b.contexts → (flows public_label o ≡ true → a.result ≡ b.result) → AlikeThreads o (slice_set xs t a) (slice_set ys t b)
threads_set o t xs ys th th' a b all e f stacks results =
    record {
      contexts = both_set (SameStacks o) t xs ys a b all.contexts (there _ th e) (there _ th' f) stacks;
      count = λ s. length-set t xs a ∙ all.count s ∙ sym (length-set t ys b);
      results = λ s. both_set SameResults t xs ys a b (all.results s) (there _ th e) (there _ th' f) (results s);
    }

pub filter-append : {X : Type 0} (p : X → Bool) (xs ys : List X) → filter p (xs ++ ys) ≡ filter p xs ++ filter p ys
filter-append p [] ys = refl
filter-append {X} p (x ∷ xs) ys = go (p x) (filter-append p xs ys)
  where
    go : (b : Bool) → filter p (xs ++ ys) ≡ filter p xs ++ filter p ys → cond b (x ∷ filter p (xs ++ ys)) (filter p (xs ++ ys)) ≡ cond b (x ∷ filter p xs) (filter p xs) ++ filter p ys
    go true e = ap (λ (l : List X). x ∷ l) e
    go false e = e

-- ---- contexts

-- it has the other's label, and is well labelled
pub record IsHeir (c d : Context) : Type 0 where
  pub label : d.label ≡ c.label
  pub safe : IsWellLabelled d

pub heir_inside : (c : Context) (i : Inside) → IsWellLabelled c → IsHeir c (with_inside c i)
heir_inside c i s = record { label = refl; safe = record { bottom = s.bottom; held = s.held } }

heir_held : (c : Context) (i : Inside) (ns : List Name) → IsWellLabelled c → AllByRecursion (λ (n : Name). n.own ≡ c.label) ns → IsHeir c (with_held (with_inside c i) ns)
heir_held c i ns s h = record { label = refl; safe = record { bottom = s.bottom; held = h } }

heir_catching : (c : Context) (f : Fault) → IsHeir c (catching c f)
heir_catching c f = record { label = refl; safe = record { bottom = λ e. cc; held = tt } }

heir_gains : (a : Ask) (v : Value) (c d : Context) → IsHeir c d → IsHeir c (gains a v d)
heir_gains ask.Mint (Tag t) c d h = record { label = h.label; safe = record { bottom = h.safe.bottom; held = h.safe.held } }
heir_gains (ask.ReceiveCaps p) (CapV plus minus) c d h = record { label = h.label; safe = record { bottom = h.safe.bottom; held = h.safe.held } }
heir_gains a v c d h = h

-- ---- monitors that are taken and given back

abbrev pub IsOwn : Label → Value → Type 0
IsOwn l (Obj n) = n.own ≡ l
IsOwn l (Arr n len) = n.own ≡ l
IsOwn l v = Unit {0}

more_own : (l : Label) (r : Value) (ns : List Name) → IsOwn l r → AllByRecursion (λ (n : Name). n.own ≡ l) ns → AllByRecursion (λ (n : Name). n.own ≡ l) (held_by r (λ n. n ∷ ns) ns)
more_own l (Obj n) ns e h = (e, h)
more_own l (Arr n len) ns e h = (e, h)
more_own l v ns e h = h

without_own : (l : Label) (n : Name) (ns : List Name) → AllByRecursion (λ (n : Name). n.own ≡ l) ns → AllByRecursion (λ (n : Name). n.own ≡ l) (without n ns)
without_own l n [] h = tt
without_own l n (m ∷ ns) h = go (same_names n m) (without_own l n ns h.1)
  where
    go : (b : Bool) → AllByRecursion (λ (n : Name). n.own ≡ l) (without n ns) → AllByRecursion (λ (n : Name). n.own ≡ l) (cond b ns (m ∷ without n ns))
    go true more = h.1
    go false more = (h.0, more)

fewer_own : (l : Label) (r : Value) (ns : List Name) → AllByRecursion (λ (n : Name). n.own ≡ l) ns → AllByRecursion (λ (n : Name). n.own ≡ l) (held_by r (λ n. without n ns) ns)
fewer_own l (Obj n) ns h = without_own l n ns h
fewer_own l (Arr n len) ns h = without_own l n ns h
fewer_own l v ns h = h

either : (a b : Bool) {X : Type 0} → (a || b) ≡ true → (a ≡ true → X) → (b ≡ true → X) → X
either true b e f g = f refl
either false b e f g = g e

pub listed_own : (l : Label) (n : Name) (ns : List Name) → AllByRecursion (λ (m : Name). m.own ≡ l) ns → is_held n ns ≡ true → n.own ≡ l
listed_own l n [] h e = absurd cc
listed_own l n (m ∷ ns) h e =
    either (same_names n m) (is_held n ns) e
    (λ t. ap (λ (k : Name). k.own) (name_exact n m ((Equal-is (name_cmp n m)).0 t)) ∙ h.0)
    (λ t. listed_own l n ns h.1 t)

pub bottom_is : (ph : Phase) → is_bottom ph ≡ true → ph ≡ Bottom
bottom_is Bottom e = refl
bottom_is (Body at) e = absurd cc
bottom_is Catch e = absurd cc

-- ---- what stands in front of the contexts below

abbrev pub front : CodeTree → Context → Inside → Ask → Answer → List Context
front code c after a x = answered code c [] after a x

done_front : (code : CodeTree) (c : Context) (rest : List Context) (after : Inside) (a : Ask) → done code c rest after a ≡ done code c [] after a ++ rest
done_front code c rest after ask.Leave = refl
done_front code c rest after a = refl

entered_front : (code : CodeTree) (c : Context) (rest : List Context) (after : Inside) (a : Ask) → entered code c rest after a ≡ entered code c [] after a ++ rest
entered_front code c rest after (ask.Enter l k r vs) = refl
entered_front code c rest after a = refl

pub answered_front : (code : CodeTree) (c : Context) (rest : List Context) (after : Inside) (a : Ask) (x : Answer) → answered code c rest after a x ≡ front code c after a x ++ rest
answered_front code c rest after a Done = done_front code c rest after a
answered_front code c rest after a Entered = entered_front code c rest after a
answered_front code c rest after a (Val v) = refl
answered_front code c rest after a (Refused d) = refl
answered_front code c rest after a (Failed f) = refl

-- a monitor that is taken has the acting label
abbrev pub OwnDone : Label → Ask → Type 0
OwnDone l (ask.MonEnter r) = IsOwn l r
OwnDone l a = Unit {0}

abbrev pub KeepsOwn : Label → Ask → Answer → Type 0
KeepsOwn l a Done = OwnDone l a
KeepsOwn l a x = Unit {0}

-- a region is made where it is entered, and only there
abbrev pub NoRegion : Option Made → Type 0
NoRegion (Some (a_region l k d r xs)) = ⊥
NoRegion m = Unit {0}

abbrev pub FitsEntry : Context → Ask → Option Made → Type 0
FitsEntry c (ask.Enter l k r vs) m = m ≡ Some (a_region l k (c.depth + 1) r vs)
FitsEntry c a m = ⊥

abbrev pub Fits : Context → Ask → Answer → Option Made → Type 0
Fits c a Entered m = FitsEntry c a m
Fits c a x m = NoRegion m

done_heirs : (code : CodeTree) (c : Context) (after : Inside) (a : Ask) → IsWellLabelled c → OwnDone c.label a → AllByRecursion (IsHeir c) (done code c [] after a)
done_heirs code c after ask.Leave s own = tt
done_heirs code c after (ask.Barred d) s own = (heir_inside c _ s, tt)
done_heirs code c after (ask.Caught f) s own = (heir_catching c f, tt)
done_heirs code c after (ask.Suppressed f) s own = tt
done_heirs code c after (ask.End r) s own = tt
done_heirs code c after (ask.MonEnter r) s own = (heir_held c after _ s (more_own c.label r c.held own s.held), tt)
done_heirs code c after (ask.MonLeave r) s own = (heir_held c after _ s (fewer_own c.label r c.held s.held), tt)
done_heirs code c after a s own = (heir_inside c after s, tt)

-- the context of a region, by its content
abbrev pub region_of : CodeTree → Label → Caps → ℕ → ℕ → List Value → Context
region_of code l k d r vs =
    record {
      label = l;
      caps = k;
      depth = d;
      phase = Body (catch_place (region_in r code.units));
      held = [];
      inside = record { frame = entry code (unit_number (region_in r code.units)) vs; callers = []; fault = None };
    }

abbrev pub new_contexts : CodeTree → Option Made → List Context
new_contexts code (Some (a_region l k d r xs)) = region_of code l k d r xs ∷ []
new_contexts code m = []

no_contexts : (code : CodeTree) (m : Option Made) → NoRegion m → [] ≡ new_contexts code m
no_contexts code (Some (a_region l k d r xs)) h = absurd h
no_contexts code m h = refl

none_seen : (o : Label) (c : Context) (ds : List Context) → flows c.label o ≡ false → AllByRecursion (IsHeir c) ds → filter (is_seen o) ds ≡ []
none_seen o c [] hid h = refl
none_seen o c (d ∷ ds) hid h =
    ap (λ b. cond b (d ∷ filter (is_seen o) ds) (filter (is_seen o) ds)) (ap (λ l. flows l o) (h.0).label ∙ hid) ∙ none_seen o c ds hid h.1

region_front : (o : Label) (new c : Context) → flows c.label o ≡ false → filter (is_seen o) (new ∷ c ∷ []) ≡ filter (is_seen o) (new ∷ [])
region_front o new c hid = ap (λ l. cond (is_seen o new) (new ∷ l) l) (ap (λ b. cond b (c ∷ []) []) hid)

entered_hidden : (o : Label) (code : CodeTree) (c : Context) (after : Inside) (a : Ask) (m : Option Made) → flows c.label o ≡ false → FitsEntry c a m → filter (is_seen o) (entered code c [] after a) ≡ filter (is_seen o) (new_contexts code m)
entered_hidden o code c after (ask.Enter l k r vs) m hid h =
    region_front o (region_of code l k (c.depth + 1) r vs) (with_inside c after) hid ∙ ap (λ x. filter (is_seen o) (new_contexts code x)) (sym h)
entered_hidden o code c after a m hid h = absurd h

heirs_hidden : (o : Label) (code : CodeTree) (c : Context) (ds : List Context) (m : Option Made) → flows c.label o ≡ false → NoRegion m → AllByRecursion (IsHeir c) ds → filter (is_seen o) ds ≡ filter (is_seen o) (new_contexts code m)
heirs_hidden o code c ds m hid none h = none_seen o c ds hid h ∙ ap (filter (is_seen o)) (no_contexts code m none)

-- in front of the contexts below, an unseen actor leaves what it makes, and nothing that is seen beside it
pub front_hidden : (o : Label) (code : CodeTree) (c : Context) (after : Inside) (a : Ask) (x : Answer) (m : Option Made) → flows c.label o ≡ false → IsWellLabelled c → KeepsOwn c.label a x → Fits c a x m → filter (is_seen o) (front code c after a x) ≡ filter (is_seen o) (new_contexts code m)
front_hidden o code c after a Done m hid s own fits = heirs_hidden o code c _ m hid fits (done_heirs code c after a s own)
front_hidden o code c after a Entered m hid s own fits = entered_hidden o code c after a m hid fits
front_hidden o code c after a (Val v) m hid s own fits = heirs_hidden o code c (gains a v (given c after v) ∷ []) m hid fits (heir_gains a v c (given c after v) (heir_inside c _ s), tt)
front_hidden o code c after a (Refused d) m hid s own fits = heirs_hidden o code c (with_inside c (faulted c.inside Denied) ∷ []) m hid fits (heir_inside c _ s, tt)
front_hidden o code c after a (Failed f) m hid s own fits = heirs_hidden o code c (with_inside c (faulted c.inside f) ∷ []) m hid fits (heir_inside c _ s, tt)

-- ---- contexts stay safe

abbrev pub AllSafe : List Context → Type 0
AllSafe cs = AllByRecursion IsWellLabelled cs

pub safe_append : (cs ds : List Context) → AllSafe cs → AllSafe ds → AllSafe (cs ++ ds)
safe_append [] ds h k = k
safe_append (c ∷ cs) ds h k = (h.0, safe_append cs ds h.1 k)

heirs_safe : (c : Context) (ds : List Context) → AllByRecursion (IsHeir c) ds → AllSafe ds
heirs_safe c [] h = tt
heirs_safe c (d ∷ ds) h = ((h.0).safe, heirs_safe c ds h.1)

entered_safe : (code : CodeTree) (c : Context) (after : Inside) (a : Ask) → IsWellLabelled c → AllSafe (entered code c [] after a)
entered_safe code c after (ask.Enter l k r vs) s = (record { bottom = λ e. cc; held = tt }, ((heir_inside c after s).safe, tt))
entered_safe code c after a s = ((heir_inside c after s).safe, tt)

pub front_safe : (code : CodeTree) (c : Context) (after : Inside) (a : Ask) (x : Answer) → IsWellLabelled c → KeepsOwn c.label a x → AllSafe (front code c after a x)
front_safe code c after a Done s own = heirs_safe c _ (done_heirs code c after a s own)
front_safe code c after a Entered s own = entered_safe code c after a s
front_safe code c after a (Val v) s own = ((heir_gains a v c (given c after v) (heir_inside c _ s)).safe, tt)
front_safe code c after a (Refused d) s own = ((heir_inside c _ s).safe, tt)
front_safe code c after a (Failed f) s own = ((heir_inside c _ s).safe, tt)

-- ---- results

-- where the acting context is unseen and results are seen, they stay
pub result_kept : (o : Label) (c : Context) (a : Ask) (r : Option Outcome) → IsWellLabelled c → may_ask c a ≡ true → flows c.label o ≡ false → flows public_label o ≡ true → result_after r a ≡ r
result_kept o c (ask.End out) r s may hid seen = not_both (flows public_label o) (ap (λ l. flows l o) (sym (s.bottom (bottom_is c.phase may))) ∙ hid) seen
result_kept o c a r s may hid seen = refl
