-- Values of types under a typing are what the proof that typed programs never go wrong takes, with the asks that are typed.
use Rattle.std.proofs.Common.{◌≡◌, ◌<◌, ℕ, zero, suc, true, List, [], ◌∷◌, Option, Some, None, refl, sym, subst, map, arith}
use Rattle.std.specs.Prelude.{slice_get, replicate}
use Rattle.lam_value.specs.declared.names.Name.{Name}
use Rattle.lam_value.specs.declared.values.Value.{Value}
use Rattle.lam_value.specs.declared.values.Value.TheVariants.{Obj, Arr}
use Rattle.lam_value.specs.Shapes.{zero_of}
use Rattle.lam_builtins.specs.Types.{int, object, array}
use Rattle.lam_asks.specs.declared.ask.Ask.{Ask}
use Rattle.lam_asks.specs.declared.ask.Ask.TheVariants.{Read, Write, New, CopyTo, Spawn, End as EndOf}
use Rattle.lam_asks.specs.Suits.{want_of, fits}
use Rattle.lam_resolve_tree.specs.Tree.{ResolvedType, ResolvedTree}
use Rattle.lam_meaning.specs.Trees.{End, Tree, ends, spent, broken, asks}
use Rattle.lam_meaning.specs.Means.{sort_of, kind_of, class_fields}
use Rattle.lam_meaning_typed.proofs.Sorts.{AreBy, is_simple, gives_wanted, Sorts, IsWell}
use Rattle.lam_machine_means.specs.Typing.{an_object, an_array, Typing, Extends, Classes, fields_in, Is, Are}
use Rattle.lam_machine_means.specs.Served.{IsSlot, IsAsk, given_type, IsAnswer}
use Rattle.lam_machine_means.specs.Asks.{IsSpawn, AsksWell}
use Rattle.lam_machine_means.proofs.Typings.{same_typing, further}
use Rattle.lam_machine_means.proofs.HeapLemmas.{is_on}
use Rattle.lam_machine_means.proofs.Values.{kind_is, plain_is}

pub are_by : (G : Typing) (ts : List ResolvedType) (vs : List Value) → Are G ts vs → AreBy (λ t v. Is G t v) ts vs
are_by G [] [] h = tt
are_by G (t ∷ ts) (v ∷ vs) h = (h.0, are_by G ts vs h.1)
are_by G ts vs h = absurd h

pub by_are : (G : Typing) (ts : List ResolvedType) (vs : List Value) → AreBy (λ t v. Is G t v) ts vs → Are G ts vs
by_are G [] [] h = tt
by_are G (t ∷ ts) (v ∷ vs) h = (h.0, by_are G ts vs h.1)
by_are G ts vs h = absurd h

-- ---- slots

same_class : (c d : ℕ) → ◌≡◌ {A = ResolvedType} (object c) (object d) → d ≡ c
same_class c d e = cc

same_element : (t u : ResolvedType) → ◌≡◌ {A = ResolvedType} (array t) (array u) → u ≡ t
same_element t u e = cc

pub field_slot : (classes : Classes) (G : Typing) (c f : ℕ) (t : ResolvedType) (x : Name) (fields : List ResolvedType) → slice_get classes c ≡ Some fields → slice_get fields f ≡ Some t → Is G (object c) (Obj x) → IsSlot classes G (Obj x) f t
field_slot classes G c f t x fields a b h =
    (x, an_object c, refl, subst (λ d. G x ≡ Some (an_object d)) (same_class c h.0 h.2) h.1, subst (λ o. slice_get (fields_in o) f ≡ Some t) (sym a) b)

get_same : (t : ResolvedType) (len i : ℕ) → i < len → slice_get (replicate len t) i ≡ Some t
get_same t zero i h = absurd (omega (arith, h))
get_same t (suc len) zero h = refl
get_same t (suc len) (suc i) h = get_same t len i (omega (arith, h))

pub element_slot : (classes : Classes) (G : Typing) (t : ResolvedType) (x : Name) (len i : ℕ) → i < len → Is G (array t) (Arr x len) → IsSlot classes G (Arr x len) i t
element_slot classes G t x len i lt h = (x, an_array t len, refl, subst (λ u. G x ≡ Some (an_array u len)) (same_element t h.0 h.2) h.1, get_same t len i lt)

pub fields_same : (o : Option (List ResolvedType)) → class_fields o ≡ map (λ u. zero_of (kind_of u)) (fields_in o)
fields_same None = refl
fields_same (Some ts) = refl

-- ---- asks

pub simple_typed : (classes : Classes) (G : Typing) (t : ResolvedType) (a : Ask) → is_simple a ≡ true → IsAsk classes G t a
simple_typed classes G t (Read r at) e = absurd cc
simple_typed classes G t (Write r at v) e = absurd cc
simple_typed classes G t (New shape) e = absurd cc
simple_typed classes G t (CopyTo r own) e = absurd cc
simple_typed classes G t (Spawn f vs k) e = absurd cc
simple_typed classes G t (EndOf result) e = absurd cc
simple_typed classes G t a e = tt

pub simple_spawns : (r : ResolvedTree) (G : Typing) (a : Ask) → is_simple a ≡ true → IsSpawn r G a
simple_spawns r G (Spawn f vs k) e = absurd cc
simple_spawns r G a e = tt

pub wanted_given : (H : Typing) (t : ResolvedType) (a : Ask) (v : Value) → gives_wanted a ≡ true → Is H (given_type t a) v → Is H t v
wanted_given H t (Read r at) v e h = h
wanted_given H t (New shape) v e h = h
wanted_given H t (CopyTo r own) v e h = h
wanted_given H t a v e h = absurd cc

-- what is known is a typing; an ask is typed, and answered by values of the types wanted
abbrev pub by_typing : (r : ResolvedTree) → Sorts r
by_typing r =
    record {
      Known = Typing;
      Grows = λ G H. Extends G H;
      stays = λ G. same_typing G;
      further = λ G H J a b. further G H J a b;
      Is = λ G t v. Is G t v;
      is_on = λ G H more t v h. is_on G H more t v h;
      kind = λ G t v h. kind_is G t v h;
      plain = λ G t v o h. plain_is G t v o h;
      null_of = λ G t e. e;
      IsAsk = λ G t q. IsAsk r.classes G t q.ask × IsSpawn r G q.ask × (q.want ≡ want_of (sort_of t) q.ask);
      simple = λ G s a e same. (simple_typed r.classes G int a e, simple_spawns r G a e, same (sort_of int));
      reads_field = λ G c f t x fields a b h. (field_slot r.classes G c f t x fields a b h, tt, refl);
      reads_element = λ G t x len i l h. (element_slot r.classes G t x len i l h, tt, refl);
      writes_field = λ G c f t x v fields a b h k. ((t, field_slot r.classes G c f t x fields a b h, k), tt, refl);
      writes_element = λ G t x len i v l h k. ((t, element_slot r.classes G t x len i l h, k), tt, refl);
      makes_object = λ G c. ((refl, fields_same (slice_get r.classes c)), tt, refl);
      makes_elements = λ G t len. ((t, refl, refl), tt, refl);
      copies_object = λ G s c x l h. ((x, refl, h), tt, refl);
      copies_array = λ G s t x len l h. ((x, refl, h), tt, refl);
      spawns = λ G f fn vs k e res are. (tt, (fn, e, res, by_are G fn.params vs are), refl);
      IsAnswer = λ H t q x. (fits q.want x ≡ true) × IsAnswer H (given_type t q.ask) x;
      suits = λ H t q x h. h.0;
      given = λ H t q v e gives h. wanted_given H t q.ask v e h.1;
    }

-- trees that are well by these ask typed asks
pub asks_well : {A : Type 0} (r : ResolvedTree) (E : Typing → End A → Type 0) (G : Typing) (t : Tree A) → IsWell (by_typing r) E G t → AsksWell r E G t
asks_well r E G (ends e) h = h
asks_well r E G spent h = tt
asks_well r E G broken h = h
asks_well r E G (asks q k) h = (record { wanted = h.0; typed = h.1.0; spawns = h.1.1; want = h.1.2 }, λ H x more s a. asks_well r E H (k x) (h.2 H x more (s, a)))
